use Rattle.std.proofs.Common.{◌≡◌, ◌+◌, ◌-◌, ◌++◌, ℕ, List, replicate, take, drop, length, ap, ◌∙◌, arith}
use Rattle.std.proofs.lemmas.List.{length-take, length-drop, drop-drop}
use Rattle.eb_flat.proofs.words.set_to_zero.Goals as goal

pub returns : goal.returns
returns c =
    let ws = c.args.words.now in
    let from = c.args.from in
    let number = c.args.number in
    let k : from + number - from ≡ number = omega arith in
    let long : length (take (from + number - from) (drop from ws)) ≡ number = omega (arith, length-take (from + number - from) (drop from ws), length-drop from ws, c.requires) in
    let zeros : c.fill.new.self ≡ replicate number 0 = c.fill.ensures.after (λ y h. h) ∙ ap (λ n. replicate n 0) long in
    let seam : from + (from + number - from) ≡ from + number = omega arith in
    ap (λ (z : List ℕ). take from ws ++ (z ++ drop (from + number - from) (drop from ws))) zeros
    ∙ ap (λ (z : List ℕ). take from ws ++ (replicate number 0 ++ z)) (drop-drop (from + number - from) from ws ∙ ap (λ n. drop n ws) seam)
