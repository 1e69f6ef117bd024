use Rattle.std.proofs.Common.{◌≡◌, ℕ, List, None, Some, bytes_eq, sym, ap, ◌∙◌, subst}
use Rattle.std.specs.HashMap.{UpdatesBy}
use Rattle.eb_watch.specs.Message.{number_of}
use Rattle.eb_watch.proofs.Numbered.{number_new}
use Rattle.eb_watch.proofs.message.put_number.Goals as goal

pub returns : goal.returns
returns c =
    let m = c.args.by_text.now in let n = c.insert.new.self in let term = c.args.term.now in let at = c.args.at in
    let none : number_of m term ≡ None = ap (number_of m) (sym c.bytes.ensures) ∙ sym c.in_default.ensures.value in
    number_new m n term at none
    (subst (λ (l : List ℕ). UpdatesBy (λ x y. bytes_eq x.items y.items) (λ k. bytes_eq l k.items) m n (Some at)) (c.in_ok-key.ensures.items ∙ c.bytes-2.ensures) c.in_ok-insert.ensures.updates)
