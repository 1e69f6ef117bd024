use Rattle.std.proofs.Common.{◌≡◌, ◌+◌, ◌≤◌, ◌++◌, ℕ, List, replicate, take, drop, length, ap, sym, ◌∙◌, subst, arith, refl}
use Rattle.std.proofs.lemmas.List.{with_items_is}
use Rattle.eb_base.specs.Setting.{words_of}
use Rattle.eb_flat.specs.Flat.{Flat, IsEmptied}
use Rattle.eb_flat.proofs.FlatImages.{emptied_next, emptied_all}
use Rattle.eb_flat.proofs.words.FlatWords.empty_on.Goals as goal

pub returns-clause-emptied : goal.returns-clause-emptied
returns-clause-emptied c σ h =
    let flat : Flat = record { setting = c.self.inside.config; words = c.self.inside.words.items } in
    let e : IsEmptied flat σ c.args.done = subst (λ (f : Flat). IsEmptied f σ c.args.done) (sym c.self.view_is) h in
    let n : ℕ = c.min-number.result in
    let items = with_items_is c.self.inside.words c.set_to_zero.new.words (c.set_to_zero.auto.words ∙ c.as_mut_slice-words.ensures.len) in
    let value = items ∙ c.set_to_zero.ensures ∙ ap (λ (z : List ℕ). take c.args.done z ++ (replicate n 0 ++ drop (c.args.done + n) z)) c.as_mut_slice-words.ensures.value in
    let long : length c.as_mut_slice-words.result.now ≡ words_of σ = ap length c.as_mut_slice-words.ensures.value ∙ e.number in
    let within : c.args.done + n ≤ words_of σ = omega (arith, c.min-number.ensures, long, h.within) in
    emptied_next flat _ σ c.args.done n within refl value e

pub returns-clause-all : goal.returns-clause-all
returns-clause-all c σ h all =
    let flat : Flat = record { setting = c.self.inside.config; words = c.self.inside.words.items } in
    let e : IsEmptied flat σ c.args.done = subst (λ (f : Flat). IsEmptied f σ c.args.done) (sym c.self.view_is) h in
    let n : ℕ = c.min-number.result in
    let items = with_items_is c.self.inside.words c.set_to_zero.new.words (c.set_to_zero.auto.words ∙ c.as_mut_slice-words.ensures.len) in
    let value = items ∙ c.set_to_zero.ensures ∙ ap (λ (z : List ℕ). take c.args.done z ++ (replicate n 0 ++ drop (c.args.done + n) z)) c.as_mut_slice-words.ensures.value in
    let long : length c.as_mut_slice-words.result.now ≡ words_of σ = ap length c.as_mut_slice-words.ensures.value ∙ e.number in
    let within : c.args.done + n ≤ words_of σ = omega (arith, c.min-number.ensures, long, h.within) in
    emptied_all _ σ (c.args.done + n) all (emptied_next flat _ σ c.args.done n within refl value e)
