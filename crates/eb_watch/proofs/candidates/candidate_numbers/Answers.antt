use Rattle.std.proofs.Common.{ℕ, ◌||◌, Bool, eqb, nat_eq, List, ◌++◌, subst, sym, ap, ◌∙◌}
use Rattle.std.specs.List.{list_any}
use Rattle.std.specs.List.Sorted.{IsStrictlyIncreasing}
use Rattle.std.proofs.lemmas.List.Filters.{dedup_is}
use Rattle.std.proofs.lemmas.List.Sorted.{list_any-IsPermutation}
use Rattle.std.proofs.lemmas.Map.Keys.{IsStrictlyIncreasing-dedup}
use Rattle.eb_watch.specs.Index.{leads}
use Rattle.eb_watch.proofs.Numbers.{kept, same_numbers}
use Rattle.eb_watch.proofs.candidates.candidate_numbers.Goals as goal

pub returns-clause-rising : goal.returns-clause-rising
returns-clause-rising c =
    subst IsStrictlyIncreasing (sym (dedup_is eqb c.sort_unstable.new.self.items c.dedup.new.self.items c.dedup.ensures.filtered))
    (IsStrictlyIncreasing-dedup c.sort_unstable.new.self.items c.sort_unstable.ensures.sorted)

pub returns-clause-numbers : goal.returns-clause-numbers
returns-clause-numbers c = λ n.
    let led : List (List ℕ) → Bool = list_any (λ t. leads c.args.by_term.now t n) in
    ap (list_any (nat_eq n)) (dedup_is eqb c.sort_unstable.new.self.items c.dedup.new.self.items c.dedup.ensures.filtered)
    ∙ kept c.sort_unstable.new.self.items n
    ∙ sym (list_any-IsPermutation (nat_eq n) c.put_led.new.numbers.items c.sort_unstable.new.self.items c.sort_unstable.ensures.permutation)
    ∙ c.in_ok-put_led.ensures n
    ∙ (λ i. list_any (nat_eq n) (c.in_ok-put_numbers.ensures i) || led ((c.as_slice.ensures ∙ c.terms.ensures.terms) i))
    ∙ (λ i. list_any (nat_eq n) (c.new-numbers.ensures.items i ++ c.args.keyless.now.keys) || led c.args.document.now.terms)
    ∙ ap (λ (b : Bool). b || led c.args.document.now.terms) (sym (same_numbers n c.args.keyless.now.keys))
