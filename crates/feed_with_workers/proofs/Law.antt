-- No line is refused as full.
use Rattle.std.proofs.Common.{◌≡◌, ℕ, zero, suc, List, [], ◌∷◌, Some, refl}
use Rattle.std.specs.Prelude.{slice_get}
use Rattle.std.specs.List.{AllByRecursion}
use Rattle.run_store.specs.Rules.{is_bad}
use Rattle.run_store.proofs.NeverFull.{IsNotFull, of_bad, none_full}
use Rattle.eb_lines.specs.declared.refusal.Refusal.TheVariants.{Full}
use Rattle.eb_lines.specs.Reading.{Reading, refused}
use Rattle.feed_with_workers.specs.FeedRules.{workers_rules}
use Rattle.feed_with_workers.specs.Laws.{NoneIsFull}

none_there : (rs : List Reading) → AllByRecursion IsNotFull rs → (j : ℕ) → slice_get rs j ≡ Some (refused Full) → ⊥
none_there [] h j e = cc e
none_there (r ∷ rs) h zero e = let is : r ≡ refused Full = cc e in h.0 is
none_there (r ∷ rs) h (suc j) e = none_there rs h.1 j e

pub none_is_full : NoneIsFull
none_is_full how σ keep form lines rs read = none_there rs (none_full is_bad of_bad (workers_rules how σ keep form) (λ docs d. refl) (λ ws n q e. (cc e)) lines rs read)
