-- The text of the parts from an index on.
use Rattle.std.proofs.Common.{ℕ, zero, suc, List, [], ◌∷◌}
use Rattle.eb_base.specs.Query.{Trees}
use Rattle.eb_query.specs.Writing.{spaced_terms, and_text, and_more_text, or_text, or_more_text}

abbrev pub and_tail : ℕ → Trees → List ℕ
and_tail zero ts = and_text ts
and_tail (suc n) ts = and_more_text ts

abbrev pub or_tail : ℕ → Trees → List ℕ
or_tail zero ts = or_text ts
or_tail (suc n) ts = or_more_text ts

abbrev pub joined_tail : ℕ → List (List ℕ) → List ℕ
joined_tail n [] = []
joined_tail zero (t ∷ ts) = spaced_terms (t ∷ ts)
joined_tail (suc n) (t ∷ ts) = 32 ∷ spaced_terms (t ∷ ts)
