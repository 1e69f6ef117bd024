-- The blend over whole histories.
use Rattle.std.proofs.Common.{◌≡◌, ◌++◌, ℕ, List, [], ◌∷◌, map, take, refl, ap}
use Rattle.std.proofs.Math.Seq.{take-length}
use Rattle.eb_base.specs.Document.{Doc}
use Rattle.eb_base.specs.Query.{Tree}
use Rattle.eb_base.specs.Match.{answer}
use Rattle.eb_blend.specs.Blended.{answers, blended, falling}
use Rattle.eb_blend.specs.Parts.{lengths_of, joined}

answers_whole : (q : Tree) (k : ℕ) (hs : List (List Doc)) → answers q k hs (lengths_of hs) ≡ joined (map (answer q k) hs)
answers_whole q k [] = refl
answers_whole q k (h ∷ hs) = λ i. answer q k (take-length h i) ++ answers_whole q k hs i

pub blended_is : (q : Tree) (k : ℕ) (hs : List (List Doc)) → blended q k hs (lengths_of hs) ≡ take k (falling (joined (map (answer q k) hs)))
unfolding blended
blended_is q k hs = ap (λ (z : List ℕ). take k (falling z)) (answers_whole q k hs)
