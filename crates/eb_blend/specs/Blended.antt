-- What a search over parts answers.
use Rattle.std.specs.Prelude.{ℕ, List, [], ◌∷◌, ◌++◌, take, reverse, if◌then◌else◌, nat_lt}
use Rattle.eb_base.specs.Document.{Doc}
use Rattle.eb_base.specs.Query.{Tree}
use Rattle.eb_base.specs.Match.{answer}

-- a number at its place in a rising list
abbrev pub put : ℕ → List ℕ → List ℕ
put x [] = x ∷ []
put x (y ∷ ys) = if nat_lt y x then (y ∷ put x ys) else (x ∷ y ∷ ys)

-- the numbers from the least to the greatest, each as often as it occurs in the list
abbrev pub rising : List ℕ → List ℕ
rising [] = []
rising (x ∷ xs) = put x (rising xs)

-- the numbers from the greatest to the least
abbrev pub falling : List ℕ → List ℕ
falling xs = reverse (rising xs)

-- the answers of the parts, one after the other: of each part the answer over the first n documents
-- of its history
abbrev pub answers : Tree → ℕ → List (List Doc) → List ℕ → List ℕ
answers q k [] ns = []
answers q k (h ∷ hs) [] = []
answers q k (h ∷ hs) (n ∷ ns) = answer q k (take n h) ++ answers q k hs ns

-- the answer over the first documents of each part's history: the greatest k of the ids that the
-- parts answer, each as often as they answer it
unfoldable pub blended : Tree → ℕ → List (List Doc) → List ℕ → List ℕ
blended q k histories lengths = take k (falling (answers q k histories lengths))
