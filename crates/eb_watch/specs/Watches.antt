-- Watches as a list of numbers and queries, and which of them a document matches.
use Rattle.std.specs.Prelude.{ℕ, ◌==◌, nat_lt, not, Bool, cond, List, [], ◌∷◌, map, filter}
use Rattle.std.specs.List.{list_any}
use Rattle.eb_base.specs.Document.{Doc}
use Rattle.eb_base.specs.Match.{is_match}
use Rattle.eb_base.specs.Query.{Tree}
use Rattle.eb_watch.specs.Key.{is_candidate}

-- a watch: its number and its query
abbrev pub Watched : Type 0
Watched = ℕ × Tree

-- the numbers of the watches
abbrev pub numbers_of : List Watched → List ℕ
numbers_of ws = map (λ w. w.0) ws

-- the most watches that can be set
abbrev pub most_watches : ℕ
most_watches = 10000

-- a watch has the number
abbrev pub is_set : List Watched → ℕ → Bool
is_set ws number = list_any (λ w. number == w.0) ws

-- the watches with one more, at the place of its number
abbrev pub with_watch : List Watched → ℕ → Tree → List Watched
with_watch [] number q = (number, q) ∷ []
with_watch (w ∷ ws) number q = cond (nat_lt number w.0) ((number, q) ∷ w ∷ ws) (w ∷ with_watch ws number q)

-- the watches without the one of the number
abbrev pub without_watch : List Watched → ℕ → List Watched
without_watch ws number = filter (λ w. not (number == w.0)) ws

-- the watches whose query matches the document
abbrev pub matching : List Watched → Doc → List Watched
matching ws d = filter (λ w. is_match w.1 d) ws

-- the watches without a key, and those with one of the document's terms in their key
abbrev pub candidates : List Watched → Doc → List Watched
candidates ws d = filter (λ w. is_candidate w.1 d) ws
