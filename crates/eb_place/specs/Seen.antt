-- What of a segment has been stored at a moment: its documents, terms and postings.
use Rattle.std.specs.Prelude.{ℕ, ◌&&◌, Bool, false, ◌==◌, List, [], length, get_or, take, count_by, Contains}
use Rattle.eb_base.specs.Term.{Term}
use Rattle.eb_base.specs.Document.{Doc}
use Rattle.eb_place.specs.declared.moment.Moment.{Moment}
use Rattle.eb_place.specs.Layout.{Region, place, rank}
use Rattle.eb_place.specs.Layout.Slot.{published, slot}
use Rattle.eb_place.specs.Layout.Region.{cell_region, tail_region}
use Rattle.eb_place.specs.Postings.{number_of, terms_of, distinct, postings}
use Rattle.eb_place.specs.Room.{cut}
use Rattle.eb_place.specs.Placing.{Store, pairs_of}
use Rattle.eb_place.specs.Moments.{with_current, document_stores}

-- the documents of a segment, with the one that is being placed
abbrev pub segment : Moment → ℕ → List Doc
segment m s = get_or (cut m.setting (with_current m.documents)) s []

-- how many stores to the tail of a term are done
unfoldable pub tails_done : Moment → ℕ → Term → ℕ
tails_done m s t = count_by (λ x. x.0 == place m.setting (slot s tail_region (number_of t (terms_of (segment m s))))) (pairs_of m.setting (document_stores m.setting m.documents))

-- the postings of a term in a segment whose tail stores are done, oldest first
abbrev pub seen : Moment → ℕ → Term → List ℕ
seen m s t = take (tails_done m s t) (postings t (segment m s))

-- how many they are
unfoldable pub seen_count : Moment → ℕ → Term → ℕ
seen_count m s t = length (seen m s t)

-- whether a store goes to this region of segment s
abbrev pub is_in : ℕ → Region → Store → Bool
is_in s r (published, v) = false
is_in s r (slot v q i, x) = (v == s) && (rank q == rank r)

-- how many of the writer's stores to a region of a segment are done
unfoldable pub stores_in_region : Moment → ℕ → Region → ℕ
stores_in_region m s r = count_by (is_in s r) (document_stores m.setting m.documents)

-- the terms that are entered in a segment, in order of their numbers: those whose cell stores are
-- done
unfoldable pub entered : Moment → ℕ → List Term
entered m s = take (stores_in_region m s cell_region) (distinct (terms_of (segment m s)))

-- the term is entered in the segment
abbrev pub IsEntered : Moment → ℕ → Term → Type 0
IsEntered m s t = Contains (entered m s) t

-- the tokens of a segment whose tail stores are done, in order
unfoldable pub tokens_seen : Moment → ℕ → List Term
tokens_seen m s = take (stores_in_region m s tail_region) (terms_of (segment m s))
