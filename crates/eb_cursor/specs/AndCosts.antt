-- What an and of words costs, by the documents of any one of them.
--
-- The loads are bounded by the documents that have the rarest word in each segment, whichever part
-- leads: each round but the last ends below the last match of every word, so the documents of any
-- one of them count the rounds.
use Rattle.std.specs.Prelude.{◌≡◌, ℕ, ◌+◌, ◌*◌, ◌≤◌, Bool, List, [], ◌∷◌, length}
use Rattle.std.specs.List.{Contains}
use Rattle.eb_base.specs.Document.{Doc}
use Rattle.eb_base.specs.Query.{Trees, word, conjunction, no_trees, trees}
use Rattle.eb_base.specs.Term.{Term}
use Rattle.eb_place.specs.declared.moment.Moment.{Moment}
use Rattle.eb_place.specs.Told.{Told}
use Rattle.eb_cursor.specs.Costs.{AllSpan, IsPaid, look_loads, opening_loads, round_loads, count, rounds_left}
use Rattle.eb_cursor.specs.Frames.{query_of}
use Rattle.eb_cursor.specs.Lists.{gives}
use Rattle.eb_cursor.specs.Posted.{match_at}
use Rattle.eb_cursor.specs.Ready.{Ready, AllReady, upto, rest_of}
use Rattle.eb_cursor.specs.declared.cursor.Cursor.{Cursor}
use Rattle.eb_cursor.specs.declared.frame.Frame.{Frame}

-- these words as the parts of an and
abbrev pub word_parts : List Term → Trees
word_parts [] = no_trees
word_parts (t ∷ ts) = trees (word t) (word_parts ts)

-- whether the document with this number has the term
abbrev pub document_has : List Doc → Term → ℕ → Bool
document_has docs t = match_at docs (word t)

-- what the rounds over the words cost that can still come below an end, by the documents that have
-- the term t
unfoldable pub rounds_cost : List Doc → List Term → Term → ℕ → ℕ
rounds_cost docs ts t end = round_loads ts * rounds_left (document_has docs t) end

-- the cursors of the words ts owe at most this much below an end: the spans of their lists in
-- segment s, and what the rounds cost that can still come, by the documents that have t
abbrev pub PartsOwe : Moment → ℕ → List Doc → List Term → Term → List Cursor → ℕ → ℕ → Type 0
PartsOwe m s docs ts t cursors end most = (spans : ℕ) × AllSpan m s ts cursors spans × (spans + rounds_cost docs ts t end ≤ most)

-- so do those of an and of the words, after its first, below the end that this has come to
abbrev pub AndOwes : Moment → ℕ → List Doc → List Term → Term → List Cursor → ℕ → Type 0
AndOwes m s docs ts t cursors most = PartsOwe m s docs ts t (rest_of cursors) (upto cursors) most

-- the most loads of a call besides: one round that passes nothing, and the look of the part that
-- leads
abbrev pub call_loads : List Term → ℕ
call_loads ts = round_loads ts + look_loads

-- a call that falls from one end to another pays for its loads by what the words owed, and by this
-- many loads besides
abbrev pub PaysRounds : {S : Type 0} → (S → Moment → Type 0) → (S → Moment → S → Moment → Type 0) → S → S
    → List Term → Term → List Cursor → List Cursor → ℕ → ℕ → ℕ → ℕ → ℕ → Type 0
PaysRounds stands keeps p q ts t old new end found more before after = (docs : List Doc) (r : Moment) (last s most : ℕ) → end ≤ last
    → stands p r → AllReady (gives r) docs (word_parts ts) old last
    → Told stands keeps p q (λ m. PartsOwe m s docs ts t old end most) (λ n. IsPaid (PartsOwe n s docs ts t new found) before (most + more) after)

-- so does a call over an and of the words
abbrev pub PaysAnd : {S : Type 0} → (S → Moment → Type 0) → (S → Moment → S → Moment → Type 0) → S → S → List Term → Term → List Cursor → List Cursor → ℕ → ℕ → ℕ → Type 0
PaysAnd stands keeps p q ts t old new end before after = (docs : List Doc) (r : Moment) (last s most : ℕ) → end ≤ last
    → stands p r → Ready (gives r) docs (conjunction (word_parts ts)) old last
    → Told stands keeps p q (λ m. AndOwes m s docs ts t old most) (λ n. IsPaid (AndOwes n s docs ts t new) before (most + call_loads ts) after)

-- ---- a search in a segment

-- the most loads until the lists of these words are open and the first posting of each is read, and
-- of what their spans owe from then on
abbrev pub all_opening_loads : Moment → ℕ → List Term → ℕ
all_opening_loads m s [] = 0
all_opening_loads m s (t ∷ ts) = opening_loads m s t + 2 + all_opening_loads m s ts

-- how many of the documents have the term
abbrev pub documents_with : List Doc → Term → ℕ
documents_with docs t = count (document_has docs t) (length docs)

-- what all rounds over the words cost where n documents have one of them: two for each of these,
-- and one more
unfoldable pub all_rounds_cost : List Term → ℕ → ℕ
all_rounds_cost ts d = round_loads ts * (2 * d + 1)

-- the most loads of a search of an and of the words in a segment, after its converted word and
-- besides those of each call (`call_loads`), where this many of its documents have one of the
-- words, any one of them
abbrev pub and_loads : Moment → ℕ → List Term → ℕ → ℕ
and_loads m s ts d = all_opening_loads m s ts + all_rounds_cost ts d

-- the frame, whose query is an and of the words ts, of which t is one, goes on in segment s over
-- these documents with at most this many loads, besides those of each call
pub record FrameOwesAnd (m : Moment) (f : Frame) (s : ℕ) (docs : List Doc) (ts : List Term) (t : Term) (most : ℕ) : Type 0 where
  pub query : query_of f ≡ conjunction (word_parts ts)
  pub member : Contains ts t
  pub owes : AndOwes m s docs ts t f.cursors.items most
