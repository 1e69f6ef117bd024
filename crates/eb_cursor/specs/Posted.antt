-- Which postings a term has, and which documents a query matches, by their numbers.
use Rattle.std.specs.Prelude.{ℕ, zero, suc, ◌+◌, ◌*◌, ◌/◌, ◌%◌, ◌≤◌, Bool, true, false, ◌&&◌, leb, min, List, [], ◌∷◌, length, bytes_eq, Option, None, Some, slice_get}
use Rattle.eb_base.specs.Document.{Doc}
use Rattle.eb_base.specs.Query.{Tree, Trees}
use Rattle.eb_base.specs.Match.{is_match, each_matches, some_matches}
use Rattle.eb_place.specs.Postings.{places}
use Rattle.eb_cursor.specs.Tops.{top, number_before}

-- a document: the one of id 0 without terms where there is none
abbrev pub doc_in : Option Doc → Doc
doc_in None = record { id = 0; terms = [] }
doc_in (Some d) = d

-- the document with this number
abbrev pub doc_at : List Doc → ℕ → Doc
doc_at docs n = doc_in (slice_get docs n)

-- the terms of the document with this number
abbrev pub terms_at : List Doc → ℕ → List (List ℕ)
terms_at docs n = (doc_at docs n).terms

-- whether there is a term and it is this one
abbrev pub is_term : List ℕ → Option (List ℕ) → Bool
is_term t None = false
is_term t (Some u) = bytes_eq t u

-- whether the term is at this place of this document, both in one number
abbrev pub is_posting : List Doc → List ℕ → ℕ → Bool
is_posting docs t x = is_term t (slice_get (terms_at docs (x / places)) (x % places))

-- whether the document with this number matches
abbrev pub match_at : List Doc → Tree → ℕ → Bool
match_at docs q n = is_match q (doc_at docs n)

-- whether each query matches it
abbrev pub each_at : List Doc → Trees → ℕ → Bool
each_at docs qs n = each_matches qs (doc_at docs n)

-- whether some query matches it
abbrev pub some_at : List Doc → Trees → ℕ → Bool
some_at docs qs n = some_matches qs (doc_at docs n)

-- whether the terms are in a row from this place on
abbrev pub is_run_from : List Doc → List (List ℕ) → ℕ → Bool
is_run_from docs [] x = true
is_run_from docs (t ∷ ts) x = is_posting docs t x && is_run_from docs ts (suc x)

-- whether there are this many places from here to the end of those of the document
abbrev pub has_places : ℕ → ℕ → Bool
has_places n x = leb (x % places + n) places

-- whether a phrase begins at this place
abbrev pub is_start : List Doc → List (List ℕ) → ℕ → Bool
is_start docs ts x = has_places (length ts) x && is_run_from docs ts x

-- no document has more terms than places
pub record Narrow (docs : List Doc) : Type 0 where
  pub narrow : (n : ℕ) → length (terms_at docs n) ≤ places

-- one more than the document of the posting before this one
abbrev pub document_end : ℕ → ℕ
document_end zero = 0
document_end (suc x) = suc (x / places)

-- the last of the terms
abbrev pub last_term : List (List ℕ) → List ℕ
last_term [] = []
last_term (t ∷ []) = t
last_term (t ∷ u ∷ ts) = last_term (u ∷ ts)

-- where terms occur in their order below the end, each as near as it can to the one after it: one
-- more than the greatest place of the first; 0 where they don't so occur, and one more than the end
-- without terms
abbrev pub first_below : List Doc → List (List ℕ) → ℕ → ℕ
first_below docs [] end = suc end
first_below docs (t ∷ ts) end = top (is_posting docs t) (number_before (first_below docs ts end))

-- the end below which the last term of a window is whose first term is before `first`: at most `w`
-- places after it, and in its document
abbrev pub reach_end : ℕ → ℕ → ℕ
reach_end w first = min (first + w) (places * document_end first)

-- whether a window of these terms ends at this place
abbrev pub is_window_end : List Doc → List (List ℕ) → ℕ → ℕ → Bool
is_window_end docs ts w x = is_posting docs (last_term ts) x && leb (suc x) (reach_end w (first_below docs ts (suc x)))
