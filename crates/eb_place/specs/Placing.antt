-- The stores that place a document, in order.
use Rattle.std.specs.Prelude.{ℕ, zero, suc, ◌+◌, ◌-◌, ◌*◌, ◌/◌, ◌%◌, ◌^◌, ◌&&◌, List, [], ◌∷◌, ◌++◌, length, map, take, drop, fold, sum_by, if◌then◌else◌, nat_le, ◌==◌}
use Rattle.std.specs.List.{list_any}
use Rattle.eb_base.specs.Term.{Term}
pub use Rattle.eb_base.specs.Hashing.{hash}
use Rattle.eb_base.specs.Document.{Doc}
use Rattle.eb_base.specs.Setting.{Setting}
use Rattle.eb_place.specs.Layout.{Slot, Region, pool_slot, place}
use Rattle.eb_place.specs.Layout.Slot.{published, slot}
use Rattle.eb_place.specs.Layout.Region.{first_region, cell_region, text_place_region, tail_region, text_region, id_region}
use Rattle.eb_place.specs.Postings.{terms_of, distinct, count_of, number_of, posting_of}
use Rattle.eb_place.specs.Room.{text_words, cut, with_doc, last_of, fits}
use Rattle.eb_place.specs.Address.{begins, pool_at, address_of}

-- a value and the word that it is stored to
abbrev pub Store : Type 0
Store = Slot × ℕ

-- values for the words of a region from word i on
abbrev pub in_row : ℕ → Region → ℕ → List ℕ → List Store
in_row s r i [] = []
in_row s r i (v ∷ vs) = (slot s r i, v) ∷ in_row s r (i + 1) vs

-- the same as pairs of place and value
abbrev pub pairs_of : Setting → List Store → List (ℕ × ℕ)
pairs_of σ xs = map (λ x. (place σ x.0, x.1)) xs

-- bytes as a number, lowest first
abbrev pub little_endian : List ℕ → ℕ
little_endian [] = 0
little_endian (b ∷ bs) = b + 256 * little_endian bs

-- the bytes by eights, the last filled up with bytes 0
abbrev pub eights : ℕ → List ℕ → List ℕ
eights zero bs = []
eights (suc n) bs = little_endian (take 8 bs) ∷ eights n (drop 8 bs)

-- the text words of a term: its length in bytes, then its bytes, eight a word
abbrev pub text_of : Term → List ℕ
text_of t = length t ∷ eights ((length t + 7) / 8) t

-- the cell where the lookup of a term begins
abbrev pub home_cell : ℕ → Term → ℕ
home_cell cells t = hash t % cells

-- the first cell at or after c that is free, wrapping; as many tests as there are taken cells are
-- enough
abbrev pub free_from : ℕ → List ℕ → ℕ → ℕ → ℕ
free_from cells taken zero c = c
free_from cells taken (suc n) c = if list_any (λ k. c == k) taken then free_from cells taken n ((c + 1) % cells) else c

-- the cells with that of one more term
abbrev pub with_cell : ℕ → List ℕ → Term → List ℕ
with_cell cells taken t = taken ++ free_from cells taken (length taken) (home_cell cells t) ∷ []

-- the cells of the terms, in order of their numbers
unfoldable pub cells_of : ℕ → List Term → List ℕ
cells_of cells terms = fold (with_cell cells) [] terms

-- the cell of a new term, after those before it
unfoldable pub cell_of_next : ℕ → List Term → Term → ℕ
cell_of_next cells terms t = free_from cells (cells_of cells terms) (length terms) (home_cell cells t)

-- the stores that enter a new term after those before it: its text, its text place, its cell
unfoldable pub enter_stores : Setting → ℕ → List Term → Term → List Store
enter_stores σ s terms t = in_row s text_region (sum_by text_words terms) (text_of t)
    ++ (slot s text_place_region (length terms), sum_by text_words terms)
    ∷ (slot s cell_region (cell_of_next (2 * σ.terms) terms t), length terms + 1) ∷ []

-- the stores of a posting of a term that has f before it: the link where it begins a slice that has
-- one, the posting, the tail
unfoldable pub append_stores : ℕ → List Term → Term → ℕ → ℕ → List Store
append_stores s before t f posting = (if begins f && nat_le 1 (pool_at f) then ((pool_slot s (address_of t f before - 1), address_of t (f - 1) before) ∷ []) else [])
    ++ (pool_slot s (address_of t f before), posting) ∷ (slot s tail_region (number_of t before), address_of t f before + 1) ∷ []

-- the stores of a token: where its term is new in the segment it is entered first
unfoldable pub token_stores : Setting → ℕ → List Term → Term → ℕ → List Store
token_stores σ s before t posting = (if count_of t before == 0 then enter_stores σ s (distinct before) t else [])
    ++ append_stores s before t (count_of t before) posting

-- the stores of the tokens of document n of the segment from position p on
unfoldable pub tokens_stores : Setting → ℕ → ℕ → ℕ → List Term → List Term → List Store
tokens_stores σ s n p before [] = []
tokens_stores σ s n p before (t ∷ ts) = token_stores σ s before t (posting_of n p) ++ tokens_stores σ s n (p + 1) (before ++ t ∷ []) ts

-- the stores of a document in segment s after the documents seg, with `count` documents before it
-- in all: the first-document word where it begins the segment, its tokens, its id, and the greater
-- count
unfoldable pub stores_in : Setting → ℕ → List Doc → ℕ → Doc → List Store
stores_in σ s seg count d = (if length seg == 0 then ((slot s first_region 0, count + 1) ∷ []) else [])
    ++ tokens_stores σ s (length seg) 0 (terms_of seg) d.terms
    ++ (slot s id_region (length seg), d.id) ∷ (published, count + 1) ∷ []

-- the documents that come before d in its segment
abbrev pub segment_before : Setting → List Doc → Doc → List Doc
segment_before σ docs d = if fits σ (last_of (cut σ docs)) d then last_of (cut σ docs) else []

-- the stores that place a document after a history
unfoldable pub doc_stores : Setting → List Doc → Doc → List Store
doc_stores σ docs d = stores_in σ (length (with_doc σ (cut σ docs) d) - 1) (segment_before σ docs d) (length docs) d

-- the placing of a document after a history: pairs of place and value, in the order of the stores
abbrev pub placing : Setting → List Doc → Doc → List (ℕ × ℕ)
placing σ docs d = pairs_of σ (doc_stores σ docs d)
