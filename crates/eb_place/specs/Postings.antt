-- The postings of a segment, and its terms in order of first appearance.
use Rattle.std.specs.Prelude.{ℕ, ◌+◌, ◌*◌, ◌/◌, ◌%◌, ◌^◌, List, [], ◌∷◌, ◌++◌, length, map, filter, fold, flat_map, if◌then◌else◌, nat_lt, bytes_eq}
use Rattle.std.specs.List.{list_any, position_or_len}
use Rattle.eb_base.specs.Term.{Term}
use Rattle.eb_base.specs.Document.{Doc}

-- the lowest bits of a posting, which hold the position
abbrev pub position_bits : ℕ
position_bits = 16

-- all bits of a posting: those above the position hold the document's number in its segment
abbrev pub posting_bits : ℕ
posting_bits = 40

-- how many places a document has in the postings
abbrev pub places : ℕ
places = 2 ^ position_bits

-- the posting of a position in a document of the segment
abbrev pub posting_of : ℕ → ℕ → ℕ
posting_of document position = document * places + position

-- the number of the document that a posting is of
abbrev pub posting_document : ℕ → ℕ
posting_document posting = posting / places

-- the position in it
abbrev pub posting_position : ℕ → ℕ
posting_position posting = posting % places

-- a term and where it occurs
pub record Token : Type 0 where
  pub term : List ℕ
  pub posting : ℕ

-- the terms of document n from position p on, each with where it occurs
abbrev pub tokens_from : ℕ → ℕ → List Term → List Token
tokens_from n p [] = []
tokens_from n p (t ∷ ts) = record { term = t; posting = posting_of n p } ∷ tokens_from n (p + 1) ts

-- those of documents that are numbered from n on
abbrev pub segment_from : ℕ → List Doc → List Token
segment_from n [] = []
segment_from n (d ∷ ds) = tokens_from n 0 d.terms ++ segment_from (n + 1) ds

-- the tokens of a segment, in order of document and position
unfoldable pub tokens : List Doc → List Token
tokens seg = segment_from 0 seg

-- the postings of a term: where it occurs in the segment, rising
unfoldable pub postings : Term → List Doc → List ℕ
postings t seg = map (λ w. w.posting) (filter (λ w. bytes_eq t w.term) (tokens seg))

-- how many postings a term has
abbrev pub frequency : Term → List Doc → ℕ
frequency t seg = length (postings t seg)

-- the numbers of a falling list that are at or below `most`
abbrev pub at_most : ℕ → List ℕ → List ℕ
at_most most [] = []
at_most most (x ∷ xs) = if nat_lt most x then at_most most xs else (x ∷ xs)

-- the terms of all tokens, in order
unfoldable pub terms_of : List Doc → List Term
terms_of seg = flat_map (λ d. d.terms) seg

-- how often a term occurs in a list
unfoldable pub count_of : Term → List Term → ℕ
count_of t [] = 0
count_of t (u ∷ us) = (if bytes_eq t u then 1 else 0) + count_of t us

-- the list with a term at its end that it doesn't have yet
abbrev pub with_term : List Term → Term → List Term
with_term seen t = if list_any (bytes_eq t) seen then seen else (seen ++ t ∷ [])

-- the distinct terms in order of first appearance; a term's number is its place in this list
unfoldable pub distinct : List Term → List Term
distinct ts = fold with_term [] ts

-- the number that the term has among these, or gets next
abbrev pub number_of : Term → List Term → ℕ
number_of t ts = position_or_len (bytes_eq t) (distinct ts)
