-- The next store of the writer and of the converter, and the moment after it.
use Rattle.std.specs.Prelude.{◌≡◌, ℕ, suc, Bool, true, false, List, [], ◌∷◌, ◌++◌, ◌+◌, length, drop, Option, Some, None, slice_get, ltb}
use mathlib.Core.List.{IsPrefix}
use Rattle.eb_base.specs.Document.{Doc, IsDocument}
use Rattle.eb_place.specs.declared.moment.Documents.{Documents}
use Rattle.eb_place.specs.declared.moment.Conversions.{Conversions}
use Rattle.eb_place.specs.declared.moment.Moment.{Moment}
use Rattle.eb_place.specs.Room.{HasRoom}
use Rattle.eb_place.specs.Placing.{Store, pairs_of, doc_stores}
use Rattle.eb_place.specs.Conversion.{segment_stores}
use Rattle.eb_place.specs.Moments.{with_current, IsClosed}

-- how many stores of the document that is being placed are done
abbrev pub stores_done : Option (Doc × ℕ) → ℕ
stores_done None = 0
stores_done (Some c) = c.1

-- no other document is being placed
abbrev pub IsCurrent : Option (Doc × ℕ) → Doc → Type 0
IsCurrent None d = Unit {0}
IsCurrent (Some c) d = c.0 ≡ d

-- this value at this place is the next store of the placing of the document
pub record IsNext (m : Moment) (d : Doc) (at value : ℕ) : Type 0 where
  pub limits : IsDocument d
  pub room : HasRoom m.setting m.documents.accepted d
  pub current : IsCurrent m.documents.current d
  pub pair : slice_get (pairs_of m.setting (doc_stores m.setting m.documents.accepted d)) (stores_done m.documents.current) ≡ Some (at, value)

-- these are the next stores of the placing of the document, which has room; no other document is
-- being placed
pub record AreNext (m : Moment) (d : Doc) (stores : List Store) : Type 0 where
  pub limits : IsDocument d
  pub room : HasRoom m.setting m.documents.accepted d
  pub current : IsCurrent m.documents.current d
  pub front : IsPrefix stores (drop (stores_done m.documents.current) (doc_stores m.setting m.documents.accepted d))

-- the documents part with n more stores of the placing of d, which has yet more
abbrev pub with_stores : Documents → Doc → ℕ → Documents
with_stores x d n = record { accepted = x.accepted; current = Some (d, stores_done x.current + n) }

-- the moment with n more stores of the placing of d, which has yet more
abbrev pub with_placed : Moment → Doc → ℕ → Moment
with_placed m d n = record { setting = m.setting; documents = with_stores m.documents d n; conversions = m.conversions }

-- the documents with i stores of document d done: it is being placed where it has more stores, else
-- it is accepted
abbrev pub documents_after : Bool → List Doc → Doc → ℕ → Documents
documents_after true docs d i = record { accepted = docs; current = Some (d, i) }
documents_after false docs d i = record { accepted = docs ++ d ∷ []; current = None }

-- the moment after the next store of the placing of a document
unfoldable pub after_store : Moment → Doc → Moment
after_store m d = record {
  setting = m.setting;
  documents = documents_after (ltb (suc (stores_done m.documents.current)) (length (doc_stores m.setting m.documents.accepted d))) m.documents.accepted d (suc (stores_done m.documents.current));
  conversions = m.conversions;
}

-- this value at this place is the next store of the next conversion, whose segment is closed
pub record IsNextPut (m : Moment) (at value : ℕ) : Type 0 where
  pub closed : IsClosed m m.conversions.converted
  pub pair : slice_get (pairs_of m.setting (segment_stores m.setting (with_current m.documents) m.conversions.converted)) m.conversions.packed ≡ Some (at, value)

-- the conversions with one more store: the segment is converted where there are no more
abbrev pub conversions_after : Bool → Conversions → Conversions
conversions_after true c = record { converted = c.converted; packed = suc c.packed }
conversions_after false c = record { converted = suc c.converted; packed = 0 }

-- the moment after the next store of the next conversion
unfoldable pub after_put : Moment → Moment
after_put m = record {
  setting = m.setting;
  documents = m.documents;
  conversions = conversions_after (ltb (suc m.conversions.packed) (length (segment_stores m.setting (with_current m.documents) m.conversions.converted))) m.conversions;
}
