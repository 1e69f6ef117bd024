-- When a placing is at a posting, and the moment after its stores.
use Rattle.std.specs.Prelude.{◌≡◌, ℕ, ◌+◌, ◌-◌, List, [], ◌∷◌, ◌++◌, length, drop}
use Rattle.eb_base.specs.Term.{Term}
use Rattle.eb_base.specs.Document.{Doc, IsDocument}
use Rattle.eb_base.specs.Setting.{Setting}
use Rattle.eb_place.specs.declared.moment.Documents.{Documents}
use Rattle.eb_place.specs.declared.moment.Moment.{Moment}
use Rattle.eb_place.specs.Layout.Slot.{published, slot}
use Rattle.eb_place.specs.Layout.Region.{id_region}
use Rattle.eb_place.specs.Postings.{terms_of, count_of, posting_of}
use Rattle.eb_place.specs.Room.{HasRoom, cut, with_doc}
use Rattle.eb_place.specs.Placing.{Store, append_stores, tokens_stores, segment_before, doc_stores}
use Rattle.eb_place.specs.Later.{IsNotBefore}
use Rattle.eb_place.specs.NextStores.{stores_done, IsCurrent, with_stores}
use Rattle.eb_place.specs.Seen.{tokens_seen}

-- the tokens of a document's segment that come before these are placed: those of the documents
-- before it, and its own earlier ones
abbrev pub tokens_before : Setting → List Doc → Doc → List Term → List Term
tokens_before σ docs d earlier = terms_of (segment_before σ docs d) ++ earlier

-- the stores of a document in segment s from its token at position p on: those of its later tokens,
-- its id and the count
abbrev pub stores_from : Setting → List Doc → Doc → ℕ → ℕ → List Term → List Term → List Store
stores_from σ docs d s p before later = tokens_stores σ s (length (segment_before σ docs d)) p before later
    ++ (slot s id_region (length (segment_before σ docs d)), d.id) ∷ (published, length docs + 1) ∷ []

-- the placing of d is at the stores of this posting of t in segment s: its earlier tokens are
-- stored, t is entered, and left are the stores of this posting, of the later tokens, of the id and
-- of the count
pub record IsPostingNext (σ : Setting) (x : Documents) (d : Doc) (s : ℕ) (t : Term) (posting : ℕ) : Type 0 where
  pub limits : IsDocument d
  pub room : HasRoom σ x.accepted d
  pub current : IsCurrent x.current d
  pub place : s ≡ length (with_doc σ (cut σ x.accepted) d) - 1
  pub earlier : List Term
  pub later : List Term
  pub terms : d.terms ≡ earlier ++ t ∷ later
  pub is : posting ≡ posting_of (length (segment_before σ x.accepted d)) (length earlier)
  pub left : drop (stores_done x.current) (doc_stores σ x.accepted d)
      ≡ append_stores s (tokens_before σ x.accepted d earlier) t (count_of t (tokens_before σ x.accepted d earlier)) posting
      ++ stores_from σ x.accepted d s (length earlier + 1) (tokens_before σ x.accepted d earlier ++ t ∷ []) later

-- n is not before m, and of the placing of d exactly the stores of this posting of t are done
-- besides
pub record HasAppended (m n : Moment) (d : Doc) (s : ℕ) (t : Term) (posting : ℕ) : Type 0 where
  pub later : IsNotBefore n m
  pub documents : n.documents ≡ with_stores m.documents d (length (append_stores s (tokens_seen m s) t (count_of t (tokens_seen m s)) posting))
