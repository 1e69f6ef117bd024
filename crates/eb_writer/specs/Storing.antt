-- How far the placing of a document is.
use Rattle.std.specs.Prelude.{◌≡◌, ℕ, ◌+◌, ◌-◌, ◌<◌, ◌≤◌, List, [], ◌∷◌, ◌++◌, length, take, drop, None}
use Rattle.eb_base.specs.Term.{Term}
use Rattle.eb_base.specs.Document.{Doc, IsDocument}
use Rattle.eb_place.specs.declared.moment.Documents.{Documents}
use Rattle.eb_place.specs.declared.moment.Moment.{Moment}
use Rattle.eb_place.specs.Postings.{distinct, count_of, number_of, posting_of}
use Rattle.eb_place.specs.Room.{cut, with_doc, HasRoom}
use Rattle.eb_place.specs.Placing.{append_stores, segment_before, doc_stores}
use Rattle.eb_place.specs.Later.{IsNotBefore}
use Rattle.eb_place.specs.NextStores.{stores_done, IsCurrent}
use Rattle.eb_place.specs.Seen.{entered, tokens_seen}
use Rattle.eb_chain.specs.Appends.{tokens_before, stores_from}
use Rattle.eb_writer.specs.Recall.{token_at}
use Rattle.eb_writer.specs.Counting.{IsIdle}

-- the documents that come before d in its segment
abbrev pub before_it : Moment → Doc → List Doc
before_it m d = segment_before m.setting m.documents.accepted d

-- the tokens of the segment that come before the token of d at place i
abbrev pub tokens_until : Moment → Doc → ℕ → List Term
tokens_until m d i = tokens_before m.setting m.documents.accepted d (take i d.terms)

-- d has room, no other document is being placed, and s is its segment
pub record IsPlaced (m : Moment) (d : Doc) (s : ℕ) : Type 0 where
  pub limits : IsDocument d
  pub room : HasRoom m.setting m.documents.accepted d
  pub current : IsCurrent m.documents.current d
  pub place : s ≡ length (with_doc m.setting (cut m.setting m.documents.accepted) d) - 1

-- the placing of d in segment s is at its token at place i: those before it are stored, and left
-- are the stores of this and the later ones, of the id and of the count
pub record HasComeTo (m : Moment) (d : Doc) (s i : ℕ) : Type 0 where
  pub placed : IsPlaced m d s
  pub few : i ≤ length d.terms
  pub left : drop (stores_done m.documents.current) (doc_stores m.setting m.documents.accepted d)
      ≡ stores_from m.setting m.documents.accepted d s i (tokens_until m d i) (drop i d.terms)
  pub entered : entered m s ≡ distinct (tokens_until m d i)
  pub seen : tokens_seen m s ≡ tokens_until m d i

-- it has come to the posting of this token: the term is entered, too
pub record HasComeToPosting (m : Moment) (d : Doc) (s i : ℕ) : Type 0 where
  pub placed : IsPlaced m d s
  pub low : i < length d.terms
  pub left : drop (stores_done m.documents.current) (doc_stores m.setting m.documents.accepted d)
      ≡ append_stores s (tokens_until m d i) (token_at d.terms i) (count_of (token_at d.terms i) (tokens_until m d i)) (posting_of (length (before_it m d)) i)
      ++ stores_from m.setting m.documents.accepted d s (i + 1) (tokens_until m d i ++ token_at d.terms i ∷ []) (drop (i + 1) d.terms)

-- more stores of the same placing are done
pub record HasStoredMore (m n : Moment) : Type 0 where
  pub later : IsNotBefore n m
  pub accepted : n.documents.accepted ≡ m.documents.accepted

-- the number of the term of the token at place i, or that it gets
abbrev pub IsNumbered : Moment → Doc → ℕ → ℕ → Type 0
IsNumbered m d i k = k ≡ number_of (token_at d.terms i) (tokens_until m d i)

-- the documents with d accepted after them
abbrev pub with_accepted : Documents → Doc → Documents
with_accepted x d = record { accepted = x.accepted ++ d ∷ []; current = None }

-- all of its stores are done, and no others: d is accepted
pub record IsAccepted (m n : Moment) (d : Doc) : Type 0 where
  pub later : IsNotBefore n m
  pub documents : n.documents ≡ with_accepted m.documents d

-- d has room, no document is being placed, and d begins segment s
pub record BeginsSegment (m : Moment) (d : Doc) (s : ℕ) : Type 0 where
  pub idle : IsIdle m
  pub placed : IsPlaced m d s
  pub first : before_it m d ≡ []
