-- How many loads a search of one word makes, and one of an and of words. It may skip segments, of
-- which the list `likely` says false; an empty list skips none. A count of a word's matches is
-- bounded as a search of it that returned as many ids as the count loads.
use Rattle.std.specs.Prelude.{◌≡◌, ℕ, ◌+◌, ◌≤◌, Bool, List, length, None}
use mathlib.Core.List.{IsPrefix}
use Rattle.eb_base.specs.Document.{Doc}
use Rattle.eb_base.specs.Setting.{Setting}
use Rattle.eb_base.specs.Term.{Term}
use Rattle.eb_place.specs.declared.moment.Documents.{Documents}
use Rattle.eb_place.specs.declared.moment.Moment.{Moment}
use Rattle.eb_place.specs.Moments.{IsMoment}
use Rattle.eb_place.specs.Later.{IsNotBefore}
use Rattle.eb_search.specs.Bounds.{load_bound, and_bound}

-- a search of the word from one moment to another, that returned this many ids over this many
-- documents, made no more loads than its bound
pub record IsWithinBound (likely : List Bool) (was now : Moment) (t : Term) (counted ids before after : ℕ) : Type 0 where
  pub few : after ≤ before + load_bound likely was now counted t ids

-- a search of the word that knew the first documents of the history and this many converted
-- segments when it began, knows these documents when it ends, and returned this many ids, made no
-- more loads than its bound: from a moment at which the documents that it knew are accepted and the
-- segments converted, to one at which those that it knows are accepted
pub record IsBounded (likely : List Bool) (σ : Setting) (knew : List Doc) (converted : ℕ) (knows : List Doc) (t : Term) (ids before after : ℕ) : Type 0 where
  pub was : Moment
  pub now : Moment
  pub is : IsMoment now
  pub later : IsNotBefore now was
  pub setting : now.setting ≡ σ
  pub knew_then : IsPrefix knew was.documents.accepted
  pub packed_then : converted ≤ was.conversions.converted
  pub knows_now : IsPrefix knows now.documents.accepted
  pub loads : IsWithinBound likely was now t (length knows) ids before after

-- a search of an and of the words that ended at a moment, and returned this many ids over this many
-- documents, made no more loads than its bound
pub record IsWithinAndBound (likely : List Bool) (now : Moment) (ts : List Term) (counted ids before after : ℕ) : Type 0 where
  pub few : after ≤ before + and_bound likely now counted ts ids

-- a search of an and of the words that knows these first documents of the history when it ends, and
-- returned this many ids, made no more loads than its bound at a moment at which they are accepted
pub record IsAndBounded (likely : List Bool) (σ : Setting) (knows : List Doc) (ts : List Term) (ids before after : ℕ) : Type 0 where
  pub now : Moment
  pub is : IsMoment now
  pub setting : now.setting ≡ σ
  pub knows_now : IsPrefix knows now.documents.accepted
  pub loads : IsWithinAndBound likely now ts (length knows) ids before after

-- ---- of the writer, which adds nothing meanwhile: its bounds are those of its documents

-- this history is accepted, and nothing is being placed after it
abbrev pub whole_of : List Doc → Documents
whole_of docs = record { accepted = docs; current = None }

-- a moment that isn't before another, of the same documents
pub record IsAlone (was now : Moment) : Type 0 where
  pub is : IsMoment now
  pub later : IsNotBefore now was
  pub documents : now.documents ≡ was.documents

-- a search of the word over this history, which knew this many converted segments when it began,
-- and returned this many ids, made no more loads than its bound, between two moments of exactly
-- this history
pub record IsBoundedAlone (likely : List Bool) (σ : Setting) (docs : List Doc) (converted : ℕ) (t : Term) (ids before after : ℕ) : Type 0 where
  pub was : Moment
  pub now : Moment
  pub is : IsMoment now
  pub later : IsNotBefore now was
  pub setting : now.setting ≡ σ
  pub documents_then : was.documents ≡ whole_of docs
  pub documents : now.documents ≡ whole_of docs
  pub packed_then : converted ≤ was.conversions.converted
  pub loads : IsWithinBound likely was now t (length docs) ids before after

-- a search of an and of the words over this history that returned this many ids made no more loads
-- than its bound, at a moment of exactly this history
pub record IsAndBoundedAlone (likely : List Bool) (σ : Setting) (docs : List Doc) (ts : List Term) (ids before after : ℕ) : Type 0 where
  pub now : Moment
  pub is : IsMoment now
  pub setting : now.setting ≡ σ
  pub documents : now.documents ≡ whole_of docs
  pub loads : IsWithinAndBound likely now ts (length docs) ids before after
