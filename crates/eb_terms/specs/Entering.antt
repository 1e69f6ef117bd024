-- How far a placing is at a new term, and the moment after the stores that enter it.
use Rattle.std.specs.Prelude.{◌≡◌, ℕ, [], ◌∷◌, ◌++◌, length}
use Rattle.eb_base.specs.Term.{Term}
use Rattle.eb_base.specs.Document.{Doc}
use Rattle.eb_place.specs.declared.moment.Moment.{Moment}
use Rattle.eb_place.specs.Layout.Region.{text_region}
use Rattle.eb_place.specs.Placing.{in_row, text_of, enter_stores}
use Rattle.eb_place.specs.Later.{IsNotBefore}
use Rattle.eb_place.specs.NextStores.{AreNext, with_stores}
use Rattle.eb_place.specs.Seen.{entered}
use Rattle.eb_terms.specs.Finding.{HasNumber}

-- the next stores are those that enter the term in the segment, after the terms that are entered
-- there
abbrev pub IsNextTerm : Moment → Doc → ℕ → Term → Type 0
IsNextTerm m d s t = AreNext m d (enter_stores m.setting s (entered m s) t)

-- the next stores are the text words of the term, from this text word of the segment on
abbrev pub IsNextText : Moment → Doc → ℕ → ℕ → Term → Type 0
IsNextText m d s start t = AreNext m d (in_row s text_region start (text_of t))

-- n is not before m, and of the placing of d exactly the stores that enter the term are done
-- besides: it is the last entered term, and has this number
pub record HasEntered (m n : Moment) (d : Doc) (s : ℕ) (t : Term) (k : ℕ) : Type 0 where
  pub later : IsNotBefore n m
  pub documents : n.documents ≡ with_stores m.documents d (length (enter_stores m.setting s (entered m s) t))
  pub terms : entered n s ≡ entered m s ++ t ∷ []
  pub number : HasNumber n s t k
