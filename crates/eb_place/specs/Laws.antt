-- Laws over the definitions, which the public functions of src/laws.rt prove.
use Rattle.std.specs.Prelude.{◌≡◌, ℕ, ◌<◌, List, [], ◌∷◌, ◌++◌, length, Contains, if◌then◌else◌, ◌==◌}
use Rattle.eb_base.specs.Document.{Doc}
use Rattle.eb_base.specs.Setting.{Setting, IsSetting}
use Rattle.eb_place.specs.declared.moment.Moment.{Moment}
use Rattle.eb_place.specs.Room.{cut, IsLawful}
use Rattle.eb_place.specs.Placing.{placing}
use Rattle.eb_place.specs.Conversion.{conversion}
use Rattle.eb_place.specs.Moments.{word, IsMoment}
use Rattle.eb_place.specs.Later.{IsNotBefore}
use Rattle.eb_place.specs.NextStores.{IsNext, after_store, IsNextPut, after_put}
use Rattle.eb_place.specs.Meets.{later_of}

-- the words of the second moment are those of the first, but for one value at one place
abbrev pub ChangesOneWord : Moment → Moment → ℕ → ℕ → Type 0
ChangesOneWord m n at value = (p : ℕ) → word n p ≡ (if at == p then value else word m p)

-- the next store of a placing changes the word at its own place alone
abbrev pub StoreChangesOneWord : Type 0
StoreChangesOneWord = (m : Moment) (d : Doc) (at value : ℕ) → IsMoment m → IsNext m d at value → ChangesOneWord m (after_store m d) at value

-- and so does the next store of a conversion
abbrev pub PutChangesOneWord : Type 0
PutChangesOneWord = (m : Moment) (at value : ℕ) → IsMoment m → IsNextPut m at value → ChangesOneWord m (after_put m) at value

-- d is the least moment after both
pub record IsLeastAfter (m n d : Moment) : Type 0 where
  pub moment : IsMoment d
  pub first : IsNotBefore d m
  pub second : IsNotBefore d n
  pub least : (l : Moment) → IsNotBefore l m → IsNotBefore l n → IsNotBefore l d

-- two moments that a third comes after have a least moment after both
abbrev pub MomentsMeet : Type 0
MomentsMeet = (m n l : Moment) → IsMoment m → IsMoment n → IsNotBefore l m → IsNotBefore l n → IsLeastAfter m n (later_of m n)

-- no store of the placing of a document goes to a place of the conversion of a segment
abbrev pub PlacesAreApart : Type 0
PlacesAreApart = (σ : Setting) (docs all : List Doc) (d : Doc) (s at v w : ℕ) → IsSetting σ → IsLawful σ (docs ++ d ∷ []) → IsLawful σ all → s < length (cut σ all)
    → Contains (placing σ docs d) (at, v) → Contains (conversion σ all s) (at, w) → ⊥
