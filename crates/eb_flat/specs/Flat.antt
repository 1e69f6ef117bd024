-- The words of an index in one list.
use Rattle.std.specs.Prelude.{◌≡◌, ℕ, ◌≤◌, List, length, take, replicate}
use Rattle.eb_base.specs.Setting.{Setting, IsSetting, words_of}
use Rattle.eb_place.specs.declared.moment.Moment.{Moment}
use Rattle.eb_place.specs.Moments.{image, IsMoment}

-- a setting, and all words in order
pub record Flat : Type 0 where
  pub setting : Setting
  pub words : List ℕ

-- the words are the image of this moment, which is one of this setting
pub record StandsFor (f : Flat) (m : Moment) : Type 0 where
  pub setting : m.setting ≡ f.setting
  pub moment : IsMoment m
  pub image : f.words ≡ image m

-- words of this setting, of which the first n are 0: an index that is being emptied
pub record IsEmptied (f : Flat) (σ : Setting) (n : ℕ) : Type 0 where
  pub setting : f.setting ≡ σ
  pub allowed : IsSetting σ
  pub number : length f.words ≡ words_of σ
  pub within : n ≤ words_of σ
  pub zeros : take n f.words ≡ replicate n 0
