-- What a reader of an image answers by the bytes that it took.
use Rattle.std.specs.Prelude.{◌≡◌, ℕ, ◌⊎◌, List, Option}
use Rattle.eb_base.specs.Document.{Doc, IsDocument}
use Rattle.eb_base.specs.Setting.{Setting, IsSetting}
use Rattle.eb_io.specs.Source.{IsEmpty}
use Rattle.eb_image.specs.Image.{head_of, document_part, last_byte, IsFront}

-- the head of an allowed setting
pub record IsHead (bytes : List ℕ) : Type 0 where
  pub setting : Setting
  pub allowed : IsSetting setting
  pub is : bytes ≡ head_of setting

-- the head of this setting, which is allowed
pub record IsHeadOf (σ : Setting) (bytes : List ℕ) : Type 0 where
  pub allowed : IsSetting σ
  pub is : bytes ≡ head_of σ

-- the part of a document within the limits
pub record IsPart (bytes : List ℕ) : Type 0 where
  pub document : Doc
  pub within : IsDocument document
  pub is : bytes ≡ document_part document

-- the part of this document, which is within the limits
pub record IsPartOf (d : Doc) (bytes : List ℕ) : Type 0 where
  pub within : IsDocument d
  pub is : bytes ≡ document_part d

-- what may come after a head or a part: the part of a document within the limits, or the byte 0
abbrev pub IsNextPart : List ℕ → Type 0
IsNextPart bytes = (bytes ≡ last_byte) ⊎ IsPart bytes

-- the bytes are a prefix of something of this form, or all of it
abbrev pub Begins : (List ℕ → Type 0) → List ℕ → Type 0
Begins Form bytes = (whole : List ℕ) × Form whole × IsFront bytes whole

-- no bytes of this form are a prefix
abbrev pub HasNone : (List ℕ → Type 0) → List ℕ → Type 0
HasNone Form bytes = (whole : List ℕ) → Form whole → IsFront whole bytes → ⊥

-- these bytes were taken, and after them this is left: nothing of the form came, and nothing of it
-- can come, since the bytes begin none or the source ended
pub record IsBad (Form : List ℕ → Type 0) (taken : List ℕ) (left : Option (List ℕ)) : Type 0 where
  pub none : HasNone Form taken
  pub never : (Begins Form taken → ⊥) ⊎ IsEmpty left

-- nothing of the form came yet, and the bytes begin something of it
pub record HasBegun (Form : List ℕ → Type 0) (taken : List ℕ) : Type 0 where
  pub none : HasNone Form taken
  pub begins : Begins Form taken
