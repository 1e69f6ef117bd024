-- What some bytes begin with, where an image is read from them.
use Rattle.std.specs.Prelude.{◌≡◌, ℕ, ◌≤◌, List, length, take}
use Rattle.eb_base.specs.Document.{IsDocument}
use Rattle.eb_base.specs.Setting.{IsSetting}
use Rattle.eb_image.specs.declared.first.FirstHead.{FirstHead}
use Rattle.eb_image.specs.declared.first.FirstHead.TheVariants as head
use Rattle.eb_image.specs.declared.first.FirstPart.{FirstPart}
use Rattle.eb_image.specs.declared.first.FirstPart.TheVariants as part
use Rattle.eb_image.specs.declared.first.FirstLength.{FirstLength}
use Rattle.eb_image.specs.declared.first.FirstLength.TheVariants as len
use Rattle.eb_image.specs.Image.{head_of, document_part, last_byte, IsFront}
use Rattle.eb_image.specs.Reading.{IsHead, IsNextPart, Begins, HasNone, HasBegun}
use Rattle.eb_image.specs.Scan.{longest_part}

-- the bytes begin with nothing of this form, and they begin nothing of it
pub record HasNothing (Form : List ℕ → Type 0) (bytes : List ℕ) : Type 0 where
  pub none : HasNone Form bytes
  pub never : Begins Form bytes → ⊥

-- the bytes begin with the head of this setting, which is allowed; or they begin one, and have no
-- whole one; or they begin none
abbrev pub IsFirstHead : List ℕ → FirstHead → Type 0
IsFirstHead bytes (head.Head σ) = IsSetting σ × IsFront (head_of σ) bytes
IsFirstHead bytes head.More = HasBegun IsHead bytes
IsFirstHead bytes head.Bad = HasNothing IsHead bytes

-- the bytes begin with the part of this document, which is within the limits and has this many
-- bytes; or with the byte 0; or they begin one of these, and have no whole one; or they begin none
abbrev pub IsFirstPart : List ℕ → FirstPart → Type 0
IsFirstPart bytes (part.Part d n) = IsDocument d × IsFront (document_part d) bytes × (n ≡ length (document_part d))
IsFirstPart bytes part.Last = IsFront last_byte bytes
IsFirstPart bytes part.More = HasBegun IsNextPart bytes
IsFirstPart bytes part.Bad = HasNothing IsNextPart bytes

-- the same, where the first bytes, this many, are the part or the byte 0
abbrev pub IsFirstLength : List ℕ → FirstLength → Type 0
IsFirstLength bytes (len.Whole n) = IsNextPart (take n bytes) × (n ≤ length bytes) × (n ≤ longest_part)
IsFirstLength bytes len.More = HasBegun IsNextPart bytes
IsFirstLength bytes len.Bad = HasNothing IsNextPart bytes
