-- What the calls write and take of images.
use Rattle.std.specs.Prelude.{◌≡◌, ◌⊎◌, ℕ, ◌==◌, ◌<◌, ◌≤◌, List, ◌++◌, length, drop, Result, Ok, Err, if◌then◌else◌}
use Rattle.eb_base.specs.Document.{Doc}
use Rattle.eb_base.specs.Setting.{Setting}
use Rattle.eb_image.specs.declared.first.FirstHead.{FirstHead}
use Rattle.eb_image.specs.declared.first.FirstHead.TheVariants as head
use Rattle.eb_image.specs.declared.first.FirstPart.{FirstPart}
use Rattle.eb_image.specs.declared.first.FirstPart.TheVariants as part
use Rattle.eb_image.specs.First.{IsFirstPart}
use Rattle.eb_image.specs.Image.{document_part}
use Rattle.eb_c.specs.declared.index.Index.{Index}
use Rattle.eb_c.specs.declared.refusal.Refusal.{Refusal}
use Rattle.eb_c.specs.declared.refusal.Refusal.TheVariants as refusal
use Rattle.eb_c.specs.Numbers.{refusal_number}
use Rattle.eb_c.specs.Holding.{Holds}
use Rattle.eb_c.specs.Adding.{number_after, docs_after}

-- ---- what is written

-- the bytes are written into the first of those that were there; or these are too few, and are as
-- before
abbrev pub Puts : List ℕ → ℕ → List ℕ → List ℕ → Type 0
Puts bytes number old new = ((number ≡ 0) × (length bytes ≤ length old) × (new ≡ bytes ++ drop (length bytes) old))
    ⊎ ((number ≡ refusal_number refusal.ShortRoom) × (length old < length bytes) × (new ≡ old))

-- the part of the document that was read is written so, and how many bytes it has is reported;
-- there may be no memory for it
abbrev pub PutsPart : Result Doc Refusal → ℕ → ℕ → List ℕ → List ℕ → Type 0
PutsPart (Ok d) number len old new = ((len ≡ length (document_part d)) × Puts (document_part d) number old new)
    ⊎ ((number ≡ refusal_number refusal.NoMemory) × (len ≡ 0) × (new ≡ old))
PutsPart (Err r) number len old new = (number ≡ refusal_number r) × (len ≡ 0) × (new ≡ old)

-- ---- what is read

-- what a call answers for what some bytes begin with, and the setting that it reports; where they
-- begin with no head, the one before
abbrev pub TellsHead : FirstHead → ℕ → Setting → Setting → Type 0
TellsHead (head.Head σ) number old new = (number ≡ 0) × (new ≡ σ)
TellsHead head.More number old new = (number ≡ refusal_number refusal.MoreBytes) × (new ≡ old)
TellsHead head.Bad number old new = (number ≡ refusal_number refusal.BadImage) × (new ≡ old)

-- the document of a part, or why there is none
abbrev pub document_read : FirstPart → Result Doc Refusal
document_read (part.Part d n) = Ok d
document_read part.Last = Err refusal.ImageEnd
document_read part.More = Err refusal.MoreBytes
document_read part.Bad = Err refusal.BadImage

-- how many bytes the part has
abbrev pub part_len : FirstPart → ℕ
part_len (part.Part d n) = n
part_len part.Last = 0
part_len part.More = 0
part_len part.Bad = 0

-- this document is read of the part that the bytes begin with, which has n bytes; there may be no
-- memory to read it
abbrev pub IsReadOfPart : List ℕ → Result Doc Refusal → ℕ → Type 0
IsReadOfPart bytes r n = (r ≡ Err refusal.NoMemory)
    ⊎ ((first : FirstPart) × IsFirstPart bytes first × (r ≡ document_read first) × (n ≡ part_len first))

-- how many bytes an add took that answered this: those of the part where it is accepted
abbrev pub taken_by : ℕ → ℕ → ℕ
taken_by number n = if number == 0 then n else 0

-- what a call answers that adds the document of a part, how many bytes it took, and what the index
-- holds then
abbrev pub AddsPart : List ℕ → List Doc → Setting → ℕ → ℕ → Index → List ℕ → Type 0
AddsPart bytes docs σ number taken i words = (r : Result Doc Refusal) × (n : ℕ) × IsReadOfPart bytes r n
    × (number ≡ number_after σ docs r) × (taken ≡ taken_by number n) × Holds i words (docs_after σ docs r)
