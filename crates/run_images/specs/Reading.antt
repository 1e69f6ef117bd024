-- How far the reading of an image is.
use Rattle.std.specs.Prelude.{◌≡◌, ℕ, List, [], ◌∷◌, ◌++◌, Option, Some, None, Result, Ok, Err}
use Rattle.std.specs.List.{flat_map}
use Rattle.eb_base.specs.Document.{Doc}
use Rattle.eb_base.specs.Setting.{Setting, IsSetting}
use Rattle.eb_image.specs.Image.{head_of, document_part, image_of}
use Rattle.eb_image.specs.declared.fault.ImageFault.{ImageFault}
use Rattle.eb_image.specs.declared.fault.ImageFault.TheVariants as fault
use Rattle.eb_io.specs.Source.{after}
use Rattle.eb_lines.specs.declared.status.Status.{Status}
use Rattle.eb_lines.specs.declared.status.Status.TheVariants.{ReadFault, NoMemory, BadImage}
use Rattle.eb_place.specs.Room.{IsLawful}
use Rattle.run_index.specs.declared.indexed.Indexed.{Indexed}
use Rattle.run_images.specs.Loaded.{WhyUnread}
use Rattle.run_index.specs.Indexed.{Holds}

-- the status of a load that meets this fault
abbrev pub status_of : ImageFault → Status
status_of fault.BadImage = BadImage
status_of fault.ReadFault = ReadFault
status_of fault.NoMemory = NoMemory

-- the head and the parts of these documents were read, and the index holds them
pub record HasRead (s : Indexed) (σ : Setting) (docs : List Doc) (first left : Option (List ℕ)) : Type 0 where
  pub lawful : IsLawful σ docs
  pub store : Holds s σ docs
  pub taken : first ≡ after (head_of σ ++ flat_map document_part docs) left

-- an image was read, exactly its bytes, and the index holds its documents
pub record IsFilled (s : Indexed) (first left : Option (List ℕ)) : Type 0 where
  pub setting : Setting
  pub documents : List Doc
  pub allowed : IsSetting setting
  pub lawful : IsLawful setting documents
  pub store : Holds s setting documents
  pub taken : first ≡ after (image_of setting documents) left

-- the reading stopped at this fault before the end of an image
pub record IsReadingStopped (f : ImageFault) (first left : Option (List ℕ)) : Type 0 where
  pub bytes : List ℕ
  pub taken : first ≡ after bytes left
  pub why : WhyUnread (status_of f) bytes left

-- what comes after these documents: one more, or the end, or a fault
abbrev pub ComesNext : {R : Type 0} → Result (Option R) ImageFault → Indexed → Setting → List Doc → Option (List ℕ) → Option (List ℕ) → Type 0
ComesNext (Ok (Some r)) s σ docs first left = (d : Doc) × HasRead s σ (docs ++ d ∷ []) first left
ComesNext (Ok None) s σ docs first left = IsFilled s first left
ComesNext (Err f) s σ docs first left = IsReadingStopped f first left
