-- What the program leaves, by the command that the words ask for and by the dialect: `l0` and `l1`
-- are what the source has left before and after it, and `p0` and `p1` what `out` has taken, each
-- where that is known.
use Rattle.eb_fields.specs.Dialect.{Dialect}
use Rattle.std.specs.Prelude.{◌≡◌, ◌⊎◌, ℕ, ◌<◌, Bool, true, false, List, [], ◌++◌, length, Option, Some, None}
use Rattle.run_store.specs.Text.{EndsOf, WroteOf, MeansOf}
use Rattle.run_images.specs.Loaded.{Loaded, EndsLoad, IsImage, WhyUnread, WroteLoaded, MeansLoaded, IsBodyBehind, IsTextBehind, HasRefusalBehind, HasNoRefusalBehind}
use Rattle.run_images.specs.Saved as saved
use Rattle.eb_base.specs.Document.{Doc}
use Rattle.eb_base.specs.Setting.{Setting, IsSetting}
use Rattle.eb_gen.specs.Made.{made}
use Rattle.eb_image.specs.Image.{image_of}
use Rattle.eb_image.specs.Reading.{IsBad}
use Rattle.eb_io.specs.Lines.{longest_input, lines_of}
use Rattle.eb_io.specs.Source.{after}
use Rattle.eb_lines.specs.declared.form.Form.{Form}
use Rattle.eb_lines.specs.declared.status.Status.{Status}
use Rattle.eb_lines.specs.declared.status.Status.TheVariants.{Done, Refused, BadImage}
use Rattle.eb_lines.specs.Outcomes as outcomes
use Rattle.eb_lines.specs.Passing as passing
use Rattle.eb_place.specs.Room.{IsLawful}
use Rattle.eb_run.specs.declared.command.Command.{Command}
use Rattle.eb_run.specs.declared.command.Command.TheVariants.{Run, Bench, Save, Load}
use Rattle.eb_run.specs.declared.command.mode.Mode.{Mode}
use Rattle.eb_run.specs.Bench.{WroteBench, MeansBench, PrintsFigures}
use Rattle.eb_run.specs.Output.{run_rules}

-- ---- how a command ends, also where source and `out` tell no bytes

abbrev pub EndsRun : Dialect → Setting → Mode → Form → Status → (l0 l1 p0 p1 : Option (List ℕ)) → Type 0
EndsRun how σ mode form = let r = run_rules how σ mode form in EndsOf r.other r.way r.rules

abbrev pub EndsBy : Dialect → Command → Status → (l0 l1 p0 p1 : Option (List ℕ)) → Type 0
EndsBy how (Run mode form σ) status l0 l1 p0 p1 = EndsRun how σ mode form status l0 l1 p0 p1
EndsBy how (Bench start count) status l0 l1 p0 p1 = PrintsFigures status (lines_of (made start count)) p0 p1
EndsBy how (Save σ) status l0 l1 p0 p1 =
    let a = saved.asked how σ in passing.Ends (saved.AreParts a) (saved.IsSaved a) (saved.HasUnsaved a) (saved.HasNoUnsaved a) status l0 l1 p0 p1
EndsBy how (Load form) status l0 l1 p0 p1 = EndsLoad how form status l0 l1 p0 p1

-- ---- what is printed

-- where both tell their bytes, `out` took more what a status says of the bytes of the source
abbrev pub Prints : (List ℕ → Option (List ℕ) → List ℕ → Type 0) → (l0 l1 p0 p1 : Option (List ℕ)) → Type 0
Prints wrote l0 l1 p0 p1 = (bytes before : List ℕ) → l0 ≡ Some bytes → p0 ≡ Some before → (printed : List ℕ) × (p1 ≡ Some (before ++ printed)) × wrote bytes l1 printed

-- an image is a prefix of these bytes, and then a rest
pub record HasImage (bytes : List ℕ) : Type 0 where
  pub setting : Setting
  pub documents : List Doc
  pub rest : List ℕ
  pub allowed : IsSetting setting
  pub lawful : IsLawful setting documents
  pub is : bytes ≡ image_of setting documents ++ rest

-- what a load that ends so has printed, of any bytes: nothing where no image was read to its end,
-- and else what it says of the lines after it
abbrev pub WroteLoad : Dialect → Form → Status → List ℕ → Option (List ℕ) → List ℕ → Type 0
WroteLoad how form status bytes left printed = ((printed ≡ []) × ((taken : List ℕ) × outcomes.AreTaken bytes left taken × WhyUnread status taken left))
    ⊎ ((i : HasImage bytes) × (let a : Loaded = record { dialect = how; setting = i.setting; documents = i.documents; form = form } in
    outcomes.Wrote (IsBodyBehind a) (IsTextBehind a) (HasRefusalBehind a) (HasNoRefusalBehind a) status i.rest left printed))

-- of bytes that are an image and a rest, it is what it says of the rest; at BadImage `out` took
-- nothing, also where it tells no bytes
pub record RanLoad (how : Dialect) (form : Form) (status : Status) (l0 l1 p0 p1 : Option (List ℕ)) : Type 0 where
  pub all : Prints (WroteLoad how form status) l0 l1 p0 p1
  pub lines : (σ : Setting) (docs : List Doc) (rest before : List ℕ) → IsSetting σ → IsLawful σ docs → l0 ≡ Some (image_of σ docs ++ rest) → p0 ≡ Some before
      → (printed : List ℕ) × (p1 ≡ Some (before ++ printed)) × WroteLoaded (record { dialect = how; setting = σ; documents = docs; form = form }) status rest l1 printed
  pub bad_image : status ≡ BadImage → p1 ≡ p0

abbrev pub Ran : Dialect → Command → Status → (l0 l1 p0 p1 : Option (List ℕ)) → Type 0
Ran how (Run mode form σ) status l0 l1 p0 p1 = let r = run_rules how σ mode form in Prints (WroteOf r.other r.way r.rules status) l0 l1 p0 p1
Ran how (Bench start count) status l0 l1 p0 p1 = (before : List ℕ) → p0 ≡ Some before → (printed : List ℕ) × (p1 ≡ Some (before ++ printed)) × WroteBench status start count printed
Ran how (Save σ) status l0 l1 p0 p1 = Prints (saved.WroteSaved (saved.asked how σ) status) l0 l1 p0 p1
Ran how (Load form) status l0 l1 p0 p1 = RanLoad how form status l0 l1 p0 p1

-- ---- what the status means, whatever became of the output

abbrev pub Told : (List ℕ → Option (List ℕ) → Type 0) → (l0 l1 : Option (List ℕ)) → Type 0
Told means l0 l1 = (bytes : List ℕ) → l0 ≡ Some bytes → means bytes l1

pub record LoadMeans (how : Dialect) (form : Form) (status : Status) (l0 l1 : Option (List ℕ)) : Type 0 where
  -- at Done and Refused the input was an image and lines
  pub image : (status ≡ Done) ⊎ (status ≡ Refused) → (bytes : List ℕ) → l0 ≡ Some bytes → HasImage bytes
  pub lines : (σ : Setting) (docs : List Doc) (rest : List ℕ) → IsSetting σ → IsLawful σ docs → l0 ≡ Some (image_of σ docs ++ rest)
      → MeansLoaded (record { dialect = how; setting = σ; documents = docs; form = form }) status rest l1
  pub bad_image : status ≡ BadImage → (taken : List ℕ) × (l0 ≡ after taken l1) × IsBad IsImage taken l1

abbrev pub Means : Dialect → Command → Status → (l0 l1 : Option (List ℕ)) → Type 0
Means how (Run mode form σ) status l0 l1 = let r = run_rules how σ mode form in Told (MeansOf r.other r.rules status) l0 l1
Means how (Bench start count) status l0 l1 = MeansBench status start count
Means how (Save σ) status l0 l1 = Told (saved.MeansSaved (saved.asked how σ) status) l0 l1
Means how (Load form) status l0 l1 = LoadMeans how form status l0 l1

-- ---- when the input is processed

-- where no fault comes, and the source ends in time
abbrev pub InTime : (read_risen write_risen : Type 0) → Status → Option (List ℕ) → Type 0
InTime read_risen write_risen status l0 = (read_risen → ⊥) → (write_risen → ⊥) → (bytes : List ℕ) → l0 ≡ Some bytes → length bytes < longest_input → outcomes.IsWorkedOff status

abbrev pub Completes : Command → (read_risen write_risen : Type 0) → Status → Option (List ℕ) → Type 0
Completes (Run mode form σ) read_risen write_risen status l0 = InTime read_risen write_risen status l0
Completes (Bench start count) read_risen write_risen status l0 = (write_risen → ⊥) → outcomes.IsWorkedOff status
Completes (Save σ) read_risen write_risen status l0 = InTime read_risen write_risen status l0
Completes (Load form) read_risen write_risen status l0 = (read_risen → ⊥) → (write_risen → ⊥)
    → (σ : Setting) (docs : List Doc) (rest : List ℕ) → IsSetting σ → IsLawful σ docs → l0 ≡ Some (image_of σ docs ++ rest) → length rest < longest_input → outcomes.IsWorkedOff status

-- ---- whether the source is read

abbrev pub reads_source : Option Command → Bool
reads_source None = false
reads_source (Some (Run mode form σ)) = true
reads_source (Some (Bench start count)) = false
reads_source (Some (Save σ)) = true
reads_source (Some (Load form)) = true
