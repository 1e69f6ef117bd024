-- What `load` makes of an image and of the lines after it.
use Rattle.eb_fields.specs.Dialect.{Dialect}
use Rattle.std.specs.Prelude.{◌≡◌, ℕ, ◌<◌, ◌⊎◌, List, [], ◌++◌, length, Option, Some}
use Rattle.std.specs.List.{flat_map}
use Rattle.run_store.specs.Rules.{Rules, is_bad, HasRefusal, HasNoRefusal}
use Rattle.run_store.specs.Sees.{exactly}
use Rattle.run_store.specs.Text.{IsBody, IsText, EndsOf, WroteOf, MeansOf}
use Rattle.eb_base.specs.Document.{Doc}
use Rattle.eb_base.specs.Setting.{Setting, IsSetting}
use Rattle.eb_image.specs.Image.{head_of, document_part, image_of}
use Rattle.eb_image.specs.Reading.{IsBad, IsHead, IsNextPart, HasBegun, HasNone}
use Rattle.run_index.specs.IndexRules.{index_rules}
use Rattle.eb_io.specs.Lines.{Line}
use Rattle.eb_io.specs.Source.{after}
use Rattle.eb_lines.specs.declared.form.Form.{Form}
use Rattle.eb_lines.specs.declared.status.Status.{Status}
use Rattle.eb_lines.specs.declared.status.Status.TheVariants.{Done, Refused, Usage, ReadFault, WriteFault, NoMemory, InputTooLong, BadImage}
use Rattle.eb_place.specs.Room.{IsLawful}

-- an index of this setting is loaded with these documents; lines are read by this dialect, and the
-- output is written in this form
pub record Loaded : Type 0 where
  pub dialect : Dialect
  pub setting : Setting
  pub documents : List Doc
  pub form : Form

-- an index can have this history
pub record IsLoadable (a : Loaded) : Type 0 where
  pub allowed : IsSetting a.setting
  pub lawful : IsLawful a.setting a.documents

-- the image of a history that an index can have
pub record IsImage (bytes : List ℕ) : Type 0 where
  pub setting : Setting
  pub documents : List Doc
  pub allowed : IsSetting setting
  pub lawful : IsLawful setting documents
  pub is : bytes ≡ image_of setting documents

-- an index that holds them at first: a query sees these and all that the lines before it added
abbrev pub rules_of : Loaded → Rules (Unit {0})
rules_of a = index_rules a.dialect a.setting a.form a.documents

-- the answers and refusals of these lines; their whole text
abbrev pub IsBodyBehind : Loaded → List Line → List ℕ → Type 0
IsBodyBehind a = IsBody is_bad exactly (rules_of a)

abbrev pub IsTextBehind : Loaded → List Line → List ℕ → Type 0
IsTextBehind a = IsText is_bad exactly (rules_of a)

-- some line is refused; none is
abbrev pub HasRefusalBehind : Loaded → List Line → Type 0
HasRefusalBehind a = HasRefusal is_bad (rules_of a)

abbrev pub HasNoRefusalBehind : Loaded → List Line → Type 0
HasNoRefusalBehind a = HasNoRefusal is_bad (rules_of a)

-- the head of a setting and the parts of documents that its index has room for, and then a prefix
-- of what may come after them
pub record HasBegunPart (taken : List ℕ) : Type 0 where
  pub setting : Setting
  pub documents : List Doc
  pub allowed : IsSetting setting
  pub lawful : IsLawful setting documents
  pub next : List ℕ
  pub begun : HasBegun IsNextPart next
  pub is : taken ≡ (head_of setting ++ flat_map document_part documents) ++ next

-- an image has begun and isn't whole: a prefix of a head, or a head, parts and a prefix of the next
-- one
abbrev pub HasBegunImage : List ℕ → Type 0
HasBegunImage taken = HasNone IsImage taken × (HasBegun IsHead taken ⊎ HasBegunPart taken)

-- why no image was read, where these bytes were taken and this is left: no image is a prefix of
-- them and none can be; or one has begun and isn't whole; or none came yet
abbrev pub WhyUnread : Status → List ℕ → Option (List ℕ) → Type 0
WhyUnread BadImage taken left = IsBad IsImage taken left
WhyUnread ReadFault taken left = HasBegunImage taken
WhyUnread NoMemory taken left = HasNone IsImage taken
WhyUnread Done taken left = ⊥
WhyUnread Refused taken left = ⊥
WhyUnread Usage taken left = ⊥
WhyUnread WriteFault taken left = ⊥
WhyUnread InputTooLong taken left = ⊥

-- no image was read to its end, and nothing was printed
pub record IsUnread (status : Status) (left_old left_new printed_old printed_new : Option (List ℕ)) : Type 0 where
  pub taken : List ℕ
  pub left : left_old ≡ after taken left_new
  pub why : WhyUnread status taken left_new
  pub printed : printed_new ≡ printed_old

-- an image was read, exactly its bytes, and then lines
pub record IsRead (how : Dialect) (form : Form) (status : Status) (left_old left_new printed_old printed_new : Option (List ℕ)) : Type 0 where
  pub loaded : Loaded
  pub loadable : IsLoadable loaded
  pub dialect : loaded.dialect ≡ how
  pub same : loaded.form ≡ form
  pub lines : Option (List ℕ)
  pub image : left_old ≡ after (image_of loaded.setting loaded.documents) lines
  pub ends : EndsOf is_bad exactly (rules_of loaded) status lines left_new printed_old printed_new

-- how a load ends
abbrev pub EndsLoad : Dialect → Form → Status → Option (List ℕ) → Option (List ℕ) → Option (List ℕ) → Option (List ℕ) → Type 0
EndsLoad how form status l0 l1 p0 p1 = IsUnread status l0 l1 p0 p1 ⊎ IsRead how form status l0 l1 p0 p1

-- the image wasn't read to its end, since a read failed or memory ran out: some of its bytes are
-- left, and all those of the lines
abbrev pub IsCutShort : Status → List ℕ → Option (List ℕ) → Type 0
IsCutShort status bytes left = ((status ≡ ReadFault) ⊎ (status ≡ NoMemory)) × ((t : List ℕ) × (0 < length t) × (left ≡ Some (t ++ bytes)))

-- what a load that ends so has printed, of these bytes of lines after the image of the loaded
-- documents, of which this is left: nothing where the image wasn't read to its end
abbrev pub WroteLoaded : Loaded → Status → List ℕ → Option (List ℕ) → List ℕ → Type 0
WroteLoaded a status bytes left printed = (IsCutShort status bytes left × (printed ≡ [])) ⊎ WroteOf is_bad exactly (rules_of a) status bytes left printed

-- what its status says of these bytes of lines, whatever became of the output
abbrev pub MeansLoaded : Loaded → Status → List ℕ → Option (List ℕ) → Type 0
MeansLoaded a status bytes left = IsCutShort status bytes left ⊎ MeansOf is_bad (rules_of a) status bytes left
