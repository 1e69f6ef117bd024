-- What the words of a command line ask; they are without the program's name.
use Rattle.eb_fields.specs.Dialect.{Dialect, plain}
use Rattle.std.specs.Prelude.{ℕ, ◌*◌, ◌^◌, ◌≤◌, ◌&&◌, Bool, true, false, List, [], ◌∷◌, ◌++◌, codes, nat_le, Option, Some, None, if◌then◌else◌, option_map, option_and_then}
use Rattle.std.specs.Str.{bytes_eq}
use Rattle.eb_base.specs.Setting.{Setting, words_of}
use Rattle.eb_lines.specs.declared.form.Form.{Form}
use Rattle.eb_options.specs.Numbers.{number}
use Rattle.eb_options.specs.Items.{Items, has, items_of, option_number}
use Rattle.eb_options.specs.Settings.{setting_of, setting_options}
use Rattle.eb_options.specs.Texts.{Apart, text_apart}
use Rattle.eb_fields.specs.Fields.{is_field_list, names_in}
use Rattle.eb_text.specs.declared.cutting.Cut.{Cut}
use Rattle.eb_text.specs.declared.cutting.Cut.TheVariants.{Words, Pieces}
use Rattle.eb_run.specs.declared.command.Command.{Command}
use Rattle.eb_run.specs.declared.command.Command.TheVariants.{Run, Bench, Save, Load}
use Rattle.eb_run.specs.declared.command.mode.Mode.{Mode}
use Rattle.eb_run.specs.declared.command.mode.Mode.TheVariants.{InOrder, Overlap, Workers, Parts, OverlapParts, Watch}

-- in which form the output is written, where the items say so
abbrev pub form_of : Items → Form
form_of items = record { json = has (codes "json") items; stats = has (codes "stats") items }

-- ---- counts

-- a command, and whether its lines may ask for counts
pub record Counting : Type 0 where
  pub counts : Bool
  pub command : Command

abbrev pub counting : Bool → Command → Counting
counting counts c = record { counts = counts; command = c }

-- ---- `run`

-- its flags and its options
abbrev pub run_flags : List (List ℕ)
run_flags = codes "overlap" ∷ codes "watch" ∷ codes "json" ∷ codes "stats" ∷ codes "counts" ∷ []

abbrev pub run_options : List (List ℕ)
run_options = codes "workers" ∷ codes "parts" ∷ setting_options

-- 1 to 16
abbrev pub is_few : ℕ → Bool
is_few n = nat_le 1 n && nat_le n 16

-- with this many workers
abbrev pub with_workers : ℕ → Option Mode
with_workers n = if is_few n then Some (Workers n) else None

-- over this many parts, with or without overlap, which together have at most as many words as an
-- index may have
abbrev pub over_parts : ℕ → Bool → Setting → Option Mode
over_parts n overlap σ = if is_few n && nat_le (n * words_of σ) (2 ^ 27) then Some (if overlap then OverlapParts n else Parts n) else None

-- at most one of overlap, watches, workers and parts, except that overlap may go with parts
abbrev pub mode_by : Bool → Bool → Option ℕ → Option ℕ → Setting → Option Mode
mode_by false false None None σ = Some InOrder
mode_by true false None None σ = Some Overlap
mode_by false true None None σ = Some Watch
mode_by false false (Some n) None σ = with_workers n
mode_by overlap false None (Some n) σ = over_parts n overlap σ
mode_by overlap watch workers parts σ = None

abbrev pub mode_of : Items → Setting → Option Mode
mode_of items σ = mode_by (has (codes "overlap") items) (has (codes "watch") items) (option_number (codes "workers") items) (option_number (codes "parts") items) σ

-- what the items after `run` ask for
abbrev pub run_with : Items → Option Command
run_with items = option_and_then (λ σ. option_map (λ mode. Run mode (form_of items) σ) (mode_of items σ)) (setting_of items)

-- what the words after `run` ask for: its flags and options, in any order, each at most once
abbrev pub run_of : List (List ℕ) → Option Counting
run_of words = option_and_then (λ items. option_map (counting (has (codes "counts") items)) (run_with items)) (items_of run_flags run_options words)

-- ---- `bench`

-- one to nine digits of value 1 to 40,000
abbrev pub bench_docs : List ℕ → Option ℕ
bench_docs word = option_and_then (λ n. if nat_le 1 n && nat_le n 40000 then Some n else None) (number 9 word)

-- the words after `bench`: exactly START and DOCS
abbrev pub bench_of : List (List ℕ) → Option Command
bench_of (start ∷ docs ∷ []) = option_and_then (λ first. option_map (λ count. Bench first count) (bench_docs docs)) (number 20 start)
bench_of words = None

-- ---- `save` and `load`

-- what the items after `save` ask for
abbrev pub save_with : Items → Option Command
save_with items = option_map (λ σ. Save σ) (setting_of items)

-- what the words after `save` ask for: the options of a setting
abbrev pub save_of : List (List ℕ) → Option Counting
save_of words = option_map (counting false) (option_and_then save_with (items_of [] setting_options words))

abbrev pub load_flags : List (List ℕ)
load_flags = codes "json" ∷ codes "stats" ∷ codes "counts" ∷ []

-- what the items after `load` ask for
abbrev pub load_with : Items → Command
load_with items = Load (form_of items)

-- what the words after `load` ask for: its flags, in any order, each at most once
abbrev pub load_of : List (List ℕ) → Option Counting
load_of words = option_map (λ items. counting (has (codes "counts") items) (load_with items)) (items_of load_flags [] words)

-- ---- what is in range

-- where there are workers or parts, they are 1 to 16
abbrev pub HasFew : Mode → Type 0
HasFew InOrder = Unit {0}
HasFew Overlap = Unit {0}
HasFew (Workers n) = (1 ≤ n) × (n ≤ 16)
HasFew (Parts n) = (1 ≤ n) × (n ≤ 16)
HasFew (OverlapParts n) = (1 ≤ n) × (n ≤ 16)
HasFew Watch = Unit {0}

-- and a made input has at most 40,000 documents
abbrev pub IsInRange : Command → Type 0
IsInRange (Run mode form σ) = HasFew mode
IsInRange (Bench start docs) = docs ≤ 40000
IsInRange (Save σ) = Unit {0}
IsInRange (Load form) = Unit {0}

-- ---- how lines are read

-- how lines are read, and the words that ask for the rest
pub record DialectApart : Type 0 where
  pub dialect : Dialect
  pub others : List (List ℕ)

-- the names that a list of fields gives, if it is in the grammar; none where there is no list
abbrev pub fields_in : Option (List ℕ) → Option (List (List ℕ))
fields_in None = Some []
fields_in (Some text) = if is_field_list text then Some (names_in text) else None

-- how texts are cut: `pieces`, and words where nothing is said
abbrev pub cut_in : Option (List ℕ) → Option Cut
cut_in None = Some Words
cut_in (Some text) = if bytes_eq text (codes "pieces") then Some Pieces else None

-- the name of a member: any text that isn't empty; none where nothing is said
abbrev pub member_in : Option (List ℕ) → Option (Option (List ℕ))
member_in None = Some None
member_in (Some []) = None
member_in (Some (b ∷ bs)) = Some (Some (b ∷ bs))

-- the options that say how lines are read, each with a text
abbrev pub text_options : List (List ℕ)
text_options = codes "fields" ∷ codes "words" ∷ codes "id" ∷ codes "text" ∷ []

-- the text of the option of this name, if it is among words whose options with a value are these;
-- and the words without it
abbrev pub text_of : List ℕ → List (List ℕ) → List (List ℕ) → Option (Option (List ℕ))
text_of name options words = option_map (λ (a : Apart). a.text) (text_apart name options words)

abbrev pub without : List ℕ → List (List ℕ) → List (List ℕ) → Option (List (List ℕ))
without name options words = option_map (λ (a : Apart). a.others) (text_apart name options words)

-- how lines are read, by these options among the words
abbrev pub dialect_in : List (List ℕ) → List (List ℕ) → Option Dialect
dialect_in options words =
    option_and_then (λ names. option_and_then (λ cut. option_and_then (λ id. option_map (λ text. record plain { names = names; cut = cut; id = id; text = text })
    (option_and_then member_in (text_of (codes "text") options words))) (option_and_then member_in (text_of (codes "id") options words)))
    (option_and_then cut_in (text_of (codes "words") options words))) (option_and_then fields_in (text_of (codes "fields") options words))

-- the words without these options
abbrev pub others_in : List (List ℕ) → List (List ℕ) → Option (List (List ℕ))
others_in options words =
    option_and_then (without (codes "text") options) (option_and_then (without (codes "id") options)
    (option_and_then (without (codes "words") options) (without (codes "fields") options words)))

-- the words after the name of a command whose options with a value are these, without those that
-- say how lines are read, and how lines are read
abbrev pub dialect_apart : List (List ℕ) → List (List ℕ) → Option DialectApart
dialect_apart options words = option_and_then (λ how. option_map (λ others. record { dialect = how; others = others }) (others_in options words)) (dialect_in options words)

-- ---- the command

-- what words ask for: how lines are read, and a command
pub record Asks : Type 0 where
  pub dialect : Dialect
  pub command : Command

abbrev pub asks : Dialect → Command → Asks
asks how command = record { dialect = how; command = command }

-- a command, of which lines are read so, with counts where they are asked for
abbrev pub asks_counting : Dialect → Counting → Asks
asks_counting how c = asks (record how { counts = c.counts }) c.command

-- the words after the name of a command that has these options with numbers: how they say that
-- lines are read, and what else they ask
abbrev pub with_dialect : List (List ℕ) → (List (List ℕ) → Option Counting) → List (List ℕ) → Option Asks
with_dialect options ask words = option_and_then (λ (a : DialectApart). option_map (asks_counting a.dialect) (ask a.others)) (dialect_apart (text_options ++ options) words)

-- what the words ask for, if they are in the grammar
abbrev pub asked_of : List (List ℕ) → Option Asks
asked_of [] = None
asked_of (name ∷ words) =
    if bytes_eq name (codes "run") then with_dialect run_options run_of words
    else (if bytes_eq name (codes "bench") then option_map (asks plain) (bench_of words)
    else (if bytes_eq name (codes "save") then with_dialect setting_options save_of words
    else (if bytes_eq name (codes "load") then with_dialect [] load_of words else None)))
