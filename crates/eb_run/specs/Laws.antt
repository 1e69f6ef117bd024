-- What holds of the text of an input, over the definitions alone.
use Rattle.eb_fields.specs.Dialect.{Dialect}
use Rattle.std.specs.Prelude.{◌≡◌, ℕ, List}
use Rattle.eb_base.specs.Setting.{Setting}
use Rattle.eb_lines.specs.declared.form.Form.{Form}
use Rattle.eb_run.specs.declared.command.mode.Mode.{Mode}
use Rattle.eb_run.specs.declared.command.mode.Mode.TheVariants.{InOrder, Overlap, Workers, Parts, OverlapParts, Watch}
use Rattle.eb_run.specs.Output.{IsOutput}

-- each input has a text, however lines are read, in each setting, mode and form
abbrev pub SomeText : Type 0
SomeText = (how : Dialect) (σ : Setting) (mode : Mode) (form : Form) (bytes : List ℕ) → (printed : List ℕ) × IsOutput how σ mode form bytes printed

-- the text doesn't depend on how fast threads are
abbrev pub IsSettledMode : Mode → Type 0
IsSettledMode InOrder = Unit {0}
IsSettledMode Overlap = ⊥
IsSettledMode (Workers n) = ⊥
IsSettledMode (Parts n) = Unit {0}
IsSettledMode (OverlapParts n) = Unit {0}
IsSettledMode Watch = Unit {0}

-- and no other in such a mode
abbrev pub OneText : Type 0
OneText = (how : Dialect) (σ : Setting) (mode : Mode) (form : Form) (bytes a b : List ℕ) → IsSettledMode mode
    → IsOutput how σ mode form bytes a → IsOutput how σ mode form bytes b → a ≡ b

-- the text of lines that are processed one after the other is one of those with overlap
abbrev pub OrderText : Type 0
OrderText = (how : Dialect) (σ : Setting) (form : Form) (bytes printed : List ℕ) → IsOutput how σ InOrder form bytes printed → IsOutput how σ Overlap form bytes printed
