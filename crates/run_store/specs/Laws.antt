-- What holds of the text of lines by rules without watches, over the definitions alone.
use Rattle.std.specs.Prelude.{◌≡◌, ℕ, List}
use Rattle.eb_io.specs.Lines.{Line}
use Rattle.run_store.specs.Rules.{Rules, is_bad}
use Rattle.run_store.specs.Sees.{Reach, exactly}
use Rattle.run_store.specs.Text.{IsText}

-- lines have a text in each way
abbrev pub SomeText : Type 0
SomeText = (way : Reach) (rules : Rules (Unit {0})) (lines : List Line) → (printed : List ℕ) × IsText is_bad way rules lines printed

-- and no other, where queries see exactly the documents before their lines
abbrev pub OneText : Type 0
OneText = (rules : Rules (Unit {0})) (lines : List Line) (a b : List ℕ) → IsText is_bad exactly rules lines a → IsText is_bad exactly rules lines b → a ≡ b

-- which is one of those of each other way
abbrev pub OrderText : Type 0
OrderText = (way : Reach) (rules : Rules (Unit {0})) (lines : List Line) (printed : List ℕ) → IsText is_bad exactly rules lines printed → IsText is_bad way rules lines printed
