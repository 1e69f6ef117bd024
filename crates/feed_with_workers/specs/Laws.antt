-- What never happens to a line.
use Rattle.eb_fields.specs.Dialect.{Dialect}
use Rattle.std.specs.Prelude.{◌≡◌, ℕ, List, Some, slice_get}
use Rattle.run_store.specs.Rules.{is_bad, AreRead}
use Rattle.eb_base.specs.Setting.{Setting}
use Rattle.eb_io.specs.Lines.{Line}
use Rattle.eb_lines.specs.declared.form.Form.{Form}
use Rattle.eb_lines.specs.declared.refusal.Refusal.TheVariants.{Full}
use Rattle.eb_lines.specs.Reading.{Reading, refused}
use Rattle.feed_with_workers.specs.FeedRules.{workers_rules}

-- of what lines come to in a feed with workers, none is refused as full
abbrev pub NoneIsFull : Type 0
NoneIsFull = (how : Dialect) (σ : Setting) (keep : ℕ) (form : Form) (lines : List Line) (rs : List Reading) → AreRead is_bad (workers_rules how σ keep form) lines rs
    → (j : ℕ) → slice_get rs j ≡ Some (refused Full) → ⊥
