-- What a run prints for the bytes of an input, by its mode.
use Rattle.eb_fields.specs.Dialect.{Dialect}
use Rattle.std.specs.Prelude.{ℕ, List, []}
use Rattle.run_store.specs.Rules.{is_bad}
use Rattle.run_store.specs.Sees.{exactly, between, at_least}
use Rattle.run_store.specs.Text.{IsText}
use Rattle.eb_base.specs.Setting.{Setting}
use Rattle.run_index.specs.IndexRules.{index_rules}
use Rattle.run_over_parts.specs.Texts.{parts_rules}
use Rattle.run_with_watches.specs.Others.{ReadsOther}
use Rattle.run_with_watches.specs.WatchRules.{watch_rules}
use Rattle.eb_io.specs.Lines.{lines_of}
use Rattle.eb_lines.specs.declared.form.Form.{Form}
use Rattle.eb_watch.specs.Watches.{Watched}
use Rattle.eb_run.specs.RunRules.{RunRules}
use Rattle.eb_run.specs.declared.command.mode.Mode.{Mode}
use Rattle.eb_run.specs.declared.command.mode.Mode.TheVariants.{InOrder, Overlap, Workers, Parts, OverlapParts, Watch}

-- by which rules a run goes in this mode, over an index of this setting, or several
abbrev pub run_rules : Dialect → Setting → Mode → Form → RunRules
run_rules how σ InOrder form = record { Held = Unit {0}; other = is_bad; way = exactly; rules = index_rules how σ form [] }
run_rules how σ Overlap form = record { Held = Unit {0}; other = is_bad; way = between; rules = index_rules how σ form [] }
run_rules how σ (Workers n) form = record { Held = Unit {0}; other = is_bad; way = at_least; rules = index_rules how σ form [] }
run_rules how σ (Parts n) form = record { Held = Unit {0}; other = is_bad; way = exactly; rules = parts_rules how n σ form }
run_rules how σ (OverlapParts n) form = record { Held = Unit {0}; other = is_bad; way = exactly; rules = parts_rules how n σ form }
run_rules how σ Watch form = record { Held = List Watched; other = ReadsOther; way = exactly; rules = watch_rules how σ form }

-- the text of an input of these bytes
abbrev pub IsOutput : Dialect → Setting → Mode → Form → List ℕ → List ℕ → Type 0
IsOutput how σ mode form bytes printed = let r = run_rules how σ mode form in IsText r.other r.way r.rules (lines_of bytes) printed
