-- A run by its mode.
use Rattle.eb_fields.specs.Dialect.{Dialect}
use Rattle.std.proofs.Common.{◌≡◌, ℕ, List, [], Option, sym, subst}
use Rattle.run_store.specs.Rules.{is_bad}
use Rattle.run_store.specs.Sees.{exactly, between, at_least}
use Rattle.run_store.proofs.OneText.{one_text_of, some_text_of, one_bad, some_bad}
use Rattle.eb_base.specs.Setting.{Setting}
use Rattle.eb_io.specs.Lines.{lines_of}
use Rattle.eb_lines.specs.declared.form.Form.{Form}
use Rattle.eb_lines.specs.declared.status.Status.{Status}
use Rattle.run_index.specs.IndexRules.{index_rules}
use Rattle.run_over_parts.specs.Texts.{parts_rules}
use Rattle.run_with_watches.proofs.OtherLines.{one_other, some_other}
use Rattle.run_with_watches.specs.Others.{ReadsOther}
use Rattle.run_with_watches.specs.WatchRules.{watch_rules}
use Rattle.eb_run.specs.declared.command.mode.Mode.{Mode}
use Rattle.eb_run.specs.declared.command.mode.Mode.TheVariants.{InOrder, Overlap, Workers, Parts, OverlapParts, Watch}
use Rattle.eb_run.specs.Laws.{SomeText, OneText}
use Rattle.eb_run.specs.Ran.{EndsRun}

pub ended : (v w : Mode) (how : Dialect) (σ : Setting) (form : Form) (s : Status) (l0 l1 p0 p1 : Option (List ℕ)) → v ≡ w → EndsRun how σ w form s l0 l1 p0 p1
    → EndsRun how σ v form s l0 l1 p0 p1
ended v w how σ form s l0 l1 p0 p1 same e = subst (λ (x : Mode). EndsRun how σ x form s l0 l1 p0 p1) (sym same) e

-- ---- lines have one text

pub some_output : SomeText
some_output how σ InOrder form bytes = some_text_of is_bad some_bad exactly (index_rules how σ form []) (lines_of bytes)
some_output how σ Overlap form bytes = some_text_of is_bad some_bad between (index_rules how σ form []) (lines_of bytes)
some_output how σ (Workers n) form bytes = some_text_of is_bad some_bad at_least (index_rules how σ form []) (lines_of bytes)
some_output how σ (Parts n) form bytes = some_text_of is_bad some_bad exactly (parts_rules how n σ form) (lines_of bytes)
some_output how σ (OverlapParts n) form bytes = some_text_of is_bad some_bad exactly (parts_rules how n σ form) (lines_of bytes)
some_output how σ Watch form bytes = some_text_of ReadsOther some_other exactly (watch_rules how σ form) (lines_of bytes)

pub one_output : OneText
one_output how σ InOrder form bytes a b settled = one_text_of is_bad one_bad (index_rules how σ form []) (lines_of bytes) a b
one_output how σ Overlap form bytes a b settled = absurd settled
one_output how σ (Workers n) form bytes a b settled = absurd settled
one_output how σ (Parts n) form bytes a b settled = one_text_of is_bad one_bad (parts_rules how n σ form) (lines_of bytes) a b
one_output how σ (OverlapParts n) form bytes a b settled = one_text_of is_bad one_bad (parts_rules how n σ form) (lines_of bytes) a b
one_output how σ Watch form bytes a b settled = one_text_of ReadsOther one_other (watch_rules how σ form) (lines_of bytes) a b
