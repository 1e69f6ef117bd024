-- The rules of a store whose documents tell watches.
use Rattle.eb_fields.specs.Dialect.{Dialect}
use Rattle.std.specs.Prelude.{ℕ, ◌==◌, List, [], length, Option, Some, None, if◌then◌else◌}
use Rattle.run_store.specs.Rules.{Rules}
use Rattle.eb_base.specs.Query.{Tree}
use Rattle.eb_base.specs.Setting.{Setting}
use Rattle.run_index.specs.IndexRules.{index_rules}
use Rattle.eb_lines.specs.declared.form.Form.{Form}
use Rattle.eb_lines.specs.declared.refusal.Refusal.{Refusal}
use Rattle.eb_lines.specs.declared.refusal.Refusal.TheVariants.{NoWatch, WatchTaken, WatchesFull}
use Rattle.eb_watch.specs.Watches.{Watched, is_set, with_watch, without_watch, numbers_of, matching}

-- a watch of a number is set where no watch has the number and fewer than 10,000 are set, and removed where there is one
abbrev pub watch_refusal : List Watched → ℕ → Option Tree → Option Refusal
watch_refusal ws n (Some q) = if is_set ws n then Some WatchTaken else (if length ws == 10000 then Some WatchesFull else None)
watch_refusal ws n None = if is_set ws n then None else Some NoWatch

abbrev pub watches_then : List Watched → ℕ → Option Tree → List Watched
watches_then ws n (Some q) = with_watch ws n q
watches_then ws n None = without_watch ws n

-- the rules of a store, and watches, of which none is set at first: a document tells those that it matches, and all else is as without them
abbrev pub with_watches : {W : Type 0} → Rules W → Rules (List Watched)
with_watches rules = record {
  dialect = rules.dialect;
  start = rules.start;
  watches = [];
  refusal = rules.refusal;
  tells = λ ws d. numbers_of (matching ws d);
  sees = rules.sees;
  watch_refusal = watch_refusal;
  with_watch = watches_then;
  form = rules.form;
  tail = rules.tail;
}

-- an index of this setting, where lines are read by this dialect, without documents or watches at first
abbrev pub watch_rules : Dialect → Setting → Form → Rules (List Watched)
watch_rules how σ form = with_watches (index_rules how σ form [])
