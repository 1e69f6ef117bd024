-- The rules of a feed with workers.
use Rattle.eb_fields.specs.Dialect.{Dialect}
use Rattle.std.specs.Prelude.{ℕ, [], length, None}
use Rattle.run_store.specs.Rules.{Rules, plain_rules}
use Rattle.eb_base.specs.Setting.{Setting}
use Rattle.eb_feed.specs.Generations.{kept}
use Rattle.eb_lines.specs.declared.form.Form.{Form}
use Rattle.eb_lines.specs.declared.form.Tail.TheVariants.{Kept}

-- a feed that keeps this number of generations of an index of this setting, where lines are read by this dialect, refuses no document, answers
-- over what it keeps, and tells at last how many documents that are
abbrev pub workers_rules : Dialect → Setting → ℕ → Form → Rules (Unit {0})
workers_rules how σ keep form = plain_rules how [] (λ docs d. None) (kept σ keep) form (λ docs. Kept (length (kept σ keep docs)))
