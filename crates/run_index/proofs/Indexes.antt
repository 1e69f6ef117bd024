-- An index before the first line.
use Rattle.eb_fields.specs.Dialect.{Dialect}
use Rattle.std.proofs.Common.{◌≡◌, List, ap, sym}
use Rattle.eb_base.specs.Document.{Doc}
use Rattle.eb_base.specs.Setting.{Setting}
use Rattle.eb_lines.specs.declared.form.Form.{Form}
use Rattle.run_index.specs.declared.indexed.Indexed.{Indexed}
use Rattle.run_index.specs.Indexed.{Holds, IsIndexed}
use Rattle.run_index.specs.IndexRules.{index_rules}

pub indexed_none : (s : Indexed) (how : Dialect) (σ : Setting) (form : Form) (docs : List Doc) → Holds s σ docs → s.form ≡ form → IsIndexed s (index_rules how σ form docs) docs tt
indexed_none s how σ form docs h e = record { dialect = how; setting = σ; start = docs; by_rules = ap (λ b. index_rules how σ b docs) (sym e); holds = h }
