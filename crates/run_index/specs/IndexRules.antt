-- The rules of an index.
use Rattle.eb_fields.specs.Dialect.{Dialect}
use Rattle.std.specs.Prelude.{ℕ, List, [], length, Option, None, Some, if◌then◌else◌}
use Rattle.run_store.specs.declared.plan.Plan.{Plan}
use Rattle.run_store.specs.Rules.{Rules, comes_by, plain_rules}
use Rattle.run_store.specs.Text.{says_by}
use Rattle.eb_base.specs.Document.{Doc}
use Rattle.eb_base.specs.Setting.{Setting}
use Rattle.run_index.specs.Conversions.{most_converted}
use Rattle.eb_lines.specs.declared.form.Form.{Form}
use Rattle.eb_lines.specs.declared.form.Tail.{Tail}
use Rattle.eb_lines.specs.declared.form.Tail.TheVariants.{Nothing, Segments}
use Rattle.eb_lines.specs.declared.refusal.Refusal.{Refusal}
use Rattle.eb_lines.specs.declared.refusal.Refusal.TheVariants.{Full}
use Rattle.eb_lines.specs.Reading.{Reading}
use Rattle.eb_place.specs.Room.{cut, has_room}

-- a document that there is no room for is refused as full
abbrev pub refusal_in : Setting → List Doc → Doc → Option Refusal
refusal_in σ docs d = if has_room σ docs d then None else Some Full

-- the segments are printed where the form says so
abbrev pub segments_tail : Form → ℕ → ℕ → Tail
segments_tail form begun converted = if form.stats then Segments begun converted else Nothing

-- an index of this setting that holds these documents at first, and reads lines by this dialect: a
-- query sees all documents, and all segments but the last one are converted at the end
abbrev pub index_tail : Setting → Form → List Doc → Tail
index_tail σ form docs = segments_tail form (length (cut σ docs)) (most_converted (length (cut σ docs)))

abbrev pub index_rules : Dialect → Setting → Form → List Doc → Rules (Unit {0})
index_rules how σ form start = plain_rules how start (refusal_in σ) (λ docs. docs) form (index_tail σ form)

-- an empty index by a plan, where lines are read by this dialect
abbrev pub rules_of : Dialect → Plan → Rules (Unit {0})
rules_of how p = index_rules how p.config p.form []

-- what a line comes to by these rules after these documents, and what line `number` prints, where a query sees the first `seen` of them
abbrev pub admit : Setting → List Doc → Reading → Reading
admit σ docs r = comes_by (refusal_in σ docs) (λ n q. None) r

abbrev pub output_of : Form → ℕ → ℕ → List Doc → Reading → List ℕ
output_of form number seen docs r = says_by form (λ d. []) (λ ds. ds) number seen docs r
