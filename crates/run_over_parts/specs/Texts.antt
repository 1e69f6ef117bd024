-- What a run over parts prints.
use Rattle.eb_fields.specs.Dialect.{Dialect}
use Rattle.std.specs.Prelude.{ℕ, List, [], map, sum, length}
use Rattle.run_store.specs.Rules.{Rules, plain_rules}
use Rattle.eb_base.specs.Document.{Doc}
use Rattle.eb_base.specs.Setting.{Setting}
use Rattle.eb_blend.specs.Laws.{cut_into}
use Rattle.run_index.specs.Conversions.{most_converted}
use Rattle.run_index.specs.IndexRules.{segments_tail}
use Rattle.eb_lines.specs.declared.form.Form.{Form}
use Rattle.eb_place.specs.Room.{cut}
use Rattle.run_over_parts.specs.AcceptedInParts.{refusal_in_parts}

-- the segments begun of each part
abbrev pub segments_in : ℕ → Setting → List Doc → List ℕ
segments_in n σ docs = map (λ h. length (cut σ h)) (cut_into n docs)

-- this many parts of this setting, where lines are read by this dialect: a query sees all
-- documents, and of each part all segments but the last one are converted at the end
abbrev pub parts_rules : Dialect → ℕ → Setting → Form → Rules (Unit {0})
parts_rules how n σ form =
    plain_rules how [] (refusal_in_parts n σ) (λ docs. docs) form (λ docs. segments_tail form (sum (segments_in n σ docs)) (sum (map most_converted (segments_in n σ docs))))
