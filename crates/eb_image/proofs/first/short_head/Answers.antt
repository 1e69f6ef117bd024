use Rattle.eb_image.proofs.Heads.{none_short}
use Rattle.eb_image.proofs.first.short_head.Goals as goal

pub returns-then-begins_head : goal.returns-then-begins_head
returns-then-begins_head c = record { none = none_short _ c.requires; begins = c.begins_head.ensures.0 c.if-begins_head.true }

pub returns-else-begins_head : goal.returns-else-begins_head
returns-else-begins_head c = record {
  none = none_short _ c.requires;
  never = λ b. let no : ⊥ = cc (c.if-begins_head.false, c.begins_head.ensures.1 b) in no;
}
