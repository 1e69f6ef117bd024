-- What a walk within a block leaves as it is.
use Rattle.std.proofs.Common.{◌≡◌, subst}
use Rattle.eb_block.specs.declared.packed_list.PackedList.{PackedList}

-- one after the other
pub same_block : (p q r : PackedList) → q ≡ record p { at = q.at; bits = q.bits; inside = q.inside; last = q.last; held = q.held }
    → r ≡ record q { at = r.at; bits = r.bits; inside = r.inside; last = r.last; held = r.held } → r ≡ record p { at = r.at; bits = r.bits; inside = r.inside; last = r.last; held = r.held }
same_block p q r h k = subst (λ z. r ≡ record z { at = r.at; bits = r.bits; inside = r.inside; last = r.last; held = r.held }) h k
