use Rattle.std.proofs.Common.{◌≡◌, ℕ, ◌||◌, take}
use Rattle.std.specs.List.{list_any}
use Rattle.eb_bloom.specs.Bits.{is_set}
use Rattle.eb_bloom.proofs.Covered.{is_bit_of}
use Rattle.eb_bloom.proofs.filters.Filters.note.Given as goal

abbrev pub invariant-loop-term : goal.invariant-loop-term
invariant-loop-term l = (i : ℕ) → is_set l.words i ≡ (is_set l.initial.words i || list_any (λ t. is_bit_of l.fn.self.setting l.segment t i) (take l.term-index l.term-items))
