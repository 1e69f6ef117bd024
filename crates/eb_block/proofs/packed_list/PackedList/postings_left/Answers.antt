use Rattle.std.proofs.Common.{◌≡◌, Bool, true, false, if◌then◌else◌, refl, arith}
use mir.Val.{bool_byte}
use Rattle.eb_place.specs.Packed.{packed}
use Rattle.eb_place.specs.Seen.{segment}
use Rattle.eb_block.specs.Reading.{packed_start}
use Rattle.eb_block.proofs.Loads.{count_left}
use Rattle.eb_block.proofs.packed_list.PackedList.postings_left.Goals as goal

one_if : (b : Bool) → bool_byte b ≡ (if b then 1 else 0)
one_if true = refl
one_if false = refl

pub returns : goal.returns
returns c = λ m s t rest b h.
    let p = c.args.self.now in
    omega (arith, c.from.ensures, one_if p.held, c.from-2.ensures, c.from-3.ensures, count_left (packed t (segment m s)) (packed_start m s h.number) p rest b h.reads)
