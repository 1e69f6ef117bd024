-- What a sealed box owns: what a `Box<Held>` owns, or nothing.
use Rattle.std.specs.Prelude.{Option, Some, None}
use Rattle.std.specs.Coded.{coded_option}
use base.Fml.{Fml, ftrue}
use base.Stored.{Coded}
use denote.RawPtr.{Ptr}
use Rattle.std.specs.Box.Ownership.{box_owns}
use Rattle.std.specs.Global.{Global}
use Rattle.std_heap.specs.contracts.GlobalAllocator.TheImpl.{ghosts}
use Rattle.eb_c.specs.contracts.held.Held.{the_row}

abbrev pub sealed_owns : Global → Ptr → Option the_row.Denot → Fml
sealed_owns alloc p None = ftrue
sealed_owns alloc p (Some v) = box_owns (ghosts.dealloc_token alloc) the_row p v

abbrev pub held_coded : Coded (Option the_row.Denot)
held_coded = coded_option the_row.coded
