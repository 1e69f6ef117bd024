-- A seal may go to another thread, as what it holds and its handle may.
use Rattle.std.specs.Prelude.{Option, Some, None}
use mir.Raw.{raw}
use base.Shift.{Keyless}
use denote.Memory.{lone}
use denote.RawPtr.{Ptr}
use denote.Struct.Struct.{exits_of}
use denote.Struct.Owning.{shape, fields, to}
use denote.Param.Send.{IsSend, AllSend, owning_send, struct_send, sendable}
use Rattle.std.proofs.Crossing as heap
use Rattle.std.specs.Global.{Global}
use Rattle.std_alloc.proofs.SendSync.{quiet, lies}
use Rattle.std_heap.proofs.Global.TheSendSync as handle
use Rattle.feed_shared.proofs.converter.FeedConverter.TheSendSync as feed_converter
use Rattle.feed_shared.proofs.spare.Spare.TheSendSync as spare
use Rattle.feed_shared.proofs.released.Released.TheSendSync as released
use Rattle.eb_c.proofs.WatchesCrossing.{watches_send}
use Rattle.eb_c.specs.Sealing.{sealed_owns}
use Rattle.eb_c.specs.contracts.held.Held as Held
use Rattle.eb_c.proofs.held.HeldWriter.TheSendSync as writer
use Rattle.eb_c.proofs.held.HeldReader.TheSendSync as reader
use Rattle.eb_c.proofs.held.HeldConverter.TheSendSync as converter
use Rattle.eb_c.proofs.leading.HeldLeader.TheSendSync as leader
use Rattle.eb_c.proofs.leading.HeldFollower.TheSendSync as follower
use Rattle.eb_c.specs.contracts.sealed.Sealed.{the_row, the_type}

held : IsSend Held.the_row
held =
    let watches = watches_send in
    search (sendable, writer.the_send, reader.the_send, converter.the_send, leader.the_send, follower.the_send, feed_converter.the_send, spare.the_send, released.the_send)
    depth 20

owns_keyless : (a : Global) (p : Ptr) (h : Option Held.the_row.Denot) → Keyless (sealed_owns a p h)
owns_keyless a p None = tt
owns_keyless a p (Some v) = (lies Held.the_row held p v, heap.frees.frees a (raw (lone Held.the_row.mir)) p)

pub send : IsSend the_row
send =
    let all : AllSend (fields the_type) = (search sendable, (handle.the_field_send, tt)) in
    owning_send the_type all (λ d. owns_keyless d.alloc d.at d.held) (λ k. quiet (to the_type) (exits_of k (fields the_type)) ((struct_send (shape the_type) all).leaving k))
