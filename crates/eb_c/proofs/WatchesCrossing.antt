-- Watches may go to another thread: a query may, since its parts may.
use denote.Param.Send.{IsSend, sendable}
use Rattle.std.proofs.Crossing as heap
use Rattle.std.proofs.MapsCrossing as maps
use Rattle.eb_base.specs.contracts.query.Query as Query
use Rattle.eb_base.proofs.terms.Term.TheSendSync as term
use Rattle.eb_base.proofs.terms.Terms.TheSendSync as terms
use Rattle.eb_base.proofs.query.Query.TheLaws.TheKnot.{send-Query}
use Rattle.eb_watch.specs.contracts.watch.Watch as Watch
use Rattle.eb_watch.specs.contracts.watches.Watches as Watches

query_send : IsSend (Query.the_field).row
query_send = send-Query (search (sendable, term.the_send)) (search (sendable, terms.the_send)) (search sendable) (search sendable) heap.Box-send heap.Vec-send

watch_send : IsSend (Watch.the_field).row
watch_send = let q = query_send in search (sendable, heap.crosses, term.the_send) depth 20

pub watches_send : IsSend (Watches.the_field).row
watches_send = let w = watch_send in search (sendable, heap.crosses, maps.crosses) depth 20
