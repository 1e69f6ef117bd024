use Rattle.std.proofs.Common.{refl}
use Rattle.eb_table.proofs.Standing.{stands_stored}
use Rattle.eb_table.proofs.ports.WriterPortPen.store.Goals as goal

pub returns : goal.returns
returns c m h next = (stands_stored _ _ _ m c.args.document.now _ _ c.store.ensures h next, (refl, refl))
