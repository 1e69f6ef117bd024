use Rattle.std.proofs.Common.{◌<◌, length}
use Rattle.eb_cursor.specs.Lists.{gives}
use Rattle.eb_cursor.proofs.Bounds.{since_asks, since_told, since_some}
use Rattle.eb_cursor.proofs.LoadsLeft.{loads_set}
use Rattle.eb_cursor.proofs.Tellings.{told_as}
use Rattle.eb_cursor.proofs.bound.bound_below.Goals as goal

pub returns-clause-found : goal.returns-clause-found
returns-clause-found g c = λ docs last h. told_as g.met.P.Port.lawful (c.cursor_below.ensures.found docs last h)
    (λ m r. since_asks (gives m) docs c.args.bound c.args.cursors.now _ last r)
    (λ m n later r w. (w.0, since_told (gives m) (gives n) docs c.args.bound c.args.cursors.now c.cursor_below.new.cursor c.args.end last w.1 r))

pub returns-clause-loads : goal.returns-clause-loads
returns-clause-loads g c =
    let r = c.requires.ready in
    let some : 0 < length c.args.cursors.now = since_some (gives r.0) r.1 c.args.bound c.args.cursors.now r.2 r.5 in
    loads_set c.args.cursors.now _ c.cursor_below.new.cursor c.args.steps.now c.cursor_below.new.steps some c.cursor_below.ensures.falls c.cursor_below.ensures.loads
