use Rattle.eb_beside.proofs.Places.{accepts_one, changes_one}
use Rattle.eb_beside.proofs.each.at_one.Goals as goal

pub call_at-requires : goal.call_at-requires
call_at-requires g c = accepts_one g.F.Fn c.args.f.now c.args.at c.args.it.now c.requires

pub returns : goal.returns
returns g c = changes_one g.F.Fn c.args.f.now c.args.at c.args.it.now _ c.call_at.ensures
