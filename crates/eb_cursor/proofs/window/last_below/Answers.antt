use Rattle.std.proofs.Common.{◌≡◌, ◌-◌, suc, length, arith}
use Rattle.eb_cursor.specs.Lists.{gives}
use Rattle.eb_cursor.specs.Posted.{is_posting, last_term}
use Rattle.eb_cursor.proofs.LastTerms.{last_asks, last_told, loads_at}
use Rattle.eb_cursor.proofs.Tellings.{told_as, gives_later}
use Rattle.eb_cursor.proofs.window.last_below.Goals as goal

pub leaf_below-requires : goal.leaf_below-requires
leaf_below-requires g c = let r = c.requires.ready in
    let e : suc (length c.args.cursors.now - 1) ≡ length c.args.cursors.now = omega (arith, c.requires.some) in
    (r.0, is_posting r.1 (last_term r.2), r.4, last_asks (gives r.0) r.1 r.2 c.args.cursors.now _ (length c.args.cursors.now - 1) c.args.end r.3 e r.5 r.6)

pub returns-clause-found : goal.returns-clause-found
returns-clause-found g c = λ docs us last h.
    let e : suc (length c.args.cursors.now - 1) ≡ length c.args.cursors.now = omega (arith, c.requires.some) in
    told_as g.met.P.Port.lawful (c.leaf_below.ensures.found (is_posting docs (last_term us)))
    (λ m r. last_asks (gives m) docs us c.args.cursors.now _ (length c.args.cursors.now - 1) c.args.end last e h r)
    (λ m n later r x. (
      x.0,
      last_told (gives m) (gives n) (gives_later m n later) docs us c.args.cursors.now c.leaf_below.new.cursor (length c.args.cursors.now - 1) c.args.end last e h r x.1,
    ))

pub returns-clause-loads : goal.returns-clause-loads
returns-clause-loads g c =
    loads_at c.args.cursors.now _ c.leaf_below.new.cursor (length c.args.cursors.now - 1) c.args.steps.now c.leaf_below.new.steps (omega (arith, c.requires.some)) c.leaf_below.ensures.loads
