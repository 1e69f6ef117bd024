use Rattle.std.proofs.Common.{arith, sym, ◌∙◌}
use Rattle.eb_cursor.proofs.Bounds.{since_here, since_past}
use Rattle.eb_cursor.proofs.Firsts.{first_on}
use Rattle.eb_cursor.proofs.Tellings.{told_on}
use Rattle.eb_cursor.proofs.bound.ids_below.Goals as goal

pub returns-then-id-bound-clause-found : goal.returns-then-id-bound-clause-found
returns-then-id-bound-clause-found g c = λ docs h.
    told_on g.met.P.Port.lawful g.met.P.Port.keeps_on (c.loop-place.invariant.found docs h) (c.load_id-id.ensures.id docs (omega (arith, h, c.loop-place.invariant.falls, c.loop-place-test.true)))
    (λ l r. r) (λ l m w r i. i.1)
    (λ l m n w1 w2 r i id. since_here docs c.args.bound c.loop-place.place c.load_id-id.result c.loop-place-test.true id c.if-id-bound.true ∙ sym i.0)

pub loop-place-preserved : goal.loop-place-preserved
loop-place-preserved g c = record {
  falls = omega (arith, c.loop-place.invariant.falls);
  loads = omega (arith, c.loop-place.invariant.loads, c.load_id-id.ensures.step, c.loop-place-test.true);
  found = λ docs h.
      told_on g.met.P.Port.lawful g.met.P.Port.keeps_on (c.loop-place.invariant.found docs h) (c.load_id-id.ensures.id docs (omega (arith, h, c.loop-place.invariant.falls, c.loop-place-test.true)))
      (λ l r. r) (λ l m w r i. i.1)
      (λ l m n w1 w2 r i id. (i.0 ∙ since_past docs c.args.bound c.loop-place.place c.load_id-id.result c.loop-place-test.true id c.if-id-bound.false, first_on m n c.args.segment docs w2.later i.1));
}
