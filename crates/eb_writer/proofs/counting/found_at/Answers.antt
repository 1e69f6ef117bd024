use Rattle.std.proofs.Common.{sym, arith, []}
use Rattle.eb_place.proofs.LaterMoments.{later_self}
use Rattle.eb_writer.specs.Recall.{token_at}
use Rattle.eb_writer.specs.Counting.{tokens_in}
use Rattle.eb_writer.proofs.Recalling.{at_place}
use Rattle.eb_writer.proofs.Finding.{element, count_few, again, first}
use Rattle.eb_writer.proofs.counting.found_at.Goals as goal

pub overflow_add-result : goal.overflow_add-result
overflow_add-result g c =
    let r = c.requires.ready in
    let q = c.requires.place in
    let p = c.in-Some.place in
    let st = c.in-Some.ensures in
    let low = st.earlier in
    let k = r.4.each p _ st.earlier (element c.args.found.now p record { number = 0; tail = 0; earlier = 0 } (omega (arith, r.4.places, q.0, q.1))) in
    omega (arith, k.earlier, count_few (token_at c.args.terms.now p) c.args.terms.now p (omega (arith, q.0)), q.0, q.1)

pub returns-in-Some : goal.returns-in-Some
returns-in-Some g c m st idle inside found next =
    let q = c.requires.place in
    let p = c.in-Some.place in
    let there = c.in-Some.ensures in
    let low = there.earlier in
    let k = found.each p _ low (element c.args.found.now p record { number = 0; tail = 0; earlier = 0 } (omega (arith, found.places, q.0, q.1))) in
    (m, st, later_self m, g.met.P.Port.keeps_itself _ m st, again (tokens_in m c.args.segment) c.args.terms.now c.args.at p _ q.0 there k)

pub returns-in-None : goal.returns-in-None
returns-in-None g c m st idle inside found next =
    let o = c.first_found.ensures m st idle inside in
    let t = at_place c.args.terms.now c.args.at c.get.result.now [] c.get.ensures in
    (o.0, o.1, o.2, o.3, first (tokens_in m c.args.segment) c.args.terms.now c.args.at c.args.next c.get.result.now _ (sym t) c.in-None.ensures next o.4)
