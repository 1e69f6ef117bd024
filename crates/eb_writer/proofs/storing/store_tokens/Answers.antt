use Rattle.std.proofs.Common.{◌≡◌, ◌<◌, ◌++◌, ◌∙◌, ap, sym, subst, arith, length, refl, take}
use Rattle.eb_place.specs.Postings.{terms_of, number_of}
use Rattle.eb_place.specs.Placing.{segment_before}
use Rattle.eb_place.proofs.LaterMoments.{later_self, later_on}
use Rattle.eb_writer.specs.Recall.{token_at}
use Rattle.eb_writer.specs.Storing.{HasComeTo}
use Rattle.eb_writer.proofs.Finding.{element}
use Rattle.eb_writer.proofs.storing.store_tokens.Goals as goal

pub loop-at-init : goal.loop-at-init
loop-at-init g c = record {
  written = λ m st q. (m, st, g.met.P.Port.keeps_same _ _ m m (g.met.P.Port.keeps_itself _ m st), (record { later = later_self m; accepted = refl }, q.0, q.1));
}

pub bounds-found-at : goal.bounds-found-at
bounds-found-at g c =
    let r = c.requires in
    let few = c.terms.ensures.document.limits.tokens in
    omega (arith, few, ap length c.terms.ensures.terms, c.len-at-end.ensures, c.loop-at-test.true)

pub store_token-requires : goal.store_token-requires
store_token-requires g c =
    let r = c.requires in
    let m = r.0 in
    let found = r.4 in
    let d = c.args.document.now in
    let i = c.loop-at.at in
    let n = c.loop-at.invariant.written m r.1 (r.2, r.3, r.4) in
    let few = c.terms.ensures.document.limits.tokens in
    let low : i < length d.terms = omega (arith, ap length c.terms.ensures.terms, c.len-at-end.ensures, c.loop-at-test.true) in
    let k = found.each i _ low (element c.args.found.now i record { number = 0; tail = 0; earlier = 0 } (omega (arith, found.places, low, few))) in
    let seg : segment_before m.setting m.documents.accepted d ≡ segment_before n.0.setting n.0.documents.accepted d = λ j. segment_before (n.3.0.later.setting j) (sym n.3.0.accepted j) d in
    (n.0, n.1, n.3.1, n.3.2, low, k.number ∙ ap (λ z. number_of (token_at d.terms i) (terms_of z ++ take i d.terms)) seg)

pub loop-at-preserved : goal.loop-at-preserved
loop-at-preserved g c = record {
  written = λ m st h.
      (let d = c.args.document.now in
      let i = c.loop-at.at in
      let n = c.loop-at.invariant.written m st h in
      let few = c.terms.ensures.document.limits.tokens in
      let low : i < length d.terms = omega (arith, ap length c.terms.ensures.terms, c.len-at-end.ensures, c.loop-at-test.true) in
      let found = h.2 in
      let k = found.each i _ low (element c.args.found.now i record { number = 0; tail = 0; earlier = 0 } (omega (arith, found.places, low, few))) in
      let seg : segment_before m.setting m.documents.accepted d ≡ segment_before n.0.setting n.0.documents.accepted d = λ j. segment_before (n.3.0.later.setting j) (sym n.3.0.accepted j) d in
      let o = c.store_token.ensures.written n.0 n.1 (n.3.1, n.3.2, low, k.number ∙ ap (λ z. number_of (token_at d.terms i) (terms_of z ++ take i d.terms)) seg) in
      (o.0, o.1, g.met.P.Port.same_on _ _ _ n.2 o.2, (record { later = later_on m n.0 o.0 n.3.0.later o.3.0.later; accepted = o.3.0.accepted ∙ n.3.0.accepted }, o.3.1, o.3.2)));
}

pub returns : goal.returns
returns g c = record {
  written = λ m st h.
      (let d = c.args.document.now in
      let n = c.loop-at.invariant.written m st h in
      let end : c.loop-at.at ≡ length d.terms = omega (arith, ap length c.terms.ensures.terms, c.len-at-end.ensures, c.loop-at-test.false, c.loop-at.auto.at-end) in
      (n.0, n.1, n.2, (n.3.0, subst (HasComeTo n.0 d c.args.segment) end n.3.1, n.3.2)));
}
