use Rattle.std.proofs.Common.{◌≡◌, ◌++◌, ◌∷◌, [], ◌∙◌, ap, sym, subst, refl, arith, length, take, append-nil, append_assoc, List, sum_by}
use Rattle.std.proofs.lemmas.List.{take_all}
use Rattle.eb_base.specs.Term.{Term}
use Rattle.eb_base.proofs.Copying.{take_got}
use Rattle.eb_place.specs.Postings.{distinct, count_of, number_of}
use Rattle.eb_place.proofs.LaterMoments.{later_self, later_on, inside_later}
use Rattle.eb_place.proofs.TermCounts.{count_of-append}
use Rattle.eb_writer.specs.Recall.{token_at}
use Rattle.eb_writer.specs.Counting.{tokens_in, IsUsedBy, IsFound, AreFound}
use Rattle.eb_writer.proofs.Recalling.{at_place, bucket_by_hash}
use Rattle.eb_writer.proofs.Idle.{ready_used, small_first, tokens_same, idle_same}
use Rattle.eb_writer.proofs.Tallies.{small_more, token_short}
use Rattle.eb_writer.proofs.Finding.{count_few, found_more}
use Rattle.eb_writer.proofs.counting.make_plan.Goals as goal

pub loop-at-init : goal.loop-at-init
loop-at-init g c =
    let r = c.requires.ready in
    let is = g.met.P.Port.lawful _ r.0 r.1 in (
      λ m st ready. (
        m,
        st,
        later_self m,
        g.met.P.Port.keeps_itself _ m st,
        record { places = c.args.plan.now.places; each = λ i k l e. absurd (omega arith) },
        subst (IsUsedBy c.args.used) (sym (append-nil (tokens_in m c.args.segment))) (ready_used m c.args.segment c.args.used (g.met.P.Port.lawful _ m st) ready),
      ),
      c.forget.ensures,
      small_first r.0 c.args.segment c.args.used is r.2.inside (ready_used r.0 c.args.segment c.args.used is r.2),
      refl,
    )

pub found_at-token-requires-clause-place : goal.found_at-token-requires-clause-place
found_at-token-requires-clause-place g c =
    let doc = c.terms-terms.ensures.document in
    let tokens = doc.limits.tokens in
    let same = ap length c.terms-terms.ensures.terms in
    let bucket = bucket_by_hash c.terms-terms.result.now c.loop-at.at _ _ c.hash_at-hashed.ensures c.bucket_of-bucket.ensures in
    (omega (arith, c.loop-at-test.true, c.len-at-end.ensures), omega (arith, tokens, same), c.loop-at.invariant.1, bucket)

pub found_at-token-requires-clause-ready : goal.found_at-token-requires-clause-ready
found_at-token-requires-clause-ready g c =
    let r = c.requires.ready in
    let s = c.args.segment in
    let k = c.loop-at.invariant.0 r.0 r.1 r.2 in
    let f = g.met.P.Pen.pen_keeps _ _ r.0 k.0 k.3 in (
      k.0,
      k.1,
      idle_same r.0 k.0 f r.2.idle,
      inside_later r.0 k.0 s k.2 r.2.inside,
      subst (λ (z : List Term). AreFound z c.terms-terms.result.now c.loop-at.plan.found c.loop-at.at) (sym (tokens_same r.0 k.0 s k.2 f)) k.4,
    )

pub with_token-plan-requires-clause-tail : goal.with_token-plan-requires-clause-tail
with_token-plan-requires-clause-tail g c =
    let r = c.requires.ready in
    let m = r.0 in
    let st = r.1 in
    let ready = r.2 in
    let ts = c.terms-terms.result.now in
    let s = c.args.segment in
    let i = c.loop-at.at in
    let k = c.loop-at.invariant.0 m st ready in
    let f = g.met.P.Pen.pen_keeps _ _ m k.0 k.3 in
    let q = tokens_same m k.0 s k.2 f in
    let o = c.found_at-token.ensures k.0 k.1 (idle_same m k.0 f ready.idle) (inside_later m k.0 s k.2 ready.inside) (subst (λ (z : List Term). AreFound z ts c.loop-at.plan.found i) (sym q) k.4)
    (k.5.terms ∙ ap (λ (z : List Term). length (distinct (z ++ take i ts))) (sym q)) in
    let token = subst (λ (z : List Term). IsFound z ts i c.found_at-token.result) q o.4 in
    (count_of (token_at ts i) (tokens_in m s), token.tail)

pub with_token-plan-requires-clause-few : goal.with_token-plan-requires-clause-few
with_token-plan-requires-clause-few g c =
    let r = c.requires.ready in
    let m = r.0 in
    let st = r.1 in
    let ready = r.2 in
    let ts = c.terms-terms.result.now in
    let s = c.args.segment in
    let i = c.loop-at.at in
    let k = c.loop-at.invariant.0 m st ready in
    let f = g.met.P.Pen.pen_keeps _ _ m k.0 k.3 in
    let q = tokens_same m k.0 s k.2 f in
    let o = c.found_at-token.ensures k.0 k.1 (idle_same m k.0 f ready.idle) (inside_later m k.0 s k.2 ready.inside) (subst (λ (z : List Term). AreFound z ts c.loop-at.plan.found i) (sym q) k.4)
    (k.5.terms ∙ ap (λ (z : List Term). length (distinct (z ++ take i ts))) (sym q)) in
    let token = subst (λ (z : List Term). IsFound z ts i c.found_at-token.result) q o.4 in
    let doc = c.terms-terms.ensures.document in
    let tokens = doc.limits.tokens in
    let same = ap length c.terms-terms.ensures.terms in
    omega (arith, token.earlier, count_few (token_at ts i) ts i (omega (arith, c.loop-at-test.true, c.len-at-end.ensures)), c.loop-at-test.true, c.len-at-end.ensures, tokens, same)

pub with_token-plan-requires-clause-short : goal.with_token-plan-requires-clause-short
with_token-plan-requires-clause-short g c =
    let doc = c.terms-terms.ensures.document in
    let tokens = doc.limits.tokens in
    let same = ap length c.terms-terms.ensures.terms in
    let bytes = doc.limits.bytes in
    omega (arith, bytes, ap (sum_by length) c.terms-terms.ensures.terms, token_short c.terms-terms.result.now c.loop-at.at c.get.result.now c.get.ensures)

pub with_token-plan-requires-clause-small : goal.with_token-plan-requires-clause-small
with_token-plan-requires-clause-small g c =
    let doc = c.terms-terms.ensures.document in
    let tokens = doc.limits.tokens in
    let same = ap length c.terms-terms.ensures.terms in
    (c.loop-at.at, omega (arith, c.loop-at-test.true, c.len-at-end.ensures, tokens, same), c.loop-at.invariant.2)

pub remember-requires : goal.remember-requires
remember-requires g c =
    let doc = c.terms-terms.ensures.document in
    let tokens = doc.limits.tokens in
    let same = ap length c.terms-terms.ensures.terms in
    let bucket = bucket_by_hash c.terms-terms.result.now c.loop-at.at _ _ c.hash_at-hashed.ensures c.bucket_of-bucket.ensures in
    (omega (arith, c.loop-at-test.true, c.len-at-end.ensures), omega (arith, tokens, same), c.loop-at.invariant.1, bucket)

pub loop-at-preserved : goal.loop-at-preserved
loop-at-preserved g c = (
  λ m st ready.
      (let ts = c.terms-terms.result.now in
      let s = c.args.segment in
      let i = c.loop-at.at in
      let k = c.loop-at.invariant.0 m st ready in
      let f = g.met.P.Pen.pen_keeps _ _ m k.0 k.3 in
      let q = tokens_same m k.0 s k.2 f in
      let o = c.found_at-token.ensures k.0 k.1 (idle_same m k.0 f ready.idle) (inside_later m k.0 s k.2 ready.inside) (subst (λ (z : List Term). AreFound z ts c.loop-at.plan.found i) (sym q) k.4)
      (k.5.terms ∙ ap (λ (z : List Term). length (distinct (z ++ take i ts))) (sym q)) in
      let token = subst (λ (z : List Term). IsFound z ts i c.found_at-token.result) q o.4 in
      let t = c.get.result.now in
      let at = at_place ts i t [] c.get.ensures in
      let A = tokens_in m s in
      let u = c.with_token-plan.ensures.used (count_of (token_at ts i) A) (A ++ take i ts) token.tail
      (omega (arith, token.earlier, count_of-append (token_at ts i) A (take i ts), ap (λ z. count_of z (A ++ take i ts)) at)) (token.number ∙ ap (λ z. number_of z (A ++ take i ts)) at) k.5 in (
        o.0,
        o.1,
        later_on m k.0 o.0 k.2 o.2,
        g.met.P.Port.keeps_on _ _ _ m k.0 o.0 k.3 o.3,
        found_more A ts c.loop-at.plan.found i c.found_at-token.result k.4 token,
        subst (IsUsedBy c.with_token-plan.result) (append_assoc A (take i ts) (t ∷ []) ∙ ap (λ (z : List Term). A ++ z) (sym (take_got ts i t c.get.ensures))) u,
      )),
  c.remember.ensures,
  (let r = c.requires.ready in
      let m = r.0 in
      let st = r.1 in
      let ready = r.2 in
      let ts = c.terms-terms.result.now in
      let s = c.args.segment in
      let i = c.loop-at.at in
      let k = c.loop-at.invariant.0 m st ready in
      let f = g.met.P.Pen.pen_keeps _ _ m k.0 k.3 in
      let q = tokens_same m k.0 s k.2 f in
      let o = c.found_at-token.ensures k.0 k.1 (idle_same m k.0 f ready.idle) (inside_later m k.0 s k.2 ready.inside) (subst (λ (z : List Term). AreFound z ts c.loop-at.plan.found i) (sym q) k.4)
      (k.5.terms ∙ ap (λ (z : List Term). length (distinct (z ++ take i ts))) (sym q)) in
      let token = subst (λ (z : List Term). IsFound z ts i c.found_at-token.result) q o.4 in
      let t = c.get.result.now in
      let at = at_place ts i t [] c.get.ensures in
      let A = tokens_in m s in
      let u = c.with_token-plan.ensures.used (count_of (token_at ts i) A) (A ++ take i ts) token.tail
      (omega (arith, token.earlier, count_of-append (token_at ts i) A (take i ts), ap (λ z. count_of z (A ++ take i ts)) at)) (token.number ∙ ap (λ z. number_of z (A ++ take i ts)) at) k.5 in
      let bytes = c.terms-terms.ensures.document.limits.bytes in
      small_more c.loop-at.plan.used c.with_token-plan.result t (A ++ take i ts) i
      (omega (arith, bytes, ap (sum_by length) c.terms-terms.ensures.terms, token_short ts i t c.get.ensures)) k.5 u c.loop-at.invariant.2),
  c.with_token-plan.ensures.documents ∙ c.loop-at.invariant.3,
)

pub returns : goal.returns
returns g c m st ready =
    let ts = c.terms-terms.result.now in
    let e = c.terms-terms.ensures.terms in
    let k = c.loop-at.invariant.0 m st ready in
    let end : c.loop-at.at ≡ length ts = omega (arith, c.len-at-end.ensures, c.loop-at-test.false, c.loop-at.auto.at-end) in
    let A = tokens_in m c.args.segment in (
      k.0,
      k.1,
      k.2,
      k.3,
      record {
        limits = c.terms-terms.ensures.document;
        found = subst (λ (z : List Term). AreFound A z c.loop-at.plan.found (length z)) e (subst (AreFound A ts c.loop-at.plan.found) end k.4);
        used = subst (λ (z : List Term). IsUsedBy c.loop-at.plan.used (A ++ z)) (take_all c.loop-at.at ts (omega arith) ∙ e) k.5;
        documents = c.loop-at.invariant.3;
      },
    )
