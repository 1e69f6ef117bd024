use Rattle.std.proofs.Common.{◌≡◌, ◌++◌, Bool, length, sum_by, sym, ap, subst, ◌∙◌, arith}
use Rattle.std.specs.Prelude.{IfOk}
use Rattle.eb_plain.specs.TermRoom.{holds_terms}
use Rattle.eb_plain.proofs.Recounts.{terms_of-nil, terms_next, terms_all, limits_push, fits_full, fits_is}
use Rattle.eb_plain.proofs.room.fits.Goals as goal

pub returns-then-segment-docs : goal.returns-then-segment-docs
returns-then-segment-docs c =
    let docs = c.docs.ensures in
    fits_full c.args.config.now c.args.segment.now c.args.document.now (omega (arith, docs, c.if-segment-docs.true))

pub loop-earlier-init : goal.loop-earlier-init
loop-earlier-init c = record {
  terms = c.new-terms.ensures ∙ sym terms_of-nil;
  few = omega (arith, ap length c.new-terms.ensures);
  short = omega (arith, ap (sum_by length) c.new-terms.ensures);
}

pub loop-earlier-preserved : goal.loop-earlier-preserved
loop-earlier-preserved c =
    let inv = c.loop-earlier.invariant in
    let put = c.in_ok-put_terms.ensures.terms in
    let own = c.in_ok-put_terms.ensures.document.limits in
    let more = limits_push c.loop-earlier.terms c.earlier-item.result.terms c.loop-earlier.earlier-index inv.few inv.short own.tokens own.bytes in
    record {
      terms = put ∙ ap (λ ts. ts ++ c.earlier-item.result.terms) inv.terms
          ∙ sym (terms_next c.args.segment.now c.loop-earlier.earlier-index c.earlier-item.result c.loop-earlier-test.true c.earlier-item.is);
      few = omega (arith, ap length put, more.0);
      short = omega (arith, ap (sum_by length) put, more.1);
    }

pub has_room_for-requires-clause-few : goal.has_room_for-requires-clause-few
has_room_for-requires-clause-few c =
    let inv = c.loop-earlier.invariant in
    let own = c.in_ok-put_terms-2.ensures.document.limits in
    let more = limits_push c.loop-earlier.terms c.args.document.now.terms c.loop-earlier.earlier-index inv.few inv.short own.tokens own.bytes in
    omega (arith, ap length c.in_ok-put_terms-2.ensures.terms, more.0, c.loop-earlier.auto.earlier-index-end, c.if-segment-docs.false, c.docs.type_inv)

pub has_room_for-requires-clause-short : goal.has_room_for-requires-clause-short
has_room_for-requires-clause-short c =
    let inv = c.loop-earlier.invariant in
    let own = c.in_ok-put_terms-2.ensures.document.limits in
    let more = limits_push c.loop-earlier.terms c.args.document.now.terms c.loop-earlier.earlier-index inv.few inv.short own.tokens own.bytes in
    omega (arith, ap (sum_by length) c.in_ok-put_terms-2.ensures.terms, more.1, c.loop-earlier.auto.earlier-index-end, c.if-segment-docs.false, c.docs.type_inv)

pub returns : goal.returns
returns c =
    let all = c.in_ok-put_terms-2.ensures.terms
    ∙ ap (λ ts. ts ++ c.args.document.now.terms) (c.loop-earlier.invariant.terms
    ∙ terms_all c.args.segment.now c.loop-earlier.earlier-index c.loop-earlier.auto.earlier-index-end c.loop-earlier-test.false) in
    let is = ap (holds_terms c.args.config.now) all ∙ sym (fits_is c.args.config.now c.args.segment.now c.args.document.now (omega (arith, c.docs.ensures, c.if-segment-docs.false))) in
    let P : Bool → Type 0 = λ b. IfOk c.has_room_for.result (λ answer. answer ≡ b) in
    subst P is c.has_room_for.ensures
