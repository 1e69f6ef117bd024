use Rattle.std.proofs.Common.{[], ◌≡◌, ◌-◌, sym, ◌∙◌, subst, arith, get_or}
use Rattle.std.proofs.lemmas.Slice.Eq.{bytes_eq-Decides}
use Rattle.std.proofs.lemmas.Bool.{false≢true}
use Rattle.eb_writer.specs.Recall.{bucket, token_at, LeadsBack}
use Rattle.eb_writer.proofs.Recalling.{at_place, bucket_low, sought_first, sought_more, sought_found, sought_none, IsSought}
use Rattle.eb_writer.proofs.recall.last_place.Goals as goal

pub loop-next-init : goal.loop-next-init
loop-next-init c =
    let ts = c.args.terms.now in
    let i = c.args.at in
    let r = c.requires.2 in
    let b : c.args.bucket ≡ bucket (token_at ts i) = c.requires.3 in
    sought_first ts i _ (subst (λ k. LeadsBack ts i (bucket (token_at ts i)) (get_or c.args.recall.now.latest k 0)) (sym b) (r.latest (bucket (token_at ts i)) (bucket_low (token_at ts i))))

pub get-requires : goal.get-requires
get-requires c = omega (arith, c.loop-next.invariant.back, c.requires.0, c.loop-next-test.true)

pub returns-then-eq : goal.returns-then-eq
returns-then-eq c =
    let ts = c.args.terms.now in
    let p = c.loop-next.next - 1 in
    let t = at_place ts c.args.at c.get-term.result.now [] c.get-term.ensures in
    let u = at_place ts p c.get.result.now [] c.get.ensures in
    let same : c.get.result.now ≡ c.get-term.result.now = (bytes_eq-Decides c.get.result.now c.get-term.result.now).0 (sym c.eq.ensures ∙ c.if-eq.true) in
    sought_found ts c.args.at p c.loop-next.next (omega (arith, c.loop-next-test.true)) c.loop-next.invariant (u ∙ same ∙ sym t)

pub loop-next-smaller : goal.loop-next-smaller
loop-next-smaller c =
    let ts = c.args.terms.now in
    let p = c.loop-next.next - 1 in
    let l = c.requires.2.before p (omega (arith, c.loop-next.invariant.back, c.loop-next-test.true)) in
    omega (arith, l.back, c.loop-next-test.true)

pub loop-next-preserved : goal.loop-next-preserved
loop-next-preserved c =
    let ts = c.args.terms.now in
    let p = c.loop-next.next - 1 in
    let t = at_place ts c.args.at c.get-term.result.now [] c.get-term.ensures in
    let u = at_place ts p c.get.result.now [] c.get.ensures in
    let l = c.requires.2.before p (omega (arith, c.loop-next.invariant.back, c.loop-next-test.true)) in
    sought_more ts c.args.at p c.loop-next.next _ c.requires.0 (omega (arith, c.loop-next-test.true)) c.loop-next.invariant
    (λ e. false≢true (sym c.if-eq.false ∙ c.eq.ensures ∙ (bytes_eq-Decides c.get.result.now c.get-term.result.now).1 (sym u ∙ sym e ∙ t))) l

pub returns : goal.returns
returns c =
    sought_none c.args.terms.now c.args.at (subst (λ k. IsSought c.args.terms.now c.args.at k) (let e : c.loop-next.next ≡ 0 = omega (arith, c.loop-next-test.false) in e) c.loop-next.invariant)
