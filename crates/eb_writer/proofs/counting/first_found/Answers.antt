use Rattle.std.proofs.Common.{◌∙◌, ap, sym, subst, refl, arith, List}
use Rattle.eb_base.specs.Setting.{Setting}
use Rattle.eb_base.specs.Term.{Term}
use Rattle.eb_place.specs.Layout.{place}
use Rattle.eb_place.specs.Layout.Slot.{slot}
use Rattle.eb_place.specs.Layout.Region.{tail_region}
use Rattle.eb_place.specs.Postings.{count_of}
use Rattle.eb_place.specs.Moments.{word}
use Rattle.eb_place.proofs.LaterMoments.{later_on, inside_later}
use Rattle.eb_place.proofs.ReaderWords.{tail_in_table}
use Rattle.eb_chain.specs.Needs.{IsTailWord}
use Rattle.eb_writer.specs.Counting.{tokens_in, IsFirst}
use Rattle.eb_writer.proofs.Idle.{some_in, none_in, tail_in, tokens_same, idle_same}
use Rattle.eb_writer.proofs.Finding.{known_later}
use Rattle.eb_writer.proofs.counting.first_found.Goals as goal

pub tail-place-requires-clause-term : goal.tail-place-requires-clause-term
tail-place-requires-clause-term g c =
    let r = c.requires.ready in
    let s = c.args.segment in
    let n = c.in-Some.ensures.told r.0 r.1 in
    let f = g.met.P.Pen.pen_keeps _ _ r.0 n.0 n.3 in
    let known = some_in n.0 s c.args.term.now c.in-Some.number (idle_same r.0 n.0 f r.2) (inside_later r.0 n.0 s n.2 r.3) n.4 in
    let b = (tail_in_table n.0 s c.args.term.now c.in-Some.number (g.met.P.Port.lawful _ n.0 n.1) known.term).0 in
    omega (arith, b, ap (λ (σ : Setting). σ.terms) (c.new.ensures ∙ c.config.ensures n.0 n.1))

pub returns-in-Some : goal.returns-in-Some
returns-in-Some g c m st idle inside =
    let s = c.args.segment in
    let t = c.args.term.now in
    let k = c.in-Some.number in
    let n = c.in-Some.ensures.told m st in
    let f = g.met.P.Pen.pen_keeps _ _ m n.0 n.3 in
    let in_n = inside_later m n.0 s n.2 inside in
    let idle_n = idle_same m n.0 f idle in
    let known = some_in n.0 s t k idle_n in_n n.4 in
    let o = c.load.ensures.told n.0 n.1 in
    let h = g.met.P.Pen.pen_keeps _ _ n.0 o.0 o.3 in
    let there = known_later n.0 o.0 s t k o.2 h known in
    let l = later_on m n.0 o.0 n.2 o.2 in
    let at = c.tail-place.ensures.place ∙ ap (λ (σ : Setting). place σ (slot s tail_region k)) (c.new.ensures ∙ c.config.ensures n.0 n.1 ∙ o.2.setting) in
    let tail = subst (IsTailWord (count_of t (tokens_in o.0 s))) (sym (o.4 ∙ ap (word o.0) at))
    (tail_in o.0 s t k (g.met.P.Port.lawful _ o.0 o.1) (idle_same n.0 o.0 h idle_n) (inside_later n.0 o.0 s o.2 in_n) there) in
    let some = there.some in (
      o.0,
      o.1,
      l,
      g.met.P.Port.keeps_on _ _ _ m n.0 o.0 n.3 o.3,
      subst (λ (z : List Term). IsFirst z t c.args.next record { number = k; tail = c.load.result; earlier = 0 })
          (tokens_same m o.0 s l (h ∙ f)) (record { known = λ x. there.number; new = λ z. absurd (omega arith); tail = tail; earlier = refl }),
    )

pub returns-in-None : goal.returns-in-None
returns-in-None g c m st idle inside =
    let s = c.args.segment in
    let t = c.args.term.now in
    let n = c.in-None.ensures.told m st in
    let z = none_in m s t (g.met.P.Port.lawful _ m st) idle n.4 in (
      n.0,
      n.1,
      n.2,
      n.3,
      record { known = λ l. absurd (omega arith); new = λ e. refl; tail = subst (λ k. IsTailWord k 0) (sym z) refl; earlier = refl },
    )
