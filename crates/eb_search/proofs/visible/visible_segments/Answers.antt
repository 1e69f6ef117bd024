use Rattle.std.proofs.Common.{◌<◌, inl, inr, ap, sym, subst, ◌∙◌, arith}
use Rattle.std.proofs.lemmas.List.{length-set}
use Rattle.eb_base.specs.Setting.{Setting, words_of}
use Rattle.eb_place.specs.Layout.{place}
use Rattle.eb_place.specs.Layout.Slot.{slot}
use Rattle.eb_place.specs.Layout.Region.{first_region}
use Rattle.eb_place.specs.Moments.{word}
use Rattle.eb_place.proofs.LaterMoments.{later_on}
use Rattle.eb_cursor.proofs.Asking.{first_so_many}
use Rattle.eb_cursor.proofs.Tellings.{told_itself}
use Rattle.eb_search.proofs.Beginnings.{IsHidden, none_yet, some_later, some_more, some_all, cut_short, visible_word, seen_segment, unseen_segment}
use Rattle.eb_search.proofs.visible.visible_segments.Goals as goal
use Rattle.eb_search.proofs.visible.visible_segments.Goals.{then-first-eq0-via-then-first-eq0, then-first-eq0-via-else-first-eq0+then-first-count}

pub loop-segment-init : goal.loop-segment-init
loop-segment-init g c = record {
  long = omega (arith, c.fits-firsts);
  told = λ docs same. told_itself g.met.P.Port.keeps_itself (λ m p. none_yet m docs c.args.firsts.now p);
  loads = omega arith;
  within = omega arith;
}

pub load-first-requires : goal.load-first-requires
load-first-requires g c =
    let r = c.requires in
    let w = first_so_many r.0.documents.accepted c.args.count r.2 in
    let x = (c.loop-segment.invariant.told w.0 w.2).told r.0 r.1 w.1 in
    (x.0, x.1, subst (λ (σ : Setting). c.first.result < words_of σ) (c.new-places.ensures ∙ c.config-config.ensures r.0 r.1 ∙ x.2.setting) c.first.ensures.inside)

pub returns-then-first-eq0-clause-words : goal.returns-then-first-eq0-clause-words
returns-then-first-eq0-clause-words g c = λ docs same.
    let hidden : IsHidden c.args.count c.load-first.result = elim c.then-first-eq0.branch [
      | then-first-eq0-via-then-first-eq0 w ↦ inl w.if-first-eq0.true
      | then-first-eq0-via-else-first-eq0+then-first-count w ↦ inr w.if-first-count.true
    ] in
    record {
      told = λ m st p.
          let x = (c.loop-segment.invariant.told docs same).told m st p in
          let y = c.load-first.ensures.told x.0 x.1 in
          let setting = c.config-config.ensures m st ∙ x.2.setting ∙ y.2.setting in
          let at = c.first.ensures.place ∙ ap (λ (σ : Setting). place σ (slot c.loop-segment.segment first_region 0)) (c.new-places.ensures ∙ setting) in
          let inside : c.loop-segment.segment < y.0.setting.segments = omega (arith, c.loop-segment-test.true, c.segments.ensures, ap (λ (σ : Setting). σ.segments) setting) in
          let some = some_later x.0 y.0 docs c.loop-segment.firsts c.loop-segment.segment y.2 x.4 in (
            y.0,
            y.1,
            later_on m x.0 y.0 x.2 y.2,
            g.met.P.Port.keeps_on _ _ _ m x.0 y.0 x.3 y.3,
            some_all y.0 docs c.loop-segment.firsts c.loop-segment.segment
                (unseen_segment y.0 docs c.loop-segment.segment c.load-first.result (g.met.P.Port.lawful _ y.0 y.1) some.accepted inside
                (y.4 ∙ ap (word y.0) at) (subst (λ n. IsHidden n c.load-first.result) (sym same) hidden))
                some,
          );
    }

pub loop-segment-preserved : goal.loop-segment-preserved
loop-segment-preserved g c = record {
  long = length-set c.loop-segment.firsts c.loop-segment.segment c.load-first.result ∙ c.loop-segment.invariant.long;
  told = λ docs same. record {
    told = λ m st p.
        let x = (c.loop-segment.invariant.told docs same).told m st p in
        let y = c.load-first.ensures.told x.0 x.1 in
        let setting = c.config-config.ensures m st ∙ x.2.setting ∙ y.2.setting in
        let at = c.first.ensures.place ∙ ap (λ (σ : Setting). place σ (slot c.loop-segment.segment first_region 0)) (c.new-places.ensures ∙ setting) in
        let inside : c.loop-segment.segment < y.0.setting.segments = omega (arith, c.loop-segment-test.true, c.segments.ensures, ap (λ (σ : Setting). σ.segments) setting) in
        let is = g.met.P.Port.lawful _ y.0 y.1 in
        let some = some_later x.0 y.0 docs c.loop-segment.firsts c.loop-segment.segment y.2 x.4 in
        let value = y.4 ∙ ap (word y.0) at in
        let here = seen_segment y.0 docs c.loop-segment.segment c.load-first.result is some.accepted inside value c.if-first-eq0.false (omega (arith, same, c.if-first-count.false)) in (
          y.0,
          y.1,
          later_on m x.0 y.0 x.2 y.2,
          g.met.P.Port.keeps_on _ _ _ m x.0 y.0 x.3 y.3,
          some_more y.0 docs c.loop-segment.firsts c.loop-segment.segment c.load-first.result (omega (arith, c.loop-segment.invariant.long, inside, is.setting.segments.1)) here
              (visible_word y.0 docs c.loop-segment.segment c.load-first.result is some.accepted inside value here) some,
        );
  };
  loads = omega (arith, c.loop-segment.invariant.loads, c.load-first.ensures.step);
  within = omega (arith, c.loop-segment-test.true, c.segments.ensures);
}

pub returns-clause-words : goal.returns-clause-words
returns-clause-words g c = λ docs same. record {
  told = λ m st p.
      let x = (c.loop-segment.invariant.told docs same).told m st p in
      let setting = c.config-config.ensures m st ∙ x.2.setting in (
        x.0,
        x.1,
        x.2,
        x.3,
        some_all x.0 docs c.loop-segment.firsts c.loop-segment.segment
            (omega (arith, cut_short x.0 docs (g.met.P.Port.lawful _ x.0 x.1) x.4.accepted, c.loop-segment-test.false, c.segments.ensures, ap (λ (σ : Setting). σ.segments) setting)) x.4,
      );
}

pub returns-then-first-eq0-clause-loads : goal.returns-then-first-eq0-clause-loads
returns-then-first-eq0-clause-loads g c = λ m st.
    omega (arith, c.loop-segment.invariant.loads, c.load-first.ensures.step, c.loop-segment-test.true, c.segments.ensures, ap (λ (σ : Setting). σ.segments) (c.config-config.ensures m st))

pub returns-clause-loads : goal.returns-clause-loads
returns-clause-loads g c = λ m st. omega (arith, c.loop-segment.invariant.loads, c.loop-segment.invariant.within, ap (λ (σ : Setting). σ.segments) (c.config-config.ensures m st))
