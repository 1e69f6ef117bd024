use Rattle.std.proofs.Common.{◌≡◌, refl, sym, ◌∙◌, subst, arith}
use Rattle.std.proofs.lemmas.Bool.{false≢true}
use Rattle.eb_place.specs.Room.{text_words}
use Rattle.eb_place.specs.Placing.{text_of}
use Rattle.eb_place.proofs.EnteredTerms.{entered_bytes}
use Rattle.eb_place.proofs.LaterMoments.{later_on}
use Rattle.eb_terms.specs.Comparing.{term_at}
use Rattle.eb_terms.proofs.Reading.{AreSame, at_low, number_later, same_term_later, text_later, same_more, compare_stops, compare_ends}
use Rattle.eb_terms.proofs.finding.is_term.Goals as goal

pub word_of_text-requires : goal.word_of_text-requires
word_of_text-requires g c =
    let r = c.requires in
    let k = c.loop-at.invariant.0.told r.0 r.1 (r.2, r.3, r.4) in
    let e = c.count_words-at-end.ensures.count in
    let l = c.loop-at-test.true in
    (k.0, c.args.number, k.1, r.2 ∙ k.2.setting, k.4.0, at_low (term_at k.0 c.args.segment c.args.number) c.args.term.now c.loop-at.at (omega arith) k.4.1)

pub returns-then-word_of_text-text_word : goal.returns-then-word_of_text-text_word
returns-then-word_of_text-text_word g c = record {
  told = record {
    told = λ m st h.
        (let k = c.loop-at.invariant.0.told m st h in
        let n = (c.word_of_text.ensures.told c.args.number).told k.0 k.1
        (h.0 ∙ k.2.setting, k.4.0, at_low (term_at k.0 c.args.segment c.args.number) c.args.term.now c.loop-at.at (omega (arith, c.count_words-at-end.ensures.count, c.loop-at-test.true)) k.4.1) in
        let same = same_term_later k.0 n.0 c.args.segment c.args.number n.2 k.4.0.number in
        let front = subst (λ t. AreSame (text_of t) (text_of c.args.term.now) c.loop-at.at) (sym same) k.4.1 in
        let stop = compare_stops (term_at n.0 c.args.segment c.args.number) c.args.term.now c.loop-at.at
        (omega (arith, c.count_words-at-end.ensures.count, c.loop-at-test.true)) front (λ e. c.if-word_of_text-text_word.true (n.4 ∙ e ∙ sym c.text_word.ensures)) in (
          n.0,
          n.1,
          later_on m k.0 n.0 k.2 n.2,
          g.met.P.Port.keeps_on c.args.port.now c.loop-at.port c.word_of_text.new.port m k.0 n.0 k.3 n.3,
          (
            number_later k.0 n.0 c.args.segment c.args.number n.2 k.4.0.number,
            ((λ e. absurd (false≢true e)), (λ e. absurd (stop.0 e))),
            omega (arith, c.word_of_text.ensures.step, c.loop-at.invariant.1, stop.1),
          ),
        ));
  };
}

pub loop-at-preserved : goal.loop-at-preserved
loop-at-preserved g c = (
  record {
    told = λ m st h.
        (let k = c.loop-at.invariant.0.told m st h in
        let n = (c.word_of_text.ensures.told c.args.number).told k.0 k.1
        (h.0 ∙ k.2.setting, k.4.0, at_low (term_at k.0 c.args.segment c.args.number) c.args.term.now c.loop-at.at (omega (arith, c.count_words-at-end.ensures.count, c.loop-at-test.true)) k.4.1) in
        let same = same_term_later k.0 n.0 c.args.segment c.args.number n.2 k.4.0.number in
        let front = subst (λ t. AreSame (text_of t) (text_of c.args.term.now) c.loop-at.at) (sym same) k.4.1 in (
          n.0,
          n.1,
          later_on m k.0 n.0 k.2 n.2,
          g.met.P.Port.keeps_on c.args.port.now c.loop-at.port c.word_of_text.new.port m k.0 n.0 k.3 n.3,
          (
            text_later k.0 n.0 c.args.segment c.args.number c.start_of-start.result n.2 k.4.0,
            same_more (text_of (term_at n.0 c.args.segment c.args.number)) (text_of c.args.term.now) c.loop-at.at front (sym n.4 ∙ c.if-word_of_text-text_word.false ∙ c.text_word.ensures),
          ),
        ));
  },
  omega (arith, c.word_of_text.ensures.step, c.loop-at.invariant.1),
)

pub returns : goal.returns
returns g c = record {
  told = record {
    told = λ m st h.
        (let k = c.loop-at.invariant.0.told m st h in
        let end : c.loop-at.at ≡ text_words c.args.term.now = omega (arith, c.count_words-at-end.ensures.count, c.loop-at-test.false, c.loop-at.auto.at-end) in
        let front = subst (λ i. AreSame (text_of (term_at k.0 c.args.segment c.args.number)) (text_of c.args.term.now) i) end k.4.1 in
        let all = compare_ends (term_at k.0 c.args.segment c.args.number) c.args.term.now
        (entered_bytes k.0 c.args.segment c.args.number (g.met.P.Port.lawful c.loop-at.port k.0 k.1) k.4.0.number) c.count_words-at-end.ensures.bytes front in
        (k.0, k.1, k.2, k.3, (k.4.0.number, ((λ e. all.0), (λ e. refl)), omega (arith, c.loop-at.invariant.1, all.1, end))));
  };
}
