use Rattle.std.proofs.Common.{◌≡◌, false, get_or, length, is_some, refl, sym, ap, ◌∙◌, arith}
use Rattle.std.proofs.lemmas.List.{get_or_default}
use Rattle.std.specs.Map.{keys_of}
use Rattle.eb_base.specs.Match.{is_match}
use Rattle.eb_watch.specs.Watches.{is_set, candidates}
use Rattle.eb_watch.specs.Held.{watched}
use Rattle.eb_watch.proofs.Lists.{rises_from, set_watched, finds_none, finds_one}
use Rattle.eb_watch.proofs.Telling.{told_more, told_no_more, told_all, tried_all, matching_rises}
use Rattle.eb_watch.proofs.watches.Watches.told.Goals as goal
use Rattle.eb_watch.proofs.watches.Watches.told.Goals.{then-matches_by+in_ok-push, else-matches_by}

pub loop-number-preserved-in_default : goal.loop-number-preserved-in_default
loop-number-preserved-in_default g c =
    let es = c.args.self.now.by_number.entries in
    let d = c.args.document.now in
    let ns = c.deref-number-items.result.now in
    let i = c.loop-number.number-index in
    let x = get_or ns i 0 in
    let old = c.loop-number.numbers.items in
    let free : is_set (watched es) x ≡ false = sym (set_watched es x) ∙ ap is_some (sym c.in_default.ensures.value) in
    let none = finds_none (λ q. is_match q d) (watched es) x free in (
      told_no_more (λ q. is_match q d) es ns i x c.loop-number-test.true (get_or_default ns i 0 x c.loop-number-test.true) old old c.loop-number.invariant.0 none refl,
      omega (arith, c.loop-number.invariant.1),
      c.loop-number.invariant.2,
    )

pub loop-number-preserved : goal.loop-number-preserved
loop-number-preserved g c =
    let es = c.args.self.now.by_number.entries in
    let d = c.args.document.now in
    let ns = c.deref-number-items.result.now in
    let i = c.loop-number.number-index in
    let x = get_or ns i 0 in
    let old = c.loop-number.numbers.items in
    let one = finds_one (λ q. is_match q d) es x c.in-Some.watch.now (rises_from (keys_of es) c.args.self.now.rising) (sym c.in-Some.ensures.value) in
    elim c.if-matches_by.branch [
      | then-matches_by+in_ok-push w ↦ (
        told_more (λ q. is_match q d) es ns i x c.loop-number-test.true (get_or_default ns i 0 x c.loop-number-test.true) old c.if-matches_by.numbers.items c.loop-number.invariant.0
            (one ∙ sym w.if-matches_by.ensures.test) (ap (λ v. v.items) w.numbers-is ∙ w.in_ok-push.ensures.items),
        omega (arith, c.loop-number.invariant.1, c.matches_by.ensures.tests),
        c.matches_by.ensures.room ∙ c.loop-number.invariant.2,
      )
      | else-matches_by w ↦ (
        told_no_more (λ q. is_match q d) es ns i x c.loop-number-test.true (get_or_default ns i 0 x c.loop-number-test.true) old c.if-matches_by.numbers.items c.loop-number.invariant.0
            (one ∙ sym w.if-matches_by.ensures.test) (ap (λ v. v.items) w.numbers-is),
        omega (arith, c.loop-number.invariant.1, c.matches_by.ensures.tests),
        c.matches_by.ensures.room ∙ c.loop-number.invariant.2,
      )
    ]

pub returns-in_err-push-clause-tests : goal.returns-in_err-push-clause-tests
returns-in_err-push-clause-tests g c =
    let s = c.args.self.now in
    let ns = c.in_ok-candidates.candidates.items in
    let all : length ns ≡ length (candidates (watched s.by_number.entries) c.args.document.now) =
    tried_all s.by_term s.keyless s.by_number.entries c.args.document.now ns s.rising s.terms_lead s.are_keyless c.in_ok-candidates.ensures.rising c.in_ok-candidates.ensures.numbers in
    omega (arith, all, c.loop-number-test.true, ap length c.deref-number-items.ensures.value, c.loop-number.invariant.1, c.matches_by.ensures.tests)

pub returns-clause-tests : goal.returns-clause-tests
returns-clause-tests g c =
    let s = c.args.self.now in
    let ns = c.in_ok-candidates.candidates.items in
    let all : length ns ≡ length (candidates (watched s.by_number.entries) c.args.document.now) =
    tried_all s.by_term s.keyless s.by_number.entries c.args.document.now ns s.rising s.terms_lead s.are_keyless c.in_ok-candidates.ensures.rising c.in_ok-candidates.ensures.numbers in
    omega (arith, all, c.loop-number.auto.number-index-end, ap length c.deref-number-items.ensures.value, c.loop-number.invariant.1)

pub returns-clause-told : goal.returns-clause-told
returns-clause-told g c =
    let s = c.args.self.now in
    let ns = c.in_ok-candidates.candidates.items in
    let i = c.loop-number.number-index in
    let d = c.args.document.now in
    let same = c.deref-number-items.ensures.value in
    told_all s.by_term s.keyless s.by_number.entries d ns s.rising s.terms_lead s.are_keyless c.in_ok-candidates.ensures.rising c.in_ok-candidates.ensures.numbers
    c.loop-number.numbers.items i (omega (arith, c.loop-number-test.false, ap length same)) (rw same at c.loop-number.invariant.0)

pub returns-clause-rising : goal.returns-clause-rising
returns-clause-rising g c =
    let s = c.args.self.now in
    let ns = c.in_ok-candidates.candidates.items in
    let i = c.loop-number.number-index in
    let d = c.args.document.now in
    let same = c.deref-number-items.ensures.value in
    matching_rises s.by_number.entries d c.loop-number.numbers.items s.rising
    (told_all s.by_term s.keyless s.by_number.entries d ns s.rising s.terms_lead s.are_keyless c.in_ok-candidates.ensures.rising c.in_ok-candidates.ensures.numbers
    c.loop-number.numbers.items i (omega (arith, c.loop-number-test.false, ap length same)) (rw same at c.loop-number.invariant.0))
