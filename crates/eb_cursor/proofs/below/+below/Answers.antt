use Rattle.std.proofs.Common.{◌≡◌, ◌≢◌, ℕ, zero, suc, ◌+◌, ◌-◌, ◌<◌, ◌≤◌, List, [], ◌∷◌, length, not, Bool, arith, ap, ◌∙◌, sym, subst, refl, rules}
use Rattle.std.specs.List.{Contains}
use Rattle.eb_base.specs.Term.{Term}
use Rattle.eb_place.specs.declared.moment.Moment.{Moment}
use Rattle.eb_base.specs.Query.{Tree, Trees, tree, word, phrase, window, since, negation, conjunction, disjunction}
use Rattle.eb_base.specs.declared.query.Query.{Query}
use Rattle.eb_cursor.specs.AndCosts.{word_parts, rounds_cost, AndOwes, PaysRounds}
use Rattle.eb_cursor.specs.Asked.{weight, weights, trees_in}
use Rattle.eb_cursor.specs.Costs.{PaysSpans, round_loads}
use Rattle.eb_cursor.specs.Lists.{gives}
use Rattle.eb_cursor.specs.Ready.{Ready, AllReady}
use Rattle.eb_cursor.specs.Tops.{top}
use Rattle.eb_cursor.specs.Posted.{match_at, each_at}
use Rattle.eb_cursor.specs.declared.cursor.Cursor.{Cursor}
use Rattle.eb_cursor.proofs.Readies.{ready_lower, ready_later, all_lower, all_size}
use Rattle.eb_cursor.proofs.Steps.{tree_Word, tree_Phrase, tree_Window, tree_Since, tree_Not, tree_And, tree_Or, not_asks, not_told, not_here, not_past, each_told, each_asks, led_none}
use Rattle.eb_cursor.proofs.Steps.{led_here, led_there, led_top, round_end, round_behind, some_end, some_step, some_asks, some_told, front_of, front_asks, others_ask, ended}
use Rattle.eb_place.proofs.LaterMoments.{later_on}
use Rattle.eb_cursor.proofs.AndLoads.{words_split, spans_front, spans_join, cost_low, cost_falls, under_at}
use Rattle.eb_cursor.proofs.Owing.{all_span_later}
use Rattle.eb_cursor.proofs.Turns.{word_front, part_alone, others_can, turn_found, turn_paid, single_can, single_found, single_paid}
use Rattle.eb_cursor.proofs.Pairs.{two_words}
use Rattle.eb_cursor.proofs.LoadsLeft.{loads_split, loads_split_back}
use Rattle.eb_cursor.proofs.Tops.{top_le}
use Rattle.eb_cursor.proofs.Tellings.{IsLater, gives_later, later_same, told_itself, told_as, told_on}
use Rattle.eb_cursor.proofs.below.+below.Goals.{all_below-then-are_two_words+in_default, all_below-else-are_two_words}
use Rattle.eb_cursor.proofs.below.+below.Goals as goal

-- ---- each kind of query

pub below-returns-then-end-eq0-clause-found : goal.below-returns-then-end-eq0-clause-found
below-returns-then-end-eq0-clause-found g t c =
    λ docs last h. told_itself g.met.P.Port.keeps_itself (λ m r. ended (gives m) docs (tree c.args.query.now) c.args.cursors.now c.args.end last c.if-end-eq0.true r)

pub below-returns-in-Word-clause-found : goal.below-returns-in-Word-clause-found
below-returns-in-Word-clause-found g t c = λ docs last h.
    let i : tree c.args.query.now ≡ word c.in-Word.field-0 = ap tree c.in-Word.is ∙ tree_Word c.in-Word.field-0 in
    told_as g.met.P.Port.lawful (c.word_below.ensures.found docs c.in-Word.field-0 last h)
    (λ m r. subst (λ x. Ready (gives m) docs x c.args.cursors.now last) i r)
    (λ m n later r w. (w.0 ∙ ap (λ (x : Tree). top (match_at docs x) c.args.end) (sym i), subst (λ x. Ready (gives n) docs x c.word_below.new.cursors c.args.end) (sym i) w.1))

pub below-returns-in-Phrase-clause-found : goal.below-returns-in-Phrase-clause-found
below-returns-in-Phrase-clause-found g t c = λ docs last h.
    let i : tree c.args.query.now ≡ phrase c.in-Phrase.field-0 = ap tree c.in-Phrase.is ∙ tree_Phrase c.in-Phrase.field-0 in
    told_as g.met.P.Port.lawful (c.phrase_below.ensures.found docs c.in-Phrase.field-0 last h)
    (λ m r. subst (λ x. Ready (gives m) docs x c.args.cursors.now last) i r)
    (λ m n later r w. (w.0 ∙ ap (λ (x : Tree). top (match_at docs x) c.args.end) (sym i), subst (λ x. Ready (gives n) docs x c.phrase_below.new.cursors c.args.end) (sym i) w.1))

pub below-returns-in-Window-clause-found : goal.below-returns-in-Window-clause-found
below-returns-in-Window-clause-found g t c = λ docs last h.
    let i : tree c.args.query.now ≡ window c.as_slice.result.now c.in-Window.reach = ap tree c.in-Window.is
    ∙ tree_Window c.in-Window.terms c.in-Window.reach ∙ ap (λ (x : List (List ℕ)). window x c.in-Window.reach) (sym c.as_slice.ensures) in
    told_as g.met.P.Port.lawful (c.window_below.ensures.found docs last h)
    (λ m r. subst (λ x. Ready (gives m) docs x c.args.cursors.now last) i r)
    (λ m n later r w. (w.0 ∙ ap (λ (x : Tree). top (match_at docs x) c.args.end) (sym i), subst (λ x. Ready (gives n) docs x c.window_below.new.cursors c.args.end) (sym i) w.1))

pub below-returns-in-Since-clause-found : goal.below-returns-in-Since-clause-found
below-returns-in-Since-clause-found g t c = λ docs last h.
    let i : tree c.args.query.now ≡ since c.in-Since.bound = ap tree c.in-Since.is ∙ tree_Since c.in-Since.bound in
    told_as g.met.P.Port.lawful (c.bound_below.ensures.found docs last h)
    (λ m r. subst (λ x. Ready (gives m) docs x c.args.cursors.now last) i r)
    (λ m n later r w. (w.0 ∙ ap (λ (x : Tree). top (match_at docs x) c.args.end) (sym i), subst (λ x. Ready (gives n) docs x c.bound_below.new.cursors c.args.end) (sym i) w.1))

pub below-returns-in-Some-clause-found : goal.below-returns-in-Some-clause-found
below-returns-in-Some-clause-found g t c = λ docs last h.
    let s = c.in-Some.own.now in
    let i : tree c.args.query.now ≡ negation (tree c.deref.result.now) = ap tree c.in-Not.is ∙ tree_Not c.in-Not.part ∙ ap (λ (x : Query). negation (tree x)) (sym c.deref.ensures) in
    told_as g.met.P.Port.lawful (c.not_below-found.ensures.found docs s.upto (omega (arith, c.min.ensures)))
    (λ m r. not_asks (gives m) docs (tree c.args.query.now) (tree c.deref.result.now) c.args.cursors.now s c.in-Some.rest.now last i c.in-Some.ensures.cases.0 r)
    (λ m n later r w. not_told (gives m) (gives n) docs (tree c.args.query.now)
    (tree c.deref.result.now) c.args.cursors.now s _ c.in-Some.rest.now _ c.min.result c.args.end last c.not_below-found.result
    i c.in-Some.ensures.cases.0 refl h c.min.ensures w r)

pub below-and_below-requires : goal.below-and_below-requires
below-and_below-requires g t c = λ κs lv.
    let r = c.requires.ready in
    let i : tree c.args.query.now ≡ conjunction (trees_in c.as_slice-in-And.result.now) = ap tree c.in-And.is
    ∙ tree_And c.in-And.parts ∙ ap (λ (x : List Query). conjunction (trees_in x)) (sym c.as_slice-in-And.ensures) in
    (search rules, (search rules, (search rules, (search rules, (r.0, r.1, r.2, r.3, r.4, subst (λ x. Ready (gives r.0) r.1 x c.args.cursors.now r.2) i r.5)))))

pub below-returns-in-And-clause-found : goal.below-returns-in-And-clause-found
below-returns-in-And-clause-found g t c = λ docs last h.
    let i : tree c.args.query.now ≡ conjunction (trees_in c.as_slice-in-And.result.now) = ap tree c.in-And.is
    ∙ tree_And c.in-And.parts ∙ ap (λ (x : List Query). conjunction (trees_in x)) (sym c.as_slice-in-And.ensures) in
    told_as g.met.P.Port.lawful (c.and_below.ensures.found docs last h)
    (λ m r. subst (λ x. Ready (gives m) docs x c.args.cursors.now last) i r)
    (λ m n later r w. (w.0 ∙ ap (λ (x : Tree). top (match_at docs x) c.args.end) (sym i), subst (λ x. Ready (gives n) docs x c.and_below.new.cursors c.args.end) (sym i) w.1))

pub below-returns-in-Some-split_first_mut-clause-found : goal.below-returns-in-Some-split_first_mut-clause-found
below-returns-in-Some-split_first_mut-clause-found g t c = λ docs last h.
    let i : tree c.args.query.now ≡ disjunction (trees_in c.as_slice-in-Or.result.now) = ap tree c.in-Or.is
    ∙ tree_Or c.in-Or.parts ∙ ap (λ (x : List Query). disjunction (trees_in x)) (sym c.as_slice-in-Or.ensures) in
    told_as g.met.P.Port.lawful (c.some_below.ensures.found docs last h)
    (λ m r. some_asks (gives m) docs (tree c.args.query.now) (trees_in c.as_slice-in-Or.result.now)
    c.args.cursors.now c.in-Some-split_first_mut._own.now c.in-Some-split_first_mut.rest.now last i c.in-Some-split_first_mut.ensures.cases.0 r)
    (λ m n later r w. some_told (gives n) docs (tree c.args.query.now)
    (trees_in c.as_slice-in-Or.result.now) c.in-Some-split_first_mut._own.now c.some_below.new.cursors c.args.end c.some_below.result i w)

-- ---- the same for a part of an and

pub part_below-returns-in-Word-clause-found : goal.part_below-returns-in-Word-clause-found
part_below-returns-in-Word-clause-found g t c = λ docs last h.
    let i : tree c.args.query.now ≡ word c.in-Word.field-0 = ap tree c.in-Word.is ∙ tree_Word c.in-Word.field-0 in
    told_as g.met.P.Port.lawful (c.word_below.ensures.found docs c.in-Word.field-0 last h)
    (λ m r. subst (λ x. Ready (gives m) docs x c.args.cursors.now last) i r)
    (λ m n later r w. (w.0 ∙ ap (λ (x : Tree). top (match_at docs x) c.args.end) (sym i), subst (λ x. Ready (gives n) docs x c.word_below.new.cursors c.args.end) (sym i) w.1))

pub part_below-returns-in-Word-clause-spans : goal.part_below-returns-in-Word-clause-spans
part_below-returns-in-Word-clause-spans g t c = λ u e. c.word_below.ensures.spans u

-- ---- what does not match

pub not_below-loop-place-init : goal.not_below-loop-place-init
not_below-loop-place-init g t c = record {
  falls = omega arith;
  loads = omega arith;
  found = λ docs last h. told_itself g.met.P.Port.keeps_itself (λ m r. (refl, ready_lower (gives m) docs (tree c.args.query.now) c.args.cursors.now c.args.end last h r));
}

pub not_below-returns-then-found-place-clause-found : goal.not_below-returns-then-found-place-clause-found
not_below-returns-then-found-place-clause-found g t c = λ docs last h.
    told_on g.met.P.Port.lawful g.met.P.Port.keeps_on (c.loop-place.invariant.found docs last h) (c.below-found.ensures.found docs c.loop-place.place (omega arith))
    (λ l r. r) (λ l m w r i. i.1)
    (λ l m n w1 w2 r i w.
    let f : ℕ → _ = match_at docs (tree c.args.query.now) in
    let under : top f c.loop-place.place < c.loop-place.place = omega (arith, w.0) in
    (not_here f c.loop-place.place c.loop-place-test.true under ∙ sym i.0, w.1))

pub not_below-loop-place-preserved : goal.not_below-loop-place-preserved
not_below-loop-place-preserved g t c = record {
  falls = omega (arith, c.loop-place.invariant.falls);
  loads = omega (arith, c.below-found.ensures.loads, c.loop-place.invariant.loads);
  found = λ docs last h.
      told_on g.met.P.Port.lawful g.met.P.Port.keeps_on (c.loop-place.invariant.found docs last h) (c.below-found.ensures.found docs c.loop-place.place (omega arith))
      (λ l r. r) (λ l m w r i. i.1)
      (λ l m n w1 w2 r i w.
      let f : ℕ → _ = match_at docs (tree c.args.query.now) in
      let over : c.loop-place.place ≤ top f c.loop-place.place = omega (arith, w.0) in (
        i.0 ∙ not_past f c.loop-place.place c.loop-place-test.true over,
        ready_lower (gives n) docs (tree c.args.query.now) c.below-found.new.cursors (c.loop-place.place - 1) c.loop-place.place (omega arith) w.1,
      ));
}

pub not_below-below-found-requires : goal.not_below-below-found-requires
not_below-below-found-requires g t c = λ κs lv.
    let r = c.requires.ready in
    let i = (c.loop-place.invariant.found r.1 r.2 r.4).told r.0 r.3 r.5 in (
      search rules,
      (
        search rules,
        (search rules, (omega (arith, c.requires.small.0, c.requires.small.1, c.loop-place.invariant.falls, c.loop-place.auto.cursors), (i.0, r.1, c.loop-place.place, i.1, omega arith, i.4.1))),
      ),
    )

at_zero : (f : ℕ → Bool) (place : ℕ) → place ≤ 0 → place ≡ top f place
at_zero f zero h = refl
at_zero f (suc n) h = absurd (omega arith)

pub not_below-returns-clause-found : goal.not_below-returns-clause-found
not_below-returns-clause-found g t c = λ docs last h.
    told_as g.met.P.Port.lawful (c.loop-place.invariant.found docs last h) (λ m r. r)
    (λ m n w r i. (at_zero (λ k. not (match_at docs (tree c.args.query.now) k)) c.loop-place.place c.loop-place-test.false ∙ sym i.0, i.1))

-- ---- what all parts match

pub and_below-led_below-found-requires : goal.and_below-led_below-found-requires
and_below-led_below-found-requires g t c = λ κs lv.
    let r = c.requires.ready in
    let asks = each_asks (gives r.0) r.1 (conjunction (trees_in c.args.parts.now)) (trees_in c.args.parts.now)
    c.args.cursors.now c.in-Some.own.now c.in-Some.rest.now r.2 refl c.in-Some.ensures.cases.0 r.5 in
    (search rules, (search rules, (search rules, (search rules, (r.0, r.1, c.in-Some.own.now.upto, r.3, omega (arith, c.min-start.ensures), asks)))))

pub and_below-returns-clause-found : goal.and_below-returns-clause-found
and_below-returns-clause-found g t c = λ docs last h.
    let s = c.in-Some.own.now in
    let fell : Cursor = record { upto = c.led_below-found.result; lead = s.lead; segment = s.segment; current = s.current; list = s.list } in
    told_as g.met.P.Port.lawful (c.led_below-found.ensures.found docs s.upto (omega (arith, c.min-start.ensures)))
    (λ m r. each_asks (gives m) docs (conjunction (trees_in c.args.parts.now))
    (trees_in c.args.parts.now) c.args.cursors.now s c.in-Some.rest.now last refl c.in-Some.ensures.cases.0 r)
    (λ m n later r w. each_told (gives m) (gives n) docs (conjunction (trees_in c.args.parts.now))
    (trees_in c.args.parts.now) c.args.cursors.now s fell c.in-Some.rest.now c.led_below-found.new.cursors c.min-start.result c.args.end last c.led_below-found.result
    refl c.in-Some.ensures.cases.0 refl h c.min-start.ensures w r)

pub turns_below-loop-place-init : goal.turns_below-loop-place-init
turns_below-loop-place-init g t c = record {
  falls = omega arith;
  loads = omega arith;
  found = λ docs last h. told_itself g.met.P.Port.keeps_itself (λ m r. (refl, all_lower (gives m) docs (trees_in c.args.parts.now) c.args.cursors.now c.args.end last h r));
  rounds = λ ts t e i docs r last s most h st ready. told_itself g.met.P.Port.keeps_itself (λ m p. (most, p, omega arith));
}

pub turns_below-first_below-found-requires : goal.turns_below-first_below-found-requires
turns_below-first_below-found-requires g t c = λ κs lv.
    let r = c.requires.ready in
    let i = (c.loop-place.invariant.found r.1 r.2 r.4).told r.0 r.3 r.5 in (
      search rules,
      (
        search rules,
        (search rules, (omega (arith, c.requires.small.0, c.requires.small.1, c.loop-place.invariant.falls, c.loop-place.auto.cursors), (i.0, r.1, c.loop-place.place, i.1, omega arith, i.4.1))),
      ),
    )

pub turns_below-returns-then-found-place-clause-found : goal.turns_below-returns-then-found-place-clause-found
turns_below-returns-then-found-place-clause-found g t c = λ docs last h.
    told_on g.met.P.Port.lawful g.met.P.Port.keeps_on (c.loop-place.invariant.found docs last h) (c.first_below-found.ensures.found docs c.loop-place.place (omega arith))
    (λ l r. r) (λ l m w r i. i.1)
    (λ l m n w1 w2 r i round.
    (sym (i.0 ∙ round.all c.if-found-place.true), subst (λ y. AllReady (gives n) docs (trees_in c.args.parts.now) c.first_below-found.new.cursors y) c.if-found-place.true round.ready))

pub turns_below-loop-place-smaller : goal.turns_below-loop-place-smaller
turns_below-loop-place-smaller g t c =
    let r = c.requires.ready in
    let i = (c.loop-place.invariant.found r.1 r.2 r.4).told r.0 r.3 r.5 in
    let x = (c.first_below-found.ensures.found r.1 c.loop-place.place (omega arith)).told i.0 i.1 i.4.1 in
    let le : c.first_below-found.result ≤ c.loop-place.place = x.4.falls in
    let ne : c.first_below-found.result ≢ c.loop-place.place = c.if-found-place.false in
    omega arith

pub turns_below-loop-place-preserved : goal.turns_below-loop-place-preserved
turns_below-loop-place-preserved g t c =
    let r = c.requires.ready in
    let i = (c.loop-place.invariant.found r.1 r.2 r.4).told r.0 r.3 r.5 in
    let x = (c.first_below-found.ensures.found r.1 c.loop-place.place (omega arith)).told i.0 i.1 i.4.1 in
    record {
      falls = omega (arith, x.4.falls, c.loop-place.invariant.falls);
      loads = omega (arith, c.first_below-found.ensures.loads, c.loop-place.invariant.loads);
      found = λ docs last h.
          told_on g.met.P.Port.lawful g.met.P.Port.keeps_on (c.loop-place.invariant.found docs last h) (c.first_below-found.ensures.found docs c.loop-place.place (omega arith))
          (λ l r. r) (λ l m w r i. i.1)
          (λ l m n w1 w2 r i round. (i.0 ∙ round.same, round.ready));
      rounds = λ ts t e member docs r last s most h st ready. record {
        told = λ m at p.
            let i = (c.loop-place.invariant.found docs last h).told r st (subst (λ z. AllReady (gives r) docs z c.args.cursors.now last) (sym e) ready) in
            let z = (c.first_below-found.ensures.found docs c.loop-place.place (omega arith)).told i.0 i.1 i.4.1 in
            let falls : c.first_below-found.result < c.loop-place.place = let ne : c.first_below-found.result ≢ c.loop-place.place = c.if-found-place.false in omega (arith, z.4.falls, ne) in
            let pays = cost_falls docs ts t c.first_below-found.result c.loop-place.place falls (under_at docs ts t (trees_in c.args.parts.now) _ _ member e z.4.under) in
            let x = (c.loop-place.invariant.rounds ts t e member docs r last s most h st ready).told m at p in
            let y = (c.first_below-found.ensures.spans ts e s x.4.1.0).told x.0 x.1 x.4.1.1 in (
              y.0,
              y.1,
              later_on m x.0 y.0 x.2 y.2,
              g.met.P.Port.keeps_on _ _ _ m x.0 y.0 x.3 y.3,
              (y.4.0 + rounds_cost docs ts t c.first_below-found.result, (y.4.0, y.4.1, omega arith), omega (arith, x.4.1.2, x.4.2, y.4.2, pays)),
            );
      };
    }

-- ---- the part that leads

pub lead_below-returns-in_default-clause-found : goal.lead_below-returns-in_default-clause-found
lead_below-returns-in_default-clause-found g t c =
    λ docs last h. told_itself g.met.P.Port.keeps_itself (λ m r. led_none (gives m) docs (trees_in c.args.parts.now) c.args.cursors.now c.args.end last h r)

pub lead_below-size-requires : goal.lead_below-size-requires
lead_below-size-requires g t c = let r = c.requires.ready in
    let n = all_size (gives r.0) r.1 (trees_in c.args.parts.now) (tree c.in-Some.part.now) (trees_in c.in-Some.others.now) c.args.cursors.now r.2 (ap trees_in c.in-Some.ensures.cases.0) r.5 in
    omega (arith, n, c.requires.small.1)

pub lead_below-split_at_mut-own-requires : goal.lead_below-split_at_mut-own-requires
lead_below-split_at_mut-own-requires g t c = let r = c.requires.ready in
    let n = all_size (gives r.0) r.1 (trees_in c.args.parts.now) (tree c.in-Some.part.now) (trees_in c.in-Some.others.now) c.args.cursors.now r.2 (ap trees_in c.in-Some.ensures.cases.0) r.5 in
    omega (arith, n, c.size.ensures)

pub lead_below-returns-then-lead-eq0-clause-found : goal.lead_below-returns-then-lead-eq0-clause-found
lead_below-returns-then-lead-eq0-clause-found g t c = λ docs last h.
    let e = front_of c.args.parts.now c.in-Some.part.now c.in-Some.others.now c.args.cursors.now c.split_at_mut-own.result.0.now c.split_at_mut-own.result.1.now
    c.size.result c.in-Some.ensures.cases.0 c.size.ensures c.split_at_mut-own.ensures.front c.split_at_mut-own.ensures.back in
    told_as g.met.P.Port.lawful (c.part_below.ensures.found docs last h)
    (λ m r. front_asks (gives m) docs (trees_in c.args.parts.now) (tree c.in-Some.part.now)
    (trees_in c.in-Some.others.now) c.args.cursors.now c.split_at_mut-own.result.0.now c.split_at_mut-own.result.1.now last e r)
    (λ m n later r w. led_here (gives n) docs (trees_in c.args.parts.now) (tree c.in-Some.part.now)
    (trees_in c.in-Some.others.now) c.part_below.new.cursors c.split_at_mut-own.result.1.now c.args.end c.part_below.result e.parts w.0 w.1
    (others_ask (gives m) (gives n) docs (trees_in c.args.parts.now) (tree c.in-Some.part.now)
    (trees_in c.in-Some.others.now) c.args.cursors.now c.split_at_mut-own.result.0.now c.split_at_mut-own.result.1.now c.args.end last e (gives_later m n later) h r))

pub lead_below-lead_below-requires : goal.lead_below-lead_below-requires
lead_below-lead_below-requires g t c = λ κs lv.
    let r = c.requires.ready in
    let e = front_of c.args.parts.now c.in-Some.part.now c.in-Some.others.now c.args.cursors.now c.split_at_mut-own.result.0.now c.split_at_mut-own.result.1.now
    c.size.result c.in-Some.ensures.cases.0 c.size.ensures c.split_at_mut-own.ensures.front c.split_at_mut-own.ensures.back in
    let more = others_ask (gives r.0) (gives r.0) r.1 (trees_in c.args.parts.now) (tree c.in-Some.part.now)
    (trees_in c.in-Some.others.now) c.args.cursors.now c.split_at_mut-own.result.0.now c.split_at_mut-own.result.1.now r.2 r.2 e (later_same (gives r.0)) (omega arith) r.5 in
    (search rules, (search rules, (search rules, (search rules, (r.0, r.1, r.2, r.3, r.4, more)))))

pub lead_below-returns-clause-found : goal.lead_below-returns-clause-found
lead_below-returns-clause-found g t c = λ docs last h.
    let e = front_of c.args.parts.now c.in-Some.part.now c.in-Some.others.now c.args.cursors.now c.split_at_mut-own.result.0.now c.split_at_mut-own.result.1.now
    c.size.result c.in-Some.ensures.cases.0 c.size.ensures c.split_at_mut-own.ensures.front c.split_at_mut-own.ensures.back in
    told_as g.met.P.Port.lawful (c.lead_below.ensures.found docs last h)
    (λ m r. others_ask (gives m) (gives m) docs (trees_in c.args.parts.now) (tree c.in-Some.part.now)
    (trees_in c.in-Some.others.now) c.args.cursors.now c.split_at_mut-own.result.0.now c.split_at_mut-own.result.1.now last last e (later_same (gives m)) (omega arith) r)
    (λ m n later r w. led_there (gives n) docs (trees_in c.args.parts.now) (tree c.in-Some.part.now)
    (trees_in c.in-Some.others.now) c.split_at_mut-own.result.0.now c.lead_below.new.cursors c.args.end last c.lead_below.result e.parts h
    (ready_later (gives m) (gives n) (gives_later m n later) docs (tree c.in-Some.part.now) c.split_at_mut-own.result.0.now last (front_asks (gives m) docs (trees_in c.args.parts.now)
    (tree c.in-Some.part.now) (trees_in c.in-Some.others.now) c.args.cursors.now c.split_at_mut-own.result.0.now c.split_at_mut-own.result.1.now last e r)) w)

pub led_below-all_below-requires : goal.led_below-all_below-requires
led_below-all_below-requires g t c = λ κs lv.
    let r = c.requires.ready in
    let x = (c.lead_below-start.ensures.found r.1 r.2 r.4).told r.0 r.3 r.5 in
    let under : c.lead_below-start.result ≤ c.args.end = x.4.falls in (
      search rules,
      (
        search rules,
        (
          search rules,
          ((omega (arith, under, c.requires.small.0), omega (arith, c.requires.small.1, c.lead_below-start.auto.cursors)), (x.0, r.1, c.lead_below-start.result, x.1, omega arith, x.4.ready)),
        ),
      ),
    )

pub led_below-returns-clause-found : goal.led_below-returns-clause-found
led_below-returns-clause-found g t c = λ docs last h.
    told_on g.met.P.Port.lawful g.met.P.Port.keeps_on (c.lead_below-start.ensures.found docs last h) (c.all_below.ensures.found docs c.lead_below-start.result (omega arith))
    (λ l r. r) (λ l m w r i. i.ready)
    (λ l m n w1 w2 r i all. (all.0 ∙ led_top (gives m) docs (trees_in c.args.parts.now) c.lead_below-start.new.cursors c.args.end c.lead_below-start.result i, all.1))

-- ---- one round

nil_of : (qs : List Query) → length qs ≡ 0 → qs ≡ []
nil_of [] e = refl
nil_of (q ∷ qs) e = absurd (omega arith)

pub round_below-returns-in_default-clause-found : goal.round_below-returns-in_default-clause-found
round_below-returns-in_default-clause-found g t c = λ docs last h. told_itself g.met.P.Port.keeps_itself
    (λ m r. round_end (gives m) docs (trees_in c.args.parts.now) c.args.cursors.now c.args.end last (ap trees_in (nil_of _ c.in_default.ensures.cases)) h r)

pub round_below-part_size-requires : goal.round_below-part_size-requires
round_below-part_size-requires g t c = let r = c.requires.ready in
    let n = all_size (gives r.0) r.1 (trees_in c.args.parts.now) (tree c.in-Some.part.now) (trees_in c.in-Some.others.now) c.args.cursors.now r.2 (ap trees_in c.in-Some.ensures.cases.0) r.5 in
    omega (arith, n, c.requires.small.1)

pub round_below-split_at_mut-own-requires : goal.round_below-split_at_mut-own-requires
round_below-split_at_mut-own-requires g t c = let r = c.requires.ready in
    let n = all_size (gives r.0) r.1 (trees_in c.args.parts.now) (tree c.in-Some.part.now) (trees_in c.in-Some.others.now) c.args.cursors.now r.2 (ap trees_in c.in-Some.ensures.cases.0) r.5 in
    omega (arith, n, c.part_size.ensures)

pub round_below-round_below-requires : goal.round_below-round_below-requires
round_below-round_below-requires g t c = λ κs lv.
    let e = front_of c.args.parts.now c.in-Some.part.now c.in-Some.others.now c.args.cursors.now c.split_at_mut-own.result.0.now c.split_at_mut-own.result.1.now
    c.part_size.result c.in-Some.ensures.cases.0 c.part_size.ensures c.split_at_mut-own.ensures.front c.split_at_mut-own.ensures.back in
    let more = others_can (trees_in c.args.parts.now) (tree c.in-Some.part.now) (trees_in c.in-Some.others.now) c.args.cursors.now
    c.split_at_mut-own.result.0.now c.split_at_mut-own.result.1.now c.part_below-found.new.cursors c.args.end c.part_below-found.result
    g.met.P.Port.lawful e c.requires.ready c.part_below-found.ensures.found in
    (search rules, (search rules, (search rules, ((omega (arith, more.0, c.requires.small.0), search rules), more.1))))

pub round_below-returns-clause-found : goal.round_below-returns-clause-found
round_below-returns-clause-found g t c =
    let e = front_of c.args.parts.now c.in-Some.part.now c.in-Some.others.now c.args.cursors.now c.split_at_mut-own.result.0.now c.split_at_mut-own.result.1.now
    c.part_size.result c.in-Some.ensures.cases.0 c.part_size.ensures c.split_at_mut-own.ensures.front c.split_at_mut-own.ensures.back in
    turn_found (trees_in c.args.parts.now) (tree c.in-Some.part.now) (trees_in c.in-Some.others.now) c.args.cursors.now c.split_at_mut-own.result.0.now c.split_at_mut-own.result.1.now
    c.part_below-found.new.cursors c.round_below.new.cursors c.args.end c.part_below-found.result c.round_below.result g.met.P.Port.lawful g.met.P.Port.keeps_on e
    c.requires.ready c.part_below-found.ensures.found c.round_below.ensures.found

-- ---- a bound on the id is asked after the parts that follow it

pub round_below-below-requires : goal.round_below-below-requires
round_below-below-requires g t c = λ κs lv.
    let r = c.requires.ready in
    let e = front_of c.args.parts.now c.in-Some.part.now c.in-Some.others.now c.args.cursors.now c.split_at_mut-own.result.0.now c.split_at_mut-own.result.1.now
    c.part_size.result c.in-Some.ensures.cases.0 c.part_size.ensures c.split_at_mut-own.ensures.front c.split_at_mut-own.ensures.back in
    let more = others_ask (gives r.0) (gives r.0) r.1 (trees_in c.args.parts.now) (tree c.in-Some.part.now)
    (trees_in c.in-Some.others.now) c.args.cursors.now c.split_at_mut-own.result.0.now c.split_at_mut-own.result.1.now r.2 r.2 e (later_same (gives r.0)) (omega arith) r.5 in
    let x = (c.round_below-found.ensures.found r.1 r.2 r.4).told r.0 r.3 more in
    let w : IsLater r.0 x.0 = record { is = g.met.P.Port.lawful _ r.0 r.3; later = x.2 } in
    let own = ready_later (gives r.0) (gives x.0) (gives_later r.0 x.0 w) r.1 (tree c.in-Some.part.now) c.split_at_mut-own.result.0.now r.2 (front_asks (gives r.0) r.1
    (trees_in c.args.parts.now) (tree c.in-Some.part.now) (trees_in c.in-Some.others.now) c.args.cursors.now c.split_at_mut-own.result.0.now c.split_at_mut-own.result.1.now r.2 e r.5) in
    (search rules, (search rules, (search rules, ((omega (arith, x.4.falls, c.requires.small.0), search rules), (x.0, r.1, r.2, x.1, omega (arith, x.4.falls, r.4), own)))))

pub round_below-returns-then-is_bound-clause-found : goal.round_below-returns-then-is_bound-clause-found
round_below-returns-then-is_bound-clause-found g t c = λ docs last h.
    let r = c.requires.ready in
    let e = front_of c.args.parts.now c.in-Some.part.now c.in-Some.others.now c.args.cursors.now c.split_at_mut-own.result.0.now c.split_at_mut-own.result.1.now
    c.part_size.result c.in-Some.ensures.cases.0 c.part_size.ensures c.split_at_mut-own.ensures.front c.split_at_mut-own.ensures.back in
    let more = others_ask (gives r.0) (gives r.0) r.1 (trees_in c.args.parts.now) (tree c.in-Some.part.now)
    (trees_in c.in-Some.others.now) c.args.cursors.now c.split_at_mut-own.result.0.now c.split_at_mut-own.result.1.now r.2 r.2 e (later_same (gives r.0)) (omega arith) r.5 in
    let x = (c.round_below-found.ensures.found r.1 r.2 r.4).told r.0 r.3 more in
    let under : c.round_below-found.result ≤ last = omega (arith, x.4.falls, h) in
    told_on g.met.P.Port.lawful g.met.P.Port.keeps_on (c.round_below-found.ensures.found docs last h) (c.below.ensures.found docs last under)
    (λ l k. others_ask (gives l) (gives l) docs (trees_in c.args.parts.now) (tree c.in-Some.part.now)
    (trees_in c.in-Some.others.now) c.args.cursors.now c.split_at_mut-own.result.0.now c.split_at_mut-own.result.1.now last last e (later_same (gives l)) (omega arith) k)
    (λ l m w k i. ready_later (gives l) (gives m) (gives_later l m w) docs (tree c.in-Some.part.now) c.split_at_mut-own.result.0.now last (front_asks (gives l) docs
    (trees_in c.args.parts.now) (tree c.in-Some.part.now) (trees_in c.in-Some.others.now) c.args.cursors.now c.split_at_mut-own.result.0.now c.split_at_mut-own.result.1.now last e k))
    (λ l m n w1 w2 k i own. round_behind (gives m) (gives n) docs (trees_in c.args.parts.now) (tree c.in-Some.part.now)
    (trees_in c.in-Some.others.now) c.below.new.cursors c.round_below-found.new.cursors c.args.end c.round_below-found.result c.below.result e.parts (gives_later m n w2) i own.0 own.1)

pub round_below-returns-then-is_bound-clause-loads : goal.round_below-returns-then-is_bound-clause-loads
round_below-returns-then-is_bound-clause-loads g t c = loads_split_back c.args.cursors.now c.split_at_mut-own.result.0.now
    c.split_at_mut-own.result.1.now c.below.new.cursors c.round_below-found.new.cursors c.args.steps.now c.round_below-found.new.steps c.below.new.steps
    c.split_at_mut-own.ensures.value c.round_below-found.ensures.loads c.below.ensures.loads

-- ---- what some part matches

pub some_below-returns-in_default-clause-found : goal.some_below-returns-in_default-clause-found
some_below-returns-in_default-clause-found g t c = λ docs last h. told_itself g.met.P.Port.keeps_itself
    (λ m r. some_end (gives m) docs (trees_in c.args.parts.now) c.args.cursors.now c.args.end last (ap trees_in (nil_of _ c.in_default.ensures.cases)) h r)

pub some_below-size-requires : goal.some_below-size-requires
some_below-size-requires g t c = let r = c.requires.ready in
    let n = all_size (gives r.0) r.1 (trees_in c.args.parts.now) (tree c.in-Some.part.now) (trees_in c.in-Some.others.now) c.args.cursors.now r.2 (ap trees_in c.in-Some.ensures.cases.0) r.5 in
    omega (arith, n, c.requires.small.1)

pub some_below-split_at_mut-own-requires : goal.some_below-split_at_mut-own-requires
some_below-split_at_mut-own-requires g t c = let r = c.requires.ready in
    let n = all_size (gives r.0) r.1 (trees_in c.args.parts.now) (tree c.in-Some.part.now) (trees_in c.in-Some.others.now) c.args.cursors.now r.2 (ap trees_in c.in-Some.ensures.cases.0) r.5 in
    omega (arith, n, c.size.ensures)

pub some_below-some_below-other-requires : goal.some_below-some_below-other-requires
some_below-some_below-other-requires g t c = λ κs lv.
    let r = c.requires.ready in
    let e = front_of c.args.parts.now c.in-Some.part.now c.in-Some.others.now c.args.cursors.now c.split_at_mut-own.result.0.now c.split_at_mut-own.result.1.now
    c.size.result c.in-Some.ensures.cases.0 c.size.ensures c.split_at_mut-own.ensures.front c.split_at_mut-own.ensures.back in
    let x = (c.below-found.ensures.found r.1 r.2 r.4).told r.0 r.3 (front_asks (gives r.0) r.1 (trees_in c.args.parts.now) (tree c.in-Some.part.now)
    (trees_in c.in-Some.others.now) c.args.cursors.now c.split_at_mut-own.result.0.now c.split_at_mut-own.result.1.now r.2 e r.5) in
    let w : IsLater r.0 x.0 = record { is = g.met.P.Port.lawful _ r.0 r.3; later = x.2 } in
    let more = others_ask (gives r.0) (gives x.0) r.1 (trees_in c.args.parts.now) (tree c.in-Some.part.now)
    (trees_in c.in-Some.others.now) c.args.cursors.now c.split_at_mut-own.result.0.now c.split_at_mut-own.result.1.now c.args.end r.2 e (gives_later r.0 x.0 w) r.4 r.5 in
    (search rules, (search rules, (search rules, (search rules, (x.0, r.1, c.args.end, x.1, omega arith, more)))))

pub some_below-returns-clause-found : goal.some_below-returns-clause-found
some_below-returns-clause-found g t c = λ docs last h.
    let e = front_of c.args.parts.now c.in-Some.part.now c.in-Some.others.now c.args.cursors.now c.split_at_mut-own.result.0.now c.split_at_mut-own.result.1.now
    c.size.result c.in-Some.ensures.cases.0 c.size.ensures c.split_at_mut-own.ensures.front c.split_at_mut-own.ensures.back in
    told_on g.met.P.Port.lawful g.met.P.Port.keeps_on (c.below-found.ensures.found docs last h) (c.some_below-other.ensures.found docs c.args.end (omega arith))
    (λ l k. front_asks (gives l) docs (trees_in c.args.parts.now) (tree c.in-Some.part.now)
    (trees_in c.in-Some.others.now) c.args.cursors.now c.split_at_mut-own.result.0.now c.split_at_mut-own.result.1.now last e k)
    (λ l m w k i. others_ask (gives l) (gives m) docs (trees_in c.args.parts.now) (tree c.in-Some.part.now)
    (trees_in c.in-Some.others.now) c.args.cursors.now c.split_at_mut-own.result.0.now c.split_at_mut-own.result.1.now c.args.end last e (gives_later l m w) h k)
    (λ l m n w1 w2 k i more. some_step (gives m) (gives n) docs (trees_in c.args.parts.now) (tree c.in-Some.part.now)
    (trees_in c.in-Some.others.now) c.below-found.new.cursors c.some_below-other.new.cursors c.args.end c.below-found.result c.some_below-other.result c.max.result
    e.parts (gives_later m n w2) c.max.ensures i.0 i.1 more.0 more.1)

-- ---- the loads

pub lead_below-returns-then-lead-eq0-clause-loads : goal.lead_below-returns-then-lead-eq0-clause-loads
lead_below-returns-then-lead-eq0-clause-loads g t c = loads_split c.args.cursors.now c.split_at_mut-own.result.0.now
    c.split_at_mut-own.result.1.now c.part_below.new.cursors c.split_at_mut-own.result.1.now c.args.steps.now c.part_below.new.steps c.part_below.new.steps
    c.split_at_mut-own.ensures.value c.part_below.ensures.loads (omega arith)

pub lead_below-returns-clause-loads : goal.lead_below-returns-clause-loads
lead_below-returns-clause-loads g t c = loads_split c.args.cursors.now c.split_at_mut-own.result.0.now c.split_at_mut-own.result.1.now
    c.split_at_mut-own.result.0.now c.lead_below.new.cursors c.args.steps.now c.args.steps.now c.lead_below.new.steps
    c.split_at_mut-own.ensures.value (omega arith) c.lead_below.ensures.loads

pub round_below-returns-clause-loads : goal.round_below-returns-clause-loads
round_below-returns-clause-loads g t c = loads_split c.args.cursors.now c.split_at_mut-own.result.0.now c.split_at_mut-own.result.1.now
    c.part_below-found.new.cursors c.round_below.new.cursors c.args.steps.now c.part_below-found.new.steps c.round_below.new.steps
    c.split_at_mut-own.ensures.value c.part_below-found.ensures.loads c.round_below.ensures.loads

pub some_below-returns-clause-loads : goal.some_below-returns-clause-loads
some_below-returns-clause-loads g t c = loads_split c.args.cursors.now c.split_at_mut-own.result.0.now c.split_at_mut-own.result.1.now
    c.below-found.new.cursors c.some_below-other.new.cursors c.args.steps.now c.below-found.new.steps c.some_below-other.new.steps
    c.split_at_mut-own.ensures.value c.below-found.ensures.loads c.some_below-other.ensures.loads

-- ---- the loads of an and of words

pub below-returns-in-Word-clause-spans : goal.below-returns-in-Word-clause-spans
below-returns-in-Word-clause-spans g t c = λ u e. c.word_below.ensures.spans u

pub below-returns-then-end-eq0-clause-spans : goal.below-returns-then-end-eq0-clause-spans
below-returns-then-end-eq0-clause-spans g t c = λ u e s most. told_itself g.met.P.Port.keeps_itself (λ m h. (most, h, omega arith))

pub turns_below-returns-then-found-place-clause-rounds : goal.turns_below-returns-then-found-place-clause-rounds
turns_below-returns-then-found-place-clause-rounds g t c = λ ts u e member docs r last s most h st ready. record {
  told = λ m at p.
      let x = (c.loop-place.invariant.rounds ts u e member docs r last s most h st ready).told m at p in
      let y = (c.first_below-found.ensures.spans ts e s x.4.1.0).told x.0 x.1 x.4.1.1 in (
        y.0,
        y.1,
        later_on m x.0 y.0 x.2 y.2,
        g.met.P.Port.keeps_on _ _ _ m x.0 y.0 x.3 y.3,
        (y.4.0 + rounds_cost docs ts u c.loop-place.place, (y.4.0, y.4.1, omega arith), omega (arith, x.4.1.2, x.4.2, y.4.2)),
      );
}

pub led_below-returns-clause-rounds : goal.led_below-returns-clause-rounds
led_below-returns-clause-rounds g t c = λ ts u e member docs r last s most h st ready. record {
  told = λ m at p.
      let z = (c.lead_below-start.ensures.found docs last h).told r st (subst (λ z. AllReady (gives r) docs z c.args.cursors.now last) (sym e) ready) in
      let on = subst (λ y. AllReady (gives z.0) docs y c.lead_below-start.new.cursors c.lead_below-start.result) e z.4.ready in
      let x = (c.lead_below-start.ensures.spans ts e s p.0).told m at p.1 in
      let low = cost_low docs ts u c.lead_below-start.result c.args.end z.4.falls in
      let y = (c.all_below.ensures.rounds ts u e member docs z.0 c.lead_below-start.result s (x.4.0 + rounds_cost docs ts u c.lead_below-start.result) (omega arith) z.1 on).told
      x.0 x.1 (x.4.0, x.4.1, omega arith) in (
        y.0,
        y.1,
        later_on m x.0 y.0 x.2 y.2,
        g.met.P.Port.keeps_on _ _ _ m x.0 y.0 x.3 y.3,
        (y.4.0, y.4.1, omega (arith, x.4.2, y.4.2, low, p.2)),
      );
}

pub and_below-returns-in_default-clause-rounds : goal.and_below-returns-in_default-clause-rounds
and_below-returns-in_default-clause-rounds g t c = λ ts u e member docs r last s most h st ready. told_itself g.met.P.Port.keeps_itself (λ m p. (most, p, omega arith))

pub and_below-returns-clause-rounds : goal.and_below-returns-clause-rounds
and_below-returns-clause-rounds g t c = λ ts u e member docs r last s most h st ready.
    let own = c.in-Some.own.now in
    let same : conjunction (trees_in c.args.parts.now) ≡ conjunction (word_parts ts) = ap conjunction e in
    let asks = each_asks (gives r) docs (conjunction (word_parts ts)) (word_parts ts) c.args.cursors.now own c.in-Some.rest.now last refl c.in-Some.ensures.cases.0 ready in
    record {
      told = λ m at p.
          let o : AndOwes m s docs ts u (own ∷ c.in-Some.rest.now) most = subst (λ z. AndOwes m s docs ts u z most) c.in-Some.ensures.cases.0 p in
          let low = cost_low docs ts u c.min-start.result own.upto (omega (arith, c.min-start.ensures)) in
          let x = (c.led_below-found.ensures.rounds ts u e member docs r own.upto s most (omega (arith, c.min-start.ensures)) st asks).told m at (o.0, o.1, omega (arith, o.2, low)) in
          (x.0, x.1, x.2, x.3, (x.4.0, x.4.1, omega (arith, x.4.2)));
    }

pub lead_below-returns-in_default-clause-spans : goal.lead_below-returns-in_default-clause-spans
lead_below-returns-in_default-clause-spans g t c = λ ts e s most. told_itself g.met.P.Port.keeps_itself (λ m h. (most, h, omega arith))

pub lead_below-returns-then-lead-eq0-clause-spans : goal.lead_below-returns-then-lead-eq0-clause-spans
lead_below-returns-then-lead-eq0-clause-spans g t c = λ ts e s most. record {
  told = λ m at h.
      let f = front_of c.args.parts.now c.in-Some.part.now c.in-Some.others.now c.args.cursors.now c.split_at_mut-own.result.0.now c.split_at_mut-own.result.1.now
      c.size.result c.in-Some.ensures.cases.0 c.size.ensures c.split_at_mut-own.ensures.front c.split_at_mut-own.ensures.back in
      let k = words_split ts (tree c.in-Some.part.now) (trees_in c.in-Some.others.now) (sym f.parts ∙ e) in
      let o = spans_front m s ts k.0 k.1 (trees_in c.args.parts.now) (tree c.in-Some.part.now) (trees_in c.in-Some.others.now)
      c.args.cursors.now c.split_at_mut-own.result.0.now c.split_at_mut-own.result.1.now most f k.2 k.3 h in
      let x = (c.part_below.ensures.spans k.0 k.3 s o.0).told m at o.2 in (
        x.0,
        x.1,
        x.2,
        x.3,
        (
          x.4.0 + o.1,
          spans_join x.0 s ts k.0 k.1 c.part_below.new.cursors c.split_at_mut-own.result.1.now x.4.0 o.1 k.2 x.4.1
              (all_span_later m x.0 s k.1 c.split_at_mut-own.result.1.now o.1 (g.met.P.Port.lawful _ m at) x.2 o.3),
          omega (arith, x.4.2, o.4),
        ),
      );
}

pub lead_below-returns-clause-spans : goal.lead_below-returns-clause-spans
lead_below-returns-clause-spans g t c = λ ts e s most. record {
  told = λ m at h.
      let f = front_of c.args.parts.now c.in-Some.part.now c.in-Some.others.now c.args.cursors.now c.split_at_mut-own.result.0.now c.split_at_mut-own.result.1.now
      c.size.result c.in-Some.ensures.cases.0 c.size.ensures c.split_at_mut-own.ensures.front c.split_at_mut-own.ensures.back in
      let k = words_split ts (tree c.in-Some.part.now) (trees_in c.in-Some.others.now) (sym f.parts ∙ e) in
      let o = spans_front m s ts k.0 k.1 (trees_in c.args.parts.now) (tree c.in-Some.part.now) (trees_in c.in-Some.others.now)
      c.args.cursors.now c.split_at_mut-own.result.0.now c.split_at_mut-own.result.1.now most f k.2 k.3 h in
      let x = (c.lead_below.ensures.spans k.1 k.4 s o.1).told m at o.3 in (
        x.0,
        x.1,
        x.2,
        x.3,
        (
          o.0 + x.4.0,
          spans_join x.0 s ts k.0 k.1 c.split_at_mut-own.result.0.now c.lead_below.new.cursors o.0 x.4.0 k.2
              (all_span_later m x.0 s (k.0 ∷ []) c.split_at_mut-own.result.0.now o.0 (g.met.P.Port.lawful _ m at) x.2 o.2) x.4.1,
          omega (arith, x.4.2, o.4),
        ),
      );
}

pub round_below-returns-in_default-clause-spans : goal.round_below-returns-in_default-clause-spans
round_below-returns-in_default-clause-spans g t c = λ ts e s most. told_itself g.met.P.Port.keeps_itself (λ m h. (most, h, omega arith))

pub round_below-returns-clause-spans : goal.round_below-returns-clause-spans
round_below-returns-clause-spans g t c =
    let e = front_of c.args.parts.now c.in-Some.part.now c.in-Some.others.now c.args.cursors.now c.split_at_mut-own.result.0.now c.split_at_mut-own.result.1.now
    c.part_size.result c.in-Some.ensures.cases.0 c.part_size.ensures c.split_at_mut-own.ensures.front c.split_at_mut-own.ensures.back in
    turn_paid (trees_in c.args.parts.now) (tree c.in-Some.part.now) (trees_in c.in-Some.others.now) c.args.cursors.now c.split_at_mut-own.result.0.now c.split_at_mut-own.result.1.now
    c.part_below-found.new.cursors c.round_below.new.cursors c.args.steps.now c.part_below-found.new.steps c.round_below.new.steps
    g.met.P.Port.lawful g.met.P.Port.keeps_on e c.part_below-found.ensures.spans c.round_below.ensures.spans

pub round_below-returns-then-is_bound-clause-spans : goal.round_below-returns-then-is_bound-clause-spans
round_below-returns-then-is_bound-clause-spans g t c = λ ts e s most. record {
  told = λ m at h.
      let f = front_of c.args.parts.now c.in-Some.part.now c.in-Some.others.now c.args.cursors.now c.split_at_mut-own.result.0.now c.split_at_mut-own.result.1.now
      c.part_size.result c.in-Some.ensures.cases.0 c.part_size.ensures c.split_at_mut-own.ensures.front c.split_at_mut-own.ensures.back in
      let k = words_split ts (tree c.in-Some.part.now) (trees_in c.in-Some.others.now) (sym f.parts ∙ e) in
      let o = spans_front m s ts k.0 k.1 (trees_in c.args.parts.now) (tree c.in-Some.part.now) (trees_in c.in-Some.others.now)
      c.args.cursors.now c.split_at_mut-own.result.0.now c.split_at_mut-own.result.1.now most f k.2 k.3 h in
      let x = (c.round_below-found.ensures.spans k.1 k.4 s o.1).told m at o.3 in
      let own = all_span_later m x.0 s (k.0 ∷ []) c.split_at_mut-own.result.0.now o.0 (g.met.P.Port.lawful _ m at) x.2 o.2 in
      let y = (c.below.ensures.spans k.0 k.3 s o.0).told x.0 x.1 own in
      let others = all_span_later x.0 y.0 s k.1 c.round_below-found.new.cursors x.4.0 (g.met.P.Port.lawful _ x.0 x.1) y.2 x.4.1 in (
        y.0,
        y.1,
        later_on m x.0 y.0 x.2 y.2,
        g.met.P.Port.keeps_on _ _ _ m x.0 y.0 x.3 y.3,
        (
          y.4.0 + x.4.0,
          spans_join y.0 s ts k.0 k.1 c.below.new.cursors c.round_below-found.new.cursors y.4.0 x.4.0 k.2 y.4.1 others,
          omega (arith, x.4.2, y.4.2, o.4, ap length k.2),
        ),
      );
}

-- ---- two words

pub all_below-returns-in-Some-clause-rounds : goal.all_below-returns-in-Some-clause-rounds
all_below-returns-in-Some-clause-rounds g t c = λ ts w e member docs r last s most h st ready.
    let k = c.are_two_words.ensures c.if-are_two_words.true in
    let words : ts ≡ k.0 ∷ k.1 ∷ [] = two_words ts k.0 k.1 (sym e ∙ k.2) in
    let spans = subst (λ z. PaysSpans g.P.Port.stands g.P.Port.keeps c.args.port.now c.pair_below.new.port z c.args.cursors.now c.pair_below.new.cursors
    (round_loads z) c.args.steps.now c.pair_below.new.steps) (sym words) (c.pair_below.ensures.spans c.in-Some.found c.in-Some.is k.0 k.1) in
    let x = (c.pair_below.ensures.found c.in-Some.found c.in-Some.is k.0 k.1 docs last h).told r st
    (subst (λ z. AllReady (gives r) docs (word_parts z) c.args.cursors.now last) words ready) in
    let falls : c.in-Some.found ≤ c.args.end = omega (arith, x.4.0, top_le (each_at docs (word_parts (k.0 ∷ k.1 ∷ []))) c.args.end) in
    let low = cost_low docs ts w c.in-Some.found c.args.end falls in
    record {
      told = λ m at p.
          let y = (spans s p.0).told m at p.1 in (
            y.0,
            y.1,
            y.2,
            y.3,
            (y.4.0 + rounds_cost docs ts w c.in-Some.found, (y.4.0, y.4.1, omega arith), omega (arith, p.2, y.4.2, low)),
          );
    }

-- the same of equal values before
rounds_same : {S : Type 0} {stands : S → Moment → Type 0} {keeps : S → Moment → S → Moment → Type 0} {p p' q : S} {qs : Trees} (old old' cursors : List Cursor)
    (end found before before' after : ℕ) → p ≡ p' → old ≡ old' → before ≡ before'
    → ((ts : List Term) (u : Term) → qs ≡ word_parts ts → Contains ts u → PaysRounds stands keeps p q ts u old cursors end found (round_loads ts) before after)
    → (ts : List Term) (u : Term) → qs ≡ word_parts ts → Contains ts u → PaysRounds stands keeps p' q ts u old' cursors end found (round_loads ts) before' after
rounds_same {S} {stands} {keeps} {p} {p'} {q} old old' cursors end found before before' after e i j h ts u is member =
    subst (λ z. PaysRounds stands keeps z q ts u old' cursors end found (round_loads ts) before' after) e
    (subst (λ z. PaysRounds stands keeps p q ts u z cursors end found (round_loads ts) before' after) i
    (subst (λ z. PaysRounds stands keeps p q ts u old cursors end found (round_loads ts) z after) j (h ts u is member)))

pub all_below-returns-clause-rounds : goal.all_below-returns-clause-rounds
all_below-returns-clause-rounds g t c =
    let j = c.if-are_two_words in
    let r = c.turns_below in
    elim j.branch [
      | all_below-then-are_two_words+in_default w ↦
          let stays = w.pair_below.ensures.stays (search rules) in
          rounds_same j.cursors c.args.cursors.now r.new.cursors c.args.end r.result j.steps c.args.steps.now r.new.steps
          (w.port-is ∙ stays.0) (w.cursors-is ∙ stays.1) (w.steps-is ∙ stays.2) r.ensures.rounds
      | all_below-else-are_two_words w ↦
          rounds_same j.cursors c.args.cursors.now r.new.cursors c.args.end r.result j.steps c.args.steps.now r.new.steps
          w.port-is w.cursors-is w.steps-is r.ensures.rounds
    ]

-- ---- a turn that begins with a word

pub first_below-last_below-requires : goal.first_below-last_below-requires
first_below-last_below-requires g t c = λ κs lv.
    let w = c.in-Some-Word-default in
    let e = word_front c.args.parts.now w.field-0-0.now w.others.now w.field-0-0-0 c.args.cursors.now c.split_at_mut-own.result.0.now c.split_at_mut-own.result.1.now
    w.ensures.cases.0 w.field-0-0-is c.split_at_mut-own.ensures.front c.split_at_mut-own.ensures.back in
    let more = others_can (trees_in c.args.parts.now) (word w.field-0-0-0) (trees_in w.others.now) c.args.cursors.now
    c.split_at_mut-own.result.0.now c.split_at_mut-own.result.1.now c.word_below-found.new.cursors c.args.end c.word_below-found.result
    g.met.P.Port.lawful e c.requires.ready (λ docs. c.word_below-found.ensures.found docs w.field-0-0-0) in
    (search rules, (search rules, (search rules, ((omega (arith, more.0, c.requires.small.0), search rules), more.1))))

pub first_below-returns-clause-found : goal.first_below-returns-clause-found
first_below-returns-clause-found g t c =
    let w = c.in-Some-Word-default in
    let e = word_front c.args.parts.now w.field-0-0.now w.others.now w.field-0-0-0 c.args.cursors.now c.split_at_mut-own.result.0.now c.split_at_mut-own.result.1.now
    w.ensures.cases.0 w.field-0-0-is c.split_at_mut-own.ensures.front c.split_at_mut-own.ensures.back in
    turn_found (trees_in c.args.parts.now) (word w.field-0-0-0) (trees_in w.others.now) c.args.cursors.now c.split_at_mut-own.result.0.now c.split_at_mut-own.result.1.now
    c.word_below-found.new.cursors c.last_below.new.cursors c.args.end c.word_below-found.result c.last_below.result g.met.P.Port.lawful g.met.P.Port.keeps_on e
    c.requires.ready (λ docs. c.word_below-found.ensures.found docs w.field-0-0-0) c.last_below.ensures.found

pub first_below-returns-clause-loads : goal.first_below-returns-clause-loads
first_below-returns-clause-loads g t c = loads_split c.args.cursors.now c.split_at_mut-own.result.0.now c.split_at_mut-own.result.1.now
    c.word_below-found.new.cursors c.last_below.new.cursors c.args.steps.now c.word_below-found.new.steps c.last_below.new.steps
    c.split_at_mut-own.ensures.value c.word_below-found.ensures.loads c.last_below.ensures.loads

pub first_below-returns-clause-spans : goal.first_below-returns-clause-spans
first_below-returns-clause-spans g t c =
    let w = c.in-Some-Word-default in
    let e = word_front c.args.parts.now w.field-0-0.now w.others.now w.field-0-0-0 c.args.cursors.now c.split_at_mut-own.result.0.now c.split_at_mut-own.result.1.now
    w.ensures.cases.0 w.field-0-0-is c.split_at_mut-own.ensures.front c.split_at_mut-own.ensures.back in
    turn_paid (trees_in c.args.parts.now) (word w.field-0-0-0) (trees_in w.others.now) c.args.cursors.now c.split_at_mut-own.result.0.now c.split_at_mut-own.result.1.now
    c.word_below-found.new.cursors c.last_below.new.cursors c.args.steps.now c.word_below-found.new.steps c.last_below.new.steps
    g.met.P.Port.lawful g.met.P.Port.keeps_on e (λ u _. c.word_below-found.ensures.spans u) c.last_below.ensures.spans

pub last_below-part_below-requires : goal.last_below-part_below-requires
last_below-part_below-requires g t c = λ κs lv.
    let alone = part_alone c.args.parts.now c.part-item.result c.in-len1.len_at_least c.in-len1.len_below c.part-item.is in
    let can = single_can g.P.Port.stands c.args.port.now (trees_in c.args.parts.now) (tree c.part-item.result) c.args.cursors.now c.args.end alone c.requires.ready in
    let less : weights (trees_in c.args.parts.now) ≡ suc (weight (tree c.part-item.result) + 0) = ap weights alone in
    (search (rules, less), (search rules, (search rules, (search rules, can))))

pub last_below-returns-in-len1-clause-found : goal.last_below-returns-in-len1-clause-found
last_below-returns-in-len1-clause-found g t c =
    let alone = part_alone c.args.parts.now c.part-item.result c.in-len1.len_at_least c.in-len1.len_below c.part-item.is in
    single_found (trees_in c.args.parts.now) (tree c.part-item.result) c.args.cursors.now c.part_below.new.cursors c.args.end c.part_below.result
    g.met.P.Port.lawful g.met.P.Port.keeps_itself g.met.P.Port.keeps_on alone c.requires.ready c.part_below.ensures.found

pub last_below-returns-in-len1-clause-spans : goal.last_below-returns-in-len1-clause-spans
last_below-returns-in-len1-clause-spans g t c =
    let alone = part_alone c.args.parts.now c.part-item.result c.in-len1.len_at_least c.in-len1.len_below c.part-item.is in
    single_paid (trees_in c.args.parts.now) (tree c.part-item.result) c.args.cursors.now c.part_below.new.cursors c.args.end c.args.steps.now c.part_below.new.steps
    g.met.P.Port.lawful g.met.P.Port.keeps_itself g.met.P.Port.keeps_on alone c.requires.ready c.part_below.ensures.spans
