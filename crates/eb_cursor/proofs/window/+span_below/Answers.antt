use Rattle.std.proofs.Common.{◌≡◌, ◌==◌, ℕ, ◌+◌, ◌<◌, ◌≤◌, Bool, true, false, List, length, sym, ◌∙◌, arith, rules}
use Rattle.std.proofs.lemmas.Bool.{eqb-true, eqb-false}
use Rattle.eb_place.proofs.LaterMoments.{later_on}
use Rattle.eb_cursor.specs.Lists.{gives}
use Rattle.eb_cursor.specs.Posted.{is_posting}
use Rattle.eb_cursor.specs.declared.cursor.Cursor.{Cursor}
use Rattle.eb_cursor.proofs.Tellings.{gives_later, IsLater}
use Rattle.eb_cursor.proofs.Windows.{behind_asks, alone_can, alone_found, single_can, single_found, span_none, span_far, front_asked, span_step}
use Rattle.eb_cursor.proofs.window.+span_below.Goals as goal

some_of : (n : ℕ) → (n == 0) ≡ false → 0 < n
some_of n e = let ne : n ≡ 0 → ⊥ = eqb-false n 0 e in omega arith

none_of : (ss : List Cursor) (b : Bool) → b ≡ (length ss == 0) → b ≡ true → length ss ≡ 0
none_of ss b e i = eqb-true (length ss) 0 (sym e ∙ i)

pub span_below-leaf_below-place-requires : goal.span_below-leaf_below-place-requires
span_below-leaf_below-place-requires g t c =
    alone_can g.P.Port.stands c.args.port.now c.args.cursors.now c.in-Some.own.now c.in-Some.rest.now c.args.end c.in-Some.ensures.cases.0
    (none_of c.in-Some.rest.now _ c.is_empty.ensures c.if-is_empty.true) c.requires.ready

pub span_below-returns-then-is_empty-clause-found : goal.span_below-returns-then-is_empty-clause-found
span_below-returns-then-is_empty-clause-found g t c =
    alone_found c.args.cursors.now c.in-Some.own.now c.leaf_below-place.new.cursor c.in-Some.rest.now c.args.limit c.args.end c.leaf_below-place.result c.in-Some.ensures.cases.0
    (none_of c.in-Some.rest.now _ c.is_empty.ensures c.if-is_empty.true) c.leaf_below-place.ensures.found

pub span_below-rest_below-behind-requires : goal.span_below-rest_below-behind-requires
span_below-rest_below-behind-requires g t c = λ κs lv. let r = c.requires.ready in
    let a = behind_asks (gives r.0) r.1 r.2 c.args.cursors.now c.in-Some.own.now c.in-Some.rest.now r.3 c.in-Some.ensures.cases.0 r.6 in
    let some : 0 < length c.in-Some.rest.now = some_of (length c.in-Some.rest.now) (sym c.is_empty.ensures ∙ c.if-is_empty.false) in
    (search rules, (search rules, (search rules, (some, (r.0, r.1, a.1, r.3, r.4, r.5, a.4)))))

pub span_below-returns-then-behind-eq0-clause-found : goal.span_below-returns-then-behind-eq0-clause-found
span_below-returns-then-behind-eq0-clause-found g t c = λ docs ts last h. record {
  told = λ m st r.
      let a = behind_asks (gives m) docs ts c.args.cursors.now c.in-Some.own.now c.in-Some.rest.now last c.in-Some.ensures.cases.0 r in
      let x = (c.rest_below-behind.ensures.found docs a.1 last h).told m st a.4 in
      let w : IsLater m x.0 = record { is = g.met.P.Port.lawful _ m st; later = x.2 } in (
        x.0,
        x.1,
        x.2,
        x.3,
        span_none (gives m) (gives x.0) (gives_later m x.0 w) docs ts a.1 a.0 c.args.limit c.saturating_sub-nearer.result c.in-Some.own.now c.rest_below-behind.new.cursors c.args.end last _ _ a.2
            (omega (arith, c.rest_below-behind.auto.cursors, some_of (length c.in-Some.rest.now) (sym c.is_empty.ensures ∙ c.if-is_empty.false))) h c.if-behind-eq0.true x.4 a.3,
      );
}

pub span_below-returns-then-are_apart-clause-found : goal.span_below-returns-then-are_apart-clause-found
span_below-returns-then-are_apart-clause-found g t c = λ docs ts last h. record {
  told = λ m st r.
      let a = behind_asks (gives m) docs ts c.args.cursors.now c.in-Some.own.now c.in-Some.rest.now last c.in-Some.ensures.cases.0 r in
      let x = (c.rest_below-behind.ensures.found docs a.1 last h).told m st a.4 in
      let w : IsLater m x.0 = record { is = g.met.P.Port.lawful _ m st; later = x.2 } in
      let far : c.rest_below-behind.result.first + c.saturating_sub-nearer.result < c.rest_below-behind.result.last = c.are_apart.ensures.apart c.if-are_apart.true in (
        x.0,
        x.1,
        x.2,
        x.3,
        span_far (gives m) (gives x.0) (gives_later m x.0 w) docs ts a.1 a.0 c.args.limit c.saturating_sub-nearer.result c.in-Some.own.now c.rest_below-behind.new.cursors c.args.end last _ _ a.2
            (omega (arith, c.rest_below-behind.auto.cursors, some_of (length c.in-Some.rest.now) (sym c.is_empty.ensures ∙ c.if-is_empty.false)))
            h (omega (arith, c.saturating_sub-nearer.ensures)) (omega (arith, c.if-behind-eq0.false)) far x.4 a.3,
      );
}

pub span_below-leaf_below-first-requires : goal.span_below-leaf_below-first-requires
span_below-leaf_below-first-requires g t c = let r = c.requires.ready in
    let a = behind_asks (gives r.0) r.1 r.2 c.args.cursors.now c.in-Some.own.now c.in-Some.rest.now r.3 c.in-Some.ensures.cases.0 r.6 in
    let x = (c.rest_below-behind.ensures.found r.1 a.1 r.3 r.5).told r.0 r.4 a.4 in
    let w : IsLater r.0 x.0 = record { is = g.met.P.Port.lawful _ r.0 r.4; later = x.2 } in
    let near : c.rest_below-behind.result.last ≤ c.rest_below-behind.result.first + c.saturating_sub-nearer.result = c.are_apart.ensures.near c.if-are_apart.false in
    (x.0, is_posting r.1 a.0, x.1, front_asked (gives r.0) (gives x.0) (gives_later r.0 x.0 w) r.1 a.1 a.0 c.in-Some.own.now c.args.end r.3 _ r.5 (x.4.1 near) a.3)

pub span_below-returns-clause-found : goal.span_below-returns-clause-found
span_below-returns-clause-found g t c = λ docs ts last h. record {
  told = λ m st r.
      let a = behind_asks (gives m) docs ts c.args.cursors.now c.in-Some.own.now c.in-Some.rest.now last c.in-Some.ensures.cases.0 r in
      let x = (c.rest_below-behind.ensures.found docs a.1 last h).told m st a.4 in
      let w : IsLater m x.0 = record { is = g.met.P.Port.lawful _ m st; later = x.2 } in
      let near : c.rest_below-behind.result.last ≤ c.rest_below-behind.result.first + c.saturating_sub-nearer.result = c.are_apart.ensures.near c.if-are_apart.false in
      let y = (c.leaf_below-first.ensures.found (is_posting docs a.0)).told x.0 x.1
      (front_asked (gives m) (gives x.0) (gives_later m x.0 w) docs a.1 a.0 c.in-Some.own.now c.args.end last _ h (x.4.1 near) a.3) in
      let v : IsLater x.0 y.0 = record { is = g.met.P.Port.lawful _ x.0 x.1; later = y.2 } in (
        y.0,
        y.1,
        later_on m x.0 y.0 x.2 y.2,
        g.met.P.Port.keeps_on _ _ _ m x.0 y.0 x.3 y.3,
        span_step (gives x.0) (gives y.0) (gives_later x.0 y.0 v) docs ts a.1 a.0 c.args.limit c.leaf_below-first.new.cursor c.rest_below-behind.new.cursors
            c.args.end _ _ c.leaf_below-first.result a.2
            (omega (arith, c.rest_below-behind.auto.cursors, some_of (length c.in-Some.rest.now) (sym c.is_empty.ensures ∙ c.if-is_empty.false))) (x.4.1 near, x.4.2, x.4.3) (y.4.0, y.4.1),
      );
}

-- ---- the terms after the first

pub rest_below-leaf_below-place-requires : goal.rest_below-leaf_below-place-requires
rest_below-leaf_below-place-requires g t c = single_can g.P.Port.stands c.args.port.now c.args.cursors.now _ c.args.end c.requires.some c.if-cursors-gt1.false c.requires.ready

pub rest_below-returns-clause-found : goal.rest_below-returns-clause-found
rest_below-returns-clause-found g t c =
    single_found c.args.cursors.now _ c.leaf_below-place.new.cursor c.args.limit c.args.end c.leaf_below-place.result c.requires.some c.if-cursors-gt1.false c.leaf_below-place.ensures.found
