use Rattle.std.proofs.Common.{◌≡◌, ◌+◌, length, refl, arith, rules}
use Rattle.eb_cursor.specs.Lists.{gives}
use Rattle.eb_cursor.specs.Posted.{is_posting}
use Rattle.eb_cursor.proofs.Phrases.{run_asks, front_leaf, front_rest, led_run_none, led_run_here, led_run_there}
use Rattle.eb_cursor.proofs.Tellings.{told_itself, gives_later, later_same, IsLater}
use Rattle.eb_cursor.proofs.Terms.{first_can}
use Rattle.eb_cursor.proofs.phrase.+lead_leaf_below.Goals as goal

pub returns-in_default-clause-found : goal.returns-in_default-clause-found
returns-in_default-clause-found g t c = λ docs ts last h. told_itself g.met.P.Port.keeps_itself (λ m r. led_run_none (gives m) docs ts c.args.cursors.now c.args.at c.args.end last h r)

pub leaf_below-requires : goal.leaf_below-requires
leaf_below-requires g t c = first_can g.P.Port.stands c.args.port.now c.args.cursors.now c.in-Some.own.now c.in-Some.rest.now c.args.at c.args.end (c.args.end + c.args.at)
    c.in-Some.ensures.cases.0 refl c.requires.ready

pub returns-then-lead-eq0-clause-found : goal.returns-then-lead-eq0-clause-found
returns-then-lead-eq0-clause-found g t c = λ docs ts last h. record {
  told = λ m st r.
      let a = run_asks (gives m) docs ts c.args.cursors.now c.in-Some.own.now c.in-Some.rest.now (last + c.args.at) c.in-Some.ensures.cases.0 r in
      let x = (c.leaf_below.ensures.found (is_posting docs a.0)).told m st (front_leaf (gives m) docs ts c.in-Some.own.now c.in-Some.rest.now c.args.at c.args.end last h a) in
      let w = x.4 in
      let later : IsLater m x.0 = record { is = g.met.P.Port.lawful _ m st; later = x.2 } in
      let rest = front_rest (gives m) (gives x.0) (gives_later m x.0 later) docs ts c.in-Some.own.now c.in-Some.rest.now c.args.at last a in (
        x.0,
        x.1,
        x.2,
        x.3,
        led_run_here (gives x.0) docs ts a.0 a.1 c.leaf_below.new.cursor c.in-Some.rest.now c.args.at c.args.end
            last c.leaf_below.result c.saturating_sub.result a.2 h w.0 c.saturating_sub.ensures w.1 rest,
      );
}

pub lead_leaf_below-requires : goal.lead_leaf_below-requires
lead_leaf_below-requires g t c = λ κs lv. let r = c.requires.ready in
    let a = run_asks (gives r.0) r.1 r.2 c.args.cursors.now c.in-Some.own.now c.in-Some.rest.now (r.3 + c.args.at) c.in-Some.ensures.cases.0 r.6 in
    let rest = front_rest (gives r.0) (gives r.0) (later_same (gives r.0)) r.1 r.2 c.in-Some.own.now c.in-Some.rest.now c.args.at r.3 a in
    let len : length c.in-Some.rest.now + 1 ≡ length c.args.cursors.now = c.in-Some.ensures.cases.1 in
    (search rules, (search rules, (search rules, (omega (arith, c.requires.small), (r.0, r.1, a.1, r.3, r.4, r.5, rest)))))

pub returns-clause-found : goal.returns-clause-found
returns-clause-found g t c = λ docs ts last h. record {
  told = λ m st r.
      let a = run_asks (gives m) docs ts c.args.cursors.now c.in-Some.own.now c.in-Some.rest.now (last + c.args.at) c.in-Some.ensures.cases.0 r in
      let rest = front_rest (gives m) (gives m) (later_same (gives m)) docs ts c.in-Some.own.now c.in-Some.rest.now c.args.at last a in
      let y = (c.lead_leaf_below.ensures.found docs a.1 last h).told m st rest in
      let later : IsLater m y.0 = record { is = g.met.P.Port.lawful _ m st; later = y.2 } in (
        y.0,
        y.1,
        y.2,
        y.3,
        led_run_there (gives m) (gives y.0) docs ts a.0 a.1 c.in-Some.own.now c.lead_leaf_below.new.cursors c.args.at c.args.end last c.lead_leaf_below.result a.2 (gives_later m y.0 later) h a.3 y.4,
      );
}
