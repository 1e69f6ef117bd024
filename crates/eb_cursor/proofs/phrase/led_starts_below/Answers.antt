use Rattle.std.proofs.Common.{◌≤◌, arith, ◌∙◌}
use Rattle.eb_cursor.specs.Lists.{gives}
use Rattle.eb_cursor.proofs.Phrases.{led_starts, leaves_at, leaves_of}
use Rattle.eb_cursor.proofs.Tellings.{told_on}
use Rattle.eb_cursor.proofs.phrase.led_starts_below.Goals as goal

pub starts_below-requires-clause-small : goal.starts_below-requires-clause-small
starts_below-requires-clause-small g c = let r = c.requires.ready in
    let x = (c.lead_leaf_below-start.ensures.found r.1 r.2 r.3 r.5).told r.0 r.4 r.6 in
    let under : c.lead_leaf_below-start.result ≤ c.args.end = x.4.falls in
    omega (arith, under, c.requires.small.0, c.requires.small.1, c.requires.small.2, c.lead_leaf_below-start.auto.cursors)

pub starts_below-requires-clause-ready : goal.starts_below-requires-clause-ready
starts_below-requires-clause-ready g c = let r = c.requires.ready in
    let x = (c.lead_leaf_below-start.ensures.found r.1 r.2 r.3 r.5).told r.0 r.4 r.6 in
    (x.0, r.1, r.2, c.lead_leaf_below-start.result, x.1, omega arith, x.4.ready)

pub returns-clause-found : goal.returns-clause-found
returns-clause-found g c = λ docs ts last h.
    told_on g.met.P.Port.lawful g.met.P.Port.keeps_on (c.lead_leaf_below-start.ensures.found docs ts last h) (c.starts_below.ensures.found docs ts c.lead_leaf_below-start.result (omega arith))
    (λ l r. leaves_at (gives l) docs ts c.args.cursors.now last r)
    (λ l m w r i. leaves_of (gives m) docs ts c.lead_leaf_below-start.new.cursors c.lead_leaf_below-start.result i.ready)
    (λ l m n w1 w2 r i s. (s.0 ∙ led_starts (gives m) docs ts c.lead_leaf_below-start.new.cursors c.args.end c.lead_leaf_below-start.result i, s.1))
