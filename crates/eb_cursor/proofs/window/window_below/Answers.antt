use Rattle.std.proofs.Common.{◌≡◌, ℕ, ◌≤◌, min, arith, ◌∙◌}
use Rattle.eb_base.specs.Query.{window}
use Rattle.eb_cursor.specs.Lists.{gives}
use Rattle.eb_cursor.proofs.Readies.{ready_lower}
use Rattle.eb_cursor.proofs.ShortWindows.{short_none}
use Rattle.eb_cursor.proofs.Windows.{window_asks, window_past, window_told}
use Rattle.eb_cursor.proofs.Tellings.{told_itself, told_as}
use Rattle.eb_cursor.proofs.window.window_below.Goals as goal

pub returns-then-cursors-reach-clause-found : goal.returns-then-cursors-reach-clause-found
returns-then-cursors-reach-clause-found g c = λ docs last h. told_itself g.met.P.Port.keeps_itself
    (λ m r. (
      short_none docs c.args.terms.now c.args.reach c.args.end (omega (arith, c.if-cursors-reach.true, r.3)),
      ready_lower (gives m) docs (window c.args.terms.now c.args.reach) c.args.cursors.now c.args.end last h r,
    ))

pub returns-then-start-eq0-clause-found : goal.returns-then-start-eq0-clause-found
returns-then-start-eq0-clause-found g c = λ docs last h. told_itself g.met.P.Port.keeps_itself (λ m r.
    window_past (gives m) docs c.args.terms.now c.args.reach c.args.cursors.now _ c.min-start.result c.args.end last c.min-start.ensures c.if-start-eq0.true h r)

pub ends_below-found-requires-clause-ready : goal.ends_below-found-requires-clause-ready
ends_below-found-requires-clause-ready g c = let r = c.requires.ready in
    let a = window_asks (gives r.0) r.1 c.args.terms.now c.args.reach c.args.cursors.now _ c.min-start.result c.args.end r.2 c.min-start.ensures c.if-start-eq0.false r.5 in
    (r.0, r.1, _, r.3, a.0, a.1)

window_up : (start a b : ℕ) → start ≡ min a b → start ≤ b
window_up start a b e = omega arith

pub returns-clause-found : goal.returns-clause-found
returns-clause-found g c = λ docs last h. told_as g.met.P.Port.lawful (c.ends_below-found.ensures.found docs _ (window_up _ _ _ c.min-start.ensures))
    (λ m r. (window_asks (gives m) docs c.args.terms.now c.args.reach c.args.cursors.now _ c.min-start.result c.args.end last c.min-start.ensures c.if-start-eq0.false r).1)
    (λ m n later r w.
    let told = window_told (gives m) (gives n) docs c.args.terms.now c.args.reach c.args.cursors.now c.ends_below-found.new.cursors _ _ c.min-start.result c.args.end last c.ends_below-found.result
    c.min-start.ensures h c.ends_below-found.auto.cursors w r in
    (c.to_document_end.ensures ∙ told.0, told.1))
