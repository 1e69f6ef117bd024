use Rattle.std.proofs.Common.{◌≡◌, ℕ, ◌≤◌, min, arith, ◌∙◌}
use Rattle.eb_cursor.specs.Lists.{gives}
use Rattle.eb_cursor.proofs.Phrases.{phrase_asks, phrase_past, phrase_told, leaves_at}
use Rattle.eb_cursor.proofs.Tellings.{told_itself, told_as}
use Rattle.eb_cursor.proofs.phrase.phrase_below.Goals as goal

pub returns-then-start-eq0-clause-found : goal.returns-then-start-eq0-clause-found
returns-then-start-eq0-clause-found g c = λ docs ts last h. told_itself g.met.P.Port.keeps_itself (λ m r.
    phrase_past (gives m) docs ts c.args.cursors.now _ c.min-start.result c.args.end last c.min-start.ensures c.if-start-eq0.true h r)

pub led_starts_below-found-requires-clause-ready : goal.led_starts_below-found-requires-clause-ready
led_starts_below-found-requires-clause-ready g c = let r = c.requires.ready in
    let a = phrase_asks (gives r.0) r.1 r.2 c.args.cursors.now _ c.min-start.result c.args.end r.3 c.min-start.ensures c.if-start-eq0.false r.6 in
    (r.0, r.1, r.2, _, r.4, a.0, leaves_at (gives r.0) r.1 r.2 c.args.cursors.now _ a.1)

phrase_under : (start a b : ℕ) → start ≡ min a b → start ≤ b
phrase_under start a b e = omega arith

pub returns-clause-found : goal.returns-clause-found
returns-clause-found g c = λ docs ts last h. told_as g.met.P.Port.lawful (c.led_starts_below-found.ensures.found docs ts _ (phrase_under _ _ _ c.min-start.ensures))
    (λ m r. (phrase_asks (gives m) docs ts c.args.cursors.now _ c.min-start.result c.args.end last c.min-start.ensures c.if-start-eq0.false r).1)
    (λ m n later r w.
    let told = phrase_told (gives m) (gives n) docs ts c.args.cursors.now c.led_starts_below-found.new.cursors _ _ c.min-start.result c.args.end last c.led_starts_below-found.result
    c.min-start.ensures h c.led_starts_below-found.auto.cursors w r in
    (c.to_document_end.ensures ∙ told.0, told.1))
