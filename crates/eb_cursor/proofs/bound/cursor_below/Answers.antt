use Rattle.std.proofs.Common.{◌≡◌, ℕ, ◌<◌, ◌≤◌, arith, refl, ◌∙◌}
use Rattle.eb_cursor.specs.Lists.{gives}
use Rattle.eb_cursor.specs.Loads.{ahead}
use Rattle.eb_cursor.proofs.Bounds.{bound_known, bound_found}
use Rattle.eb_cursor.proofs.Firsts.{first_on}
use Rattle.eb_cursor.proofs.Readies.{bound_lower}
use Rattle.eb_cursor.proofs.Tellings.{told_itself}
use Rattle.eb_cursor.proofs.bound.cursor_below.Goals as goal
use Rattle.eb_cursor.proofs.bound.cursor_below.Goals.{then-start-eq0-via-then-start-eq0, then-start-eq0-via-else-start-eq0+then-place_after-start}

pub returns-then-start-eq0-clause-found : goal.returns-then-start-eq0-clause-found
returns-then-start-eq0-clause-found g c = λ docs last h.
    let low : 0 < c.min-start.result → ahead c.args.cursor.now.current < c.min-start.result = elim c.then-start-eq0.branch [
      | then-start-eq0-via-then-start-eq0 w ↦ λ some. absurd (omega (arith, some, w.if-start-eq0.true))
      | then-start-eq0-via-else-start-eq0+then-place_after-start w ↦ λ some. omega (arith, w.place_after.ensures, w.if-place_after-start.true)
    ] in
    told_itself g.met.P.Port.keeps_itself (λ m r. (
      bound_known (gives m) docs c.args.bound c.args.cursor.now c.min-start.result c.args.end last c.min-start.ensures h low r,
      bound_lower (gives m) docs c.args.bound c.args.cursor.now c.args.end last h r,
    ))

pub place_after-requires : goal.place_after-requires
place_after-requires g c = omega (arith, c.requires.ready.5.low)

some_of : (start upto end : ℕ) → start ≤ upto → (start ≡ 0 → ⊥) → 0 < upto
some_of start upto end h ne = omega arith

pub returns-clause-found : goal.returns-clause-found
returns-clause-found g c = λ docs last h. record {
  told = λ m st r.
      let first = r.firsts (some_of c.min-start.result c.args.cursor.now.upto c.args.end (omega (arith, c.min-start.ensures)) c.if-start-eq0.false) in
      let x = (c.ids_below-found.ensures.found docs (omega (arith, c.min-start.ensures, r.within))).told m st first in
      let now = first_on m x.0 c.args.cursor.now.segment docs x.2 first in (
        x.0,
        x.1,
        x.2,
        x.3,
        bound_found (gives m) (gives x.0) docs c.args.bound c.args.cursor.now _ c.min-start.result c.args.end last c.ids_below-found.result c.min-start.ensures h x.4 refl refl
            (c.last_before-cursor.ensures ∙ c.saturating_sub.ensures) now r,
      );
}
