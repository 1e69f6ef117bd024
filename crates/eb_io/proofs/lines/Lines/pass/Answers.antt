use Rattle.std.proofs.Common.{◌+◌, length, drop, slice_range, ap, ◌∙◌, ◌-◌, ◌≤◌, arith, subst}
use Rattle.eb_io.specs.Lines.{IsEnd}
use Rattle.eb_io.specs.contracts.lines.Lines.{the_view}
use Rattle.eb_io.specs.Held.{Held}
use Rattle.eb_io.proofs.Bytes.{drop_range, length_range}
use Rattle.eb_io.proofs.lines.Lines.pass.Goals as goal

pub invariant_of-self : goal.invariant_of-self
invariant_of-self c =
    let i = c.self.invariant in
    let some = ap (λ (h : Held). length h.rest) c.self.view_is in
    record {
      order = omega (arith, some, c.requires, length_range c.self.inside.piece.items c.self.inside.from c.self.inside.to);
      within = i.within;
      piece = i.piece;
      end = subst (λ xs. IsEnd (slice_range xs (c.self.inside.from + 1) c.self.inside.to) c.find_end-self-inside.result) c.deref.ensures.value c.find_end-self-inside.ensures;
      part = i.part;
      part_room = i.part_room;
      given_room = i.given_room;
      long = i.long;
      limit = i.limit;
      ended = i.ended;
    }

pub returns : goal.returns
returns c =
    let inside = c.self.inside in
    let some = ap (λ (h : Held). length h.rest) c.self.view_is in
    let fits : 1 ≤ inside.to - inside.from = omega (arith, some, c.requires, length_range inside.piece.items inside.from inside.to) in
    ap (λ t. record (the_view inside) { rest = t }) (drop_range inside.piece.items inside.from inside.to 1 fits)
    ∙ ap (λ (h : Held). record h { rest = drop 1 h.rest }) c.self.view_is
