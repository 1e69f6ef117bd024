use Rattle.std.proofs.Common.{◌+◌, ◌-◌, ◌≤◌, length, take, slice_range, ap, sym, subst, arith, rules}
use Rattle.eb_io.specs.contracts.lines.Lines.{the_view}
use Rattle.eb_io.specs.Held.{Held}
use Rattle.eb_io.proofs.Bytes.{drop_range, length_range}
use Rattle.eb_io.specs.Lines.{IsEnd, IsUncut}
use Rattle.eb_io.proofs.Ends.{end_behind, range_behind}
use Rattle.eb_io.proofs.Given.{rest_dropped}
use Rattle.eb_io.proofs.lines.Lines.join.Goals as goal

pub returns-then-self-clause-held : goal.returns-then-self-clause-held
returns-then-self-clause-held c =
    let inside = c.self.inside in
    let some = ap (λ (h : Held). length h.rest) c.self.view_is in
    let fits : c.args.count ≤ inside.to - inside.from = omega (arith, some, c.requires, length_range inside.piece.items inside.from inside.to) in
    rest_dropped (the_view inside) c.args.self.now _ _ _ (drop_range inside.piece.items inside.from inside.to c.args.count fits) c.self.view_is

pub returns-then-count-len-clause-held : goal.returns-then-count-len-clause-held
returns-then-count-len-clause-held c =
    let inside = c.self.inside in
    let some = ap (λ (h : Held). length h.rest) c.self.view_is in
    let fits : c.args.count ≤ inside.to - inside.from = omega (arith, some, c.requires, length_range inside.piece.items inside.from inside.to) in
    rest_dropped (the_view inside) c.args.self.now _ _ _ (drop_range inside.piece.items inside.from inside.to c.args.count fits) c.self.view_is

pub returns-clause-held : goal.returns-clause-held
returns-clause-held c =
    let inside = c.self.inside in
    let some = ap (λ (h : Held). length h.rest) c.self.view_is in
    let fits : c.args.count ≤ inside.to - inside.from = omega (arith, some, c.requires, length_range inside.piece.items inside.from inside.to) in
    rest_dropped (the_view inside) c.args.self.now _ _ _ (drop_range inside.piece.items inside.from inside.to c.args.count fits) c.self.view_is

pub invariant_of-self : goal.invariant_of-self
invariant_of-self c =
    let i = c.self.invariant in
    let inside = c.self.inside in
    let some = ap (λ (h : Held). length h.rest) c.self.view_is in
    let fits : c.args.count ≤ inside.to - inside.from = omega (arith, some, c.requires.within, length_range inside.piece.items inside.from inside.to) in
    let uncut = subst (λ (h : Held). IsUncut (take c.args.count h.rest)) (sym c.self.view_is) c.requires.uncut in
    record {
      order = omega (arith, fits, i.order);
      within = i.within;
      piece = i.piece;
      end = subst (IsEnd (slice_range inside.piece.items (inside.from + c.args.count) inside.to)) (sym c.place_behind-self-inside.ensures)
          (range_behind inside.piece.items inside.from inside.to c.args.count inside.end fits i.end uncut);
      part = search rules;
      part_room = search rules;
      given_room = i.given_room;
      long = search rules;
      limit = i.limit;
      ended = i.ended;
    }

pub invariant_of-self-then-count-len : goal.invariant_of-self-then-count-len
invariant_of-self-then-count-len c =
    let i = c.self.invariant in
    let inside = c.self.inside in
    let some = ap (λ (h : Held). length h.rest) c.self.view_is in
    let fits : c.args.count ≤ inside.to - inside.from = omega (arith, some, c.requires.within, length_range inside.piece.items inside.from inside.to) in
    let uncut = subst (λ (h : Held). IsUncut (take c.args.count h.rest)) (sym c.self.view_is) c.requires.uncut in
    record {
      order = omega (arith, fits, i.order);
      within = i.within;
      piece = i.piece;
      end = subst (IsEnd (slice_range inside.piece.items (inside.from + c.args.count) inside.to)) (sym c.place_behind-self-inside.ensures)
          (range_behind inside.piece.items inside.from inside.to c.args.count inside.end fits i.end uncut);
      part = search rules;
      part_room = search rules;
      given_room = i.given_room;
      long = search rules;
      limit = i.limit;
      ended = i.ended;
    }

pub invariant_of-self-2 : goal.invariant_of-self-2
invariant_of-self-2 c =
    let i = c.self.invariant in
    let inside = c.self.inside in
    let some = ap (λ (h : Held). length h.rest) c.self.view_is in
    let fits : c.args.count ≤ inside.to - inside.from = omega (arith, some, c.requires.within, length_range inside.piece.items inside.from inside.to) in
    let uncut = subst (λ (h : Held). IsUncut (take c.args.count h.rest)) (sym c.self.view_is) c.requires.uncut in
    record {
      order = omega (arith, fits, i.order);
      within = i.within;
      piece = i.piece;
      end = subst (IsEnd (slice_range inside.piece.items (inside.from + c.args.count) inside.to)) (sym c.place_behind-self-inside.ensures)
          (range_behind inside.piece.items inside.from inside.to c.args.count inside.end fits i.end uncut);
      part = search rules;
      part_room = search rules;
      given_room = i.given_room;
      long = search rules;
      limit = i.limit;
      ended = i.ended;
    }

pub place_behind-self-inside-requires : goal.place_behind-self-inside-requires
place_behind-self-inside-requires c =
    let inside = c.self.inside in
    let uncut = subst (λ (h : Held). IsUncut (take c.args.count h.rest)) (sym c.self.view_is) c.requires.uncut in
    end_behind (slice_range inside.piece.items inside.from inside.to) inside.end c.args.count c.self.invariant.end uncut
