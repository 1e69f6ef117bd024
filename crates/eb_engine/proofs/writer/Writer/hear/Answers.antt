use Rattle.std.proofs.Common.{ℕ, ◌≤◌, ap, sym, ◌∙◌, subst, arith}
use Rattle.std.proofs.Math.Nat.{max-le}
use Rattle.eb_place.specs.declared.moment.Conversions.{Conversions}
use Rattle.eb_place.specs.Later.{IsNotBefore}
use Rattle.eb_table.specs.Known.{Known, Words}
use Rattle.eb_engine.specs.Tokens.{ConverterToken}
use Rattle.eb_engine.proofs.Knows.{stays, packed_rises, closed_in}
use Rattle.eb_engine.proofs.writer.Writer.hear.Goals as goal

pub invariant_of-self : goal.invariant_of-self
invariant_of-self c =
    let i = c.self.invariant in
    let old = c.self.inside.seat.moment in
    let new = c.meet.new.self.moment in
    let s = stays c.self.inside.placer old new c.self.inside.converted c.meet.ensures.made.moment c.meet.ensures.least.first c.meet.ensures.documents i in
    let later : IsNotBefore new c.converter.inside.seat.moment = subst (λ (k : Known). IsNotBefore new k.moment) c.split-told.ensures.new c.meet.ensures.least.second in
    let count = ap (λ (x : Conversions). x.converted) c.converter.invariant.1 in
    let told = packed_rises c.converter.inside.seat.moment new c.converter.inside.converted later (omega (arith, count)) in
    let counted = ap (λ (t : ConverterToken). t.converted) c.converter.view_is in
    (s.0, s.1, subst (λ (k : ℕ). k ≤ new.conversions.converted) (sym c.max-self-inside.ensures) (max-le s.2 (omega (arith, told, c.converted.ensures, counted))))

pub returns-clause-closed : goal.returns-clause-closed
returns-clause-closed c =
    let i = c.self.invariant in
    let new = c.meet.new.self.moment in
    let later : IsNotBefore new c.converter.inside.seat.moment = subst (λ (k : Known). IsNotBefore new k.moment) c.split-told.ensures.new c.meet.ensures.least.second in
    let stands = stays c.self.inside.placer c.self.inside.seat.moment new c.self.inside.converted c.meet.ensures.made.moment c.meet.ensures.least.first c.meet.ensures.documents i in
    let count = ap (λ (t : ConverterToken). t.converted) c.converter.view_is in
    closed_in c.converter.inside.seat.moment new c.args.index.now.setting c.args.converter.now.converted later c.meet.ensures.made.moment (c.meet.ensures.made.setting
    ∙ ap (λ (w : Words). w.setting) c.index.view_is) stands.1.idle (c.converter.invariant.1 ∙ (λ i. record { converted = count i; packed = 0 }))
