use Rattle.std.proofs.Common.{◌<◌, rules, refl, sym, subst, arith}
use Rattle.eb_base.specs.Setting.{Setting}
use Rattle.eb_place.specs.declared.moment.Moment.{Moment}
use Rattle.eb_place.specs.Later.{IsNotBefore}
use Rattle.eb_engine.proofs.calls.convert_in_words.Goals as goal

pub returns-clause-made : goal.returns-clause-made
returns-clause-made c =
    let made = c.requires.made in
    let inside = subst (λ (σ : Setting). c.args.segment < σ.segments) (sym made.setting) c.requires.segment in
    let k = c.convert_next.ensures c.args.seat.now.moment (made, refl) inside c.requires.next in
    let same = sym k.2.0 in
    let words = k.2.1 in
    let new = k.1.0 in
    search (rules, same, words, new)

pub returns-clause-later : goal.returns-clause-later
returns-clause-later c =
    let made = c.requires.made in
    let inside = subst (λ (σ : Setting). c.args.segment < σ.segments) (sym made.setting) c.requires.segment in
    let k = c.convert_next.ensures c.args.seat.now.moment (made, refl) inside c.requires.next in
    let same = sym k.2.0 in
    let told = subst (λ (n : Moment). IsNotBefore n c.args.seat.now.moment) (sym k.1.1) k.3 in
    search (rules, same, told)

pub returns-clause-conversion : goal.returns-clause-conversion
returns-clause-conversion c =
    let made = c.requires.made in
    let inside = subst (λ (σ : Setting). c.args.segment < σ.segments) (sym made.setting) c.requires.segment in
    let k = c.convert_next.ensures c.args.seat.now.moment (made, refl) inside c.requires.next in
    let same = sym k.2.0 in
    let at = k.1.1 in
    let told = k.4 in
    grind (arith, same, at, told)
