use Rattle.std.proofs.Common.{length, rules, refl, sym, arith}
use Rattle.eb_cursor.specs.Frames.{ids_of}
use Rattle.eb_engine.specs.Loads.{IsWithinBound, IsWithinAndBound}
use Rattle.eb_engine.proofs.calls.search_words_likely.Goals as goal

pub returns-clause-made : goal.returns-clause-made
returns-clause-made g c =
    let k = c.search_likely.ensures.answer c.args.seat.now.moment (c.requires.made, refl) in
    let same = sym k.2.0 in
    let words = k.2.1 in
    let made = k.1.0 in
    search (rules, same, words, made)

pub returns-clause-answer : goal.returns-clause-answer
returns-clause-answer g c =
    let k = c.search_likely.ensures.answer c.args.seat.now.moment (c.requires.made, refl) in
    let same = sym k.2.0 in
    let at = k.1.1 in
    let l = k.3 in
    grind (arith, same, at, l)

pub returns-clause-loads : goal.returns-clause-loads
returns-clause-loads g c = λ t is.
    let k = c.search_likely.ensures.loads c.args.seat.now.moment t (c.requires.made, refl) is in
    let same = sym k.3.0 in
    let at = sym k.1.1 in
    let ids = length (ids_of c.search_likely.new.frame) in
    let few : IsWithinBound c.args.likely c.args.seat.now.moment k.0 t c.search_likely.result ids c.args.steps.now c.search_likely.new.steps = record { few = k.4 } in
    grind (arith, same, at, few)

pub returns-clause-rounds : goal.returns-clause-rounds
returns-clause-rounds g c = λ ts is.
    let k = c.search_likely.ensures.rounds c.args.seat.now.moment ts (c.requires.made, refl) is in
    let same = sym k.3.0 in
    let at = sym k.1.1 in
    let ids = length (ids_of c.search_likely.new.frame) in
    let few : IsWithinAndBound c.args.likely k.0 ts c.search_likely.result ids c.args.steps.now c.search_likely.new.steps = record { few = k.4 } in
    grind (arith, same, at, few)
