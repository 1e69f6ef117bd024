use Rattle.std.proofs.Common.{take, rules, refl, sym, arith}
use Rattle.std.proofs.lemmas.List.{length-take-le}
use Rattle.eb_engine.proofs.Knows.{front_of}
use Rattle.eb_engine.proofs.calls.count_known_words.Goals as goal

pub count_first-requires : goal.count_first-requires
count_first-requires g c = (c.args.seat.now.moment, (c.requires.made, refl), c.requires.count)

pub returns-clause-made : goal.returns-clause-made
returns-clause-made g c =
    let docs = take c.args.count c.args.seat.now.moment.documents.accepted in
    let m = c.args.seat.now.moment in
    let long = length-take-le c.args.count m.documents.accepted c.requires.count in
    let k = (c.count_first.ensures.counts docs long).told m (c.requires.made, refl) (front_of c.args.count m.documents.accepted) in
    let same = sym k.3.0 in
    let words = k.3.1 in
    let made = k.1.0 in
    search (rules, same, words, made)

pub returns-clause-later : goal.returns-clause-later
returns-clause-later g c =
    let docs = take c.args.count c.args.seat.now.moment.documents.accepted in
    let m = c.args.seat.now.moment in
    let long = length-take-le c.args.count m.documents.accepted c.requires.count in
    let k = (c.count_first.ensures.counts docs long).told m (c.requires.made, refl) (front_of c.args.count m.documents.accepted) in
    let same = sym k.3.0 in
    let at = k.1.1 in
    let l = k.2 in
    grind (arith, same, at, l)

pub returns-clause-counts : goal.returns-clause-counts
returns-clause-counts g c =
    let docs = take c.args.count c.args.seat.now.moment.documents.accepted in
    let m = c.args.seat.now.moment in
    let long = length-take-le c.args.count m.documents.accepted c.requires.count in
    let k = (c.count_first.ensures.counts docs long).told m (c.requires.made, refl) (front_of c.args.count m.documents.accepted) in
    k.4
