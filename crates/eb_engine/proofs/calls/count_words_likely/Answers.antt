use Rattle.std.proofs.Common.{length, take, rules, refl, sym, arith}
use Rattle.eb_base.specs.Query.{word}
use Rattle.eb_count.specs.Counts.{match_count}
use Rattle.eb_search.specs.Bounds.{match_loads}
use Rattle.eb_engine.specs.Loads.{IsWithinBound}
use Rattle.eb_engine.proofs.calls.count_words_likely.Goals as goal

pub returns-clause-made : goal.returns-clause-made
returns-clause-made g c =
    let k = c.count_likely.ensures.counts c.args.seat.now.moment (c.requires.made, refl) in
    let same = sym k.2.0 in
    let words = k.2.1 in
    let made = k.1.0 in
    search (rules, same, words, made)

pub returns-clause-counts : goal.returns-clause-counts
returns-clause-counts g c =
    let k = c.count_likely.ensures.counts c.args.seat.now.moment (c.requires.made, refl) in
    let same = sym k.2.0 in
    let at = k.1.1 in
    let l = k.3 in
    grind (arith, same, at, l)

pub returns-clause-loads : goal.returns-clause-loads
returns-clause-loads g c = λ t is.
    let k = c.count_likely.ensures.loads c.args.seat.now.moment t (c.requires.made, refl) is in
    let same = sym k.3.0 in
    let at = sym k.1.1 in
    let ids = match_loads (length c.args.tally.now.buckets) (match_count (word t) (take c.count_likely.result k.0.documents.accepted)) in
    let few : IsWithinBound c.args.likely c.args.seat.now.moment k.0 t c.count_likely.result ids c.args.steps.now c.count_likely.new.steps = record { few = k.4 } in
    grind (arith, same, at, few)
