use Rattle.std.proofs.Common.{◌≤◌, length, arith}
use Rattle.eb_watch.specs.Seen.{watches_of}
use Rattle.run_with_watches.proofs.Telling.{told_most}
use Rattle.run_with_watches.proofs.watched.told_of.Goals as goal

pub returns-clause-few : goal.returns-clause-few
returns-clause-few c =
    let most = c.len-most.ensures.few in
    let len = c.len-most.ensures.len in
    let few : length (watches_of c.args.watches.now) ≤ 10000 = omega (arith, most, len) in
    told_most (watches_of c.args.watches.now) c.args.document.now c.told_unmetered.result c.told_unmetered.ensures.told few
