use Rattle.std.proofs.Common.{◌≡◌, true, inr}
use Rattle.run_with_workers.proofs.serving.Serving.keep.Goals as goal

pub returns-clause-kept : goal.returns-clause-kept
returns-clause-kept g c =
    let yes : c.awaits.result ≡ true = cc c.if-not-awaits.false in
    inr (c.in-Some.at, c.in-Some.ensures.1, c.awaits.ensures yes, c.replace.ensures)
