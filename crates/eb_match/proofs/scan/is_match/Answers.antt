use Rattle.std.proofs.Common.{subst, sym}
use Rattle.std.specs.Bool.{Decides}
use Rattle.eb_base.specs.Query.{tree}
use Rattle.eb_base.specs.Match.{Matches}
use Rattle.eb_base.proofs.Matching.{match_decides}
use Rattle.eb_match.proofs.scan.is_match.Goals as goal

pub returns-clause-fact : goal.returns-clause-fact
returns-clause-fact c =
    let q = tree c.args.query.now in
    subst (λ r. Decides r (Matches q c.args.document.now)) (sym c.matches.ensures) (match_decides q c.args.document.now)
