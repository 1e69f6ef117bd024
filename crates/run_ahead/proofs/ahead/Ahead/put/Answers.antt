use Rattle.std.proofs.Common.{refl}
use Rattle.eb_lines.proofs.Results.{err_any}
use Rattle.run_ahead.specs.Tasks.{line_of}
use Rattle.run_ahead.proofs.Waitings.{put_more, put_none}
use Rattle.run_ahead.proofs.ahead.Ahead.put.Goals as goal

pub returns-in_err-push-clause-err : goal.returns-in_err-push-clause-err
returns-in_err-push-clause-err g c =
    err_any c.from_residual.result (put_none g.S.Store.other g.S.Store.holds c.args.self.now _ refl c.in_err-push.ensures.err refl refl c.requires.state)

pub returns-clause-ok : goal.returns-clause-ok
returns-clause-ok g c = put_more g.S.Store.other g.S.Store.holds c.args.self.now _ (line_of c.args.line) refl c.in_ok-push.ensures.ok refl refl c.requires.number
