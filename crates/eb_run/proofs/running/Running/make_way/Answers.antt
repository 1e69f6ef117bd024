use Rattle.std.proofs.Common.{◌∙◌, refl, ap}
use Rattle.eb_lines.proofs.Results.{ok_on}
use Rattle.eb_lines.proofs.Runs.{stays}
use Rattle.eb_rounds.specs.Standing.{Standing}
use Rattle.eb_rounds.specs.Takes.{takes_kind}
use Rattle.eb_run.specs.Running.{HasRun}
use Rattle.eb_run.proofs.Runnings.{takes_none, opened_on, with_parts}
use Rattle.eb_run.proofs.running.Running.make_way.Goals as goal

pub returns-then-takes-clause-on : goal.returns-then-takes-clause-on
returns-then-takes-clause-on g c = stays HasRun c.args.self.now c.args.text.now.items

pub returns-then-opens_round-clause-on : goal.returns-then-opens_round-clause-on
returns-then-opens_round-clause-on g c =
    let old = c.args.self.now in
    let new = with_parts old old.writer old.converter c.open_round.new.self old.number in
    let text = c.args.text.now.items in
    opened_on old new text text refl refl refl refl refl refl c.open_round.ensures (c.opens_round.ensures c.if-opens_round.true) refl refl

pub returns-then-opens_round-clause-takes : goal.returns-then-opens_round-clause-takes
returns-then-opens_round-clause-takes g c = ap (λ hs. takes_kind hs c.args.kind) (ap (λ (s : Standing). s.held) c.open_round.ensures) ∙ takes_none c.args.kind

pub returns-clause-on : goal.returns-clause-on
returns-clause-on g c = c.requires.worker.on _ _ _ _ _ c.worker.ensures

pub returns-clause-takes : goal.returns-clause-takes
returns-clause-takes g c =
    ok_on c.worker.result (c.requires.worker.none _ _ _ _ _ c.worker.ensures) (λ e. ap (λ hs. takes_kind hs c.args.kind) e.1 ∙ takes_none c.args.kind)
