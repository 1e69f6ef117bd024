use Rattle.eb_lines.proofs.PassingLines.{running_on}
use Rattle.eb_lines.proofs.Results.{ok_on, err_on}
use Rattle.run_ahead.specs.Ahead.{HasHeld}
use Rattle.run_ahead.specs.Tasks.{line_of}
use Rattle.run_ahead.proofs.Waitings.{goes_on, goes_after}
use Rattle.run_ahead.proofs.ahead.Ahead.hold.Goals as goal

pub put-requires-clause-state : goal.put-requires-clause-state
put-requires-clause-state g c =
    running_on (HasHeld g.S.Store.other g.S.Store.holds) c.args.self.now c.make_way.new.self c.args.text.now.items c.make_way.new.text.items c.requires.state c.make_way.ensures.on

pub returns-clause-ok : goal.returns-clause-ok
returns-clause-ok g c = ok_on c.put.result c.put.ensures.ok (λ f. goes_after (HasHeld g.S.Store.other g.S.Store.holds) c.args.self.now c.make_way.new.self c.put.new.self
    c.args.text.now.items c.make_way.new.text.items c.make_way.new.text.items (line_of c.args.line) c.make_way.ensures.on (f c.make_way.new.text.items))

pub returns-clause-err : goal.returns-clause-err
returns-clause-err g c = err_on c.put.result c.put.ensures.err (λ f. goes_on (HasHeld g.S.Store.other g.S.Store.holds) c.args.self.now c.make_way.new.self c.put.new.self
    c.args.text.now.items c.make_way.new.text.items c.make_way.new.text.items c.make_way.ensures.on (f c.make_way.new.text.items))
