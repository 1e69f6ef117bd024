use Rattle.run_with_watches.specs.WatchRules.{with_watches}
use Rattle.run_with_watches.proofs.run.answer_watched.Goals as goal

pub answer_lines-requires : goal.answer_lines-requires
answer_lines-requires g c = let r = c.requires in (with_watches r.0, r.1, c.new.ensures r.0 r.0.start r.0.watches r.2)

pub returns-clause-ends : goal.returns-clause-ends
returns-clause-ends g c = λ plain named held. c.answer_lines.ensures.ends (with_watches plain) named (c.new.ensures plain plain.start plain.watches held)
