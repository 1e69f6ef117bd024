use Rattle.std.proofs.Common.{rules, ◌+◌}
use Rattle.eb_beside.proofs.Places.{accepts_first, accepts_rest, changes_none, changes_both}
use Rattle.eb_beside.proofs.each.+each.Goals as goal

pub each_from-returns-in_default : goal.each_from-returns-in_default
each_from-returns-in_default g t c = changes_none g.F.Fn c.args.f.now c.args.from _ _ (search rules)

pub each_from-at_one-requires : goal.each_from-at_one-requires
each_from-at_one-requires g t c = accepts_first g.F.Fn c.args.f.now c.args.from c.in-Some.own.now c.in-Some.rest.now _ (search rules) c.requires.accepts

pub each_from-returns-then-is_empty : goal.each_from-returns-then-is_empty
each_from-returns-then-is_empty g t c =
    changes_both g.F.Fn c.args.f.now c.args.from c.in-Some.own.now _ c.in-Some.rest.now _ _ (search rules) c.at_one.ensures
    (changes_none g.F.Fn c.args.f.now (c.args.from + 1) c.in-Some.rest.now _ (search rules))

pub each_from-first_and_rest-requires-clause-first : goal.each_from-first_and_rest-requires-clause-first
each_from-first_and_rest-requires-clause-first g t c κs within =
    accepts_first g.F.Fn c.args.f.now c.args.from c.in-Some.own.now c.in-Some.rest.now _ (search rules) c.requires.accepts

pub each_from-first_and_rest-requires-clause-rest : goal.each_from-first_and_rest-requires-clause-rest
each_from-first_and_rest-requires-clause-rest g t c κs within =
    accepts_rest g.F.Fn c.args.f.now c.args.from c.in-Some.own.now c.in-Some.rest.now _ (search rules) c.requires.accepts

pub each_from-returns : goal.each_from-returns
each_from-returns g t c =
    changes_both g.F.Fn c.args.f.now c.args.from c.in-Some.own.now _ c.in-Some.rest.now _ _ (search rules) c.first_and_rest.ensures.first c.first_and_rest.ensures.rest
