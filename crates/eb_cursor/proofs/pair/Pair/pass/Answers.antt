use Rattle.std.proofs.Common.{sym, subst, arith}
use Rattle.eb_cursor.specs.Pairs.{IsNotLater}
use Rattle.eb_cursor.proofs.Pairs.{goes_on, pays_on, can_on}
use Rattle.eb_cursor.proofs.pair.Pair.pass.Goals as goal

pub pass_right-requires : goal.pass_right-requires
pass_right-requires g c = can_on g.P.Port.stands g.P.Port.keeps c.args.port.now c.pass_lefts.new.port c.args.self.now c.pass_lefts.new.self c.requires c.pass_lefts.ensures.told

pub returns : goal.returns
returns g c = record {
  told = goes_on c.args.self.now c.pass_lefts.new.self c.pass_right.new.self g.met.P.Port.keeps_on c.pass_lefts.ensures.told c.pass_right.ensures.told;
  costs = pays_on c.args.self.now c.pass_lefts.new.self c.pass_right.new.self c.args.steps.now c.pass_lefts.new.steps c.pass_right.new.steps g.met.P.Port.keeps_on
      c.pass_lefts.ensures.costs c.pass_right.ensures.costs;
  loads = omega (arith, c.pass_lefts.ensures.loads, c.pass_right.ensures.loads);
  less = λ e. let less = c.pass_right.ensures.less e in omega (arith, c.pass_lefts.ensures.falls, less);
  together = λ e x y i j.
      let first : IsNotLater c.pass_right.new.self.left c.pass_right.new.self.right =
      subst (λ p. IsNotLater p.left p.right) (sym (c.pass_right.ensures.stays e)) c.pass_lefts.ensures.not_later in
      let one = first x y i j in
      let other = c.pass_right.ensures.not_later e y x j i in
      omega (arith, one, other);
}
