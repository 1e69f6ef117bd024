use Rattle.std.proofs.Common.{◌≡◌, ℕ, suc, ◌-◌, length, refl, sym, arith, ap, subst}
use Rattle.std.proofs.lemmas.List.{drop_all}
use Rattle.eb_watch.specs.Ends.{least}
use Rattle.eb_watch.proofs.Standing.{IsTold, next_told}
use Rattle.eb_watch.proofs.ends.put_next.Goals as goal

pub places-init : goal.places-init
places-init c = record {
  long = c.requires;
  within = omega arith;
  front = λ k l. refl;
  behind = λ k l h. absurd (omega (arith, l, h));
  lowest = sym (ap least (drop_all (length c.args.places.now) c.args.ends.now (omega (arith, c.requires))));
}

pub places-preserved : goal.places-preserved
places-preserved c =
    let number = c.args.number in let places = c.args.places.now in let old = c.args.ends.now in let ends = c.places.ends in let at = c.places.at in
    let e : at ≡ suc (at - 1) = omega (arith, c.places-test.true) in
    let told : IsTold number (suc (at - 1)) places old ends c.places.least = subst (λ (a : ℕ). IsTold number a places old ends c.places.least) e c.places.invariant in
    next_told number (at - 1) c.places.least c.end_where.result c.lesser-least.result places old ends c.requires told c.end_where.ensures c.lesser-least.ensures

pub returns-clause-length : goal.returns-clause-length
returns-clause-length c = c.places.invariant.long

pub returns-clause-ends : goal.returns-clause-ends
returns-clause-ends c = λ k h. c.places.invariant.behind k (omega arith) h
