use Rattle.std.proofs.Common.{◌≡◌, ℕ, suc, ◌-◌, ◌<◌, get_or, subst, arith, inl, inr}
use Rattle.std.proofs.lemmas.Bool.{cases_lt}
use Rattle.eb_place.proofs.FallingLists.{falls_from}
use Rattle.eb_trials.proofs.tests.blocks.is_packable.Goals as goal

pub loop-i-init : goal.loop-i-init
loop-i-init c k l = absurd (omega arith)

pub loop-i-preserved : goal.loop-i-preserved
loop-i-preserved c k l = elim (cases_lt (suc k) c.loop-i.i) [
  | inl low ↦ c.loop-i.invariant k low
  | inr high ↦
      let e : c.loop-i.i ≡ suc k = omega (arith, l) in
      let f : c.loop-i.i - 1 ≡ k = omega arith in
      subst (λ (j : ℕ). get_or c.args.postings.now (suc k) 0 < get_or c.args.postings.now j 0) f (subst (λ (j : ℕ). get_or c.args.postings.now j 0 < get_or c.args.postings.now (c.loop-i.i - 1) 0) e
      c.if-postings-i.false)
]

pub returns : goal.returns
returns c ok = record {
  some = grind (arith, c.if-is_empty.ensures);
  few = c.if-postings-gt-BLOCK_POSTINGS.false;
  falls = falls_from c.args.postings.now (λ k l. c.loop-i.invariant k (omega (arith, l, c.loop-i-test.false)));
  small = c.are_small.ensures c.if-not-are_small.false;
}
