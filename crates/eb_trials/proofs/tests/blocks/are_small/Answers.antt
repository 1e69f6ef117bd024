use Rattle.std.proofs.Common.{◌≡◌, ℕ, ◌<◌, ◌^◌, get_or, subst, arith, inl, inr}
use Rattle.std.proofs.lemmas.Bool.{cases_lt}
use Rattle.eb_place.specs.Postings.{posting_bits}
use Rattle.eb_place.proofs.FallingLists.{below_from}
use Rattle.eb_trials.proofs.tests.blocks.are_small.Goals as goal

pub loop-i-preserved : goal.loop-i-preserved
loop-i-preserved c k l = elim (cases_lt k c.loop-i.i) [
  | inl low ↦ c.loop-i.invariant k low
  | inr high ↦
      let e : c.loop-i.i ≡ k = omega (arith, l) in
      subst (λ (j : ℕ). get_or c.args.postings.now j 0 < 2 ^ posting_bits) e (omega (arith, c.if-postings-i-gt-GREATEST.false))
]

pub returns : goal.returns
returns c ok = below_from (2 ^ posting_bits) c.args.postings.now (λ k l. c.loop-i.invariant k (omega (arith, l, c.loop-i-test.false)))
