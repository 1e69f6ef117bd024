use Rattle.std.proofs.Common.{◌+◌, ap, sym, ◌∙◌, subst, arith}
use Rattle.eb_chain.specs.Needs.{HasLike}
use Rattle.eb_chain.proofs.Likes.{tail_small, like_0, like_1, like_2, like_3}
use Rattle.eb_chain.proofs.new_slices.least_before.Goals as goal

pub overflow_cast-last : goal.overflow_cast-last
overflow_cast-last c = let small = tail_small c.requires.0 c.args.tail (omega arith) c.requires.1 in omega (arith, small)

pub returns-in-0-clause-like : goal.returns-in-0-clause-like
returns-in-0-clause-like c f h = subst (HasLike f) (ap (λ k. k + 1) (sym c.offset_of.ensures)) (like_0 f c.args.tail (omega arith) (sym c.pool_of.ensures ∙ c.in-0.is) h)

pub returns-in-1-clause-like : goal.returns-in-1-clause-like
returns-in-1-clause-like c f h = subst (HasLike f) (ap (λ k. k + 2) (sym c.offset_of-in-1.ensures)) (like_1 f c.args.tail (omega arith) (sym c.pool_of.ensures ∙ c.in-1.is) h)

pub returns-in-2-clause-like : goal.returns-in-2-clause-like
returns-in-2-clause-like c f h = subst (HasLike f) (ap (λ k. k + 17) (sym c.offset_of-in-2.ensures)) (like_2 f c.args.tail (omega arith) (sym c.pool_of.ensures ∙ c.in-2.is) h)

pub returns-in_default-clause-like : goal.returns-in_default-clause-like
returns-in_default-clause-like c f h = subst (HasLike f) (ap (λ k. k + 144) (sym c.offset_of-in_default.ensures)) (like_3 f c.args.tail (omega arith) (omega arith) h)
