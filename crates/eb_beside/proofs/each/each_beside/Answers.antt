use Rattle.std.proofs.Common.{◌+◌, ℕ, refl, subst, arith, slice_index_or}
use Rattle.std.specs.Fork.{ChangesAt}
use Rattle.eb_beside.proofs.Places.{accepts_from, changes_each}
use Rattle.eb_beside.proofs.each.each_beside.Goals as goal

pub each_from-requires-clause-accepts : goal.each_from-requires-clause-accepts
each_from-requires-clause-accepts g c κs within = accepts_from g.F.Fn c.args.f.now 0 _
    (λ i p l is. subst (λ n. g.F.Fn.pre c.args.f.now (n, (p, tt))) {x = i} (omega arith) (c.requires i p l is))

pub returns : goal.returns
returns g c i d l =
    let R : ℕ → Type 0 = λ n. ChangesAt g.F.Fn c.args.f.now n (slice_index_or c.args.all.now i d) (slice_index_or c.each_from.new.all i d) in
    (refl, subst R {x = 0 + i} (omega arith) (changes_each g.F.Fn c.args.f.now 0 _ _ c.each_from.ensures i d l))
