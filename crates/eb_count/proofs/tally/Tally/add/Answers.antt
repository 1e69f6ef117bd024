use Rattle.std.proofs.Common.{◌≡◌, ℕ, ◌-◌, ◌/◌, ◌<◌, length, get_or, set, refl, subst, ◌∙◌, arith}
use Rattle.eb_count.specs.Tallies.{HasAdded, raised}
use Rattle.eb_count.proofs.Counting.{added_in, inside_same}
use Rattle.eb_count.proofs.tally.Tally.add.Goals as goal

pub returns : goal.returns
returns c =
    let t = c.self.inside in
    let at : ℕ = (c.args.id - t.start) / t.width in
    let total : c.saturating_add-self-inside.result ≡ raised t.total 1 = omega (arith, c.saturating_add-self-inside.ensures) in
    let inside : at < length t.buckets.items = omega (arith, c.if-at-len.false) in
    let there : c.index.result.now ≡ get_or t.buckets.items at 0 = c.index.ensures ∙ inside_same t.buckets.items at c.index.result.now 0 inside in
    let more : c.saturating_add-more.result ≡ raised (get_or t.buckets.items at 0) 1 = omega (arith, c.saturating_add-more.ensures, there) in
    subst (λ n. HasAdded c.args.id n (record { start = t.start; width = t.width; total = c.saturating_add-self-inside.result; buckets = set t.buckets.items at c.saturating_add-more.result }))
    c.self.view_is
    (added_in c.args.id t.start t.width t.total c.saturating_add-self-inside.result at c.saturating_add-more.result t.buckets.items c.self.invariant c.if-id-self.false refl inside total more)
