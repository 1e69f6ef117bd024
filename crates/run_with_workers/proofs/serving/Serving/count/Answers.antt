use Rattle.std.proofs.Common.{◌≡◌, ℕ, ◌+◌, length, replicate, refl, sym, ap, ◌∙◌, subst, arith}
use Rattle.std.proofs.lemmas.List.{length-replicate}
use Rattle.eb_base.specs.Query.{Tree, tree}
use Rattle.eb_count.specs.Tallies.{Numbers}
use Rattle.eb_query.specs.declared.ask.Ask.TheVariants.{Counts}
use Rattle.eb_lines.specs.Reading.{query}
use Rattle.run_with_workers.specs.declared.waiting.Waiting.TheVariants as waits
use Rattle.run_with_workers.specs.Offices.{HasBucketsOf, CountsAll}
use Rattle.run_with_workers.proofs.Askings.{grown_none}
use Rattle.run_with_workers.proofs.Servings.{holding_of, few_queries, held_none, served_line}
use Rattle.run_with_workers.proofs.Waits.{as_counted}
use Rattle.run_with_workers.proofs.serving.Serving.count.Goals as goal

pub count-seen-requires : goal.count-seen-requires
count-seen-requires g c = holding_of g.O.Office.holds g.O.Office.asked c.args.self.now c.requires.running

pub overflow_add-self-2 : goal.overflow_add-self-2
overflow_add-self-2 g c =
    let r = c.requires.running in
    let few = few_queries g.O.Office.holds g.O.Office.asked c.args.self.now r.0 r.1 r.2 r.3 in
    omega (arith, few, c.requires.number)

-- as many buckets as it was asked for
long_as : (x w n : ℕ) (t : Numbers) → t ≡ record { start = x; width = w; total = 0; buckets = replicate n 0 } → length t.buckets ≡ n
long_as x w n t is = ap (λ (m : Numbers). length m.buckets) is ∙ length-replicate {A = ℕ} n 0

pub new-counted-requires : goal.new-counted-requires
new-counted-requires g c =
    let long = long_as c.args.start c.args.width c.args.buckets c.in_ok-tally.tally c.in_ok-tally.ensures in
    omega (arith, c.count-seen.ensures.buckets.long, long, c.requires.asked.within.1)

pub returns-clause-ok : goal.returns-clause-ok
returns-clause-ok g c =
    let H = g.O.Office.holds in
    let B = g.O.Office.asked in
    let e = c.count-seen.ensures in
    let t = c.in_ok-tally.tally in
    let is = c.in_ok-tally.ensures in
    let q = tree c.args.query in
    let x = c.args.start in
    let w = c.args.width in
    let n = c.args.buckets in
    let own = c.new-counted.result in
    let made = c.new-counted.ensures in
    let buckets = subst (HasBucketsOf t) (sym made.tally) e.buckets in
    served_line H B c.args.self.now _ (query (Counts x w n) q) (waits.Counted own) refl refl c.requires.number (grown_none _ _ _ e.same c.requires.running.3.is_above) c.push.ensures
    (λ rules docs office few start.
    let held = e.keeps rules docs tt office in
    let counts = subst (λ (z : Tree). CountsAll rules docs z c.count-seen.result c.count-seen.new.tally) c.in_ok-frame.ensures.query (e.counts rules docs tt held few) in
    let all = subst (λ (y : ℕ × Numbers). CountsAll rules docs q y.0 y.1) (λ i. (sym made.seen i, sym made.tally i)) counts in (
      held_none H rules docs held,
      as_counted rules docs (B c.count-seen.new.self) (c.args.self.now.number + 1) q x w n t own (ap (λ (m : Numbers). m.start) is) (ap (λ (m : Numbers). m.width) is) (long_as x w n t is) buckets all,
      refl,
      omega arith,
    ))
