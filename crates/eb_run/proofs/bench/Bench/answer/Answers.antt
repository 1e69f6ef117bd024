use Rattle.std.proofs.Common.{◌+◌, length, refl, ap, ◌∙◌, arith}
use Rattle.eb_cursor.specs.Frames.{query_of, k_of}
use Rattle.eb_lines.specs.Progress.{accepted}
use Rattle.eb_run.specs.Bench.{usual}
use Rattle.eb_run.proofs.Benches.{queries_few, answer_small, takes_query}
use Rattle.eb_run.proofs.bench.Bench.answer.Goals as goal

pub search-requires : goal.search-requires
search-requires g c = let r = c.requires in (usual, accepted r.1.readings, r.1.holds)

pub sum_of-requires : goal.sum_of-requires
sum_of-requires g c =
    let r = c.requires in
    let found = c.ids-ids.ensures ∙ c.search.ensures.ids usual (accepted r.1.readings) r.1.holds in
    omega (arith, ap length found, answer_small c.args.self.now r.0 r.1 r.2 (k_of c.args.frame) (query_of c.args.frame))

pub overflow_add-self : goal.overflow_add-self
overflow_add-self g c = let r = c.requires in omega (arith, queries_few c.args.self.now r.0 r.1 r.2)

pub returns : goal.returns
returns g c =
    takes_query c.args.self.now _ (k_of c.args.frame) (query_of c.args.frame) c.ids-ids.result.now c.search.ensures.same
    (λ docs h. c.ids-ids.ensures ∙ c.search.ensures.ids usual docs h) refl refl refl (ap (λ n. c.args.self.now.sum + n) c.sum_of.ensures.sum)
    (omega (arith, c.sum_of.ensures.sum, c.sum_of.ensures.small))
