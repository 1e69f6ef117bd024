use Rattle.std.proofs.Common.{arith}
use Rattle.eb_block.proofs.Standing.{drop_held}
use Rattle.eb_block.proofs.packed_list.PackedList.pass_above.Goals as goal

pub step-requires-clause-reads : goal.step-requires-clause-reads
step-requires-clause-reads g c =
    let r = c.requires.reads in
    let d = drop_held r.0 r.1 r.2 c.args.self.now r.3 r.4 c.args.most r.6 (λ held. c.requires.above) in
    (r.0, r.1, r.2, d.0, r.4, r.5, d.1)

pub returns-then-self-gt0-clause-told : goal.returns-then-self-gt0-clause-told
returns-then-self-gt0-clause-told g c = λ s t rest b. record {
  told = λ m st h.
      (let d = drop_held m s t c.args.self.now rest b c.args.most h (λ held. c.requires.above) in
      let n = (c.step.ensures.told s t d.0 b).told m st d.1 in
      (n.0, n.1, n.2, n.3, (d.0, n.4.0, n.4.1, omega (arith, n.4.2), d.2)));
}

pub returns-else-self-gt0-clause-told : goal.returns-else-self-gt0-clause-told
returns-else-self-gt0-clause-told g c = λ s t rest b. record {
  told = λ m st h.
      (let d = drop_held m s t c.args.self.now rest b c.args.most h (λ held. c.requires.above) in
      let n = (c.step.ensures.told s t d.0 b).told m st d.1 in
      (n.0, n.1, n.2, n.3, (d.0, n.4.0, n.4.1, omega (arith, n.4.2), d.2)));
}
