use Rattle.std.proofs.Common.{◌+◌, inl, inr, [], take, drop, sym, arith}
use Rattle.std.proofs.lemmas.List.{length-take-le}
use Rattle.eb_image.proofs.Nexts.{shortest_last}
use Rattle.eb_image.proofs.Taken.{after-nil, left_same, none_yet, begun, none_after, length-shortest, more_of, risen_within}
use Rattle.eb_image.proofs.reader.read_next.Goals as goal

pub reads-init : goal.reads-init
reads-init g c = record {
  order = omega arith;
  within = omega arith;
  shortest = shortest_last [] (omega arith) (λ h. absurd (omega (arith, h)));
  left = sym (after-nil _);
  later = omega arith;
}

pub returns-in-End-clause-bad : goal.returns-in-End-clause-bad
returns-in-End-clause-bad g c = λ is.
    let inv = c.reads.invariant in
    let len = length-take-le c.reads.have c.reads.buffer (omega (arith, c.reads.auto.buffer, c.requires)) in (
      take c.reads.have c.reads.buffer,
      left_same _ _ c.reads.have c.reads.buffer c.read_behind.new.buffer (c.in-End.ensures.left _ inv.left) c.in-End.ensures.before,
      record { none = none_yet _ _ inv.shortest (omega (arith, len, c.reads-test.true)); never = inr (c.read_behind.ensures.end c.in-End.is) },
    )

pub returns-in-Failed-clause-fault : goal.returns-in-Failed-clause-fault
returns-in-Failed-clause-fault g c = λ is.
    let inv = c.reads.invariant in
    let len = length-take-le c.reads.have c.reads.buffer (omega (arith, c.reads.auto.buffer, c.requires)) in (
      take c.reads.have c.reads.buffer,
      left_same _ _ c.reads.have c.reads.buffer c.read_behind.new.buffer (c.in-Failed.ensures.left _ inv.left) c.in-Failed.ensures.before,
      begun _ _ inv.shortest (omega (arith, len, c.reads-test.true)),
      risen_within _ _ _ inv.later (c.read_behind.ensures.failed c.in-Failed.is),
    )

pub reads-preserved : goal.reads-preserved
reads-preserved g c =
    let inv = c.reads.invariant in
    let have = c.reads.have + c.in-Bytes.count in
    let len = length-take-le have c.read_behind.new.buffer (omega (arith, c.reads.auto.buffer, c.requires, c.in-Bytes.ensures.count.1, c.read_behind.ensures.len)) in
    record {
      order = omega (arith, len, length-shortest _ _ c.in-Some.ensures.form);
      within = c.in-Some.ensures.within;
      shortest = c.in-Some.ensures.form;
      left = c.in-Bytes.ensures.left _ inv.left;
      later = omega (arith, inv.later, c.read_behind.ensures.later);
    }

pub returns-in-None-clause-bad : goal.returns-in-None-clause-bad
returns-in-None-clause-bad g c = λ is.
    let inv = c.reads.invariant in
    let have = c.reads.have + c.in-Bytes.count in
    let before = length-take-le c.reads.have c.reads.buffer (omega (arith, c.reads.auto.buffer, c.requires)) in
    let len = length-take-le have c.read_behind.new.buffer (omega (arith, c.reads.auto.buffer, c.requires, c.in-Bytes.ensures.count.1, c.read_behind.ensures.len)) in (
      take have c.read_behind.new.buffer,
      c.in-Bytes.ensures.left _ inv.left,
      record {
        none = none_after (take c.reads.have c.reads.buffer) (take c.in-Bytes.count (drop c.reads.have c.read_behind.new.buffer)) _ c.reads.whole inv.shortest
            (omega (arith, before, c.reads-test.true)) (more_of c.reads.have c.in-Bytes.count c.reads.buffer c.read_behind.new.buffer c.read_behind.ensures.before)
            (omega (arith, len, c.in-Bytes.ensures.count.1)) c.in-None.ensures.form;
        never = inl c.in-None.ensures.form;
      },
    )
