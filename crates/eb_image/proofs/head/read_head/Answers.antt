use Rattle.std.proofs.Common.{ℕ, ◌+◌, List, inr, take, sym, subst, arith}
use Rattle.std.proofs.lemmas.List.{length-take}
use Rattle.eb_image.proofs.Taken.{left_same, risen_within}
use Rattle.eb_image.proofs.Taken.{after-nil}
use Rattle.eb_image.proofs.Beginnings.{nothing_begins, whole_head}
use Rattle.eb_image.specs.Reading.{IsHead, Begins}
use Rattle.eb_image.proofs.Heads.{none_short, bad_taken, take_whole}
use Rattle.eb_image.proofs.head.read_head.Goals as goal

pub returns-in-End-clause-bad : goal.returns-in-End-clause-bad
returns-in-End-clause-bad g c = λ is.
    let inv = c.reads.invariant in (
      take c.reads.have c.reads.head,
      left_same _ _ c.reads.have c.reads.head c.read_behind.new.buffer (c.in-End.ensures.left _ inv.left) c.in-End.ensures.before,
      record { none = none_short _ (omega (arith, length-take c.reads.have c.reads.head, c.reads-test.true)); never = inr (c.read_behind.ensures.end c.in-End.is) },
    )

pub returns-in-Failed-clause-fault : goal.returns-in-Failed-clause-fault
returns-in-Failed-clause-fault g c = λ is.
    let inv = c.reads.invariant in (
      take c.reads.have c.reads.head,
      left_same _ _ c.reads.have c.reads.head c.read_behind.new.buffer (c.in-Failed.ensures.left _ inv.left) c.in-Failed.ensures.before,
      record { none = none_short _ (omega (arith, length-take c.reads.have c.reads.head, c.reads-test.true)); begins = inv.begins },
      risen_within _ _ _ inv.later (c.read_behind.ensures.failed c.in-Failed.is),
    )

pub reads-init : goal.reads-init
reads-init g c = record { within = omega arith; begins = nothing_begins; left = sym (after-nil _); later = omega arith }

pub returns-then-not-begins_head-clause-bad : goal.returns-then-not-begins_head-clause-bad
returns-then-not-begins_head-clause-bad g c = λ is.
    let inv = c.reads.invariant in
    let have = c.reads.have + c.in-Bytes.count in (
      take have c.read_behind.new.buffer,
      c.in-Bytes.ensures.left _ inv.left,
      bad_taken _ _ (omega (arith, length-take have c.read_behind.new.buffer, c.in-Bytes.ensures.count.1)) (λ b. let no : ⊥ = cc (c.if-not-begins_head.true, c.begins_head.ensures.1 b) in no),
    )

pub reads-preserved : goal.reads-preserved
reads-preserved g c =
    let inv = c.reads.invariant in
    record {
      within = omega (arith, c.in-Bytes.ensures.count.1);
      begins = c.begins_head.ensures.0 c.if-not-begins_head.false;
      left = c.in-Bytes.ensures.left _ inv.left;
      later = omega (arith, inv.later, c.read_behind.ensures.later);
    }

pub unreachable-requires : goal.unreachable-requires
unreachable-requires g c =
    let inv = c.reads.invariant in
    let P : List ℕ → Type 0 = Begins IsHead in
    c.in-None.ensures (whole_head c.reads.head c.reads-test.array_long
    (subst P (take_whole c.reads.have c.reads.head c.reads-test.array_long (omega (arith, inv.within, c.reads-test.false))) inv.begins))
