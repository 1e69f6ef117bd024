use Rattle.std.proofs.Common.{◌≡◌, ◌≢◌, length, arith}
use Rattle.eb_c.specs.declared.held.Held.TheVariants.{Writer, Leader}
use Rattle.eb_c.specs.AddingMany.{WriterAddsText, LeaderAddsText}
use Rattle.eb_c.proofs.UnderWay.{begins, goes_on, ends_refused, ends}
use Rattle.eb_c.proofs.adding_many.add_each.Goals as goal

pub loop-at-init : goal.loop-at-init
loop-at-init c = record {
  writer = begins Writer (WriterAddsText c.args.how.now) c.args.texts.now c.args.held.now;
  leader = begins Leader (LeaderAddsText c.args.how.now) c.args.texts.now c.args.held.now;
}

pub loop-at-preserved : goal.loop-at-preserved
loop-at-preserved c =
    let step = c.add_text-number in
    let none : step.result ≡ 0 = omega (arith, c.if-number-ne0.false) in
    record {
      writer = goes_on Writer (WriterAddsText c.args.how.now) c.args.texts.now c.loop-at.at step.result _ c.args.held.now c.loop-at.held step.new.held
          c.loop-at-test.true none step.ensures.writer c.loop-at.invariant.writer;
      leader = goes_on Leader (LeaderAddsText c.args.how.now) c.args.texts.now c.loop-at.at step.result _ c.args.held.now c.loop-at.held step.new.held
          c.loop-at-test.true none step.ensures.leader c.loop-at.invariant.leader;
    }

pub returns-then-number-ne0-clause-writer : goal.returns-then-number-ne0-clause-writer
returns-then-number-ne0-clause-writer c =
    let step = c.add_text-number in
    ends_refused Writer (WriterAddsText c.args.how.now) c.args.texts.now c.loop-at.at step.result _ c.args.held.now c.loop-at.held step.new.held
    c.loop-at-test.true c.if-number-ne0.true step.ensures.writer c.loop-at.invariant.writer

pub returns-then-number-ne0-clause-leader : goal.returns-then-number-ne0-clause-leader
returns-then-number-ne0-clause-leader c =
    let step = c.add_text-number in
    let some : step.result ≢ 0 = omega (arith, c.if-number-ne0.true) in
    ends_refused Leader (LeaderAddsText c.args.how.now) c.args.texts.now c.loop-at.at step.result _ c.args.held.now c.loop-at.held step.new.held
    c.loop-at-test.true some step.ensures.leader c.loop-at.invariant.leader

pub returns-clause-writer : goal.returns-clause-writer
returns-clause-writer c =
    let all : c.loop-at.at ≡ length c.args.texts.now = omega (arith, c.loop-at-test.false) in
    ends Writer (WriterAddsText c.args.how.now) c.args.texts.now c.loop-at.at c.args.held.now c.loop-at.held all c.loop-at.invariant.writer

pub returns-clause-leader : goal.returns-clause-leader
returns-clause-leader c =
    let all : c.loop-at.at ≡ length c.args.texts.now = omega arith in
    ends Leader (LeaderAddsText c.args.how.now) c.args.texts.now c.loop-at.at c.args.held.now c.loop-at.held all c.loop-at.invariant.leader
