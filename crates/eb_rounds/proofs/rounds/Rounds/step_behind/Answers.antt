use Rattle.eb_fields.specs.Dialect.{dialect_of}
use Rattle.std.proofs.Common.{◌+◌, ◌++◌, List, ap, refl, sym, subst, ◌∙◌, arith, append_assoc}
use Rattle.eb_base.specs.Document.{Doc}
use Rattle.eb_engine.specs.Tokens.{HistoryToken}
use Rattle.eb_rounds.specs.Shown.{Counted, WorkedOff}
use Rattle.eb_rounds.specs.Standing.{Standing}
use Rattle.run_index.proofs.Conversions.{converted_among}
use Rattle.eb_rounds.proofs.Rounded.{tasks_long}
use Rattle.eb_rounds.proofs.rounds.Rounds.step_behind.Goals as goal

pub work_tasks-first-requires-clause-few : goal.work_tasks-first-requires-clause-few
work_tasks-first-requires-clause-few g c κs within =
    let long = tasks_long (dialect_of c.args.setup.now.dialect) c.args.self.now.ahead c.in_ok-ahead.ahead c.in_ok-ahead.ensures.ahead in
    omega (arith, long, c.in_ok-ahead.ensures.few.0)

pub work_tasks-then-requires-clause-few : goal.work_tasks-then-requires-clause-few
work_tasks-then-requires-clause-few g c κs within =
    let long = tasks_long (dialect_of c.args.setup.now.dialect) c.args.self.now.held c.in_ok-ahead.held c.in_ok-ahead.ensures.held in
    omega (arith, long, c.in_ok-ahead.ensures.few.1)

pub close-requires : goal.close-requires
close-requires g c =
    let ahead = tasks_long (dialect_of c.args.setup.now.dialect) c.args.self.now.ahead c.in_ok-ahead.ahead c.in_ok-ahead.ensures.ahead in
    let held = tasks_long (dialect_of c.args.setup.now.dialect) c.args.self.now.held c.in_ok-ahead.held c.in_ok-ahead.ensures.held in
    omega (arith, ahead, held, c.work_tasks-first.ensures.few, c.work_tasks-then.ensures.few)

pub returns-clause-ok : goal.returns-clause-ok
returns-clause-ok g c =
    let s = c.args.self.now in
    let setup = c.args.setup.now in
    let how = dialect_of setup.dialect in
    let first = c.work_tasks-first in
    let last = c.work_tasks-then in
    let between : Counted = record {
      documents = s.counts.documents + first.result.documents;
      queries = s.counts.queries + first.result.queries;
      refused = s.counts.refused + first.result.refused;
    } in
    let after = c.close.new.self.counts in
    let counts = ap (λ (x : Standing). x.counts) c.close.ensures in
    let a = first.ensures.works how s.ahead c.in_ok-ahead.ensures.ahead s.counts between refl refl refl in
    let b = last.ensures.works how s.held c.in_ok-ahead.ensures.held between after (omega (arith, ap (λ (k : Counted). k.documents) counts))
    (omega (arith, ap (λ (k : Counted). k.queries) counts)) (omega (arith, ap (λ (k : Counted). k.refused) counts)) in
    let W : List Doc → Type 0 = λ docs. WorkedOff how setup.form setup.index.now.setting s.held first.new.writer.docs docs between after b.0 in (
      a.0 ++ b.0,
      record {
        docs_between = first.new.writer.docs;
        counts_between = between;
        printed_first = a.0;
        printed_then = b.0;
        before = a.1;
        behind = subst W (ap (λ (t : HistoryToken). t.docs) (sym c.reader.ensures.this)) b.1;
        text = refl;
      },
      b.2 ∙ ap (λ x. x ++ b.0) (a.2 ∙ ap (λ x. x ++ a.0) c.in_ok-ahead.ensures.text) ∙ append_assoc c.args.text.now.items a.0 b.0,
    )

pub returns-clause-converted : goal.returns-clause-converted
returns-clause-converted g c =
    converted_among c.args.setup.now.index.now.setting c.args.writer.now.docs c.work_tasks-first.new.converter.converted c.meet.new.self.converted c.work_tasks-first.ensures.converted
    (omega (arith, c.work_tasks-then.ensures.grown, c.meet.ensures.converted))
