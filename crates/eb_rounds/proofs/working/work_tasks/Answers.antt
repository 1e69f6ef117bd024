use Rattle.std.proofs.Common.{List, map, ap, subst, arith}
use Rattle.std.proofs.lemmas.List.{length-map}
use Rattle.eb_base.specs.Document.{Doc}
use Rattle.eb_engine.specs.Tokens.{HistoryToken}
use Rattle.eb_rounds.specs.Shown.{IsRoundOfLines}
use Rattle.eb_rounds.specs.Works.{asked_entry, given_entry}
use Rattle.eb_rounds.proofs.Rounded.{each_asked, each_given, worked_off, round_count}
use Rattle.eb_rounds.proofs.working.work_tasks.Goals as goal

pub overflow_add-result : goal.overflow_add-result
overflow_add-result g c =
    let tasks = c.args.tasks.now in
    let few = round_count c.args.setup.now.form _ _ _ _ _ _ _ _ _ _ _ c.work_and_convert-documents.ensures.round.lines in
    omega (arith, few, c.requires.few, length-map tasks.asked.items asked_entry, length-map tasks.given.items given_entry)

pub returns-clause-works : goal.returns-clause-works
returns-clause-works g c = λ how held read before after documents queries refused.
    let form = c.args.setup.now.form in
    let σ = c.args.setup.now.index.now.setting in
    let asked = c.args.tasks.now.asked.items in
    let given = c.args.tasks.now.given.items in
    let w = c.work_and_convert-documents in
    let R : List Doc → Type 0 = λ old. IsRoundOfLines form σ old w.new.writer.docs (map asked_entry asked) (map given_entry given) c.args.text.now.items w.new.text.items
    w.result.1.0 w.result.0.0 w.result.1.1 w.result.0.1 in
    let r = subst R (ap (λ (t : HistoryToken). t.docs) c.reader.ensures.this) w.ensures.round.lines in
    worked_off how form σ held c.args.writer.now.docs w.new.writer.docs before after _ _ _ _ _ _ _ _ read (each_asked asked) (each_given given) r documents queries refused

pub returns-clause-few : goal.returns-clause-few
returns-clause-few g c =
    let tasks = c.args.tasks.now in
    let few = round_count c.args.setup.now.form _ _ _ _ _ _ _ _ _ _ _ c.work_and_convert-documents.ensures.round.lines in
    omega (arith, few, length-map tasks.asked.items asked_entry, length-map tasks.given.items given_entry)
