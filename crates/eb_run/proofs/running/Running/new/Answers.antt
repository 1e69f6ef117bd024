use Rattle.eb_fields.specs.Dialect.{dialect_of}
use Rattle.std.proofs.Common.{List, [], refl, ap, sym, subst}
use Rattle.eb_base.specs.Document.{Doc}
use Rattle.eb_run.specs.Waiting.{HasGathered}
use Rattle.eb_run.proofs.Runs.{worked_none}
use Rattle.eb_run.proofs.running.Running.new.Goals as goal

pub returns : goal.returns
returns c =
    let W : List Doc → Type 0 = λ docs. HasGathered (dialect_of c.args.plan.now.dialect) c.args.plan.now.form c.args.plan.now.config [] docs c.new.result [] in
    record {
      words = c.in_ok-index.index;
      index = refl;
      setting = c.in_ok-index.ensures.setting;
      writer = ap (λ t. t.index) c.in_ok-index.ensures.writer;
      converter = ap (λ t. t.index) c.in_ok-index.ensures.converter;
      dialect = refl;
      form = refl;
      number = refl;
      worked = subst W (sym (ap (λ t. t.docs) c.in_ok-index.ensures.writer)) (worked_none (dialect_of c.args.plan.now.dialect) c.args.plan.now.form c.args.plan.now.config c.new.result c.new.ensures);
    }
