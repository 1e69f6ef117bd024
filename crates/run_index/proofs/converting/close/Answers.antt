use Rattle.std.proofs.Common.{List, ap, sym, subst, ◌∙◌}
use Rattle.eb_base.specs.Document.{Doc}
use Rattle.eb_engine.specs.Tokens.{HistoryToken, ConverterToken}
use Rattle.run_index.specs.Conversions.{AreConverted}
use Rattle.run_index.proofs.Conversions.{all_converted}
use Rattle.run_index.proofs.converting.close.Goals as goal

pub returns-clause-converted : goal.returns-clause-converted
returns-clause-converted c =
    let same = ap (λ (t : ConverterToken). t.converted) c.hear.ensures.converter in
    let closed = c.hear.ensures.closed in
    let are = c.catch_up.ensures.converted in
    let docs = ap (λ (t : HistoryToken). t.docs) c.hear.ensures.this in
    c.converted.ensures ∙ (same ∙ all_converted c.args.index.now.setting c.hear.new.self.docs c.catch_up.new.converter.converted
    (subst (λ (ds : List Doc). AreConverted c.args.index.now.setting ds c.catch_up.new.converter.converted) (sym docs) are) closed)
