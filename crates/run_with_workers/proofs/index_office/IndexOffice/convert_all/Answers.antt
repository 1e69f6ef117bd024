use Rattle.std.proofs.Common.{refl, ap, ◌∙◌}
use Rattle.eb_engine.specs.Tokens.{HistoryToken}
use Rattle.run_with_workers.proofs.Staffing.{closed_converted}
use Rattle.run_with_workers.proofs.index_office.IndexOffice.convert_all.Goals as goal

pub returns-clause-keeps : goal.returns-clause-keeps
returns-clause-keeps c =
    let h = c.requires.staffed in
    let e = c.close.ensures in
    record {
      staffed = record {
        clerk = h.clerk;
        writer = ap (λ (t : HistoryToken). t.index) e.writer ∙ h.writer;
        converter = e.index ∙ h.converter;
        converted = closed_converted c.args.self.now.index.now.setting c.close.new.writer.docs c.close.result.converted c.close.new.converter.converted e.counted e.converted;
      };
      index = refl;
      form = refl;
    }
