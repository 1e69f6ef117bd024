use Rattle.std.proofs.Common.{ap, ◌∙◌}
use Rattle.run_index.specs.IndexRules.{segments_tail}
use Rattle.eb_lines.specs.declared.form.Form.{Form}
use Rattle.run_with_workers.proofs.IndexOffices.{staffed_of, closes}
use Rattle.run_with_workers.proofs.index_office.IndexOfficeOffice.close.Goals as goal

pub convert_all-segments-requires : goal.convert_all-segments-requires
convert_all-segments-requires c = record { staffed = staffed_of c.args.self.now c.requires }

pub returns : goal.returns
returns c = closes c.args.self.now c.convert_all-segments.result.segments c.convert_all-segments.result.converted c.tell_segments.result
    (c.tell_segments.ensures ∙ ap (λ (f : Form). segments_tail f c.convert_all-segments.result.segments c.convert_all-segments.result.converted) c.convert_all-segments.ensures.keeps.form)
    c.convert_all-segments.ensures.segments c.convert_all-segments.ensures.converted
