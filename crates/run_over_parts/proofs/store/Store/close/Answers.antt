use Rattle.std.proofs.Common.{ap, ◌∙◌, subst}
use Rattle.eb_blend.specs.Parts.{WriterTokens, ReaderTokens, ConverterTokens, few_counted, segments_of, AreFronts, AllClosed}
use Rattle.run_over_parts.proofs.Closing.{segments_all, converted_all}
use Rattle.run_over_parts.proofs.store.Store.close.Goals as goal

pub returns-clause-segments : goal.returns-clause-segments
returns-clause-segments c = λ parts σ docs h.
    segments_all c.args.self.now parts σ docs c.segments.result h
    (c.segments.ensures ∙ ap (λ (w : WriterTokens). few_counted (segments_of w.indexes w.histories)) (c.hear.ensures.this ∙ c.reader.ensures.this))

pub returns-clause-converted : goal.returns-clause-converted
returns-clause-converted c = λ parts σ docs h.
    let old = c.args.self.now in
    let known = c.meet.new.self.histories in
    let ns = c.convert_all.new.self.converted in
    converted_all old parts σ docs known ns c.converted.result h
    (subst (λ (r : ReaderTokens). AreFronts r.histories known) c.in_ok-reader.ensures.reader c.meet.ensures.reader)
    c.convert_all.ensures.converted
    (subst (λ (w : WriterTokens). AllClosed old.blend.setting w.histories ns) (c.hear.ensures.this ∙ c.reader.ensures.this) c.hear.ensures.closed)
    c.convert_all.ensures.parts
    (c.converted.ensures ∙ ap (λ (x : ConverterTokens). few_counted x.converted) c.hear.ensures.converter)
