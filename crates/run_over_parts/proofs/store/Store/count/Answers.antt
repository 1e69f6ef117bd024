use Rattle.std.proofs.Common.{◌≡◌, List, sym, ap, ◌∙◌, subst}
use Rattle.eb_base.specs.Document.{Doc}
use Rattle.eb_blend.specs.Counted.{all_of}
use Rattle.eb_blend.specs.Laws.{cut_into}
use Rattle.eb_blend.specs.Parts.{WriterTokens, ReaderTokens, AreFronts, counted, lengths_of}
use Rattle.eb_count.specs.Tallies.{HasCounted}
use Rattle.eb_cursor.specs.Frames.{query_of}
use Rattle.run_over_parts.proofs.Counts.{parts_counted, same_histories}
use Rattle.run_over_parts.proofs.Placings.{counts_all}
use Rattle.run_over_parts.proofs.store.Store.count.Goals as goal

pub returns-clause-count : goal.returns-clause-count
returns-clause-count g c = λ parts σ docs h few. counts_all c.args.self.now parts σ docs c.accepted.result h few
    (c.accepted.ensures ∙ ap (λ (w : WriterTokens). counted (lengths_of w.histories)) (c.meet.ensures.this ∙ c.reader.ensures.this))

pub returns-clause-counts : goal.returns-clause-counts
returns-clause-counts g c = λ parts σ docs h.
    let old = c.args.self.now in
    let q = query_of c.args.frame.now in
    let seen = c.count_alone.new.reader.histories in
    let known : AreFronts old.writer.histories seen = subst (λ (r : ReaderTokens). AreFronts r.histories seen) c.in_ok-reader.ensures.reader c.count_alone.ensures.known in
    let within : AreFronts seen old.writer.histories = subst (λ (w : WriterTokens). AreFronts seen w.histories) (c.meet.ensures.this ∙ c.reader.ensures.this) c.meet.ensures.reader in
    let all : seen ≡ cut_into parts docs = sym (same_histories old.writer.histories seen known within) ∙ ap (λ (w : WriterTokens). w.histories) h.writer in
    parts_counted q parts docs c.args.tally.now c.count_alone.new.tally h.some
    (subst (λ (hs : List (List Doc)). HasCounted q (all_of hs) c.args.tally.now c.count_alone.new.tally) all c.count_alone.ensures.counts)
