use Rattle.std.proofs.Common.{List, [], length, subst}
use Rattle.eb_base.specs.Document.{Doc}
use Rattle.eb_base.specs.Query.{word}
use Rattle.eb_count.specs.Counts.{match_count}
use Rattle.eb_count.specs.Tallies.{HasCounted}
use Rattle.eb_cursor.specs.Frames.{query_of}
use Rattle.eb_place.specs.declared.moment.Documents.{Documents}
use Rattle.eb_place.proofs.LaterMoments.{later_on}
use Rattle.eb_search.specs.Bounds.{match_loads}
use Rattle.eb_engine.specs.Loads.{IsWithinBound}
use Rattle.eb_engine.proofs.Alone.{found, counts_alone, matches_alone, loads_alone}
use Rattle.eb_engine.proofs.calls.count_alone.Goals as goal

pub returns-clause-count : goal.returns-clause-count
returns-clause-count g c =
    let e = c.count_words-count.ensures.counts in
    counts_alone c.args.seat.now c.split-reader.result c.split-reader.new.self c.split-reader.ensures.new c.split-reader.ensures.this c.requires.idle c.meet.new.self.moment
    c.meet.ensures.documents e.loaded _ e.after (later_on _ _ _ e.before c.meet.ensures.least.second) e.count

pub returns-clause-counts : goal.returns-clause-counts
returns-clause-counts g c =
    let e = c.count_words-count.ensures.counts in
    let q = query_of c.args.frame.now in
    let one = found c.args.seat.now c.split-reader.result c.split-reader.new.self c.split-reader.ensures.new c.split-reader.ensures.this c.requires.idle c.meet.new.self.moment
    c.meet.ensures.documents e.loaded e.after (later_on _ _ _ e.before c.meet.ensures.least.second) in
    subst (λ (x : Documents). HasCounted q x.accepted c.args.tally.now c.count_words-count.new.tally) one e.tally

pub returns-clause-loads : goal.returns-clause-loads
returns-clause-loads g c = λ t is.
    let e = c.count_words-count.ensures in
    let n = c.count_words-count.new.seat.moment in
    let count = c.count_words-count.result in
    let since = later_on _ _ _ e.counts.after e.counts.before in
    let until = c.meet.ensures.least.second in
    let all = counts_alone c.args.seat.now c.split-reader.result c.split-reader.new.self c.split-reader.ensures.new c.split-reader.ensures.this c.requires.idle c.meet.new.self.moment
    c.meet.ensures.documents e.counts.loaded _ e.counts.after (later_on _ _ _ e.counts.before until) e.counts.count in
    let docs = matches_alone c.args.seat.now c.split-reader.result c.split-reader.new.self c.split-reader.ensures.new c.split-reader.ensures.this c.requires.idle c.meet.new.self.moment
    c.meet.ensures.documents n count since until all in
    loads_alone c.args.seat.now c.split-reader.result c.split-reader.new.self c.split-reader.ensures.new c.split-reader.ensures.this c.requires.idle c.meet.new.self.moment
    c.meet.ensures.documents [] _ t _ _ _ _ e.made.moment since until
    (subst (λ (docs : List Doc). IsWithinBound [] c.split-reader.result.moment n t count
    (match_loads (length c.args.tally.now.buckets) (match_count (word t) docs)) c.args.steps.now c.count_words-count.new.steps) docs (e.loads t is))
