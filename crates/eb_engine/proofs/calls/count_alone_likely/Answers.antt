use Rattle.std.proofs.Common.{List, length, ap, sym, ◌∙◌, subst}
use Rattle.eb_base.specs.Document.{Doc}
use Rattle.eb_base.specs.Query.{word}
use Rattle.eb_base.specs.Setting.{Setting}
use Rattle.eb_count.specs.Counts.{match_count}
use Rattle.eb_count.specs.Tallies.{HasCounted}
use Rattle.eb_cursor.specs.Frames.{query_of}
use Rattle.eb_place.specs.declared.moment.Documents.{Documents}
use Rattle.eb_place.specs.Later.{IsNotBefore}
use Rattle.eb_place.proofs.LaterMoments.{later_on}
use Rattle.eb_place.specs.Room.{cut}
use Rattle.eb_search.specs.Bounds.{match_loads}
use Rattle.eb_search.specs.Visible.{AreNone}
use Rattle.eb_table.specs.Known.{Known}
use Rattle.eb_engine.specs.Loads.{IsWithinBound}
use Rattle.eb_engine.proofs.Alone.{found, counts_alone, matches_alone, loads_alone}
use Rattle.eb_engine.proofs.calls.count_alone_likely.Goals as goal

pub returns-clause-count : goal.returns-clause-count
returns-clause-count g c =
    let e = c.count_words_likely-count.ensures.counts in
    counts_alone c.args.seat.now c.split-reader.result c.split-reader.new.self c.split-reader.ensures.new c.split-reader.ensures.this c.requires.idle c.meet.new.self.moment
    c.meet.ensures.documents e.loaded _ e.after (later_on _ _ _ e.before c.meet.ensures.least.second) e.count

pub returns-clause-counts : goal.returns-clause-counts
returns-clause-counts g c =
    let e = c.count_words_likely-count.ensures.counts in
    let q = query_of c.args.frame.now in
    let one = found c.args.seat.now c.split-reader.result c.split-reader.new.self c.split-reader.ensures.new c.split-reader.ensures.this c.requires.idle c.meet.new.self.moment
    c.meet.ensures.documents e.loaded e.after (later_on _ _ _ e.before c.meet.ensures.least.second) in
    let likely = c.args.likely in
    let start = subst (λ (s : Known). IsNotBefore e.loaded s.moment) c.split-reader.ensures.new e.after in
    let setting = start.setting in
    λ none. subst (λ (x : Documents). HasCounted q x.accepted c.args.tally.now c.count_words_likely-count.new.tally) one
    (e.tally (subst (λ (x : Setting × List Doc). AreNone q (cut x.0 x.1) likely) (λ i. ((sym c.requires.made.setting ∙ setting) i, sym (ap (λ (x : Documents). x.accepted) one) i)) none))

pub returns-clause-loads : goal.returns-clause-loads
returns-clause-loads g c = λ t is.
    let e = c.count_words_likely-count.ensures in
    let n = c.count_words_likely-count.new.seat.moment in
    let count = c.count_words_likely-count.result in
    let since = later_on _ _ _ e.counts.after e.counts.before in
    let until = c.meet.ensures.least.second in
    let all = counts_alone c.args.seat.now c.split-reader.result c.split-reader.new.self c.split-reader.ensures.new c.split-reader.ensures.this c.requires.idle c.meet.new.self.moment
    c.meet.ensures.documents e.counts.loaded _ e.counts.after (later_on _ _ _ e.counts.before until) e.counts.count in
    let docs = matches_alone c.args.seat.now c.split-reader.result c.split-reader.new.self c.split-reader.ensures.new c.split-reader.ensures.this c.requires.idle c.meet.new.self.moment
    c.meet.ensures.documents n count since until all in
    loads_alone c.args.seat.now c.split-reader.result c.split-reader.new.self c.split-reader.ensures.new c.split-reader.ensures.this c.requires.idle c.meet.new.self.moment
    c.meet.ensures.documents c.args.likely _ t _ _ _ _ e.made.moment since until
    (subst (λ (docs : List Doc). IsWithinBound c.args.likely c.split-reader.result.moment n t count
    (match_loads (length c.args.tally.now.buckets) (match_count (word t) docs)) c.args.steps.now c.count_words_likely-count.new.steps) docs (e.loads t is))
