use Rattle.std.proofs.Common.{List, ap, sym, ◌∙◌, subst}
use Rattle.eb_base.specs.Document.{Doc}
use Rattle.eb_base.specs.Match.{answer}
use Rattle.eb_base.specs.Setting.{Setting}
use Rattle.eb_cursor.specs.Frames.{query_of, k_of}
use Rattle.eb_place.specs.declared.moment.Documents.{Documents}
use Rattle.eb_place.specs.Later.{IsNotBefore}
use Rattle.eb_place.proofs.LaterMoments.{later_on}
use Rattle.eb_place.specs.Room.{cut}
use Rattle.eb_search.specs.Visible.{AreNone}
use Rattle.eb_table.specs.Known.{Known}
use Rattle.eb_engine.proofs.Alone.{found, counts_alone, loads_alone, rounds_alone}
use Rattle.eb_engine.proofs.calls.search_alone_likely.Goals as goal

pub returns-clause-count : goal.returns-clause-count
returns-clause-count g c =
    let e = c.search_words_likely-count.ensures.answer in
    counts_alone c.args.seat.now c.split-reader.result c.split-reader.new.self c.split-reader.ensures.new c.split-reader.ensures.this c.requires.idle c.meet.new.self.moment
    c.meet.ensures.documents e.loaded _ e.after (later_on _ _ _ e.before c.meet.ensures.least.second) e.count

pub returns-clause-ids : goal.returns-clause-ids
returns-clause-ids g c =
    let e = c.search_words_likely-count.ensures.answer in
    let q = query_of c.args.frame.now in
    let k = k_of c.args.frame.now in
    let one = found c.args.seat.now c.split-reader.result c.split-reader.new.self c.split-reader.ensures.new c.split-reader.ensures.this c.requires.idle c.meet.new.self.moment
    c.meet.ensures.documents e.loaded e.after (later_on _ _ _ e.before c.meet.ensures.least.second) in
    let likely = c.args.likely in
    let start = subst (λ (s : Known). IsNotBefore e.loaded s.moment) c.split-reader.ensures.new e.after in
    let setting = start.setting in
    λ none. e.ids (subst (λ (x : Setting × List Doc). AreNone q (cut x.0 x.1) likely) (λ i. ((sym c.requires.made.setting ∙ setting) i, sym (ap (λ (x : Documents). x.accepted) one) i)) none)
    ∙ ap (λ (x : Documents). answer q k x.accepted) one

pub returns-clause-loads : goal.returns-clause-loads
returns-clause-loads g c = λ t is.
    let e = c.search_words_likely-count.ensures in
    loads_alone c.args.seat.now c.split-reader.result c.split-reader.new.self c.split-reader.ensures.new c.split-reader.ensures.this c.requires.idle c.meet.new.self.moment
    c.meet.ensures.documents c.args.likely _ t _ _ _ _ e.made.moment (later_on _ _ _ e.answer.after e.answer.before) c.meet.ensures.least.second (e.loads t is)

pub returns-clause-rounds : goal.returns-clause-rounds
returns-clause-rounds g c = λ ts is.
    let e = c.search_words_likely-count.ensures in
    rounds_alone c.args.seat.now c.split-reader.result c.split-reader.new.self c.split-reader.ensures.new c.split-reader.ensures.this c.requires.idle c.meet.new.self.moment
    c.meet.ensures.documents c.args.likely _ ts _ _ _ _ e.made.moment (later_on _ _ _ e.answer.after e.answer.before) c.meet.ensures.least.second (e.rounds ts is)
