use Rattle.std.proofs.Common.{List, sym, ◌∙◌, subst}
use Rattle.eb_base.specs.Document.{Doc}
use Rattle.eb_base.specs.Query.{tree}
use Rattle.eb_count.specs.Tallies.{HasCounted}
use Rattle.eb_cursor.specs.Frames.{query_of}
use Rattle.eb_feed.proofs.Filtered.{few_begun, there, none_there}
use Rattle.eb_feed.proofs.generation.Generation.count.Goals as goal

pub likely-likely-requires : goal.likely-likely-requires
likely-likely-requires g c =
    let r = c.requires in
    let h = r.2 in
    few_begun c.args.self.now r.0 r.1 h c.segments.result (c.segments.ensures.cut h.moment h.placer)

pub returns-clause-counts : goal.returns-clause-counts
returns-clause-counts g c = λ σ docs h.
    let q = query_of c.args.frame.now in
    let r = c.count_likely.ensures.counts h.moment h.words in
    let s = r.3 in
    let all = there h.moment r.0 s.loaded docs r.2.1 s.after s.before h.accepted in
    let none = none_there (tree c.query.result.now) q σ s.loaded.setting docs s.loaded.documents.accepted c.likely-likely.result c.query.ensures (sym s.after.setting ∙ h.setting) all
    (c.likely-likely.ensures.none σ docs h.filters) in
    subst (λ (ds : List Doc). HasCounted q ds c.args.tally.now c.count_likely.new.tally) all (s.tally none)
