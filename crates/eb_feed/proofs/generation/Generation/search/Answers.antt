use Rattle.std.proofs.Common.{◌++◌, ◌-◌, List, length, ap, sym, ◌∙◌}
use Rattle.eb_base.specs.Document.{Doc}
use Rattle.eb_base.specs.Match.{answer}
use Rattle.eb_base.specs.Query.{tree}
use Rattle.eb_cursor.specs.Frames.{query_of, k_of, ids_of}
use Rattle.eb_feed.proofs.Filtered.{few_begun, there, none_there}
use Rattle.eb_feed.proofs.generation.Generation.search.Goals as goal

pub likely-likely-requires : goal.likely-likely-requires
likely-likely-requires g c =
    let r = c.requires in
    let h = r.2 in
    few_begun c.args.self.now r.0 r.1 h c.segments.result (c.segments.ensures.cut h.moment h.placer)

pub returns-clause-ids : goal.returns-clause-ids
returns-clause-ids g c = λ σ docs h.
    let q = query_of c.args.frame.now in
    let own : List _ = ids_of c.args.frame.now in
    let left = k_of c.args.frame.now - length own in
    let r = c.search_on_likely.ensures.answer h.moment h.words in
    let s = r.3 in
    let all = there h.moment r.0 s.loaded docs r.2.1 s.after s.before h.accepted in
    let none = none_there (tree c.query.result.now) q σ s.loaded.setting docs s.loaded.documents.accepted c.likely-likely.result c.query.ensures (sym s.after.setting ∙ h.setting) all
    (c.likely-likely.ensures.none σ docs h.filters) in
    s.ids none ∙ ap (λ (ds : List Doc). own ++ answer q left ds) all
