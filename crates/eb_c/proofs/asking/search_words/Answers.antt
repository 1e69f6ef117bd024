use Rattle.std.proofs.Common.{◌≡◌, ap, ◌∙◌, sym, subst}
use mathlib.Core.List.{IsPrefix}
use Rattle.eb_base.specs.Match.{answer as answer_of}
use Rattle.eb_cursor.specs.Frames.{query_of, k_of}
use Rattle.eb_place.specs.declared.moment.Moment.{Moment}
use Rattle.eb_place.proofs.Prefixes.{prefix_whole, prefix_length}
use Rattle.eb_c.proofs.asking.search_words.Goals as goal

pub returns-clause-ids : goal.returns-clause-ids
returns-clause-ids g c m st =
    let k = c.search.ensures.answer m st in
    let s = k.3 in
    let docs = m.documents.accepted in
    let loaded = s.loaded.documents.accepted in
    let front : IsPrefix loaded docs = subst (λ (n : Moment). IsPrefix loaded n.documents.accepted) k.2.1 s.before.documents.accepted in
    let all : docs ≡ loaded = prefix_whole docs loaded s.after.documents.accepted (prefix_length loaded docs front) in
    s.ids ∙ ap (answer_of (query_of c.args.frame.now) (k_of c.args.frame.now)) (sym all)
