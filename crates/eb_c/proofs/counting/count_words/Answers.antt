use Rattle.std.proofs.Common.{◌≡◌, List, length, ap, ◌∙◌, sym, subst}
use mathlib.Core.List.{IsPrefix}
use Rattle.eb_base.specs.Document.{Doc}
use Rattle.eb_count.specs.Tallies.{HasCounted}
use Rattle.eb_cursor.specs.Frames.{query_of}
use Rattle.eb_place.specs.declared.moment.Moment.{Moment}
use Rattle.eb_place.proofs.Prefixes.{prefix_whole, prefix_length}
use Rattle.eb_c.proofs.counting.count_words.Goals as goal

pub returns-clause-count : goal.returns-clause-count
returns-clause-count g c m st =
    let k = c.count_on.ensures.counts m st in
    let s = k.3 in
    let docs = m.documents.accepted in
    let loaded = s.loaded.documents.accepted in
    let front : IsPrefix loaded docs = subst (λ (n : Moment). IsPrefix loaded n.documents.accepted) k.2.1 s.before.documents.accepted in
    s.count ∙ ap length (sym (prefix_whole docs loaded s.after.documents.accepted (prefix_length loaded docs front)))

pub returns-clause-counts : goal.returns-clause-counts
returns-clause-counts g c m st =
    let k = c.count_on.ensures.counts m st in
    let s = k.3 in
    let docs = m.documents.accepted in
    let loaded = s.loaded.documents.accepted in
    let front : IsPrefix loaded docs = subst (λ (n : Moment). IsPrefix loaded n.documents.accepted) k.2.1 s.before.documents.accepted in
    let all : docs ≡ loaded = prefix_whole docs loaded s.after.documents.accepted (prefix_length loaded docs front) in
    subst (λ (ds : List Doc). HasCounted (query_of c.args.frame.now) ds c.args.tally.now c.count_on.new.tally) (sym all) s.tally
