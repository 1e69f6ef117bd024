use Rattle.std.proofs.Common.{◌≡◌, ap, sym, ◌∙◌, length, eqb-true}
use Rattle.eb_place.specs.Room.{last_of}
use Rattle.eb_plain.proofs.HistoryCuts.{cut_none, last_is, none_dropped}
use Rattle.eb_plain.proofs.history.last_segment.Goals as goal

pub returns-then-is_empty-clause-begun : goal.returns-then-is_empty-clause-begun
returns-then-is_empty-clause-begun c =
    let none : length c.args.documents.now ≡ 0 = eqb-true _ _ (sym (c.if-is_empty.ensures)) in
    sym (ap length (cut_none c.args.config.now c.args.documents.now none))

pub returns-then-is_empty-clause-start : goal.returns-then-is_empty-clause-start
returns-then-is_empty-clause-start c =
    let none : length c.args.documents.now ≡ 0 = eqb-true _ _ (sym (c.if-is_empty.ensures)) in
    ap last_of (cut_none c.args.config.now c.args.documents.now none) ∙ none_dropped c.args.documents.now 0 none

pub returns-clause-start : goal.returns-clause-start
returns-clause-start c = last_is c.args.config.now c.args.documents.now c.in_ok-closed.field-0.closed.items c.in_ok-closed.field-0.start c.in_ok-closed.ensures.cut
