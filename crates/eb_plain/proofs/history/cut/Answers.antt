use Rattle.std.proofs.Common.{◌≡◌, ap, sym, ◌∙◌, length, map, eqb-true}
use Rattle.eb_plain.proofs.HistoryCuts.{cut_none}
use Rattle.eb_plain.proofs.history.cut.Goals as goal

pub returns-then-is_empty : goal.returns-then-is_empty
returns-then-is_empty c =
    let none : length c.args.documents.now ≡ 0 = eqb-true _ _ (sym (c.if-is_empty.ensures)) in
    c.new.ensures.items ∙ sym (ap (map length) (cut_none c.args.config.now c.args.documents.now none))
