use Rattle.std.proofs.Common.{[], sym, ◌∙◌}
use Rattle.std.proofs.lemmas.List.{get_or_default}
use Rattle.eb_watch.proofs.Numbered.{one_more}
use Rattle.eb_watch.proofs.message.Message.new.Goals as goal

pub loop-at-preserved : goal.loop-at-preserved
loop-at-preserved c =
    one_more c.loop-at.by_text c.put_number.new.by_text c.loop-at.places.items c.push.new.self.items c.args.terms.now c.loop-at.at c.in_ok-number.number c.index-terms-at.result
    c.loop-at.invariant (get_or_default c.args.terms.now c.loop-at.at [] c.index-terms-at.result c.loop-at-test.true ∙ sym c.index-terms-at.is) c.in_ok-number.ensures c.in_ok-push.ensures.items
