use Rattle.std.proofs.Common.{◌∙◌}
use Rattle.eb_text.proofs.InPieces.{pieces_more, pieces_end}
use Rattle.eb_text.proofs.pieces.push_cut.Goals as goal

pub rest-preserved : goal.rest-preserved
rest-preserved c =
    pieces_more c.rest.terms c.push_piece.new.terms c.rest.rest.now c.split_at.result.0.now c.split_at.result.1.now c.mark_at.result c.in-Some._mark.now c.in-Some.more.now
    c.mark_at.ensures.place c.split_at.ensures.front c.split_at.ensures.back c.in-Some.ensures.cases.0 c.in_ok-push_piece.ensures
    ∙ c.rest.invariant

pub returns-in_default : goal.returns-in_default
returns-in_default c =
    pieces_end c.rest.terms c.push_piece.new.terms c.rest.rest.now c.split_at.result.0.now c.split_at.result.1.now c.mark_at.result
    c.mark_at.ensures.place c.mark_at.ensures.within c.split_at.ensures.front c.split_at.ensures.back c.in_default.ensures.cases c.in_ok-push_piece.ensures
    ∙ c.rest.invariant
