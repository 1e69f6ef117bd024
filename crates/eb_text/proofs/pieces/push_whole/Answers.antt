use Rattle.std.proofs.Common.{ℕ, ◌<◌, ◌++◌, List, length, ap, sym, subst, ◌∙◌}
use Rattle.std.specs.List.{position_or_len}
use Rattle.eb_text.specs.Pieces.{is_mark}
use Rattle.eb_text.proofs.ByCut.{one_token}
use Rattle.eb_text.proofs.InPieces.{pieces_whole}
use Rattle.eb_text.proofs.pieces.push_whole.Goals as goal

pub returns-then-mark_at-len : goal.returns-then-mark_at-len
returns-then-mark_at-len c =
    let some = subst (λ (t : List ℕ). 0 < length t) c.bytes-len.ensures c.if-len-gt0.true in
    let last =
    ap (position_or_len is_mark) (sym c.bytes.ensures) ∙ sym c.mark_at.ensures.place ∙ c.if-mark_at-len.true ∙ ap length c.bytes-len.ensures in
    c.in_ok-push.ensures.ok ∙ ap (λ ts. c.args.terms.now ++ ts) (sym (one_token c.args.token ∙ pieces_whole c.args.token some last))
