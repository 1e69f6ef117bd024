use Rattle.std.proofs.Common.{◌∙◌, sym, ap, ◌∷◌, []}
use Rattle.eb_text.proofs.ByCut.{plain_by}
use Rattle.eb_text.proofs.plain_token.Goals as goal

pub returns : goal.returns
returns c =
    λ w. plain_by w c.args.text.now c.plain_front-plain.result c.if-plain-eq0.false c.if-plain-text.false c.plain_front-plain.ensures.plain
    ∙ ap (λ t. t ∷ []) (sym c.in_ok-term.ensures)
