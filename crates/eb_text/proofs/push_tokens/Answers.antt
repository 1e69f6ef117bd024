use Rattle.eb_text.proofs.ByCut.{plain_by}
use Rattle.eb_text.proofs.push_tokens.Goals as goal

pub returns : goal.returns
returns c =
    let one = plain_by c.args.cut c.args.text.now c.args.plain c.if-plain-eq0.false c.if-plain-text.false c.requires in
    rw (one, ← c.in_ok-term.ensures) c.in_ok-push.ensures.ok
