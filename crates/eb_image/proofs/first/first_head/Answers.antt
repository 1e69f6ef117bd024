use Rattle.std.proofs.Common.{arith}
use Rattle.eb_image.proofs.Firsts.{head_first, no_head}
use Rattle.eb_image.proofs.first.first_head.Goals as goal

pub returns-in-Some : goal.returns-in-Some
returns-in-Some c = head_first _ c.args.bytes.now c.in-Some.ensures

pub returns-in-None : goal.returns-in-None
returns-in-None c = no_head c.args.bytes.now (omega (arith, c.if-bytes-lt-HEAD.false)) c.in-None.ensures
