use Rattle.std.proofs.Common.{arith}
use Rattle.eb_image.proofs.Nexts.{not_first, not_more}
use Rattle.eb_image.proofs.scan.shortest.Goals as goal

pub returns-then-bytes-gt0-clause-form : goal.returns-then-bytes-gt0-clause-form
returns-then-bytes-gt0-clause-form c = not_first c.args.bytes.now c.requires (omega arith)

pub returns-then-bytes-gt1-clause-form : goal.returns-then-bytes-gt1-clause-form
returns-then-bytes-gt1-clause-form c = not_more c.args.bytes.now (omega arith) (omega arith)
