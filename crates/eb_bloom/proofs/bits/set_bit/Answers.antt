use Rattle.eb_bloom.proofs.SingleBits.{set_one}
use Rattle.eb_bloom.proofs.bits.set_bit.Goals as goal

pub returns-clause-bits : goal.returns-clause-bits
returns-clause-bits c i = set_one c.args.words.now c.args.bit i c.requires
