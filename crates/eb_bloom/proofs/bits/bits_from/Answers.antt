use Rattle.eb_bloom.proofs.SingleBits.{bit_from}
use Rattle.eb_bloom.proofs.bits.bits_from.Goals as goal

pub returns : goal.returns
returns c s = bit_from c.args.words.now c.args.bit s
