use Rattle.std.proofs.Common.{◌*◌, ◌%◌, ◌^◌, ap, ◌∙◌}
use Rattle.eb_bloom.specs.Bits.{mixed_hash}
use Rattle.eb_bloom.proofs.hashing.mixed_hash_of.Goals as goal

pub returns : goal.returns
unfolding mixed_hash
returns c = ap (λ z. z * 11400714819323198485 % 2 ^ 64) (c.from.ensures ∙ c.hash_of.ensures)
