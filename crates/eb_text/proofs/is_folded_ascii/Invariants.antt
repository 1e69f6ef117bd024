use Rattle.std.proofs.Common.{take}
use Rattle.std.specs.List.{All}
use Rattle.eb_text.specs.Tokens.{IsFoldedByte}
use Rattle.eb_text.proofs.is_folded_ascii.Given as goal

abbrev pub invariant-loop-byte : goal.invariant-loop-byte
invariant-loop-byte l = All IsFoldedByte (take l.byte-index l.byte-items)
