use Rattle.std.proofs.Common.{◌≡◌, drop}
use Rattle.std.specs.List.{list_all}
use Rattle.eb_options.specs.Numbers.{is_digit}
use Rattle.eb_options.proofs.number.are_digits.Given as goal

abbrev pub invariant-loop-byte : goal.invariant-loop-byte
invariant-loop-byte l = list_all is_digit l.fn.word ≡ list_all is_digit (drop l.byte-index l.bytes)
