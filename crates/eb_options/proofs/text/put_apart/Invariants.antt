use Rattle.std.proofs.Common.{◌≡◌, ◌++◌, drop, map, string_bytes}
use Rattle.eb_options.proofs.text.put_apart.Given as goal

abbrev pub invariant-loop-word : goal.invariant-loop-word
invariant-loop-word l = map string_bytes l.others.items ++ map string_bytes (drop l.word-index l.fn.rest) ≡ map string_bytes l.fn.others.items ++ map string_bytes l.fn.rest
