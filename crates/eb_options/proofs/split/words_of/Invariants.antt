use Rattle.std.proofs.Common.{◌≡◌, ◌++◌, map, drop, string_bytes}
use Rattle.eb_options.specs.Parts.{word_of}
use Rattle.eb_options.specs.Views.{value_view}
use Rattle.eb_options.proofs.split.words_of.Given as goal

abbrev pub invariant-loop-value : goal.invariant-loop-value
invariant-loop-value l = map word_of (map value_view l.fn.values) ≡ map string_bytes l.words.items ++ map word_of (map value_view (drop l.value-index l.fn.values))
