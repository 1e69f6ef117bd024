use Rattle.std.proofs.Common.{◌≡◌, None, drop, map, string_bytes}
use Rattle.eb_options.specs.Items.{flags_and_values, texts}
use Rattle.eb_options.specs.Parts.{in_front}
use Rattle.eb_options.specs.Views.{parts_view, waiting}
use Rattle.eb_options.proofs.split.split_words.Given as goal

abbrev pub invariant-loop-word : goal.invariant-loop-word
invariant-loop-word l = flags_and_values (texts l.flags) (texts l.options) None (map string_bytes l.fn.words)
    ≡ in_front (parts_view l.split) (flags_and_values (texts l.flags) (texts l.options) (waiting l.split) (map string_bytes (drop l.word-index l.fn.words)))
