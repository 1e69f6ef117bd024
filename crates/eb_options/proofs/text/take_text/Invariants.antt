use Rattle.std.proofs.Common.{◌≡◌, drop, map, string_bytes}
use Rattle.eb_options.specs.Items.{texts}
use Rattle.eb_options.specs.Texts.{behind, text_apart, text_from}
use Rattle.eb_options.proofs.text.take_text.Given as goal

abbrev pub invariant-loop-at : goal.invariant-loop-at
invariant-loop-at l = text_apart l.name (texts l.options) (map string_bytes l.words)
    ≡ behind (map string_bytes l.others.items) (text_from l.name (texts l.options) l.waits (map string_bytes (drop l.at l.words)))
