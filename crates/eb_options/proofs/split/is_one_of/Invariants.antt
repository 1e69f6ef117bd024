use Rattle.std.proofs.Common.{◌≡◌, drop}
use Rattle.eb_options.specs.Items.{is_one_of, texts}
use Rattle.eb_options.proofs.split.is_one_of.Given as goal

abbrev pub invariant-loop-name : goal.invariant-loop-name
invariant-loop-name l = is_one_of (texts l.fn.names) l.word ≡ is_one_of (texts (drop l.name-index l.fn.names)) l.word
