use Rattle.std.proofs.Common.{◌≡◌, ◌++◌, map}
use Rattle.unicode_segmentation.specs.Iter.{unicode_words_left}
use Rattle.eb_text.specs.Tokens.{folded}
use Rattle.eb_text.specs.Pieces.{in_cut, tokens_by}
use Rattle.eb_text.proofs.push_words.Given as goal

abbrev pub invariant-loop-word : goal.invariant-loop-word
invariant-loop-word l = l.terms ++ in_cut l.cut (map folded (unicode_words_left l.word-iterator)) ≡ l.initial.terms ++ tokens_by l.cut l.text
