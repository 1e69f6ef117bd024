use Rattle.std.proofs.Common.{◌≡◌, IsUtf8, chars}
use Rattle.std.specs.Str.Iter.{chars_rest}
use Rattle.caseless.specs.Caseless.{default_case_fold}
use Rattle.eb_text.proofs.is_folded.Given as goal

-- if what is left is its own folding, so is the whole text
abbrev pub invariant-loop-c : goal.invariant-loop-c
invariant-loop-c l =
    let left = chars (chars_rest l.c-iterator) in
    let all = chars l.fn.text in
    IsUtf8 (chars_rest l.c-iterator) × (default_case_fold left ≡ left → default_case_fold all ≡ all)
