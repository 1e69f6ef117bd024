use Rattle.std.proofs.Common.{◌≡◌, sym, subst, refl}
use Rattle.std.proofs.lemmas.Str.{IsUtf8-past_char, chars_past_char}
use Rattle.std.proofs.StrCases.{chars_of_empty}
use Rattle.caseless.specs.Caseless.{default_case_fold}
use Rattle.caseless.proofs.CaselessLemmas.{default_case_fold-nil}
use Rattle.eb_text.proofs.Folding.{stays-cons, folded_from_chars}
use Rattle.eb_text.proofs.is_folded.Goals as goal

pub loop-c-preserved : goal.loop-c-preserved
loop-c-preserved c =
    let held = c.loop-c.invariant in
    let parts = c.in-Some.ensures.steps.0 in
    let step = chars_past_char _ _ c.in-Some.c held.0 parts in
    let own = c.if-not-folds_to_itself.ensures refl in
    (IsUtf8-past_char _ _ c.in-Some.c held.0 parts, λ rest. held.1 (subst (λ cs. default_case_fold cs ≡ cs) (sym step) (stays-cons c.in-Some.c _ own rest)))

pub returns : goal.returns
returns c _ = folded_from_chars c.args.text.now c.utf8.text (c.loop-c.invariant.1 (rw (chars_of_empty _ c.in-None.ensures.steps.0.0) default_case_fold-nil))
