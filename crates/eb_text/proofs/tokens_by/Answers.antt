use Rattle.std.proofs.Common.{◌∙◌, All, sym, ap, subst, take}
use Rattle.eb_text.specs.Parting.{IsAlphanumeric}
use Rattle.eb_text.proofs.ByCut.{told_more}
use Rattle.eb_text.proofs.Words.{take_front}
use Rattle.eb_text.proofs.tokens_by.Goals as goal

pub push_tokens-requires : goal.push_tokens-requires
push_tokens-requires c =
    let plain = c.plain_front-plain.result in
    subst (All IsAlphanumeric) (sym (ap (take plain) c.range.ensures.value ∙ take_front plain c.parting_space-end.result c.loop-terms.rest.now c.parting_space-end.ensures.within.0))
    c.plain_front-plain.ensures.plain

pub loop-terms-preserved : goal.loop-terms-preserved
loop-terms-preserved c =
    let rest = c.loop-terms.rest.now in
    let end = c.parting_space-end.result in (
      c.range_from-rest.utf8,
      told_more c.args.cut c.loop-terms.terms c.push_tokens.new.terms rest c.range.result.now c.range_from-rest.result.now end c.range.ensures.value c.range_from-rest.ensures.value
          c.parting_space-end.ensures.parts c.in_ok-push_tokens.ensures ∙ c.loop-terms.invariant.1,
    )
