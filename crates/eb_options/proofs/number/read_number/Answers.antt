use Rattle.std.proofs.Common.{◌∙◌, sym}
use Rattle.eb_options.proofs.SettingNumbers.{parsed}
use Rattle.eb_options.proofs.number.read_number.Goals as goal

pub returns : goal.returns
returns c = c.ok.ensures.value ∙ parsed c.args.most c.args.word.now c.parse.result (sym c.are_digits.ensures ∙ c.if-not-are_digits.false) c.parse.ensures.value.0
