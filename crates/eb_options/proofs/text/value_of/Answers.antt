use Rattle.std.proofs.Common.{lit<, None, sym}
use Rattle.std.proofs.lemmas.Str.Pattern.{split_once_first}
use Rattle.eb_options.proofs.Texts.{bare_value}
use Rattle.eb_options.proofs.text.value_of.Goals as goal

pub returns-in-None : goal.returns-in-None
returns-in-None c = sym (bare_value c.args.name.now c.args.word.now (split_once_first 61 c.args.word.now None c.in-None.ensures.cases (lit< tt)) (sym c.if-is_dashed-2.ensures))
