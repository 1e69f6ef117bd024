use Rattle.std.proofs.Common.{lit<, None, sym}
use Rattle.std.proofs.lemmas.Str.Pattern.{split_once_first}
use Rattle.eb_options.specs.Items.{texts}
use Rattle.eb_options.proofs.Splitting.{bare_item}
use Rattle.eb_options.proofs.split.option_of.Goals as goal

pub returns-in-None : goal.returns-in-None
returns-in-None c = bare_item (texts c.args.options.now) c.args.word.now (split_once_first 61 c.args.word.now None c.in-None.ensures.cases (lit< tt)) (sym c.if-is_one_of-2.ensures)
