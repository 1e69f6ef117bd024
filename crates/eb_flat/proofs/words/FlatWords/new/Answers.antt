use Rattle.std.proofs.Common.{rules}
use Rattle.eb_flat.proofs.FlatImages.{stands_first}
use Rattle.eb_flat.proofs.words.FlatWords.new.Goals as goal

pub returns-clause-moment : goal.returns-clause-moment
returns-clause-moment c = stands_first _ c.args.config c.words.ensures.setting (search rules)
