use Rattle.eb_table.proofs.Opening.{opens}
use Rattle.eb_table.proofs.words.SharedWords.of.Goals as goal

pub of_words-requires : goal.of_words-requires
of_words-requires c = opens c.args.config c.args.zeros.now c.words-words.ensures.setting c.requires
