use Rattle.eb_place.proofs.NextPackedStore.{word_packed}
use Rattle.eb_place.proofs.laws.put_changes_one_word.Goals as goal

pub returns : goal.returns
returns c = λ m at value is next p. word_packed m at value p next
