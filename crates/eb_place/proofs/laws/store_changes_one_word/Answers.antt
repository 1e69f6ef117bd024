use Rattle.eb_place.proofs.NextStore.{word_stored}
use Rattle.eb_place.proofs.laws.store_changes_one_word.Goals as goal

pub returns : goal.returns
returns c = λ m d at value is next p. word_stored m d at value p is next
