use Rattle.eb_place.proofs.ConverterWords.{word_converted, word_not_converted, word_directory, word_packed_list}
use Rattle.eb_place.proofs.converter_laws.converted_words.Goals as goal

pub returns-clause-converted : goal.returns-clause-converted
returns-clause-converted c = λ m s is inside. record { done = word_converted m s is; not_done = word_not_converted m s is inside }

pub returns-clause-directory : goal.returns-clause-directory
returns-clause-directory c = word_directory

pub returns-clause-packed : goal.returns-clause-packed
returns-clause-packed c = word_packed_list
