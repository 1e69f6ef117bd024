use Rattle.eb_place.proofs.ConverterWords.{later_converted, converted_segment}
use Rattle.eb_place.proofs.converter_laws.converted_stays.Goals as goal

pub returns : goal.returns
returns c = λ m n s is later converted. record { converted = later_converted m n s later converted; same = converted_segment m n s is later converted }
