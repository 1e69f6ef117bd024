use Rattle.std.proofs.Common.{◌≡◌, ℕ, ◌≤◌, length}
use mathlib.Core.List.{IsPrefix}
use Rattle.eb_blend.specs.Parts.{history, histories_of, converter_histories_of, converter_indexes_of, converted_of, AreFronts}
use Rattle.eb_blend.proofs.converter.meet_each.Given as goal

abbrev pub invariant-loop-reader : goal.invariant-loop-reader
invariant-loop-reader l = record {
  indexes : converter_indexes_of l.converters ≡ converter_indexes_of l.fn.converters;
  converted : converted_of l.converters ≡ converted_of l.fn.converters;
  this : AreFronts (converter_histories_of l.fn.converters) (converter_histories_of l.converters);
  front : IsPrefix l.readers.items l.fn.readers.items;
  done : (p : ℕ) → length l.readers.items ≤ p → IsPrefix (history (histories_of l.fn.readers.items) p) (history (converter_histories_of l.converters) p);
}

abbrev pub decreases-loop-reader : goal.decreases-loop-reader
decreases-loop-reader l = length l.readers.items
