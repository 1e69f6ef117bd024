use Rattle.std.proofs.Common.{◌≡◌, ℕ, ◌<◌}
use mathlib.Core.List.{IsPrefix}
use Rattle.eb_blend.specs.Parts.{history, histories_of, converter_indexes_of, converter_histories_of, converted_of, AreFronts}
use Rattle.eb_blend.proofs.catching_up.tell_each.Given as goal

abbrev pub invariant-loop-at : goal.invariant-loop-at
invariant-loop-at l = record {
  writers : l.writers ≡ l.fn.writers;
  indexes : converter_indexes_of l.converters ≡ converter_indexes_of l.fn.converters;
  converted : converted_of l.converters ≡ converted_of l.fn.converters;
  known : AreFronts (converter_histories_of l.fn.converters) (converter_histories_of l.converters);
  told : (p : ℕ) → p < l.at → IsPrefix (history (histories_of l.fn.writers) p) (history (converter_histories_of l.converters) p);
}
