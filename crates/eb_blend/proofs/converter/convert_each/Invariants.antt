use Rattle.std.proofs.Common.{◌≡◌, ℕ, ◌≤◌, ◌<◌, ◌+◌, get_or, length}
use Rattle.eb_base.specs.Setting.{Setting}
use Rattle.std.specs.List.{All}
use Rattle.eb_place.specs.Room.{cut}
use Rattle.eb_blend.specs.Parts.{history, converter_histories_of, converter_indexes_of, converted_of, AreFronts}
use Rattle.eb_blend.proofs.converter.convert_each.Given as goal

abbrev pub invariant-loop-at : goal.invariant-loop-at
invariant-loop-at l = record {
  indexes : converter_indexes_of l.converters ≡ converter_indexes_of l.fn.converters;
  known : AreFronts (converter_histories_of l.fn.converters) (converter_histories_of l.converters);
  rest : (p : ℕ) → l.at ≤ p → history (converter_histories_of l.converters) p ≡ history (converter_histories_of l.fn.converters) p;
  rising : (p : ℕ) → get_or (converted_of l.fn.converters) p 0 ≤ get_or (converted_of l.converters) p 0;
  converted : (σ : Setting) → All (λ w. w.setting ≡ σ) l.indexes → (p s : ℕ) → p < l.at → s + 1 < length (cut σ (history (converter_histories_of l.fn.converters) p))
      → s < get_or (converted_of l.converters) p 0;
}
