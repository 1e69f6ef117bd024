use Rattle.std.proofs.Common.{◌≡◌, ℕ, ◌<◌, get_or}
use mathlib.Core.List.{IsPrefix}
use Rattle.eb_base.specs.Setting.{Setting}
use Rattle.std.specs.List.{All}
use Rattle.eb_blend.specs.Parts.{history, indexes_of, histories_of, converter_histories_of, converted_of}
use Rattle.eb_engine.specs.Tokens.{AreClosed}
use Rattle.eb_blend.proofs.writer.hear_each.Given as goal

abbrev pub invariant-loop-at : goal.invariant-loop-at
invariant-loop-at l = record {
  indexes : indexes_of l.writers ≡ indexes_of l.fn.writers;
  histories : histories_of l.writers ≡ histories_of l.fn.writers;
  converters : l.converters ≡ l.fn.converters;
  fronts : (p : ℕ) → p < l.at → IsPrefix (history (converter_histories_of l.fn.converters) p) (history (histories_of l.fn.writers) p);
  closed : (σ : Setting) → All (λ w. w.setting ≡ σ) l.indexes → (p : ℕ) → p < l.at → AreClosed σ (history (histories_of l.fn.writers) p) (get_or (converted_of l.fn.converters) p 0);
}
