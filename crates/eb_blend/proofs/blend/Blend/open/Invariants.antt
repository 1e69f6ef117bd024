use Rattle.std.proofs.Common.{◌≡◌, [], length, replicate}
use Rattle.std.specs.List.{All}
use Rattle.eb_blend.specs.Parts.{indexes_of, histories_of, converter_indexes_of, converter_histories_of, converted_of}
use Rattle.eb_blend.proofs.blend.Blend.open.Given as goal

abbrev pub invariant-loop-part : goal.invariant-loop-part
invariant-loop-part l = record {
  settings : All (λ w. w.setting ≡ l.config) l.indexes.items;
  number : length l.indexes.items ≡ l._part;
  writers : indexes_of l.writers.items ≡ l.indexes.items;
  empty : histories_of l.writers.items ≡ replicate l._part [];
  converters : converter_indexes_of l.converters.items ≡ l.indexes.items;
  unknown : converter_histories_of l.converters.items ≡ replicate l._part [];
  none : converted_of l.converters.items ≡ replicate l._part 0;
}
