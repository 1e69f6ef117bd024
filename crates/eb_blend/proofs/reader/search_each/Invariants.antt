use Rattle.std.proofs.Common.{◌≡◌, ℕ, List, take, map, All}
use Rattle.eb_base.specs.Query.{Tree, word, conjunction}
use Rattle.eb_base.specs.Setting.{Setting}
use Rattle.eb_base.specs.Term.{Term}
use Rattle.eb_cursor.specs.AndCosts.{word_parts}
use Rattle.eb_table.specs.Known.{Words}
use Rattle.eb_blend.specs.Bounded.{PartAfterPart, WithinBound, WithinAndBound}
use Rattle.eb_base.specs.Match.{answer}
use Rattle.eb_cursor.specs.Frames.{ids_of}
use Rattle.eb_blend.specs.Parts.{indexes_of, histories_of, AreFronts}
use Rattle.eb_blend.specs.Frames.{AllAsk}
use Rattle.eb_blend.proofs.reader.search_each.Given as goal

abbrev pub invariant-loop-at : goal.invariant-loop-at
invariant-loop-at g l = record {
  indexes : indexes_of l.readers ≡ indexes_of l.fn.readers;
  fronts : AreFronts (histories_of l.fn.readers) (histories_of l.readers);
  ask : (q : Tree) (k : ℕ) → AllAsk q k l.fn.frames → AllAsk q k l.frames;
  found : (q : Tree) (k : ℕ) → AllAsk q k l.fn.frames → take l.at (map ids_of l.frames) ≡ take l.at (map (answer q k) (histories_of l.readers));
  loads : (σ : Setting) (t : Term) (k : ℕ) → All (λ (w : Words). w.setting ≡ σ) l.indexes → AllAsk (word t) k l.fn.frames
      → PartAfterPart (WithinBound σ (histories_of l.fn.readers) (histories_of l.readers) t k) l.at l.fn.steps l.steps;
  rounds : (σ : Setting) (ts : List Term) (k : ℕ) → All (λ (w : Words). w.setting ≡ σ) l.indexes → AllAsk (conjunction (word_parts ts)) k l.fn.frames
      → PartAfterPart (WithinAndBound σ (histories_of l.readers) ts k) l.at l.fn.steps l.steps;
}
