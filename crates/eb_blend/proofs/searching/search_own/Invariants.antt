use Rattle.std.proofs.Common.{◌≡◌, ℕ, List, take, map, All}
use Rattle.eb_base.specs.Query.{Tree, word, conjunction}
use Rattle.eb_base.specs.Setting.{Setting}
use Rattle.eb_base.specs.Term.{Term}
use Rattle.eb_cursor.specs.AndCosts.{word_parts}
use Rattle.eb_table.specs.Known.{Words}
use Rattle.eb_blend.specs.Bounded.{PartAfterPart, WithinBoundAlone, WithinAndBoundAlone}
use Rattle.eb_base.specs.Match.{answer}
use Rattle.eb_cursor.specs.Frames.{ids_of}
use Rattle.eb_blend.specs.Parts.{histories_of}
use Rattle.eb_blend.specs.Frames.{AllAsk}
use Rattle.eb_blend.proofs.searching.search_own.Given as goal

abbrev pub invariant-loop-at : goal.invariant-loop-at
invariant-loop-at g l = record {
  writers : l.writers ≡ l.fn.writers;
  ask : (q : Tree) (k : ℕ) → AllAsk q k l.fn.frames → AllAsk q k l.frames;
  found : (q : Tree) (k : ℕ) → AllAsk q k l.fn.frames → take l.at (map ids_of l.frames) ≡ take l.at (map (answer q k) (histories_of l.fn.writers));
  loads : (σ : Setting) (t : Term) (k : ℕ) → All (λ (w : Words). w.setting ≡ σ) l.indexes → AllAsk (word t) k l.fn.frames
      → PartAfterPart (WithinBoundAlone σ (histories_of l.fn.writers) t k) l.at l.fn.steps l.steps;
  rounds : (σ : Setting) (ts : List Term) (k : ℕ) → All (λ (w : Words). w.setting ≡ σ) l.indexes → AllAsk (conjunction (word_parts ts)) k l.fn.frames
      → PartAfterPart (WithinAndBoundAlone σ (histories_of l.fn.writers) ts k) l.at l.fn.steps l.steps;
}
