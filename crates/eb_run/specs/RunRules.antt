-- By which rules the lines of an input are processed.
use Rattle.eb_fields.specs.Dialect.{Dialect}
use Rattle.std.specs.Prelude.{ℕ, List}
use Rattle.run_store.specs.Rules.{Rules}
use Rattle.run_store.specs.Sees.{Reach}
use Rattle.eb_lines.specs.Reading.{Reading}

-- where `Held` is what the store holds beside documents: how a line is read that is neither blank,
-- nor a document or query line; which documents queries may see; and the rules of the store
pub record RunRules : Type 1 where
  pub Held : Type 0
  pub other : Dialect → List ℕ → Reading → Type 0
  pub way : Reach
  pub rules : Rules Held
