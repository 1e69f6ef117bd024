use Rattle.std.proofs.Common.{sym, ◌∙◌, inl, inr}
use Rattle.std.proofs.lemmas.Bool.{cases_lt, false≢true}
use Rattle.eb_base.specs.Query.{tree}
use Rattle.eb_bloom.proofs.Likely.{none_unlikely}
use Rattle.eb_bloom.proofs.filters.Filters.likely.Goals as goal

pub returns-clause-none : goal.returns-clause-none
returns-clause-none c σ docs h s k off = elim (cases_lt s c.args.begun) [
  | inl low ↦ none_unlikely c.args.self.now (tree c.args.query.now) σ docs s k h (sym (c.marks_of.ensures.noted s low) ∙ off)
  | inr high ↦ absurd (false≢true (sym off ∙ c.marks_of.ensures.further s high))
]
