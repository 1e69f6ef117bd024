use Rattle.std.proofs.Common.{inr, refl}
use Rattle.eb_doc.proofs.Reading.{value_some, value_none}
use Rattle.eb_doc.proofs.read_value.Goals as goal

pub returns-in-Ok-clause-value : goal.returns-in-Ok-clause-value
returns-in-Ok-clause-value c = value_some _ _ c.in-Ok.ensures.ok.0 c.in-Ok.ensures.ok.1

pub returns-else-is_memory-clause-refused : goal.returns-else-is_memory-clause-refused
returns-else-is_memory-clause-refused c = inr (refl, value_none c.args.line.now (c.in-Err.ensures.err (λ memory. let no : ⊥ = cc (c.is_memory.ensures.1 memory, c.if-is_memory.false) in no)))
