use Rattle.run_store.proofs.OneText as law
use Rattle.run_store.proofs.laws.some_text.Goals as goal

pub returns : goal.returns
returns c = law.some_text
