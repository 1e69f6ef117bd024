use Rattle.std.proofs.Common.{[]}
use Rattle.run_store.specs.Rules.{is_bad}
use Rattle.run_store.proofs.OneText.{order_text_of}
use Rattle.run_index.specs.IndexRules.{index_rules}
use Rattle.eb_io.specs.Lines.{lines_of}
use Rattle.run_store.specs.Sees.{between}
use Rattle.eb_run.proofs.laws.order_text.Goals as goal

pub returns : goal.returns
returns c = λ how σ form bytes. order_text_of is_bad between (index_rules how σ form []) (lines_of bytes)
