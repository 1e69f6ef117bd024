use Rattle.eb_run.proofs.FeedsInOrder.{text_with_workers}
use Rattle.eb_run.proofs.laws.feed_order_text.Goals as goal

pub returns : goal.returns
returns c = λ how asked n lines printed plain text. text_with_workers how asked lines printed plain text
