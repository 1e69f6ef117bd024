use Rattle.std.proofs.Common.{ap, sym, nat_le}
use Rattle.eb_doc.specs.FieldTerms.{most_items}
use Rattle.eb_doc.proofs.Items.{count_is}
use Rattle.eb_doc.proofs.fields.are_few.Goals as goal

pub returns : goal.returns
returns c = sym (ap (λ n. nat_le n most_items) (count_is c.args.items.now))
