use Rattle.std.proofs.Common.{ℕ, sym, subst, arith}
use Rattle.std.proofs.lemmas.List.{get_or-replicate, length-replicate}
use Rattle.eb_writer.specs.Recall.{LeadsBack}
use Rattle.eb_writer.proofs.Recalling.{leads_nothing}
use Rattle.eb_writer.proofs.recall.forget.Goals as goal

pub returns : goal.returns
returns c = record {
  buckets = length-replicate {A = ℕ} 512 0;
  tokens = c.args.recall.now.places;
  few = omega arith;
  latest = λ b l. subst (LeadsBack c.args.terms.now 0 b) (sym (get_or-replicate {A = ℕ} 512 b 0 0 l)) (leads_nothing c.args.terms.now b);
  before = λ p l. absurd (omega arith);
}
