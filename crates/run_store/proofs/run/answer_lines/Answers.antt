use Rattle.std.proofs.Common.{ℕ, List, [], sym, subst}
use Rattle.run_store.specs.Answering.{HasAnswered}
use Rattle.run_store.proofs.run.answer_lines.Goals as goal

pub pass_lines-requires : goal.pass_lines-requires
pass_lines-requires g c =
    let r = c.requires in
    (r.0, subst (λ (t : List ℕ). HasAnswered g.P.Store.other g.P.Store.holds c.new-answering.result r.0 [] t) (sym c.new.ensures.items) (c.new-answering.ensures r.0 r.1 r.2))
