use Rattle.std.proofs.Common.{ℕ, List, [], sym, subst}
use Rattle.run_ahead.specs.Ahead.{HasHeld}
use Rattle.run_ahead.proofs.run.answer_lines_ahead.Goals as goal

pub pass_lines-requires : goal.pass_lines-requires
pass_lines-requires g c =
    let rules = c.requires.store.0 in
    let held = c.new-2.ensures rules (c.new.ensures rules c.requires.store.1 c.requires.store.2) in (
      rules,
      (
        record {
          may = λ old text running. (running, (c.requires.placing, (c.requires.tells, record { shared = c.type_bounds.sync-R.shared })));
          on = λ old new text more r p. p.0;
          none = λ old new text more r p. p.1.0;
          same = λ old new text more r p. p.1.1;
        },
        subst (λ (t : List ℕ). HasHeld g.P.Store.other g.P.Store.holds c.new-2.result rules [] t) (sym c.new-3.ensures.items) held,
      ),
    )
