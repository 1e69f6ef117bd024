use Rattle.std.proofs.Common.{List, Bool, Option, None, Some, append-nil, ap, sym, ◌∙◌, subst, if◌then◌else◌}
use Rattle.run_store.specs.Rules.{Rules}
use Rattle.eb_base.specs.Document.{Doc}
use Rattle.eb_lines.specs.declared.form.Form.{Form}
use Rattle.eb_lines.specs.declared.refusal.Refusal.{Refusal}
use Rattle.eb_lines.specs.declared.refusal.Refusal.TheVariants.{Full}
use Rattle.run_index.specs.IndexRules.{index_rules}
use Rattle.run_index.specs.Indexed.{Holds, WithPlaced}
use Rattle.run_index.proofs.indexed.IndexedStore.place.Goals as goal

-- what the rules refuse, by whether there is room
abbrev refused_by : Bool → Option Refusal
refused_by b = if b then None else Some Full

pub returns-then-add : goal.returns-then-add
returns-then-add g c = λ rules docs ws is.
    let d = c.args.document.now in
    let placed = subst (λ (b : Bool). WithPlaced c.add.new.self is.setting docs d b) c.if-add.true (c.add.ensures.placed is.setting docs is.holds) in (
      sym (ap (λ (r : Rules (Unit {0})). r.refusal docs d) is.by_rules ∙ ap refused_by placed.0),
      record {
        dialect = is.dialect;
        setting = is.setting;
        start = is.start;
        by_rules = is.by_rules ∙ ap (λ (f : Form). index_rules is.dialect is.setting f is.start) (sym c.add.ensures.form);
        holds = placed.1;
      },
    )

pub returns-else-add : goal.returns-else-add
returns-else-add g c = λ rules docs ws is.
    let d = c.args.document.now in
    let placed = subst (λ (b : Bool). WithPlaced c.add.new.self is.setting docs d b) c.if-add.false (c.add.ensures.placed is.setting docs is.holds) in (
      sym (ap (λ (r : Rules (Unit {0})). r.refusal docs d) is.by_rules ∙ ap refused_by placed.0),
      record {
        dialect = is.dialect;
        setting = is.setting;
        start = is.start;
        by_rules = is.by_rules ∙ ap (λ (f : Form). index_rules is.dialect is.setting f is.start) (sym c.add.ensures.form);
        holds = subst (λ (ds : List Doc). Holds c.add.new.self is.setting ds) (sym (append-nil docs)) placed.1;
      },
    )
