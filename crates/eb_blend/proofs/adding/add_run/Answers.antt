use Rattle.std.proofs.Common.{◌++◌, ap, ◌∙◌, arith}
use Rattle.eb_blend.specs.Adding.{turns_writer}
use Rattle.eb_blend.proofs.Turns.{turned_made, turned_long, turned_outcomes, turned_writer}
use Rattle.eb_blend.proofs.adding.add_run.Goals as goal

pub gather-requires : goal.gather-requires
gather-requires g c =
    let r = c.requires in
    let same = c.take_turns.auto.turns in
    record {
      some = omega (arith, r.some, same);
      few = omega (arith, r.few, same);
      long = turned_long c.args.indexes.now c.args.items.now c.args.turns.now c.take_turns.new.turns r.some r.made same c.take_turns.ensures.turned _ r.long;
      room = r.room;
    }

pub returns : goal.returns
returns g c =
    let r = c.requires in
    let t = c.take_turns.ensures.turned in
    let new = c.take_turns.new.turns in
    let told = c.gather.ensures in
    record {
      writers = λ σ all. ap (turns_writer new) told.last ∙ turned_writer c.args.indexes.now c.args.items.now c.args.turns.now new r.some r.made c.take_turns.auto.turns t σ all c.args.last r.rising;
      outcomes = λ σ all. told.outcomes
          ∙ ap (λ z. c.args.outcomes.now.items ++ z) (turned_outcomes c.args.indexes.now c.args.items.now c.args.turns.now new r.some r.made c.take_turns.auto.turns t σ all c.args.last r.rising);
      made = turned_made c.args.indexes.now c.args.items.now c.args.turns.now new r.some r.made c.take_turns.auto.turns t;
      number = c.take_turns.auto.turns;
      long = λ n all. turned_long c.args.indexes.now c.args.items.now c.args.turns.now new r.some r.made c.take_turns.auto.turns t n all;
      len = told.len;
      capacity = told.capacity;
    }
