use Rattle.std.proofs.Common.{◌≡◌, ◌<◌, ◌≤◌, ◌++◌, ◌∷◌, [], length, take, ap, sym, ◌∙◌, arith, append-nil}
use Rattle.std.proofs.lemmas.List.{nil_from_length}
use Rattle.std.proofs.lemmas.List.Elements.{All-weaker}
use Rattle.eb_blend.specs.declared.adding.Turn.{Turn}
use Rattle.eb_blend.specs.Adding.{turns_writer, with_items, outcomes_of}
use Rattle.eb_blend.proofs.Turns.{next_items, with_items-nil, outcomes_of-nil, low_on, run_on}
use Rattle.eb_blend.proofs.adding.add_items.Goals as goal

pub runs-preserved-in-Some : goal.runs-preserved-in-Some
runs-preserved-in-Some g c =
    let inv = c.runs.invariant in
    let rest = c.runs.rest.now in
    let split = c.split_at.ensures in
    let behind = c.split_at.result.1.now in
    let put = c.push_reserved.ensures in
    let x = c.index-rest-0.result in
    let w = turns_writer c.runs.turns c.runs.last in
    let full = sym c.is_empty.ensures ∙ c.runs-test.true in
    let some : 0 < length rest = grind (arith, full) in
    let one : take 1 rest ≡ x ∷ [] = next_items rest 0 x some c.index-rest-0.is in
    let halves : rest ≡ (x ∷ []) ++ behind = split.by_index.0 ∙ ap (λ z. z ++ behind) (split.front ∙ one) in
    record {
      writers = λ σ all.
          (low_on σ w x c.in-Some.found rest behind c.runs.outcomes.items c.push_reserved.new.self.items c.in-Some.ensures.some.0 c.in-Some.ensures.some.1 halves put.items).0
          ∙ inv.writers σ all;
      outcomes = λ σ all.
          (low_on σ w x c.in-Some.found rest behind c.runs.outcomes.items c.push_reserved.new.self.items c.in-Some.ensures.some.0 c.in-Some.ensures.some.1 halves put.items).1
          ∙ inv.outcomes σ all;
      made = inv.made;
      number = inv.number;
      long = All-weaker (λ (t : Turn). length rest ≤ length t.full.items) (λ t. length behind ≤ length t.full.items) (λ t le. omega (arith, le, split.back_len)) c.runs.turns inv.long;
      room = omega (arith, inv.room, put.len, put.capacity, split.back_len);
    }

pub runs-preserved : goal.runs-preserved
runs-preserved g c =
    let inv = c.runs.invariant in
    let rest = c.runs.rest.now in
    let split = c.split_at-in_default.ensures in
    let front = c.split_at-in_default.result.0.now in
    let behind = c.split_at-in_default.result.1.now in
    let run = c.add_run-last.ensures in
    let w = turns_writer c.runs.turns c.runs.last in
    let after = turns_writer c.add_run-last.new.turns c.add_run-last.result in
    record {
      writers = λ σ all.
          (run_on σ w after rest front behind c.runs.outcomes.items c.add_run-last.new.outcomes.items split.by_index.0 (run.writers σ all) (run.outcomes σ all)).0 ∙ inv.writers σ all;
      outcomes = λ σ all.
          (run_on σ w after rest front behind c.runs.outcomes.items c.add_run-last.new.outcomes.items split.by_index.0 (run.writers σ all) (run.outcomes σ all)).1 ∙ inv.outcomes σ all;
      made = run.made;
      number = run.number ∙ inv.number;
      long = run.long (length behind)
          (All-weaker (λ (t : Turn). length rest ≤ length t.full.items) (λ t. length behind ≤ length t.full.items) (λ t le. omega (arith, le, split.back_len)) c.runs.turns inv.long);
      room = omega (arith, inv.room, run.len, run.capacity, split.back_len, split.front_len);
    }

pub returns-clause-writers : goal.returns-clause-writers
returns-clause-writers g c = λ σ all.
    let w = turns_writer c.runs.turns c.runs.last in
    let empty = sym c.is_empty.ensures ∙ c.runs-test.false in
    let zero : length c.runs.rest.now ≡ 0 = grind (arith, empty) in
    let none : c.runs.rest.now ≡ [] = nil_from_length c.runs.rest.now zero in
    sym (ap (with_items σ w) none ∙ with_items-nil _ σ w) ∙ c.runs.invariant.writers σ all

pub returns-clause-outcomes : goal.returns-clause-outcomes
returns-clause-outcomes g c = λ σ all.
    let w = turns_writer c.runs.turns c.runs.last in
    let old = c.runs.outcomes.items in
    let empty = sym c.is_empty.ensures ∙ c.runs-test.false in
    let zero : length c.runs.rest.now ≡ 0 = grind (arith, empty) in
    let none : c.runs.rest.now ≡ [] = nil_from_length c.runs.rest.now zero in
    sym (ap (λ z. old ++ z) (ap (outcomes_of σ w) none ∙ outcomes_of-nil _ σ w) ∙ append-nil old) ∙ c.runs.invariant.outcomes σ all
