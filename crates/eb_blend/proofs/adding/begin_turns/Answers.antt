use Rattle.std.proofs.Common.{◌≡◌, ℕ, ◌<◌, ◌≤◌, ◌++◌, ◌∷◌, [], length, ap, ◌∙◌, subst, arith, append_assoc, Bool, Vec, Global}
use Rattle.std.specs.Option.{IfSome}
use Rattle.std.specs.List.{All}
use Rattle.std.proofs.lemmas.List.Elements.{All-pop, All-push, All-same}
use Rattle.eb_blend.specs.declared.adding.Turn.{Turn}
use Rattle.eb_blend.specs.Adding.{writers_of}
use Rattle.eb_blend.proofs.Turns.{head_and_rest, writers_push}
use Rattle.eb_blend.proofs.adding.begin_turns.Goals as goal

pub loop-full-preserved : goal.loop-full-preserved
loop-full-preserved c =
    let inv = c.loop-full.invariant in
    let put = c.push_reserved.ensures in
    let rem = c.remove-writer.ensures in
    let ws = c.loop-full.writers.items in
    let ts = c.loop-full.turns.items in
    let x = c.remove-writer.result in
    let rest = c.remove-writer.new.self.items in
    let full = c.in-Some.full in
    let t : Turn = record { writer = x; full = full } in
    let popped = c.in-Some.ensures.len in
    let same = inv.same in
    let some : 0 < length ws = grind (arith, same, popped) in
    let both : (n : ℕ) → All (λ (f : Vec Bool Global). length f.items ≡ n) c.args.rooms.now.items
    → All (λ (f : Vec Bool Global). length f.items ≡ n) c.pop.new.self.items × IfSome c.pop.result (λ (f : Vec Bool Global). length f.items ≡ n) =
    λ n all. All-pop (λ (f : Vec Bool Global). length f.items ≡ n) c.loop-full.rooms.items c.pop.new.self.items c.pop.result c.pop.ensures.items (inv.rooms n all) in
    record {
      writers = ap (λ z. writers_of z ++ rest) put.items ∙ ap (λ z. z ++ rest) (writers_push ts t) ∙ append_assoc (writers_of ts) (x ∷ []) rest
          ∙ ap (λ z. writers_of ts ++ z) (ap (λ z. x ∷ z) rem.items ∙ head_and_rest ws x some rem.value) ∙ inv.writers;
      same = omega (arith, same, popped, rem.len);
      room = omega (arith, inv.room, put.len, put.capacity, rem.len);
      rooms = λ n all. (both n all).0;
      long = λ n all.
          let own : length full.items ≡ n = subst (λ o. IfSome o (λ (f : Vec Bool Global). length f.items ≡ n)) c.in-Some.is (both n all).1 in
          All-same (λ (u : Turn). n ≤ length u.full.items) c.push_reserved.new.self.items (ts ++ t ∷ []) put.items
          (All-push (λ (u : Turn). n ≤ length u.full.items) ts t (inv.long n all) (omega (arith, own)));
    }
