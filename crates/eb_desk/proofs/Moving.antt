-- One pass puts or takes, or a new one comes.
use Rattle.std.proofs.Common.{◌+◌, ◌≡◌, ◌≢◌, ℕ, zero, suc, ⊎_elim, List, [], ◌∷◌, ◌++◌, set, Bool, true, false, true≢false, refl, ap, sym, ◌∙◌, subst, arith}
use mathlib.Core.Option.{some, some-injective, some-ne-none}
use lib.ListN.{get_elem?}
use Rattle.crossbeam_queue.proofs.Lists.{at_set, at_snoc}
use Rattle.eb_desk.specs.declared.rule.Pair.{Pair}
use Rattle.eb_desk.specs.declared.rule.Hand.{Hand}
use Rattle.eb_desk.specs.declared.rule.View.{View}
use Rattle.eb_desk.specs.declared.rule.View.TheVariants.{Opening, At}
use Rattle.eb_desk.specs.Rule.{idle, weigh, hand_of, Balanced}
use Rattle.eb_desk.specs.Rule.{IsOpening}
use Rattle.eb_desk.specs.Steps.{home_of_view, Moves}
use Rattle.eb_desk.proofs.Weighing.{total_set, total_last}

module _ {D : Type 0} where
  pub alone_at : (x v : View D) (i : ℕ) → get_elem? (x ∷ []) i ≡ some v → (i ≡ 0) × (x ≡ v)
  alone_at x v zero e = (refl, some-injective x v e)
  alone_at x v (suc i) e = absurd (some-ne-none v (sym e))

  abbrev pub is_at : View D → Bool
  is_at Opening = false
  is_at (At home h) = true

  -- a pass is of an home, so the queue is no longer opening
  pub not_opening : {T : Type 0} (items : List T) (views : List (View D)) (by : ℕ) (home : D) (h : Hand) → get_elem? views by ≡ some (At home h) → IsOpening items views → ⊥
  not_opening items views by home h at o =
      let e = alone_at Opening (At home h) by (ap (λ (l : List (View D)). get_elem? l by) (sym o.1) ∙ at) in
      true≢false (sym (ap is_at e.1))

  abbrev pub Seats : D → (ℕ → Hand → Type 0) → List (View D) → Type 0
  Seats home kind views = (by : ℕ) (v : View D) → get_elem? views by ≡ some v → (h : Hand) × (v ≡ At home h) × kind by h

  pub seats_set : (home : D) (kind : ℕ → Hand → Type 0) (views : List (View D)) (by : ℕ) (k : Hand) → Seats home kind views → kind by k → Seats home kind (set views by (At home k))
  seats_set home kind views by k old mine j u e =
      ⊎_elim
      (λ (x : (j ≡ by) × (At home k ≡ u)). (k, sym x.1, subst (λ (i : ℕ). kind i k) (sym x.0) mine))
      (λ (x : (j ≢ by) × (get_elem? views j ≡ some u)). old j u x.1)
      (at_set views by j (At home k) u e)

  -- the view at a seat is of the home and of the kind
  pub seat_at : (home : D) (kind : ℕ → Hand → Type 0) (views : List (View D)) (by : ℕ) (old : D) (h : Hand) → Seats home kind views → get_elem? views by ≡ some (At old h)
      → (home ≡ old) × kind by h
  seat_at home kind views by old h all at =
      let s = all by (At old h) at in
      (ap (home_of_view home) (sym s.1), subst (kind by) (ap hand_of (sym s.1)) s.2)

  -- one pass moves: the rest follows from what it put and took, and what the queue gained
  pub moved : (home : D) (kind : ℕ → Hand → Type 0) (ps qs : List Pair) (m n : ℕ) (views : List (View D)) (by : ℕ) (h k : Hand) → Balanced home kind ps m views
      → get_elem? views by ≡ some (At home h) → kind by k
      → ((g : Pair → ℕ) → (weigh g k.put + weigh g h.taken) + weigh g ps ≡ (weigh g h.put + weigh g k.taken) + weigh g qs)
      → ((k.stops_put + h.stops_taken) + m ≡ (h.stops_put + k.stops_taken) + n)
      → Balanced home kind qs n (set views by (At home k))
  moved home kind ps qs m n views by h k b at is pairs stops = record {
    seated = seats_set home kind views by k b.seated is;
    pairs = λ g.
        let p = total_set (λ x. weigh g x.put) views by (At home h) (At home k) at in
        let t = total_set (λ x. weigh g x.taken) views by (At home h) (At home k) at in
        let e = pairs g in let o = b.pairs g in
        omega (arith, p, t, e, o);
    stopped =
        let p = total_set (λ x. x.stops_put) views by (At home h) (At home k) at in
        let t = total_set (λ x. x.stops_taken) views by (At home h) (At home k) at in
        let o = b.stopped in
        omega (arith, p, t, stops, o);
  }

  -- one pass comes to know or to permit more, and puts and takes nothing; kinds may change with it
  pub told : (home : D) (kind new : ℕ → Hand → Type 0) (ps : List Pair) (m : ℕ) (views : List (View D)) (by : ℕ) (h k : Hand) → Balanced home kind ps m views
      → get_elem? views by ≡ some (At home h) → k.put ≡ h.put → k.taken ≡ h.taken → k.stops_put ≡ h.stops_put → k.stops_taken ≡ h.stops_taken → new by k
      → ((j : ℕ) (x : Hand) → j ≢ by → kind j x → new j x) → Balanced home new ps m (set views by (At home k))
  told home kind new ps m views by h k b at put taken stops_put stops_taken is others = record {
    seated = λ j u e.
        ⊎_elim
        (λ (x : (j ≡ by) × (At home k ≡ u)). (k, sym x.1, subst (λ (i : ℕ). new i k) (sym x.0) is))
        (λ (x : (j ≢ by) × (get_elem? views j ≡ some u)). let s = b.seated j u x.1 in (s.0, s.1, others j s.0 x.0 s.2))
        (at_set views by j (At home k) u e);
    pairs = λ g.
        let p = total_set (λ x. weigh g x.put) views by (At home h) (At home k) at in
        let t = total_set (λ x. weigh g x.taken) views by (At home h) (At home k) at in
        let o = b.pairs g in
        omega (arith, p, t, o, ap (weigh g) put, ap (weigh g) taken);
    stopped =
        let p = total_set (λ x. x.stops_put) views by (At home h) (At home k) at in
        let t = total_set (λ x. x.stops_taken) views by (At home h) (At home k) at in
        let o = b.stopped in
        omega (arith, p, t, o, stops_put, stops_taken);
  }

  -- a new pass comes that has put and taken nothing
  pub joined_as : (home : D) (kind : ℕ → Hand → Type 0) (ps : List Pair) (m : ℕ) (views : List (View D)) (n : Hand) → Balanced home kind ps m views
      → n.put ≡ [] → n.taken ≡ [] → n.stops_put ≡ 0 → n.stops_taken ≡ 0 → ((by : ℕ) → kind by n) → Balanced home kind ps m (views ++ At home n ∷ [])
  joined_as home kind ps m views n b put taken stops_put stops_taken is = record {
    seated = λ j u e.
        ⊎_elim
        (λ x. b.seated j u x)
        (λ (same : At home n ≡ u). (n, sym same, is j))
        (at_snoc views (At home n) u j e);
    pairs = λ g.
        let p = total_last (λ x. weigh g x.put) views (At home n) in
        let t = total_last (λ x. weigh g x.taken) views (At home n) in
        let o = b.pairs g in
        omega (arith, p, t, o, ap (weigh g) put, ap (weigh g) taken);
    stopped =
        let p = total_last (λ x. x.stops_put) views (At home n) in
        let t = total_last (λ x. x.stops_taken) views (At home n) in
        let o = b.stopped in
        omega (arith, p, t, o, stops_put, stops_taken);
  }

  -- a new pass comes that has done nothing
  pub joined : (home : D) (kind : ℕ → Hand → Type 0) (ps : List Pair) (m : ℕ) (views : List (View D)) (puts : Bool) → Balanced home kind ps m views
      → ((by : ℕ) → kind by (idle puts)) → Balanced home kind ps m (views ++ At home (idle puts) ∷ [])
  joined home kind ps m views puts b is = joined_as home kind ps m views (idle puts) b refl refl refl refl is

  -- at first
  pub first_seats : (home : D) (kind : ℕ → Hand → Type 0) (puts : Bool) → kind 0 (idle puts) → Balanced home kind [] 0 (At home (idle puts) ∷ [])
  first_seats home kind puts is = record {
    seated = λ j u e. let x = alone_at (At home (idle puts)) u j e in (idle puts, sym x.1, subst (λ (i : ℕ). kind i (idle puts)) (sym x.0) is);
    pairs = λ g. omega arith;
    stopped = omega arith;
  }

  pub moves_at : (f : Hand → Hand) (home : D) (h : Hand) → Moves (At home h) f (At home (f h))
  moves_at f home h d k e = ap (λ (u : View D). At (home_of_view home u) (f (hand_of u))) e
