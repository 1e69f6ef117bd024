-- Each step keeps the rule of the answers.
use Rattle.std.proofs.Common.{◌≡◌, ◌≢◌, ℕ, ◌⊎◌, inl, inr, ⊎_elim, List, [], ◌∷◌, ◌++◌, set, map, true, false, true≢false, refl, ap, sym, ◌∙◌, subst, arith}
use Rattle.std.specs.Prelude.{All, Contains}
use Rattle.std.proofs.lemmas.List.Elements.{All-push, All-head, All-tail, All-nil, All-cons, All-append, All-weaker, All-contains, Contains-append_left, Contains-push}
use mathlib.Core.Option.{some}
use lib.ListN.{get_elem?}
use Rattle.crossbeam_queue.specs.Fifo.{Pushes, Pops, Forks, Merges, Learns}
use Rattle.crossbeam_queue.proofs.Lists.{at_set}
use Rattle.eb_desk.specs.declared.rule.Pair.{Pair}
use Rattle.eb_desk.specs.declared.rule.Hand.{Hand}
use Rattle.eb_desk.specs.declared.rule.View.{View}
use Rattle.eb_desk.specs.declared.rule.View.TheVariants.{Opening, At}
use Rattle.eb_desk.specs.Rule.{idle, hand_of, worker_hand, IsPutter}
use Rattle.eb_desk.specs.Rule.{IsOpening, AnswersOf, KeepsAnswers}
use Rattle.eb_desk.specs.Steps.{home_of_view, Moves, opened, after_answer, pair_out, IsTakenAnswer, permitting, informed, KnowsOwn}
use Rattle.eb_desk.proofs.Weighing.{weigh_last, weigh_answers_last}
use Rattle.eb_desk.proofs.Moving.{alone_at, is_at, not_opening, seat_at, moved, told, joined, joined_as, first_seats, moves_at}

-- what is permitted stays permitted
more_permitted : (ps : List Pair) (p : Pair) (qs : List Pair) → All (Contains ps) qs → All (Contains (ps ++ p ∷ [])) qs
more_permitted ps p qs a = All-weaker (Contains ps) (Contains (ps ++ p ∷ [])) (λ q c. Contains-append_left ps (p ∷ []) q c) qs a

-- a pass that puts, and has done nothing
idle_putter : (clerk : ℕ) (ps : List Pair) (j : ℕ) → IsPutter clerk ps j (idle true)
idle_putter clerk ps j = record { puts = λ e. refl; takes = λ e. absurd (true≢false e); knows = All-nil (Contains ps) }

module _ {A D : Type 0} (pair : A → Pair) (made : D → A → Type 0) where
  pub answers_begin : (KeepsAnswers pair made) [] (Opening ∷ [])
  answers_begin = inl (refl, refl)

  -- the rule at a pass of an home
  answers_at : (items : List A) (views : List (View D)) (by : ℕ) (home : D) (h : Hand) → (KeepsAnswers pair made) items views → get_elem? views by ≡ some (At home h)
      → (b : AnswersOf pair made home items views) × IsPutter b.clerk b.permitted by h
  answers_at items views by home h keeps at =
      ⊎_elim
      (λ (o : IsOpening items views). absurd (not_opening items views by home h at o))
      (λ (x : (d : D) × AnswersOf pair made d items views).
      let s = seat_at x.0 (IsPutter x.1.clerk x.1.permitted) views by home h x.1.balanced.seated at in
      (subst (λ (d : D). (b : AnswersOf pair made d items views) × IsPutter b.clerk b.permitted by h) s.0 (x.1, s.1)))
      keeps

  -- the queue of answers: push, pop, split
  pub puts_answer : (n by : ℕ) (v : View D) (x : A) (home : D) (h : Hand) → v ≡ At home h → h.puts ≡ true → made home x → Contains h.known (pair x)
      → Pushes (KeepsAnswers pair made) n by v x (Moves v (λ k. after_answer k (pair x)))
  puts_answer n by v x home h is puts mine may = subst (λ (u : View D). Pushes (KeepsAnswers pair made) n by u x (Moves u (λ k. after_answer k (pair x)))) (sym is) (λ items views room keeps at.
      let r = answers_at items views by home h keeps at in
      let b = r.0 in (
        At home (after_answer h (pair x)),
        inr (
          home,
          record {
            clerk = b.clerk;
            permitted = b.permitted;
            all_made = All-push (made home) items x b.all_made mine;
            all_permitted = All-push (λ (a : A). Contains b.permitted (pair a)) items x b.all_permitted (All-contains (Contains b.permitted) h.known (pair x) r.1.knows may);
            balanced = moved home (IsPutter b.clerk b.permitted) (map pair items) (map pair (items ++ x ∷ [])) 0 0 views by h (after_answer h (pair x)) b.balanced at
                (record { puts = r.1.puts; takes = λ e. absurd (true≢false (sym puts ∙ e)); knows = r.1.knows })
                (λ g. let a = weigh_last g h.put (pair x) in let c = weigh_answers_last pair g items x in omega (arith, a, c)) (omega arith);
          },
        ),
        moves_at (λ k. after_answer k (pair x)) home h,
      ))

  pub takes_answer : (by : ℕ) (v : View D) (home : D) (h : Hand) → v ≡ At home h → h.puts ≡ false
      → Pops (KeepsAnswers pair made) by v (λ x w. Moves v (λ k. pair_out k (pair x)) w × IsTakenAnswer pair made v x)
  takes_answer by v home h is puts = subst (λ (u : View D). Pops (KeepsAnswers pair made) by u (λ x w. Moves u (λ k. pair_out k (pair x)) w × IsTakenAnswer pair made u x)) (sym is)
      (λ x items views keeps at.
      let r = answers_at (x ∷ items) views by home h keeps at in
      let b = r.0 in (
        At home (pair_out h (pair x)),
        inr (
          home,
          record {
            clerk = b.clerk;
            permitted = b.permitted;
            all_made = All-tail (made home) x items b.all_made;
            all_permitted = All-tail (λ (a : A). Contains b.permitted (pair a)) x items b.all_permitted;
            balanced = moved home (IsPutter b.clerk b.permitted) (map pair (x ∷ items)) (map pair items) 0 0 views by h (pair_out h (pair x)) b.balanced at
                (record { puts = λ e. absurd (true≢false (sym e ∙ puts)); takes = r.1.takes; knows = r.1.knows })
                (λ g. let a = weigh_last g h.taken (pair x) in omega (arith, a)) (omega arith);
          },
        ),
        (
          moves_at (λ k. pair_out k (pair x)) home h,
          λ d k e. subst (λ (u : View D). made (home_of_view home u) x × Contains (hand_of u).permitted (pair x)) e (
            All-head (made home) x items b.all_made,
            subst (λ (ps : List Pair). Contains ps (pair x)) (sym (r.1.takes puts).2) (All-head (λ (a : A). Contains b.permitted (pair a)) x items b.all_permitted),
          ),
        ),
      ))

  pub splits_answers : (by : ℕ) (v : View D) (home : D) → (v ≡ Opening) ⊎ ((h : Hand) × (v ≡ At home h))
      → Forks (KeepsAnswers pair made) by v (At home (opened false v)) (At home (idle true))
  splits_answers by v home is items views keeps at = ⊎_elim (λ (e : v ≡ Opening). at_first e) (λ (x : (h : Hand) × (v ≡ At home h)). later x.0 x.1) is
    where
      later : (h : Hand) → v ≡ At home h → (KeepsAnswers pair made) items (set views by (At home (opened false v)) ++ At home (idle true) ∷ [])
      later h e =
          let at' : get_elem? views by ≡ some (At home h) = at ∙ ap (λ (u : View D). some u) e in
          let r = answers_at items views by home h keeps at' in
          let b = r.0 in
          let same = moved home (IsPutter b.clerk b.permitted) (map pair items) (map pair items) 0 0 views by h h b.balanced at' r.1 (λ g. omega arith) (omega arith) in
          let more = joined home (IsPutter b.clerk b.permitted) (map pair items) 0 (set views by (At home h)) true same (idle_putter b.clerk b.permitted) in
          subst (λ (u : View D). (KeepsAnswers pair made) items (set views by (At home (opened false u)) ++ At home (idle true) ∷ [])) (sym e)
          (inr (home, record { clerk = b.clerk; permitted = b.permitted; all_made = b.all_made; all_permitted = b.all_permitted; balanced = more }))

      at_first : v ≡ Opening → (KeepsAnswers pair made) items (set views by (At home (opened false v)) ++ At home (idle true) ∷ [])
      at_first e = ⊎_elim
          (λ (o : IsOpening items views).
          let here = alone_at Opening v by (ap (λ (l : List (View D)). get_elem? l by) (sym o.1) ∙ at) in
          let start = first_seats home (IsPutter 0 []) false (record { puts = λ e. refl; takes = λ e. (refl, refl, refl); knows = All-nil (Contains []) }) in
          let more = joined home (IsPutter 0 []) [] 0 (At home (idle false) ∷ []) true start (idle_putter 0 []) in
          let all : AnswersOf pair made home [] (At home (idle false) ∷ At home (idle true) ∷ []) =
          record { clerk = 0; permitted = []; all_made = All-nil (made home); all_permitted = All-nil (λ (a : A). Contains [] (pair a)); balanced = more } in
          subst (λ (y : (List A × List (View D)) × (ℕ × View D)). (KeepsAnswers pair made) y.0.0 (set y.0.1 y.1.0 (At home (opened false y.1.1)) ++ At home (idle true) ∷ []))
          (λ i. ((sym o.0 i, sym o.1 i), (sym here.0 i, sym e i))) (inr (home, all)))
          (λ (x : (d : D) × AnswersOf pair made d items views).
          let s = x.1.balanced.seated by v at in absurd (true≢false (ap is_at (sym s.1 ∙ e))))
          keeps

  -- the clerk permits one more pair
  pub splits_permit : (nowhere : D) (by : ℕ) (v : View D) (home : D) (h : Hand) (p : Pair) → v ≡ At home h → h.puts ≡ false
      → Forks (KeepsAnswers pair made) by v (At (home_of_view nowhere v) (permitting (hand_of v) p)) (At (home_of_view nowhere v) (worker_hand [] (p ∷ [])))
  splits_permit nowhere by v home h p is puts =
      subst (λ (u : View D). Forks (KeepsAnswers pair made) by u (At (home_of_view nowhere u) (permitting (hand_of u) p)) (At (home_of_view nowhere u) (worker_hand [] (p ∷ [])))) (sym is)
      (λ items views keeps at.
      let r = answers_at items views by home h keeps at in
      let b = r.0 in
      let ps = b.permitted ++ p ∷ [] in
      let mine : IsPutter b.clerk ps by (permitting h p) = record {
        puts = λ e. absurd (true≢false (sym e ∙ puts));
        takes = λ e. let t = r.1.takes e in (t.0, t.1, ap (λ l. l ++ p ∷ []) t.2);
        knows = more_permitted b.permitted p h.known r.1.knows;
      } in
      let others : (j : ℕ) (x : Hand) → j ≢ by → IsPutter b.clerk b.permitted j x → IsPutter b.clerk ps j x = λ j x far kind. record {
        puts = kind.puts;
        takes = λ e. absurd (far ((kind.takes e).0 ∙ sym (r.1.takes puts).0));
        knows = more_permitted b.permitted p x.known kind.knows;
      } in
      let new : (j : ℕ) → IsPutter b.clerk ps j (worker_hand [] (p ∷ [])) = λ j. record {
        puts = λ e. refl;
        takes = λ e. absurd (true≢false e);
        knows = All-cons (Contains ps) p [] (Contains-push b.permitted p) (All-nil (Contains ps));
      } in
      let same = told home (IsPutter b.clerk b.permitted) (IsPutter b.clerk ps) (map pair items) 0 views by h (permitting h p) b.balanced at refl refl refl refl mine others in
      let more = joined_as home (IsPutter b.clerk ps) (map pair items) 0 (set views by (At home (permitting h p))) (worker_hand [] (p ∷ [])) same refl refl refl refl new in
      inr (
        home,
        record {
          clerk = b.clerk;
          permitted = ps;
          all_made = b.all_made;
          all_permitted = All-weaker (λ (a : A). Contains b.permitted (pair a)) (λ (a : A). Contains ps (pair a)) (λ a c. Contains-append_left b.permitted (p ∷ []) (pair a) c) items b.all_permitted;
          balanced = more;
        },
      ))

  -- a permit comes to a pass
  pub joins_permit : (by other : ℕ) (v w : View D) (home : D) (h : Hand) (ps : List Pair) → v ≡ At home h → w ≡ At home (worker_hand [] ps)
      → Merges (KeepsAnswers pair made) by v other w (At home (informed (hand_of v) (hand_of w).known)) (At home (idle true))
  joins_permit by other v w home h ps is permit =
      subst (λ (u : View D × View D). Merges (KeepsAnswers pair made) by u.0 other u.1 (At home (informed (hand_of u.0) (hand_of u.1).known)) (At home (idle true))) (λ i. (sym is i, sym permit i))
      (λ items views keeps at far there.
      let r = answers_at items views by home h keeps at in
      let b = r.0 in
      let kind = IsPutter b.clerk b.permitted in
      let before : get_elem? views other ≡ some (At home (worker_hand [] ps)) =
      ⊎_elim
      (λ (x : (other ≡ by) × (At home (informed h ps) ≡ At home (worker_hand [] ps))). absurd (far x.0))
      (λ (x : (other ≢ by) × (get_elem? views other ≡ some (At home (worker_hand [] ps)))). x.1)
      (at_set views by other (At home (informed h ps)) (At home (worker_hand [] ps)) there) in
      let its = (seat_at home kind views other home (worker_hand [] ps) b.balanced.seated before).1 in
      let mine : kind by (informed h ps) = record { puts = r.1.puts; takes = r.1.takes; knows = All-append (Contains b.permitted) h.known ps r.1.knows its.knows } in
      let one = told home kind kind (map pair items) 0 views by h (informed h ps) b.balanced at refl refl refl refl mine (λ j x f k. k) in
      let two = told home kind kind (map pair items) 0 (set views by (At home (informed h ps))) other (worker_hand [] ps) (idle true) one there refl refl refl refl
      (idle_putter b.clerk b.permitted other) (λ j x f k. k) in
      inr (home, record { clerk = b.clerk; permitted = b.permitted; all_made = b.all_made; all_permitted = b.all_permitted; balanced = two }))

  -- what the clerk's pass knows to be permitted, it has permitted
  pub learns_permits : (by : ℕ) (v : View D) (home : D) (h : Hand) → v ≡ At home h → Learns (KeepsAnswers pair made) by v (λ items. KnowsOwn v)
  learns_permits by v home h is = subst (λ (u : View D). Learns (KeepsAnswers pair made) by u (λ items. KnowsOwn u)) (sym is) (λ items views keeps at d k e puts.
      let r = answers_at items views by home h keeps at in
      let mine = r.1.takes (ap (λ (u : View D). (hand_of u).puts) e ∙ puts) in
      subst (λ (u : View D). All (Contains (hand_of u).permitted) (hand_of u).known) e (subst (λ (ps : List Pair). All (Contains ps) h.known) (sym mine.2) r.1.knows))
