-- Each step keeps the rule of the jobs.
use Rattle.std.proofs.Common.{◌+◌, ◌≡◌, ℕ, ◌⊎◌, inl, inr, ⊎_elim, List, [], ◌∷◌, ◌++◌, set, Bool, true, false, true≢false, refl, ap, sym, ◌∙◌, subst, arith}
use Rattle.std.proofs.lemmas.List.Elements.{All-push, All-head, All-tail, All-nil}
use mathlib.Core.Option.{some, some-injective}
use lib.ListN.{get_elem?}
use Rattle.crossbeam_queue.specs.Fifo.{Pushes, Pops, Forks}
use Rattle.eb_desk.specs.declared.job.Task.{Task}
use Rattle.eb_desk.specs.declared.job.Task.TheVariants.{Job as a_job, Stop}
use Rattle.eb_desk.specs.declared.rule.Pair.{Pair}
use Rattle.eb_desk.specs.declared.rule.Hand.{Hand}
use Rattle.eb_desk.specs.declared.rule.View.{View}
use Rattle.eb_desk.specs.declared.rule.View.TheVariants.{Opening, At}
use Rattle.eb_desk.specs.Rule.{idle, job_pairs, stops_of, weigh, hand_of, Balanced, IsTaker}
use Rattle.eb_desk.specs.Rule.{IsMadeTask, IsOpening, JobsOf, KeepsJobs}
use Rattle.eb_desk.specs.Steps.{put_in, taken_out, home_of_view, Moves, opened, IsTaken, MayPut}
use Rattle.eb_desk.proofs.Weighing.{weigh_last, weigh_tasks_last, stops_last, stops_first, rising_last, total_zero}
use Rattle.eb_desk.proofs.Moving.{alone_at, is_at, not_opening, seat_at, moved, joined, first_seats, moves_at}

module _ {J D : Type 0} (pair : J → Pair) (made : D → J → Type 0) where
  pub jobs_begin : (KeepsJobs pair made) [] (Opening ∷ [])
  jobs_begin = inl (refl, refl)

  -- the rule at a pass of an home
  jobs_at : (items : List (Task J)) (views : List (View D)) (by : ℕ) (home : D) (h : Hand) → (KeepsJobs pair made) items views → get_elem? views by ≡ some (At home h)
      → (b : JobsOf pair made home items views) × IsTaker b.clerk by h
  jobs_at items views by home h keeps at =
      ⊎_elim
      (λ (o : IsOpening items views). absurd (not_opening items views by home h at o))
      (λ (x : (d : D) × JobsOf pair made d items views).
      let s = seat_at x.0 (IsTaker x.1.clerk) views by home h x.1.balanced.seated at in
      (subst (λ (d : D). (b : JobsOf pair made d items views) × IsTaker b.clerk by h) s.0 (x.1, s.1)))
      keeps

  put_kind : (clerk by : ℕ) (h : Hand) (x : Task J) → IsTaker clerk by h → h.puts ≡ true → MayPut pair h x → IsTaker clerk by (put_in pair h x)
  put_kind clerk by h (a_job j) is puts may = record { puts = λ e. let o = is.puts e in (o.0, rising_last h.put (pair j) o.1 may); takes = λ e. absurd (true≢false (sym puts ∙ e)) }
  put_kind clerk by h Stop is puts may = record { puts = is.puts; takes = λ e. absurd (true≢false (sym puts ∙ e)) }

  put_pairs : (g : Pair → ℕ) (h : Hand) (x : Task J) (items : List (Task J))
      → (weigh g (put_in pair h x).put + weigh g h.taken) + weigh g (job_pairs pair items) ≡ (weigh g h.put + weigh g (put_in pair h x).taken) + weigh g (job_pairs pair (items ++ x ∷ []))
  put_pairs g h (a_job j) items = let a = weigh_last g h.put (pair j) in let b = weigh_tasks_last pair g items (a_job j) in omega (arith, a, b)
  put_pairs g h Stop items = let b = weigh_tasks_last pair g items Stop in omega (arith, b)

  put_stops : (h : Hand) (x : Task J) (items : List (Task J))
      → ((put_in pair h x).stops_put + h.stops_taken) + stops_of items ≡ (h.stops_put + (put_in pair h x).stops_taken) + stops_of (items ++ x ∷ [])
  put_stops h (a_job j) items = let b = stops_last pair items (a_job j) in omega (arith, b)
  put_stops h Stop items = let b = stops_last pair items Stop in omega (arith, b)

  taken_kind : (clerk by : ℕ) (h : Hand) (x : Task J) → IsTaker clerk by h → IsTaker clerk by (taken_out pair h x)
  taken_kind clerk by h (a_job j) is = record { puts = is.puts; takes = is.takes }
  taken_kind clerk by h Stop is = record { puts = is.puts; takes = is.takes }

  taken_pairs : (g : Pair → ℕ) (h : Hand) (x : Task J) (items : List (Task J))
      → (weigh g (taken_out pair h x).put + weigh g h.taken) + weigh g (job_pairs pair (x ∷ items)) ≡ (weigh g h.put + weigh g (taken_out pair h x).taken) + weigh g (job_pairs pair items)
  taken_pairs g h (a_job j) items = let a = weigh_last g h.taken (pair j) in omega (arith, a)
  taken_pairs g h Stop items = omega arith

  taken_stops : (h : Hand) (x : Task J) (items : List (Task J))
      → ((taken_out pair h x).stops_put + h.stops_taken) + stops_of (x ∷ items) ≡ (h.stops_put + (taken_out pair h x).stops_taken) + stops_of items
  taken_stops h (a_job j) items = omega arith
  taken_stops h Stop items = omega arith

  -- where the clerk has put no stop, the queue has none
  no_stop : (home : D) (clerk : ℕ) (ps : List Pair) (m : ℕ) (views : List (View D)) (by : ℕ) (h : Hand) → Balanced home (IsTaker clerk) ps m views
      → get_elem? views by ≡ some (At home h) → h.puts ≡ true → h.stops_put ≡ 0 → m ≡ 0
  no_stop home clerk ps m views by h b at puts none =
      let mine = (seat_at home (IsTaker clerk) views by home h b.seated at).1.puts puts in
      let zero' = total_zero (λ x. x.stops_put) views (λ j v e. let s = b.seated j v e in by_kind j v s.0 s.1 s.2 e s.0.puts refl) in
      let o = b.stopped in
      omega (arith, zero', o)
    where
      by_kind : (j : ℕ) (v : View D) (k : Hand) → v ≡ At home k → IsTaker clerk j k → get_elem? views j ≡ some v → (c : Bool) → k.puts ≡ c → (hand_of v).stops_put ≡ 0
      by_kind j v k is kind e true c =
          let here : j ≡ by = (kind.puts c).0 ∙ sym ((seat_at home (IsTaker clerk) views by home h b.seated at).1.puts puts).0 in
          let same : v ≡ At home h = some-injective v (At home h) (sym e ∙ (ap (λ (i : ℕ). get_elem? views i) here ∙ at)) in
          ap (λ (u : View D). (hand_of u).stops_put) same ∙ none
      by_kind j v k is kind e false c = ap (λ (u : View D). (hand_of u).stops_put) is ∙ (kind.takes c).1

  -- the queue of jobs: push, pop, split
  pub puts_task : (n by : ℕ) (v : View D) (x : Task J) (home : D) (h : Hand) → v ≡ At home h → h.puts ≡ true → IsMadeTask made home x → MayPut pair h x
      → Pushes (KeepsJobs pair made) n by v x (Moves v (λ k. put_in pair k x))
  puts_task n by v x home h is puts mine may = subst (λ (u : View D). Pushes (KeepsJobs pair made) n by u x (Moves u (λ k. put_in pair k x))) (sym is) (λ items views room keeps at.
      let r = jobs_at items views by home h keeps at in
      let b = r.0 in (
        At home (put_in pair h x),
        inr (
          home,
          record {
            clerk = b.clerk;
            all_made = All-push (IsMadeTask made home) items x b.all_made mine;
            balanced = moved home (IsTaker b.clerk) (job_pairs pair items) (job_pairs pair (items ++ x ∷ [])) (stops_of items) (stops_of (items ++ x ∷ []))
                views by h (put_in pair h x) b.balanced at (put_kind b.clerk by h x r.1 puts may) (λ g. put_pairs g h x items) (put_stops h x items);
          },
        ),
        moves_at (λ k. put_in pair k x) home h,
      ))

  pub takes_task : (by : ℕ) (v : View D) (home : D) (h : Hand) → v ≡ At home h → Pops (KeepsJobs pair made) by v (λ x w. Moves v (λ k. taken_out pair k x) w × IsTaken made v x)
  takes_task by v home h is = subst (λ (u : View D). Pops (KeepsJobs pair made) by u (λ x w. Moves u (λ k. taken_out pair k x) w × IsTaken made u x)) (sym is) (λ x items views keeps at.
      let r = jobs_at (x ∷ items) views by home h keeps at in
      let b = r.0 in (
        At home (taken_out pair h x),
        inr (
          home,
          record {
            clerk = b.clerk;
            all_made = All-tail (IsMadeTask made home) x items b.all_made;
            balanced = moved home (IsTaker b.clerk) (job_pairs pair (x ∷ items)) (job_pairs pair items) (stops_of (x ∷ items)) (stops_of items) views by h (taken_out pair h x) b.balanced at
                (taken_kind b.clerk by h x r.1) (λ g. taken_pairs g h x items) (taken_stops h x items);
          },
        ),
        (
          moves_at (λ k. taken_out pair k x) home h,
          λ d k e. subst (λ (u : View D). IsMadeTask made (home_of_view home u) x × ((hand_of u).puts ≡ true → (hand_of u).stops_put ≡ 0 → stops_of (x ∷ []) ≡ 0)) e (
            All-head (IsMadeTask made home) x items b.all_made,
            λ puts none.
                let z = no_stop home b.clerk (job_pairs pair (x ∷ items)) (stops_of (x ∷ items)) views by h b.balanced at puts none in
                let s = stops_first pair x items in
                omega (arith, z, s),
          ),
        ),
      ))

  -- a split of the first pass, or of the clerk's
  pub splits_jobs : (by : ℕ) (v : View D) (home : D) → (v ≡ Opening) ⊎ ((h : Hand) × (v ≡ At home h)) → Forks (KeepsJobs pair made) by v (At home (opened true v)) (At home (idle false))
  splits_jobs by v home is items views keeps at = ⊎_elim (λ (e : v ≡ Opening). at_first e) (λ (x : (h : Hand) × (v ≡ At home h)). later x.0 x.1) is
    where
      idle_taker : (clerk j : ℕ) → IsTaker clerk j (idle false)
      idle_taker clerk j = record { puts = λ e. absurd (true≢false (sym e)); takes = λ e. (refl, refl) }

      later : (h : Hand) → v ≡ At home h → (KeepsJobs pair made) items (set views by (At home (opened true v)) ++ At home (idle false) ∷ [])
      later h e =
          let at' : get_elem? views by ≡ some (At home h) = at ∙ ap (λ (u : View D). some u) e in
          let r = jobs_at items views by home h keeps at' in
          let b = r.0 in
          let same = moved home (IsTaker b.clerk) (job_pairs pair items) (job_pairs pair items) (stops_of items) (stops_of items) views by h h b.balanced at' r.1
          (λ g. omega arith) (omega arith) in
          let more = joined home (IsTaker b.clerk) (job_pairs pair items) (stops_of items) (set views by (At home h)) false same (idle_taker b.clerk) in
          subst (λ (u : View D). (KeepsJobs pair made) items (set views by (At home (opened true u)) ++ At home (idle false) ∷ [])) (sym e)
          (inr (home, record { clerk = b.clerk; all_made = b.all_made; balanced = more }))

      at_first : v ≡ Opening → (KeepsJobs pair made) items (set views by (At home (opened true v)) ++ At home (idle false) ∷ [])
      at_first e = ⊎_elim
          (λ (o : IsOpening items views).
          let here = alone_at Opening v by (ap (λ (l : List (View D)). get_elem? l by) (sym o.1) ∙ at) in
          let start = first_seats home (IsTaker 0) true (record { puts = λ _. (refl, tt); takes = λ e. absurd (true≢false e) }) in
          let more = joined home (IsTaker 0) [] 0 (At home (idle true) ∷ []) false start (idle_taker 0) in
          let all : JobsOf pair made home [] (At home (idle true) ∷ At home (idle false) ∷ []) = record { clerk = 0; all_made = All-nil (IsMadeTask made home); balanced = more } in
          subst (λ (y : (List (Task J) × List (View D)) × (ℕ × View D)). (KeepsJobs pair made) y.0.0 (set y.0.1 y.1.0 (At home (opened true y.1.1)) ++ At home (idle false) ∷ []))
          (λ i. ((sym o.0 i, sym o.1 i), (sym here.0 i, sym e i))) (inr (home, all)))
          (λ (x : (d : D) × JobsOf pair made d items views).
          let s = x.1.balanced.seated by v at in absurd (true≢false (ap is_at (sym s.1 ∙ e))))
          keeps
