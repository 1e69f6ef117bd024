-- The invariants of clerk and worker after a call.
use Rattle.std.specs.Prelude.{Contains}
use Rattle.std.proofs.Common.{◌≡◌, ℕ, List, [], ◌∷◌, ◌++◌, true, false, refl, ap, sym, ◌∙◌, subst, MatchOption, Option, Some, None}
use Rattle.std.proofs.lemmas.List.Elements.{All-contains, Contains-push}
use Rattle.crossbeam_queue.specs.Passes.{Pass, view}
use Rattle.eb_desk.specs.declared.job.Task.{Task}
use Rattle.eb_desk.specs.declared.job.Task.TheVariants.{Job as a_job, Stop}
use Rattle.eb_desk.specs.declared.rule.Hand.{Hand}
use Rattle.eb_desk.specs.declared.rule.Pair.{Pair}
use Rattle.eb_desk.specs.declared.rule.View.{View}
use Rattle.eb_desk.specs.declared.rule.View.TheVariants.{At}
use Rattle.eb_desk.specs.Homes.{Home, numbers_of}
use Rattle.eb_desk.specs.Rule.{hand, clerk_hand, worker_hand, hand_of, IsMadeTask, IsPermit}
use Rattle.eb_desk.specs.Steps.{home_of_view, Moves, pair_out, taken_out, IsTaken, IsTakenOne, IsTakenAnswer, informed, KnowsOwn}
use Rattle.eb_desk.specs.Desk.{ClerkBook, WorkerBook, nowhere, IsClerk, IsWorker, clerk_book, worker_book, clerk_home, worker_home, with_task, with_taken, with_answered, with_put, with_answer}

-- a pass that is somewhere is at its home
pub at_home : (v : View Home) (home : Home) (h : Hand) → v ≡ At home h → v ≡ At (home_of_view nowhere v) (hand_of v)
at_home v home h e = subst (λ (u : View Home). u ≡ At (home_of_view nowhere u) (hand_of u)) (sym e) refl

module _ {A : Type 0} where
  -- what a permit knows
  pub permit_known : (home : Home) (p : Pair) (w : Pass A (View Home)) → IsPermit home p w → (hand_of (view w)).known ≡ p ∷ []
  permit_known home p w is = ap (λ (v : View Home). (hand_of v).known) is.knows

  -- what a permit is, at a home that is the same
  pub permit_at : (home old : Home) (p : Pair) (w : Pass A (View Home)) → home ≡ old → IsPermit old p w → view w ≡ At home (worker_hand [] (hand_of (view w)).known)
  permit_at home old p w same is =
      subst (λ (d : Home). view w ≡ At d (worker_hand [] (hand_of (view w)).known)) (sym same) (subst (λ (v : View Home). v ≡ At old (worker_hand [] (hand_of v).known)) (sym is.knows) refl)

  -- with a permit comes a pair that is known to be permitted
  pub now_known : (home : Home) (p : Pair) (w : Pass A (View Home)) (known : List Pair) → IsPermit home p w → Contains (known ++ (hand_of (view w)).known) p
  now_known home p w known is = subst (λ (ps : List Pair). Contains (known ++ ps) p) (sym (permit_known home p w is)) (Contains-push known p)

module _ {J A : Type 0} (pair : J → Pair) (answer_pair : A → Pair) (made : Home → J → Type 0) (answer_made : Home → A → Type 0) where
  -- a clerk by what its passes have put, taken and permitted
  pub clerk_is : (j k : Pass (Task J) (View Home)) (a b : Pass A (View Home)) (put : List Pair) (stops : ℕ) (taken answered known : List Pair) → IsClerk j a
      → k.me.1 ≡ j.me.1 → b.me.1 ≡ a.me.1 → b.table_id ≡ a.table_id → view k ≡ At (home_of_view nowhere (view j)) (hand true put stops taken 0)
      → view b ≡ At (home_of_view nowhere (view j)) (clerk_hand answered put known) → IsClerk k b
  clerk_is j k a b put stops taken answered known is jobs answers table at there = record {
    jobs = subst (λ (v : View Home). v ≡ At (home_of_view nowhere v) (hand true (hand_of v).put (hand_of v).stops_put (hand_of v).taken 0)) (sym at) refl;
    answers = subst (λ (u : View Home × View Home). u.1 ≡ At (home_of_view nowhere u.0) (clerk_hand (hand_of u.1).taken (hand_of u.0).put (hand_of u.1).known)) (λ i. (sym at i, sym there i)) refl;
    table = ap (λ (v : View Home). (home_of_view nowhere v).1) at ∙ is.table ∙ ap numbers_of (sym table);
    no_job = jobs ∙ is.no_job;
    no_answer = answers ∙ is.no_answer;
  }

  -- a worker by what its passes have taken and put
  pub worker_is : (j k : Pass (Task J) (View Home)) (a b : Pass A (View Home)) (taken : List Pair) (stops : ℕ) (put known : List Pair) → IsWorker j a
      → k.me.1 ≡ j.me.1 → b.me.1 ≡ a.me.1 → b.table_id ≡ a.table_id → view k ≡ At (home_of_view nowhere (view j)) (hand false [] 0 taken stops)
      → view b ≡ At (home_of_view nowhere (view j)) (worker_hand put known) → IsWorker k b
  worker_is j k a b taken stops put known is jobs answers table at there = record {
    jobs = subst (λ (v : View Home). v ≡ At (home_of_view nowhere v) (hand false [] 0 (hand_of v).taken (hand_of v).stops_taken)) (sym at) refl;
    answers = subst (λ (u : View Home × View Home). u.1 ≡ At (home_of_view nowhere u.0) (worker_hand (hand_of u.1).put (hand_of u.1).known)) (λ i. (sym at i, sym there i)) refl;
    table = ap (λ (v : View Home). (home_of_view nowhere v).1) at ∙ is.table ∙ ap numbers_of (sym table);
    no_job = jobs ∙ is.no_job;
    no_answer = answers ∙ is.no_answer;
  }

  -- the home of a clerk or a worker at its desk is what its pass knows
  pub clerk_home_is : (j : Pass (Task J) (View Home)) (a : Pass A (View Home)) → IsClerk j a → home_of_view nowhere (view j) ≡ clerk_home (clerk_book j a)
  clerk_home_is j a is = λ i. ((home_of_view nowhere (view j)).0, is.table i)

  pub worker_home_is : (j : Pass (Task J) (View Home)) (a : Pass A (View Home)) → IsWorker j a → home_of_view nowhere (view j) ≡ worker_home (worker_book j a)
  worker_home_is j a is = λ i. ((home_of_view nowhere (view j)).0, is.table i)

  -- a clerk that may have taken a job, and what it is to a contract
  pub clerk_took : (r : Option J) (j k : Pass (Task J) (View Home)) (a : Pass A (View Home)) → IsClerk j a → k.me.1 ≡ j.me.1
      → MatchOption r (view k ≡ view j) (λ x. Moves (view j) (λ h. pair_out h (pair x)) (view k) × IsTakenOne made (view j) x) → IsClerk k a
  clerk_took None j k a is same m = clerk_is j k a a _ _ _ _ _ is same refl refl (m ∙ is.jobs) is.answers
  clerk_took (Some x) j k a is same m = clerk_is j k a a _ _ _ _ _ is same refl refl (m.0 _ _ is.jobs) is.answers

  -- what a clerk is to a contract, by the views of its passes
  clerk_at : (j k : Pass (Task J) (View Home)) (a b : Pass A (View Home)) (v w : View Home) → k.table_id ≡ j.table_id → b.table_id ≡ a.table_id → view k ≡ v → view b ≡ w
      → clerk_book k b ≡ record {
        queues = record { jobs = j.table_id; answers = a.table_id };
        home = (home_of_view nowhere v).0;
        put = (hand_of v).put;
        stops = (hand_of v).stops_put;
        taken = (hand_of v).taken;
        answered = (hand_of w).taken;
      }
  clerk_at j k a b v w t u e f = λ i. record {
    queues = record { jobs = t i; answers = u i };
    home = (home_of_view nowhere (e i)).0;
    put = (hand_of (e i)).put;
    stops = (hand_of (e i)).stops_put;
    taken = (hand_of (e i)).taken;
    answered = (hand_of (f i)).taken;
  }

  clerk_took_book : (r : Option J) (j k : Pass (Task J) (View Home)) (a : Pass A (View Home)) → IsClerk j a → k.table_id ≡ j.table_id
      → MatchOption r (view k ≡ view j) (λ x. Moves (view j) (λ h. pair_out h (pair x)) (view k) × IsTakenOne made (view j) x)
      → MatchOption r (clerk_book k a ≡ clerk_book j a) (λ x. (clerk_book k a ≡ with_taken (clerk_book j a) (pair x)) × made (clerk_home (clerk_book j a)) x)
  clerk_took_book None j k a is t m = clerk_at j k a a (view j) (view a) t refl m refl
  clerk_took_book (Some x) j k a is t m = (clerk_at j k a a _ (view a) t refl (m.0 _ _ is.jobs) refl, subst (λ h. made h x) (clerk_home_is j a is) (m.1 _ _ is.jobs))

  -- the same, of a clerk that was seen as `old`
  pub clerk_takes : (r : Option J) (j k : Pass (Task J) (View Home)) (a : Pass A (View Home)) (old : ClerkBook (List ℕ)) → clerk_book j a ≡ old → IsClerk j a
      → k.table_id ≡ j.table_id → MatchOption r (view k ≡ view j) (λ x. Moves (view j) (λ h. pair_out h (pair x)) (view k) × IsTakenOne made (view j) x)
      → MatchOption r (clerk_book k a ≡ old) (λ x. (clerk_book k a ≡ with_taken old (pair x)) × made (clerk_home old) x)
  clerk_takes r j k a old seen is t m =
      subst (λ (o : ClerkBook (List ℕ)). MatchOption r (clerk_book k a ≡ o) (λ x. (clerk_book k a ≡ with_taken o (pair x)) × made (clerk_home o) x)) seen
      (clerk_took_book r j k a is t m)

  -- a clerk that may have taken an answer
  pub clerk_got : (r : Option A) (j : Pass (Task J) (View Home)) (a b : Pass A (View Home)) → IsClerk j a → b.me.1 ≡ a.me.1 → b.table_id ≡ a.table_id
      → MatchOption r (view b ≡ view a) (λ x. Moves (view a) (λ h. pair_out h (answer_pair x)) (view b) × IsTakenAnswer answer_pair answer_made (view a) x) → IsClerk j b
  clerk_got None j a b is same t m = clerk_is j j a b _ _ _ _ _ is refl same t is.jobs (m ∙ is.answers)
  clerk_got (Some x) j a b is same t m = clerk_is j j a b _ _ _ _ _ is refl same t is.jobs (m.0 _ _ is.answers)

  -- what it is to a contract, where it was seen as `old`: the answer is to a job that it put
  clerk_got_book : (r : Option A) (j : Pass (Task J) (View Home)) (a b : Pass A (View Home)) → IsClerk j a → b.table_id ≡ a.table_id
      → MatchOption r (view b ≡ view a) (λ x. Moves (view a) (λ h. pair_out h (answer_pair x)) (view b) × IsTakenAnswer answer_pair answer_made (view a) x)
      → MatchOption r (clerk_book j b ≡ clerk_book j a)
      (λ x. (clerk_book j b ≡ with_answered (clerk_book j a) (answer_pair x)) × answer_made (clerk_home (clerk_book j a)) x × Contains (clerk_book j a).put (answer_pair x))
  clerk_got_book None j a b is t m = clerk_at j j a b (view j) (view a) refl t refl m
  clerk_got_book (Some x) j a b is t m =
      let y = m.1 _ _ is.answers in
      (clerk_at j j a b (view j) _ refl t refl (m.0 _ _ is.answers), subst (λ h. answer_made h x) (clerk_home_is j a is) y.0, y.1)

  pub clerk_gets : (r : Option A) (j : Pass (Task J) (View Home)) (a b : Pass A (View Home)) (old : ClerkBook (List ℕ)) → clerk_book j a ≡ old → IsClerk j a → b.table_id ≡ a.table_id
      → MatchOption r (view b ≡ view a) (λ x. Moves (view a) (λ h. pair_out h (answer_pair x)) (view b) × IsTakenAnswer answer_pair answer_made (view a) x)
      → MatchOption r (clerk_book j b ≡ old) (λ x. (clerk_book j b ≡ with_answered old (answer_pair x)) × answer_made (clerk_home old) x × Contains old.put (answer_pair x))
  clerk_gets r j a b old seen is t m =
      subst (λ (o : ClerkBook (List ℕ)). MatchOption r (clerk_book j b ≡ o)
      (λ x. (clerk_book j b ≡ with_answered o (answer_pair x)) × answer_made (clerk_home o) x × Contains o.put (answer_pair x))) seen
      (clerk_got_book r j a b is t m)

  -- a worker that may have taken a task, and what it is to a contract
  pub worker_took : (r : Option (Task J)) (j k : Pass (Task J) (View Home)) (a : Pass A (View Home)) → IsWorker j a → k.me.1 ≡ j.me.1
      → MatchOption r (view k ≡ view j) (λ x. Moves (view j) (λ h. taken_out pair h x) (view k) × IsTaken made (view j) x) → IsWorker k a
  worker_took None j k a is same m = worker_is j k a a _ _ _ _ is same refl refl (m ∙ is.jobs) is.answers
  worker_took (Some (a_job x)) j k a is same m = worker_is j k a a _ _ _ _ is same refl refl (m.0 _ _ is.jobs) is.answers
  worker_took (Some Stop) j k a is same m = worker_is j k a a _ _ _ _ is same refl refl (m.0 _ _ is.jobs) is.answers

  -- what a worker is to a contract, by the view of its pass at the jobs
  worker_at : (j k : Pass (Task J) (View Home)) (a : Pass A (View Home)) (v : View Home) → k.table_id ≡ j.table_id → view k ≡ v
      → worker_book k a ≡ record {
        queues = record { jobs = j.table_id; answers = a.table_id };
        home = (home_of_view nowhere v).0;
        taken = (hand_of v).taken;
        stops = (hand_of v).stops_taken;
        put = (hand_of (view a)).put;
      }
  worker_at j k a v t e = λ i. record {
    queues = record { jobs = t i; answers = a.table_id };
    home = (home_of_view nowhere (e i)).0;
    taken = (hand_of (e i)).taken;
    stops = (hand_of (e i)).stops_taken;
    put = (hand_of (view a)).put;
  }

  worker_took_book : (r : Option (Task J)) (j k : Pass (Task J) (View Home)) (a : Pass A (View Home)) → IsWorker j a → k.table_id ≡ j.table_id
      → MatchOption r (view k ≡ view j) (λ x. Moves (view j) (λ h. taken_out pair h x) (view k) × IsTaken made (view j) x)
      → MatchOption r (worker_book k a ≡ worker_book j a)
      (λ x. (worker_book k a ≡ with_task pair (worker_book j a) x) × IsMadeTask made (worker_home (worker_book j a)) x)
  worker_took_book None j k a is t m = worker_at j k a (view j) t m
  worker_took_book (Some (a_job x)) j k a is t m =
      (worker_at j k a _ t (m.0 _ _ is.jobs), subst (λ h. made h x) (worker_home_is j a is) (m.1 _ _ is.jobs).0)
  worker_took_book (Some Stop) j k a is t m = (worker_at j k a _ t (m.0 _ _ is.jobs), tt)

  -- the same, of a worker that was seen as `old`
  pub worker_takes : (r : Option (Task J)) (j k : Pass (Task J) (View Home)) (a : Pass A (View Home)) (old : WorkerBook (List ℕ)) → worker_book j a ≡ old → IsWorker j a
      → k.table_id ≡ j.table_id → MatchOption r (view k ≡ view j) (λ x. Moves (view j) (λ h. taken_out pair h x) (view k) × IsTaken made (view j) x)
      → MatchOption r (worker_book k a ≡ old) (λ x. (worker_book k a ≡ with_task pair old x) × IsMadeTask made (worker_home old) x)
  worker_takes r j k a old seen is t m =
      subst (λ (o : WorkerBook (List ℕ)). MatchOption r (worker_book k a ≡ o) (λ x. (worker_book k a ≡ with_task pair o x) × IsMadeTask made (worker_home o) x)) seen
      (worker_took_book r j k a is t m)

  -- ---- permits

  pub clerk_permit : (j : Pass (Task J) (View Home)) (a w : Pass A (View Home)) (old : ClerkBook (List ℕ)) (p : Pair) → clerk_book j a ≡ old → IsClerk j a → IsPermit (clerk_home old) p w
      → view w ≡ At (home_of_view nowhere (view a)) (worker_hand [] (hand_of (view w)).known)
  clerk_permit j a w old p seen is permit =
      permit_at (home_of_view nowhere (view a)) (clerk_home old) p w (ap (home_of_view nowhere) is.answers ∙ clerk_home_is j a is ∙ ap clerk_home seen) permit

  pub worker_permit : (j : Pass (Task J) (View Home)) (a w : Pass A (View Home)) (old : WorkerBook (List ℕ)) (p : Pair) → worker_book j a ≡ old → IsWorker j a → IsPermit (worker_home old) p w
      → view w ≡ At (home_of_view nowhere (view a)) (worker_hand [] (hand_of (view w)).known)
  worker_permit j a w old p seen is permit =
      permit_at (home_of_view nowhere (view a)) (worker_home old) p w (ap (home_of_view nowhere) is.answers ∙ worker_home_is j a is ∙ ap worker_home seen) permit

  -- what a clerk finds by a permit
  pub clerk_finds : (j : Pass (Task J) (View Home)) (a b w : Pass A (View Home)) (old : ClerkBook (List ℕ)) (p : Pair) → clerk_book j a ≡ old → IsClerk j a → IsPermit (clerk_home old) p w
      → Moves (view a) (λ h. informed h (hand_of (view w)).known) (view b) → KnowsOwn (view b) → Contains old.put p
  clerk_finds j a b w old p seen is permit moved knows =
      let all = knows _ _ (moved _ _ is.answers) refl in
      subst (λ (o : ClerkBook (List ℕ)). Contains o.put p) seen
      (All-contains (Contains (hand_of (view j)).put) ((hand_of (view a)).known ++ (hand_of (view w)).known) p all (now_known (clerk_home old) p w (hand_of (view a)).known permit))

  -- a clerk that found it is to a contract what it was
  pub clerk_same : (j : Pass (Task J) (View Home)) (a b c w : Pass A (View Home)) (old : ClerkBook (List ℕ)) → clerk_book j a ≡ old → IsClerk j a → c.table_id ≡ a.table_id
      → Moves (view a) (λ h. informed h (hand_of (view w)).known) (view b) → view c ≡ view b → clerk_book j c ≡ old
  clerk_same j a b c w old seen is t moved same = clerk_at j j a c (view j) _ refl t refl (same ∙ moved _ _ is.answers) ∙ seen

  -- a clerk that asked
  pub clerk_asked : (j k : Pass (Task J) (View Home)) (a b : Pass A (View Home)) (old : ClerkBook (List ℕ)) (p : Pair) (answered known : List Pair) → clerk_book j a ≡ old → IsClerk j a
      → k.table_id ≡ j.table_id → b.table_id ≡ a.table_id
      → view k ≡ At (home_of_view nowhere (view j)) (hand true ((hand_of (view j)).put ++ p ∷ []) (hand_of (view j)).stops_put (hand_of (view j)).taken 0)
      → view b ≡ At (home_of_view nowhere (view j)) (clerk_hand (hand_of (view a)).taken answered known) → clerk_book k b ≡ with_put old p
  clerk_asked j k a b old p answered known seen is t u jobs answers = clerk_at j k a b _ _ t u jobs answers ∙ ap (λ (o : ClerkBook (List ℕ)). with_put o p) seen

  -- a worker that put an answer
  pub worker_put : (j : Pass (Task J) (View Home)) (a b : Pass A (View Home)) (old : WorkerBook (List ℕ)) (p : Pair) (known : List Pair) → worker_book j a ≡ old → b.table_id ≡ a.table_id
      → view b ≡ At (home_of_view nowhere (view j)) (worker_hand ((hand_of (view a)).put ++ p ∷ []) known) → worker_book j b ≡ with_answer old p
  worker_put j a b old p known seen t e =
      (λ i. record {
        queues = record { jobs = j.table_id; answers = t i };
        home = (home_of_view nowhere (view j)).0;
        taken = (hand_of (view j)).taken;
        stops = (hand_of (view j)).stops_taken;
        put = (hand_of (e i)).put;
      })
      ∙ ap (λ (o : WorkerBook (List ℕ)). with_answer o p) seen
