-- What passes put and took, added up.
use Rattle.std.proofs.Common.{◌+◌, ◌≡◌, ℕ, zero, suc, ◌<◌, List, [], ◌∷◌, ◌++◌, set, map, refl, ap, sym, arith}
use Rattle.std.proofs.lemmas.List.Elements.{All-push, All-head, All-tail, All-nil}
use mathlib.Core.Option.{some, some-injective, some-ne-none}
use lib.ListN.{get_elem?}
use Rattle.eb_desk.specs.declared.job.Task.{Task}
use Rattle.eb_desk.specs.declared.job.Task.TheVariants.{Job as a_job, Stop}
use Rattle.eb_desk.specs.declared.rule.Pair.{Pair}
use Rattle.eb_desk.specs.declared.rule.Hand.{Hand}
use Rattle.eb_desk.specs.declared.rule.View.{View}
use Rattle.eb_desk.specs.Rule.{job_pairs, stops_of, weigh, hand_of, total, IsAboveEach, HaveRisingNumbers}

module _ {D : Type 0} where
  pub total_set : (f : Hand → ℕ) (views : List (View D)) (by : ℕ) (v w : View D) → get_elem? views by ≡ some v → total f (set views by w) + f (hand_of v) ≡ total f views + f (hand_of w)
  total_set f [] by v w e = absurd (some-ne-none v (sym e))
  total_set f (x ∷ xs) zero v w e = let same = ap (λ (u : View D). f (hand_of u)) (some-injective x v e) in omega (arith, same)
  total_set f (x ∷ xs) (suc i) v w e = let h = total_set f xs i v w e in omega (arith, h)

  pub total_last : (f : Hand → ℕ) (views : List (View D)) (v : View D) → total f (views ++ v ∷ []) ≡ total f views + f (hand_of v)
  total_last f [] v = omega arith
  total_last f (x ∷ xs) v = let h = total_last f xs v in omega (arith, h)

  -- where one pass alone has some of f, it has all
  pub total_zero : (f : Hand → ℕ) (views : List (View D)) → ((by : ℕ) (v : View D) → get_elem? views by ≡ some v → f (hand_of v) ≡ 0) → total f views ≡ 0
  total_zero f [] z = refl
  total_zero f (x ∷ xs) z = let h = z 0 x refl in let t = total_zero f xs (λ by v e. z (suc by) v e) in omega (arith, h, t)

pub weigh_last : (g : Pair → ℕ) (ps : List Pair) (p : Pair) → weigh g (ps ++ p ∷ []) ≡ weigh g ps + g p
weigh_last g [] p = omega arith
weigh_last g (x ∷ xs) p = let h = weigh_last g xs p in omega (arith, h)

module _ {J : Type 0} (pair : J → Pair) where
  -- how much the task's pair weighs
  abbrev pub weight : (Pair → ℕ) → Task J → ℕ
  weight g t = weigh g (job_pairs pair (t ∷ []))

  pub weigh_tasks_last : (g : Pair → ℕ) (ts : List (Task J)) (t : Task J) → weigh g (job_pairs pair (ts ++ t ∷ [])) ≡ weigh g (job_pairs pair ts) + weight g t
  weigh_tasks_last g [] t = omega arith
  weigh_tasks_last g (a_job j ∷ ts) t = let h = weigh_tasks_last g ts t in omega (arith, h)
  weigh_tasks_last g (Stop ∷ ts) t = weigh_tasks_last g ts t

  pub weigh_tasks_first : (g : Pair → ℕ) (t : Task J) (ts : List (Task J)) → weigh g (job_pairs pair (t ∷ ts)) ≡ weight g t + weigh g (job_pairs pair ts)
  weigh_tasks_first g (a_job j) ts = omega arith
  weigh_tasks_first g Stop ts = omega arith

  pub stops_last : (ts : List (Task J)) (t : Task J) → stops_of (ts ++ t ∷ []) ≡ stops_of ts + stops_of (t ∷ [])
  stops_last [] t = omega arith
  stops_last (a_job j ∷ ts) t = stops_last ts t
  stops_last (Stop ∷ ts) t = let h = stops_last ts t in omega (arith, h)

  pub stops_first : (t : Task J) (ts : List (Task J)) → stops_of (t ∷ ts) ≡ stops_of (t ∷ []) + stops_of ts
  stops_first (a_job j) ts = omega arith
  stops_first Stop ts = omega arith

  pub weigh_answers_last : (g : Pair → ℕ) (xs : List J) (a : J) → weigh g (map pair (xs ++ a ∷ [])) ≡ weigh g (map pair xs) + g (pair a)
  weigh_answers_last g [] a = omega arith
  weigh_answers_last g (x ∷ xs) a = let h = weigh_answers_last g xs a in omega (arith, h)

pub rising_last : (ps : List Pair) (p : Pair) → HaveRisingNumbers ps → IsAboveEach p.number ps → HaveRisingNumbers (ps ++ p ∷ [])
rising_last [] p r a = (All-nil _, tt)
rising_last (x ∷ xs) p r a = (All-push (λ q. x.number < q.number) xs p r.0 (All-head (λ q. q.number < p.number) x xs a), rising_last xs p r.1 (All-tail (λ q. q.number < p.number) x xs a))
