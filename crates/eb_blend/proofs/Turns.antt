-- Documents that are added one after the other, and by the parts concurrently.
use Rattle.std.proofs.Common.{◌≡◌, ◌≢◌, ℕ, zero, suc, ◌+◌, ◌%◌, ◌<◌, ◌≤◌, ◌==◌, inl, inr, Bool, true, false, List, [], ◌∷◌, ◌++◌, length, take, get_or}
use Rattle.std.proofs.Common.{Option, Some, None, refl, ap, ap₂, sym, ◌∙◌, subst, arith, append_assoc}
use Rattle.std.specs.Option.{is_some}
use Rattle.std.specs.List.{All, remove}
use Rattle.std.proofs.lemmas.List.Elements.{All-get_or, All-from_get_or}
use Rattle.std.specs.Prelude.{Result, Ok, Err, nat_le, if◌then◌else◌}
use Rattle.std.proofs.lemmas.Bool.{cases_Bool, cases_eq, eq-eqb, lt-leb, le-leb, false≢true}
use Rattle.std.proofs.lemmas.Bool.Decides.{eqb_tells}
use Rattle.std.proofs.lemmas.List.{get_or-map, get_or-set_same, get_or-set_other, length-set}
use Rattle.std.proofs.Math.Nat.{mod-lt}
use Rattle.eb_base.specs.Document.{Doc}
use Rattle.eb_base.specs.Setting.{Setting}
use Rattle.eb_place.specs.Room.{has_room}
use Rattle.eb_engine.specs.Tokens.{HistoryToken}
use Rattle.eb_table.specs.Known.{Words}
use Rattle.eb_blend.specs.declared.adding.Turn.{Turn}
use Rattle.eb_blend.specs.declared.refusal.BlendRefusal.{BlendRefusal}
use Rattle.eb_blend.specs.declared.refusal.BlendRefusal.TheVariants.{NotRising, Full}
use Rattle.eb_blend.specs.Parts.{WriterTokens, indexes_of, histories_of, history, part_of, IsAbove}
use Rattle.eb_blend.specs.Adding.{refusal_of_part, refusal_above, refusal_of, with_outcome, outcome, with_item, outcomes_of, with_items}
use Rattle.eb_blend.specs.Adding.{IsRising, newest, newest_of, AreRising, part_with, part_after, is_full}
use Rattle.eb_blend.specs.Adding.{part_with_document, is_without_room, told_item, told_document, told_from, last_after, last_after_document, last_from}
use Rattle.eb_blend.specs.Adding.{HasTurned, writers_of, fulls_of, turns_writer}
use Rattle.eb_blend.proofs.Each.{as_many, length_map}

pub next_items : {A : Type 0} (xs : List A) (n : ℕ) (x : A) → n < length xs → x ≡ get_or xs n x → take (n + 1) xs ≡ take n xs ++ x ∷ []
next_items [] n x lt a = absurd (omega (arith, lt))
next_items (y ∷ xs) zero x lt a = ap (λ z. z ∷ []) (sym a)
next_items (y ∷ xs) (suc n) x lt a = let e : suc n + 1 ≡ suc (n + 1) = omega arith in rw e (ap (λ z. y ∷ z) (next_items xs n x (omega (arith, lt)) a))

pub long_front : {A : Type 0} (xs : List A) (n : ℕ) → n ≤ length xs → length (take n xs) ≡ n
long_front xs zero le = refl
long_front [] (suc n) le = absurd (omega (arith, le))
long_front (x ∷ xs) (suc n) le = ap suc (long_front xs n (omega (arith, le)))

pub whole_front : {A : Type 0} (xs : List A) (n : ℕ) → length xs ≤ n → take n xs ≡ xs
whole_front [] zero le = refl
whole_front [] (suc n) le = refl
whole_front (x ∷ xs) zero le = absurd (omega (arith, le))
whole_front (x ∷ xs) (suc n) le = ap (λ z. x ∷ z) (whole_front xs n (omega (arith, le)))

pub none_of : {A : Type 0} (o : Option A) → is_some o ≡ false → o ≡ None
none_of None e = refl
none_of (Some x) e = absurd (false≢true (sym e))

rising_refusal : (last : Option ℕ) (d : Doc) (r : Option BlendRefusal) → IsAbove last d.id → refusal_above last d r ≡ r
rising_refusal None d r up = refl
rising_refusal (Some l) d r up = let e : nat_le d.id l ≡ false = lt-leb d.id l up in rw e refl

pub low_refusal : (σ : Setting) (w : WriterTokens) (d : Doc) (l : ℕ) → w.last ≡ Some l → d.id ≤ l → refusal_of σ w d ≡ Some (NotRising l)
low_refusal σ w d l is low =
    let e : nat_le d.id l ≡ true = le-leb d.id l low in
    ap (λ o. refusal_above o d (refusal_of_part σ w.histories d)) is ∙ ap (λ (b : Bool). if b then Some (NotRising l) else refusal_of_part σ w.histories d) e

eqb_other : (a b : ℕ) → a ≢ b → (a == b) ≡ false
eqb_other a b ne = elim (eqb_tells a b) [ inl t ↦ absurd (ne t.1) | inr t ↦ t.0 ]

-- what is above an id is above each below it
above_lower : (low : Option ℕ) (a b : ℕ) → IsAbove low a → a < b → IsAbove low b
above_lower None a b up lt = tt
above_lower (Some l) a b up lt = omega (arith, up, lt)

-- ---- one item, where its id rises

-- a document that has room, or has none
module _ (σ : Setting) (w : WriterTokens) (d : Doc) (up : IsAbove w.last d.id) where
  roomy : has_room σ (history w.histories (part_of w.histories d)) d ≡ true → refusal_of σ w d ≡ None
  roomy r = rising_refusal w.last d (refusal_of_part σ w.histories d) up ∙ ap (λ (b : Bool). if b then None else Some (Full (part_of w.histories d))) r

  crowded : has_room σ (history w.histories (part_of w.histories d)) d ≡ false → refusal_of σ w d ≡ Some (Full (part_of w.histories d))
  crowded r = rising_refusal w.last d (refusal_of_part σ w.histories d) up ∙ ap (λ (b : Bool). if b then None else Some (Full (part_of w.histories d))) r

  -- the part that it goes to, and another
  own_roomy : (n : ℕ) → length w.histories ≡ n → 0 < n → has_room σ (history w.histories (part_of w.histories d)) d ≡ true
      → history (with_outcome w d (refusal_of σ w d)).histories (part_of w.histories d) ≡ history w.histories (part_of w.histories d) ++ d ∷ []
  own_roomy n long some r =
      let lt : part_of w.histories d < length w.histories = mod-lt d.id {m = length w.histories} (omega (arith, long, some)) in
      ap (λ o. history (with_outcome w d o).histories (part_of w.histories d)) (roomy r)
      ∙ get_or-set_same w.histories (part_of w.histories d) (history w.histories (part_of w.histories d) ++ d ∷ []) [] lt

  own_crowded : has_room σ (history w.histories (part_of w.histories d)) d ≡ false
      → history (with_outcome w d (refusal_of σ w d)).histories (part_of w.histories d) ≡ history w.histories (part_of w.histories d)
  own_crowded r = ap (λ o. history (with_outcome w d o).histories (part_of w.histories d)) (crowded r)

  other : (p : ℕ) → p ≢ part_of w.histories d → history (with_outcome w d (refusal_of σ w d)).histories p ≡ history w.histories p
  other p ne = elim (cases_Bool (has_room σ (history w.histories (part_of w.histories d)) d)) [
    | inl r ↦ ap (λ o. history (with_outcome w d o).histories p) (roomy r)
        ∙ get_or-set_other w.histories (part_of w.histories d) p (history w.histories (part_of w.histories d) ++ d ∷ []) [] ne
    | inr r ↦ ap (λ o. history (with_outcome w d o).histories p) (crowded r)
  ]

  with_other : (n p : ℕ) (h : List Doc) → p ≢ d.id % n → part_with_document σ n p h d ≡ h
  with_other n p h ne = let e : (d.id % n == p) ≡ false = eqb_other (d.id % n) p (λ q. ne (sym q)) in rw e refl

  with_own : (n : ℕ) (h : List Doc) (b : Bool) → has_room σ h d ≡ b → part_with_document σ n (d.id % n) h d ≡ (if b then h ++ d ∷ [] else h)
  with_own n h b r = let e : (d.id % n == d.id % n) ≡ true = eq-eqb (d.id % n) (d.id % n) refl in rw e (ap (λ (c : Bool). if c then h ++ d ∷ [] else h) r)

  document_step : (n p : ℕ) → length w.histories ≡ n → 0 < n → history (with_outcome w d (refusal_of σ w d)).histories p ≡ part_with_document σ n p (history w.histories p) d
  document_step n p long some =
      let q : part_of w.histories d ≡ d.id % n = ap (λ m. d.id % m) long in
      elim (cases_eq p (d.id % n)) [
        | inl e ↦ subst (λ r. history (with_outcome w d (refusal_of σ w d)).histories r ≡ part_with_document σ n r (history w.histories r) d) (sym e)
            (subst (λ r. history (with_outcome w d (refusal_of σ w d)).histories r ≡ part_with_document σ n (d.id % n) (history w.histories r) d) q
            (elim (cases_Bool (has_room σ (history w.histories (part_of w.histories d)) d)) [
              | inl r ↦ own_roomy n long some r ∙ sym (with_own n (history w.histories (part_of w.histories d)) true r)
              | inr r ↦ own_crowded r ∙ sym (with_own n (history w.histories (part_of w.histories d)) false r)
            ]))
        | inr ne ↦ other p (λ s. ne (s ∙ q)) ∙ sym (with_other n p (history w.histories p) ne)
      ]

  -- what its part says of it
  full_own : (n : ℕ) (h : List Doc) (b : Bool) → has_room σ h d ≡ b → is_without_room σ n (d.id % n) h d ≡ (if b then false else true)
  full_own n h b r = let e : (d.id % n == d.id % n) ≡ true = eq-eqb (d.id % n) (d.id % n) refl in rw e (ap (λ (c : Bool). if c then false else true) r)

  document_told : (fulls : List (List Bool)) (n i : ℕ) → length fulls ≡ n → length w.histories ≡ n
      → get_or (get_or fulls (d.id % n) []) i false ≡ is_without_room σ n (d.id % n) (history w.histories (d.id % n)) d → told_document fulls i d ≡ refusal_of σ w d
  document_told fulls n i long many is =
      let q : part_of w.histories d ≡ d.id % n = ap (λ m. d.id % m) many in
      let at : told_document fulls i d ≡ (if get_or (get_or fulls (d.id % n) []) i false then Some (Full (d.id % n)) else None) =
      ap (λ m. if get_or (get_or fulls (d.id % m) []) i false then Some (Full (d.id % m)) else None) long in
      elim (cases_Bool (has_room σ (history w.histories (part_of w.histories d)) d)) [
        | inl r ↦
            let here : has_room σ (history w.histories (d.id % n)) d ≡ true = ap (λ m. has_room σ (history w.histories m) d) (sym q) ∙ r in
            at ∙ ap (λ (b : Bool). if b then Some (Full (d.id % n)) else None) (is ∙ full_own n (history w.histories (d.id % n)) true here) ∙ sym (roomy r)
        | inr r ↦
            let here : has_room σ (history w.histories (d.id % n)) d ≡ false = ap (λ m. has_room σ (history w.histories m) d) (sym q) ∙ r in
            at ∙ ap (λ (b : Bool). if b then Some (Full (d.id % n)) else None) (is ∙ full_own n (history w.histories (d.id % n)) false here)
            ∙ ap (λ m. Some (Full m)) (sym q) ∙ sym (crowded r)
      ]

outcome_long : (w : WriterTokens) (d : Doc) (r : Option BlendRefusal) → length (with_outcome w d r).histories ≡ length w.histories
outcome_long w d None = length-set w.histories (part_of w.histories d) (history w.histories (part_of w.histories d) ++ d ∷ [])
outcome_long w d (Some r) = refl

outcome_indexes : (w : WriterTokens) (d : Doc) (r : Option BlendRefusal) → (with_outcome w d r).indexes ≡ w.indexes
outcome_indexes w d None = refl
outcome_indexes w d (Some r) = refl

outcome_last : (w : WriterTokens) (d : Doc) (r : Option BlendRefusal) → (with_outcome w d r).last ≡ last_after_document r w.last d
outcome_last w d None = refl
outcome_last w d (Some r) = refl

pub with_items-nil : (E : Type 0) (σ : Setting) (w : WriterTokens) → with_items {E = E} σ w [] ≡ w
unfolding with_items
with_items-nil E σ w = refl

pub outcomes_of-nil : (E : Type 0) (σ : Setting) (w : WriterTokens) → outcomes_of {E = E} σ w [] ≡ []
unfolding outcomes_of
outcomes_of-nil E σ w = refl

pub part_after-nil : (E : Type 0) (σ : Setting) (n p : ℕ) (h : List Doc) → part_after {E = E} σ n p h [] ≡ h
unfolding part_after
part_after-nil E σ n p h = refl

pub told_from-nil : (E : Type 0) (fulls : List (List Bool)) (i : ℕ) → told_from {E = E} fulls i [] ≡ []
unfolding told_from
told_from-nil E fulls i = refl

pub last_from-nil : (E : Type 0) (fulls : List (List Bool)) (i : ℕ) (last : Option ℕ) → last_from {E = E} fulls i last [] ≡ last
unfolding last_from
last_from-nil E fulls i last = refl

pub newest_of-nil : (E : Type 0) (last : Option ℕ) → newest_of {E = E} last [] ≡ last
unfolding newest_of
newest_of-nil E last = refl

pub rising-nil : (E : Type 0) (last : Option ℕ) → AreRising {E = E} last []
unfolding AreRising
rising-nil E last = tt

module _ {E : Type 0} where
  -- ---- one more item

  pub with_items-append : (σ : Setting) (w : WriterTokens) (xs ys : List (Result Doc E)) → with_items σ w (xs ++ ys) ≡ with_items σ (with_items σ w xs) ys
  unfolding with_items
  with_items-append σ w [] ys = refl
  with_items-append σ w (x ∷ xs) ys = with_items-append σ (with_item σ w x) xs ys

  pub outcomes_of-append : (σ : Setting) (w : WriterTokens) (xs ys : List (Result Doc E)) → outcomes_of σ w (xs ++ ys) ≡ outcomes_of σ w xs ++ outcomes_of σ (with_items σ w xs) ys
  unfolding outcomes_of with_items
  outcomes_of-append σ w [] ys = refl
  outcomes_of-append σ w (x ∷ xs) ys = ap (λ z. outcome σ w x ∷ z) (outcomes_of-append σ (with_item σ w x) xs ys)

  pub with_items-one : (σ : Setting) (w : WriterTokens) (x : Result Doc E) → with_items σ w (x ∷ []) ≡ with_item σ w x
  unfolding with_items
  with_items-one σ w x = refl

  pub outcomes_of-one : (σ : Setting) (w : WriterTokens) (x : Result Doc E) → outcomes_of σ w (x ∷ []) ≡ outcome σ w x ∷ []
  unfolding outcomes_of
  outcomes_of-one σ w x = refl

  pub part_after-push : (σ : Setting) (n p : ℕ) (h : List Doc) (xs : List (Result Doc E)) (x : Result Doc E)
      → part_after σ n p h (xs ++ x ∷ []) ≡ part_with σ n p (part_after σ n p h xs) x
  unfolding part_after
  part_after-push σ n p h [] x = refl
  part_after-push σ n p h (y ∷ xs) x = part_after-push σ n p (part_with σ n p h y) xs x

  pub told_from-push : (fulls : List (List Bool)) (i : ℕ) (xs : List (Result Doc E)) (x : Result Doc E) (m : ℕ) → m ≡ i + length xs
      → told_from fulls i (xs ++ x ∷ []) ≡ told_from fulls i xs ++ told_item fulls m x ∷ []
  unfolding told_from
  told_from-push fulls i [] x m e = let s : i ≡ m = omega (arith, e) in ap (λ k. told_item fulls k x ∷ []) s
  told_from-push fulls i (y ∷ xs) x m e = ap (λ z. told_item fulls i y ∷ z) (told_from-push fulls (i + 1) xs x m (omega (arith, e)))

  pub last_from-push : (fulls : List (List Bool)) (i : ℕ) (last : Option ℕ) (xs : List (Result Doc E)) (x : Result Doc E) (m : ℕ) → m ≡ i + length xs
      → last_from fulls i last (xs ++ x ∷ []) ≡ last_after (told_item fulls m x) (last_from fulls i last xs) x
  unfolding last_from
  last_from-push fulls i last [] x m e = let s : i ≡ m = omega (arith, e) in ap (λ k. last_after (told_item fulls k x) last x) s
  last_from-push fulls i last (y ∷ xs) x m e = last_from-push fulls (i + 1) (last_after (told_item fulls i y) last y) xs x m (omega (arith, e))

  -- ---- ids that rise

  pub newest_of-push : (last : Option ℕ) (xs : List (Result Doc E)) (x : Result Doc E) → newest_of last (xs ++ x ∷ []) ≡ newest (newest_of last xs) x
  unfolding newest_of
  newest_of-push last [] x = refl
  newest_of-push last (y ∷ xs) x = newest_of-push (newest last y) xs x

  pub rising-push : (last : Option ℕ) (xs : List (Result Doc E)) (x : Result Doc E) → AreRising last xs → IsRising (newest_of last xs) x → AreRising last (xs ++ x ∷ [])
  unfolding AreRising newest_of
  rising-push last [] x are up = (up, tt)
  rising-push last (y ∷ xs) x are up = (are.0, rising-push (newest last y) xs x are.1 up)

  are_rising_lower : (low : Option ℕ) (a : ℕ) (xs : List (Result Doc E)) → IsAbove low a → AreRising (Some a) xs → AreRising low xs
  unfolding AreRising
  are_rising_lower low a [] up are = tt
  are_rising_lower low a (Ok d ∷ xs) up are = (above_lower low a d.id up are.0, are.1)
  are_rising_lower low a (Err e ∷ xs) up are = (tt, are_rising_lower low a xs up are.1)

  -- ---- any item, where its id rises

  step : (σ : Setting) (w : WriterTokens) (n p : ℕ) (x : Result Doc E) → length w.histories ≡ n → 0 < n → IsRising w.last x
      → history (with_item σ w x).histories p ≡ part_with σ n p (history w.histories p) x
  step σ w n p (Ok d) long some up = document_step σ w d up n p long some
  step σ w n p (Err e) long some up = refl

  told_step : (σ : Setting) (w : WriterTokens) (fulls : List (List Bool)) (n i : ℕ) (x : Result Doc E) → length fulls ≡ n → length w.histories ≡ n → 0 < n → IsRising w.last x
      → ((p : ℕ) → p < n → get_or (get_or fulls p []) i false ≡ is_full σ n p (history w.histories p) x) → told_item fulls i x ≡ outcome σ w x
  told_step σ w fulls n i (Ok d) long many some up is = document_told σ w d up fulls n i long many (is (d.id % n) (mod-lt d.id {m = n} (omega (arith, some))))
  told_step σ w fulls n i (Err e) long many some up is = refl

  pub step_long : (σ : Setting) (w : WriterTokens) (x : Result Doc E) → length (with_item σ w x).histories ≡ length w.histories
  step_long σ w (Ok d) = outcome_long w d (refusal_of σ w d)
  step_long σ w (Err e) = refl

  step_indexes : (σ : Setting) (w : WriterTokens) (x : Result Doc E) → (with_item σ w x).indexes ≡ w.indexes
  step_indexes σ w (Ok d) = outcome_indexes w d (refusal_of σ w d)
  step_indexes σ w (Err e) = refl

  pub all_long : (σ : Setting) (w : WriterTokens) (xs : List (Result Doc E)) → length (with_items σ w xs).histories ≡ length w.histories
  unfolding with_items
  all_long σ w [] = refl
  all_long σ w (x ∷ xs) = all_long σ (with_item σ w x) xs ∙ step_long σ w x

  pub all_indexes : (σ : Setting) (w : WriterTokens) (xs : List (Result Doc E)) → (with_items σ w xs).indexes ≡ w.indexes
  unfolding with_items
  all_indexes σ w [] = refl
  all_indexes σ w (x ∷ xs) = all_indexes σ (with_item σ w x) xs ∙ step_indexes σ w x

  step_last : (σ : Setting) (w : WriterTokens) (x : Result Doc E) → (with_item σ w x).last ≡ last_after (outcome σ w x) w.last x
  step_last σ w (Ok d) = outcome_last w d (refusal_of σ w d)
  step_last σ w (Err e) = refl

  outcome_rising : (w : WriterTokens) (d : Doc) (r : Option BlendRefusal) (xs : List (Result Doc E)) → IsAbove w.last d.id → AreRising (Some d.id) xs → AreRising (with_outcome w d r).last xs
  outcome_rising w d None xs up are = are
  outcome_rising w d (Some r) xs up are = are_rising_lower w.last d.id xs up are

  step_rising : (σ : Setting) (w : WriterTokens) (x : Result Doc E) (xs : List (Result Doc E)) → IsRising w.last x → AreRising (newest w.last x) xs → AreRising (with_item σ w x).last xs
  step_rising σ w (Ok d) xs up are = outcome_rising w d (refusal_of σ w d) xs up are
  step_rising σ w (Err e) xs up are = are

  -- ---- all items, where their ids rise

  pub parts_apart : (σ : Setting) (w : WriterTokens) (n p : ℕ) (xs : List (Result Doc E)) → length w.histories ≡ n → 0 < n → AreRising w.last xs
      → history (with_items σ w xs).histories p ≡ part_after σ n p (history w.histories p) xs
  unfolding with_items part_after AreRising
  parts_apart σ w n p [] long some are = refl
  parts_apart σ w n p (x ∷ xs) long some are =
      parts_apart σ (with_item σ w x) n p xs (step_long σ w x ∙ long) some (step_rising σ w x xs are.0 are.1)
      ∙ ap (λ h. part_after σ n p h xs) (step σ w n p x long some are.0)

  -- the parts say of the items from i on what comes of them after this writer
  abbrev pub AreTold : Setting → WriterTokens → List (List Bool) → ℕ → ℕ → List (Result Doc E) → Type 0
  AreTold σ w fulls n i xs = (p j : ℕ) (x : Result Doc E) → p < n → j < length xs → x ≡ get_or xs j x
      → get_or (get_or fulls p []) (i + j) false ≡ is_full σ n p (part_after σ n p (history w.histories p) (take j xs)) x

  told_here : (σ : Setting) (w : WriterTokens) (fulls : List (List Bool)) (n i : ℕ) (x : Result Doc E) (xs : List (Result Doc E)) → AreTold σ w fulls n i (x ∷ xs)
      → (p : ℕ) → p < n → get_or (get_or fulls p []) i false ≡ is_full σ n p (history w.histories p) x
  unfolding part_after
  told_here σ w fulls n i x xs are p lt = let e : i + 0 ≡ i = omega arith in ap (λ k. get_or (get_or fulls p []) k false) (sym e) ∙ are p 0 x lt (omega arith) refl

  told_behind : (σ : Setting) (w : WriterTokens) (fulls : List (List Bool)) (n i : ℕ) (x : Result Doc E) (xs : List (Result Doc E)) → length w.histories ≡ n → 0 < n → IsRising w.last x
      → AreTold σ w fulls n i (x ∷ xs) → AreTold σ (with_item σ w x) fulls n (i + 1) xs
  unfolding part_after
  told_behind σ w fulls n i x xs long some up are = λ p j y lt inside is.
      let e : i + suc j ≡ i + 1 + j = omega arith in
      ap (λ k. get_or (get_or fulls p []) k false) (sym e) ∙ are p (suc j) y lt (omega (arith, inside)) is
      ∙ ap (λ h. is_full σ n p (part_after σ n p h (take j xs)) y) (sym (step σ w n p x long some up))

  told_all : (σ : Setting) (w : WriterTokens) (fulls : List (List Bool)) (n i : ℕ) (xs : List (Result Doc E)) → length fulls ≡ n → length w.histories ≡ n → 0 < n
      → AreRising w.last xs → AreTold σ w fulls n i xs → told_from fulls i xs ≡ outcomes_of σ w xs
  unfolding told_from outcomes_of AreRising
  told_all σ w fulls n i [] many long some are tell = refl
  told_all σ w fulls n i (x ∷ xs) many long some are tell =
      ap₂ (λ y ys. y ∷ ys) (told_step σ w fulls n i x many long some are.0 (told_here σ w fulls n i x xs tell))
      (told_all σ (with_item σ w x) fulls n (i + 1) xs many (step_long σ w x ∙ long) some (step_rising σ w x xs are.0 are.1) (told_behind σ w fulls n i x xs long some are.0 tell))

  last_all : (σ : Setting) (w : WriterTokens) (fulls : List (List Bool)) (n i : ℕ) (xs : List (Result Doc E)) → length fulls ≡ n → length w.histories ≡ n → 0 < n
      → AreRising w.last xs → AreTold σ w fulls n i xs → last_from fulls i w.last xs ≡ (with_items σ w xs).last
  unfolding last_from with_items AreRising
  last_all σ w fulls n i [] many long some are tell = refl
  last_all σ w fulls n i (x ∷ xs) many long some are tell =
      ap (λ r. last_from fulls (i + 1) (last_after r w.last x) xs) (told_step σ w fulls n i x many long some are.0 (told_here σ w fulls n i x xs tell))
      ∙ ap (λ l. last_from fulls (i + 1) l xs) (sym (step_last σ w x))
      ∙ last_all σ (with_item σ w x) fulls n (i + 1) xs many (step_long σ w x ∙ long) some (step_rising σ w x xs are.0 are.1) (told_behind σ w fulls n i x xs long some are.0 tell)

  pub told_outcomes : (σ : Setting) (w : WriterTokens) (fulls : List (List Bool)) (n : ℕ) (xs : List (Result Doc E)) → length fulls ≡ n → length w.histories ≡ n → 0 < n
      → AreRising w.last xs → AreTold σ w fulls n 0 xs → told_from fulls 0 xs ≡ outcomes_of σ w xs
  told_outcomes σ w fulls n xs many long some are tell = told_all σ w fulls n 0 xs many long some are tell

  pub told_last : (σ : Setting) (w : WriterTokens) (fulls : List (List Bool)) (n : ℕ) (xs : List (Result Doc E)) → length fulls ≡ n → length w.histories ≡ n → 0 < n
      → AreRising w.last xs → AreTold σ w fulls n 0 xs → last_from fulls 0 w.last xs ≡ (with_items σ w xs).last
  told_last σ w fulls n xs many long some are tell = last_all σ w fulls n 0 xs many long some are tell

-- ---- the parts' turns

pub by_gets : {A : Type 0} (d : A) (xs ys : List A) → length xs ≡ length ys → ((p : ℕ) → p < length xs → get_or xs p d ≡ get_or ys p d) → xs ≡ ys
by_gets d [] [] e f = refl
by_gets d [] (y ∷ ys) e f = absurd (omega (arith, e))
by_gets d (x ∷ xs) [] e f = absurd (omega (arith, e))
by_gets d (x ∷ xs) (y ∷ ys) e f = ap₂ (λ z zs. z ∷ zs) (f 0 (omega arith)) (by_gets d xs ys (omega (arith, e)) (λ p lt. f (suc p) (omega (arith, lt))))

first_of : (ts : List Turn) → 0 < length ts → Turn
first_of [] lt = absurd (omega (arith, lt))
first_of (t ∷ ts) lt = t

pub turns_long : (ts : List Turn) → length (writers_of ts) ≡ length ts
turns_long ts = length_map (λ (t : Turn). t.writer) ts

histories_long : (ts : List Turn) → length (histories_of (writers_of ts)) ≡ length ts
histories_long ts = length_map (λ (t : HistoryToken). t.docs) (writers_of ts) ∙ turns_long ts

docs_at : (ts : List Turn) (p : ℕ) (t : Turn) → p < length ts → history (histories_of (writers_of ts)) p ≡ (get_or ts p t).writer.docs
docs_at ts p t lt =
    get_or-map (λ (x : HistoryToken). x.docs) (writers_of ts) p t.writer [] (omega (arith, lt, turns_long ts))
    ∙ ap (λ (x : HistoryToken). x.docs) (get_or-map (λ (x : Turn). x.writer) ts p t t.writer lt)

index_at : (ts : List Turn) (p : ℕ) (t : Turn) (w : Words) → p < length ts → get_or (indexes_of (writers_of ts)) p w ≡ (get_or ts p t).writer.index
index_at ts p t w lt =
    get_or-map (λ (x : HistoryToken). x.index) (writers_of ts) p t.writer w (omega (arith, lt, turns_long ts))
    ∙ ap (λ (x : HistoryToken). x.index) (get_or-map (λ (x : Turn). x.writer) ts p t t.writer lt)

module _ {E : Type 0} (ws : List Words) (items : List (Result Doc E)) (old new : List Turn) (some : 0 < length old)
    (made : indexes_of (writers_of old) ≡ ws) (long : length new ≡ length old)
    (turned : (p : ℕ) (w : Words) (t : Turn) → p < length old → w ≡ get_or ws p w → HasTurned w.setting (length ws) p items (get_or old p t) (get_or new p t)) where
  many : length old ≡ length ws
  many = sym (turns_long old) ∙ as_many (writers_of old) ws made

  -- of part p, with the setting of all
  turned_at : (σ : Setting) → All (λ w. w.setting ≡ σ) ws → (p : ℕ) → p < length old → HasTurned σ (length ws) p items (get_or old p (first_of old some)) (get_or new p (first_of old some))
  turned_at σ all p lt =
      let t = first_of old some in
      let w = (get_or old p t).writer.index in
      let is : w ≡ get_or ws p w = sym (index_at old p t w lt) ∙ ap (λ z. get_or z p w) made in
      let setting : w.setting ≡ σ = ap (λ (x : Words). x.setting) is ∙ All-get_or (λ (x : Words). x.setting ≡ σ) ws p w (omega (arith, lt, many)) all in
      subst (λ z. HasTurned z (length ws) p items (get_or old p t) (get_or new p t)) setting (turned p w t lt is)

  pub turned_made : indexes_of (writers_of new) ≡ ws
  turned_made =
      let t = first_of old some in
      let w = t.writer.index in
      by_gets w (indexes_of (writers_of new)) (indexes_of (writers_of old))
      (length_map (λ (x : HistoryToken). x.index) (writers_of new) ∙ turns_long new ∙ long ∙ sym (length_map (λ (x : HistoryToken). x.index) (writers_of old) ∙ turns_long old))
      (λ p lt.
      let l : p < length new = omega (arith, lt, length_map (λ (x : HistoryToken). x.index) (writers_of new), turns_long new) in
      let o : p < length old = omega (arith, l, long) in
      let v = (get_or old p t).writer.index in
      let is : v ≡ get_or ws p v = sym (index_at old p t v o) ∙ ap (λ z. get_or z p v) made in
      index_at new p t w l ∙ (turned p v t o is).index ∙ sym (index_at old p t w o))
      ∙ made

  pub turned_long : (n : ℕ) → All (λ t. n ≤ length t.full.items) old → All (λ t. n ≤ length t.full.items) new
  turned_long n all =
      let t = first_of old some in
      All-from_get_or (λ (x : Turn). n ≤ length x.full.items) new t (λ p lt.
      let o : p < length old = omega (arith, lt, long) in
      let v = (get_or old p t).writer.index in
      let is : v ≡ get_or ws p v = sym (index_at old p t v o) ∙ ap (λ z. get_or z p v) made in
      let before = All-get_or (λ (x : Turn). n ≤ length x.full.items) old p t o all in
      let same = (turned p v t o is).long in
      omega (arith, before, same))

  module _ (σ : Setting) (all : All (λ w. w.setting ≡ σ) ws) (last : Option ℕ) (rising : AreRising last items) where
    tell : AreTold σ (turns_writer old last) (fulls_of new) (length ws) 0 items
    tell = λ p j x lt inside is.
        let t = first_of old some in
        let o : p < length old = omega (arith, lt, many) in
        let l : p < length new = omega (arith, o, long) in
        let e : 0 + j ≡ j = omega arith in
        let h = turned_at σ all p o in
        ap (λ k. get_or (get_or (fulls_of new) p []) k false) e
        ∙ ap (λ fs. get_or fs j false) (get_or-map (λ (y : Turn). y.full.items) new p t [] l)
        ∙ h.full j x inside is
        ∙ ap (λ d. is_full σ (length ws) p (part_after σ (length ws) p d (take j items)) x) (sym (docs_at old p t o))

    histories_many : length (histories_of (writers_of old)) ≡ length ws
    histories_many = histories_long old ∙ many

    parts_some : 0 < length ws
    parts_some = omega (arith, some, many)

    pub turned_outcomes : told_from (fulls_of new) 0 items ≡ outcomes_of σ (turns_writer old last) items
    turned_outcomes = told_outcomes σ (turns_writer old last) (fulls_of new) (length ws) items (length_map (λ (y : Turn). y.full.items) new ∙ long ∙ many) histories_many parts_some rising tell

    turned_last : last_from (fulls_of new) 0 last items ≡ (with_items σ (turns_writer old last) items).last
    turned_last = told_last σ (turns_writer old last) (fulls_of new) (length ws) items (length_map (λ (y : Turn). y.full.items) new ∙ long ∙ many) histories_many parts_some rising tell

    turned_histories : histories_of (writers_of new) ≡ (with_items σ (turns_writer old last) items).histories
    turned_histories =
        let w = turns_writer old last in
        let t = first_of old some in
        by_gets [] (histories_of (writers_of new)) (with_items σ w items).histories
        (histories_long new ∙ long ∙ sym (all_long σ w items ∙ histories_long old))
        (λ p lt.
        let l : p < length new = omega (arith, lt, histories_long new) in
        let o : p < length old = omega (arith, l, long) in
        docs_at new p t l ∙ (turned_at σ all p o).docs
        ∙ ap (λ d. part_after σ (length ws) p d items) (sym (docs_at old p t o))
        ∙ sym (parts_apart σ w (length ws) p items histories_many parts_some rising))

    pub turned_writer : turns_writer new (last_from (fulls_of new) 0 last items) ≡ with_items σ (turns_writer old last) items
    turned_writer =
        let indexes : indexes_of (writers_of new) ≡ (with_items σ (turns_writer old last) items).indexes = turned_made ∙ sym made ∙ sym (all_indexes σ (turns_writer old last) items) in
        λ i. record { indexes = indexes i; histories = turned_histories i; last = turned_last i }

-- what is before the rest
pub front_back : {A : Type 0} (xs rest : List A) (n : ℕ) → n ≡ length xs → take n (xs ++ rest) ≡ xs
front_back [] rest zero e = refl
front_back [] rest (suc n) e = absurd (omega (arith, e))
front_back (x ∷ xs) rest zero e = absurd (omega (arith, e))
front_back (x ∷ xs) rest (suc n) e = ap (λ z. x ∷ z) (front_back xs rest n (omega (arith, e)))

-- the first of a list is removed
pub head_and_rest : {A : Type 0} (xs : List A) (x : A) → 0 < length xs → x ≡ get_or xs 0 x → x ∷ remove xs 0 ≡ xs
head_and_rest [] x lt a = absurd (omega (arith, lt))
head_and_rest (y ∷ xs) x lt a = ap (λ z. z ∷ xs) a

pub writers_push : (ts : List Turn) (t : Turn) → writers_of (ts ++ t ∷ []) ≡ writers_of ts ++ t.writer ∷ []
writers_push [] t = refl
writers_push (u ∷ ts) t = ap (λ z. u.writer ∷ z) (writers_push ts t)

module _ {E : Type 0} where
  -- an id that doesn't rise is skipped
  pub low_item : (σ : Setting) (w : WriterTokens) (x : Result Doc E) (l : ℕ) → w.last ≡ Some l → ((d : Doc) × (x ≡ Ok d) × (d.id ≤ l))
      → (w ≡ with_items σ w (x ∷ [])) × (Some (NotRising l) ∷ [] ≡ outcomes_of σ w (x ∷ []))
  low_item σ w x l is low =
      let r = low_refusal σ w low.0 l is low.2 in (
        sym (with_items-one σ w x ∙ ap (with_item σ w) low.1 ∙ ap (with_outcome w low.0) r),
        sym (outcomes_of-one σ w x ∙ ap (λ y. outcome σ w y ∷ []) low.1 ∙ ap (λ o. o ∷ []) r),
      )

  -- the first of the items left are added
  pub run_on : (σ : Setting) (w after : WriterTokens) (rest front behind : List (Result Doc E)) (old new : List (Option BlendRefusal)) → rest ≡ front ++ behind
      → after ≡ with_items σ w front → new ≡ old ++ outcomes_of σ w front
      → (with_items σ after behind ≡ with_items σ w rest) × (new ++ outcomes_of σ after behind ≡ old ++ outcomes_of σ w rest)
  run_on σ w after rest front behind old new split is put = (
    ap (λ z. with_items σ z behind) is ∙ sym (with_items-append σ w front behind) ∙ ap (with_items σ w) (sym split),
    ap₂ (λ ns z. ns ++ outcomes_of σ z behind) put is ∙ append_assoc old (outcomes_of σ w front) (outcomes_of σ (with_items σ w front) behind)
        ∙ ap (λ z. old ++ z) (sym (outcomes_of-append σ w front behind) ∙ ap (outcomes_of σ w) (sym split)),
  )

  -- of an item whose id doesn't rise, and of a run
  pub low_on : (σ : Setting) (w : WriterTokens) (x : Result Doc E) (l : ℕ) (rest behind : List (Result Doc E)) (old new : List (Option BlendRefusal)) → w.last ≡ Some l
      → ((d : Doc) × (x ≡ Ok d) × (d.id ≤ l)) → rest ≡ (x ∷ []) ++ behind → new ≡ old ++ Some (NotRising l) ∷ []
      → (with_items σ w behind ≡ with_items σ w rest) × (new ++ outcomes_of σ w behind ≡ old ++ outcomes_of σ w rest)
  low_on σ w x l rest behind old new is low split put =
      let here = low_item σ w x l is low in run_on σ w w rest (x ∷ []) behind old new split here.0 (put ∙ ap (λ z. old ++ z) here.1)
