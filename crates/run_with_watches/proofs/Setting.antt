-- A watch line is taken.
use Rattle.std.proofs.Common.{◌≡◌, ℕ, ◌+◌, ◌≤◌, ◌^◌, ◌++◌, Bool, true, false, List, length, Option, Some, None, refl, sym, ap, ap₂, subst, ◌∙◌, eqb→eq}
use Rattle.std.specs.Prelude.{T, ◌==◌, Result, Ok, Err, IfOk, OnOk, OnErr, if◌then◌else◌}
use Rattle.std.proofs.lemmas.Bool.{false_from_ne_true}
use Rattle.run_store.specs.Rules.{Rules, watch_outcome, watches_after}
use Rattle.run_store.specs.Stores.{IsHolding, IsOutcome, Places, PutsAnswer, TakesOther}
use Rattle.eb_base.specs.Document.{Doc}
use Rattle.eb_base.specs.Query.{Tree}
use Rattle.eb_query.specs.declared.ask.Ask.{Ask}
use Rattle.eb_lines.specs.declared.form.Tail.{Tail}
use Rattle.eb_lines.specs.declared.refusal.Refusal.{Refusal}
use Rattle.eb_lines.specs.declared.refusal.Refusal.TheVariants.{NoWatch, WatchTaken, WatchesFull}
use Rattle.eb_lines.specs.Reading.{watch}
use Rattle.eb_lines.specs.Text.{asked_line}
use Rattle.eb_watch.specs.Seen.{watches_of}
use Rattle.eb_watch.specs.declared.watches.Watches.{Watches}
use Rattle.eb_watch.specs.Watches.{Watched, is_set}
use Rattle.run_with_watches.specs.declared.watched.Watching.{Watching}
use Rattle.run_with_watches.specs.Watched.{IsWatched}
use Rattle.run_with_watches.specs.WatchRules.{watch_refusal, watches_then}

-- the watches after a watch line and what comes of it
abbrev pub behind : List Watched → ℕ → Option Tree → Option Refusal → List Watched
behind ws n q None = watches_then ws n q
behind ws n q (Some r) = ws

module _ {S W : Type 0} (holds : S → Rules W → List Doc → W → Type 0) where
  -- ---- what the store itself holds

  pub few_plain : (s : Watching S) (rules : Rules (List Watched)) (docs : List Doc) (ws : List Watched) (h : IsWatched holds s rules docs ws) → length docs ≤ length rules.start + 2 ^ 41
      → length docs ≤ length h.plain.start + 2 ^ 41
  few_plain s rules docs ws h few = subst (λ (r : Rules (List Watched)). length docs ≤ length r.start + 2 ^ 41) h.by_rules few

  pub holding : (s : Watching S) → IsHolding (IsWatched holds) s → IsHolding holds s.store
  holding s h = record {
    rules = h.is.plain;
    docs = h.docs;
    watches = h.is.beside;
    is = h.is.held;
    few = few_plain s h.rules h.docs h.watches h.is h.few;
  }

  module _ (old new : Watching S) (same : watches_of new.watches ≡ watches_of old.watches) where
    pub places : (d : Doc) (x : Option Refusal) → Places holds old.store new.store d x → Places (IsWatched holds) old new d x
    places d x p = λ rules docs ws h.
        let placed = p h.plain docs h.beside h.held in (
          placed.0 ∙ sym (ap (λ (r : Rules (List Watched)). r.refusal docs d) h.by_rules),
          record { plain = h.plain; beside = h.beside; by_rules = h.by_rules; held = placed.1; set = same ∙ h.set },
        )

    pub answers : (number : ℕ) (k : Ask) (q : Tree) (t0 t1 : List ℕ) → PutsAnswer holds old.store new.store number k q t0 t1 → PutsAnswer (IsWatched holds) old new number k q t0 t1
    answers number k q t0 t1 p = λ rules docs ws h few.
        let put = p h.plain docs h.beside h.held (few_plain old rules docs ws h few) in (
          record { plain = h.plain; beside = h.beside; by_rules = h.by_rules; held = put.0; set = same ∙ h.set },
          subst (λ (r : Rules (List Watched)). t1 ≡ t0 ++ asked_line r.form number (length docs) k q (r.sees docs)) (sym h.by_rules) put.1,
        )

  pub closes : {E : Type 0} (s : Watching S) (r : Result Tail E) → IfOk r (λ tail. (rules : Rules W) (docs : List Doc) (ws : W) → holds s.store rules docs ws → tail ≡ rules.tail docs)
      → IfOk r (λ tail. (rules : Rules (List Watched)) (docs : List Doc) (ws : List Watched) → IsWatched holds s rules docs ws → tail ≡ rules.tail docs)
  closes s (Ok tail) told = λ rules docs ws h. told h.plain docs h.beside h.held ∙ sym (ap (λ (r : Rules (List Watched)). r.tail docs) h.by_rules)
  closes s (Err e) told = tt

  -- ---- a watch line

  module _ (old new : Watching S) (same : new.store ≡ old.store) where
    pub on : (rules : Rules (List Watched)) (docs : List Doc) (ws vs : List Watched) → IsWatched holds old rules docs ws → watches_of new.watches ≡ vs → IsWatched holds new rules docs vs
    on rules docs ws vs h set = record {
      plain = h.plain;
      beside = h.beside;
      by_rules = h.by_rules;
      held = subst (λ (s : S). holds s h.plain docs h.beside) (sym same) h.held;
      set = set;
    }

    pub keeps : watches_of new.watches ≡ watches_of old.watches → (rules : Rules (List Watched)) (docs : List Doc) (ws : List Watched) → IsWatched holds old rules docs ws
        → IsWatched holds new rules docs ws
    keeps watches rules docs ws h = on rules docs ws ws h (watches ∙ h.set)

    pub takes_watch : (n : ℕ) (q : Option Tree) (x : Option Refusal) → watch_refusal (watches_of old.watches) n q ≡ x → watches_of new.watches ≡ behind (watches_of old.watches) n q x
        → TakesOther (IsWatched holds) old new (watch n q) x
    takes_watch n q x is after = λ rules docs ws h.
        let r : rules.watch_refusal ws n q ≡ x =
        ap (λ (u : Rules (List Watched)). u.watch_refusal ws n q) h.by_rules ∙ ap (λ vs. watch_refusal vs n q) (sym h.set) ∙ is in
        subst (λ (o : Option Refusal). IsOutcome (watch_outcome n q o) x × IsWatched holds new rules docs (watches_after rules ws (watch_outcome n q o))) (sym r) (by_outcome x after rules docs ws h)
      where
        by_outcome : (x : Option Refusal) → watches_of new.watches ≡ behind (watches_of old.watches) n q x → (rules : Rules (List Watched)) (docs : List Doc) (ws : List Watched)
            → IsWatched holds old rules docs ws → IsOutcome (watch_outcome n q x) x × IsWatched holds new rules docs (watches_after rules ws (watch_outcome n q x))
        by_outcome None after rules docs ws h = (
          tt,
          on rules docs ws (rules.with_watch ws n q) h
              (after ∙ ap (λ vs. watches_then vs n q) h.set ∙ ap (λ (u : Rules (List Watched)). u.with_watch ws n q) (sym h.by_rules)),
        )
        by_outcome (Some r) after rules docs ws h = (refl, on rules docs ws ws h (after ∙ h.set))

-- ---- what a result says

pub on_ok : {V E A B : Type 0} (r : Result V E) → (A → B) → OnOk r A → OnOk r B
on_ok (Ok v) f h = f h
on_ok (Err e) f h = tt

pub on_err : {V E A B : Type 0} (r : Result V E) → (A → B) → OnErr r A → OnErr r B
on_err (Ok v) f h = tt
on_err (Err e) f h = f h

pub same_store : {S : Type 0} (old new : Watching S) (t0 t1 : List ℕ) → new.watches ≡ old.watches → (new.store ≡ old.store) × (t1 ≡ t0) → (new ≡ old) × (t1 ≡ t0)
same_store {S = S} old new t0 t1 same h = (ap₂ (λ (s : S) (w : Watches). let x : Watching S = record { store = s; watches = w } in x) h.0 same, h.1)

-- ---- why a watch isn't set or removed

is_full : (n : ℕ) → n ≡ 10000 → (n == 10000) ≡ true
is_full n e = rw e refl

pub set_taken : (ws : List Watched) (n : ℕ) (q : Tree) → is_set ws n ≡ true → watch_refusal ws n (Some q) ≡ Some WatchTaken
set_taken ws n q taken = ap (λ b. if b then Some WatchTaken else (if length ws == 10000 then Some WatchesFull else None)) taken

pub set_full : (ws : List Watched) (n : ℕ) (q : Tree) → is_set ws n ≡ false → length ws ≡ 10000 → watch_refusal ws n (Some q) ≡ Some WatchesFull
set_full ws n q free full = ap₂ (λ b f. if b then Some WatchTaken else (if f then Some WatchesFull else None)) free (is_full (length ws) full)

pub set_free : (ws : List Watched) (n : ℕ) (q : Tree) → is_set ws n ≡ false → (length ws ≡ 10000 → ⊥) → watch_refusal ws n (Some q) ≡ None
set_free ws n q free few =
    ap₂ (λ b f. if b then Some WatchTaken else (if f then Some WatchesFull else None)) free (false_from_ne_true _ (λ h. few (eqb→eq (length ws) 10000 (subst T (sym h) tt))))

pub removes_none : (ws : List Watched) (n : ℕ) → is_set ws n ≡ false → watch_refusal ws n None ≡ Some NoWatch
removes_none ws n none = ap (λ b. if b then None else Some NoWatch) none

pub removes_one : (ws : List Watched) (n : ℕ) → is_set ws n ≡ true → watch_refusal ws n None ≡ None
removes_one ws n one = ap (λ b. if b then None else Some NoWatch) one

pub is_free : (b : Bool) → (b ≡ true → ⊥) → b ≡ false
is_free b other = false_from_ne_true b other

pub is_set_still : (b : Bool) → (b ≡ false → ⊥) → b ≡ true
is_set_still true other = refl
is_set_still false other = absurd (other refl)

pub no_err : {V E : Type 0} (x : V) (e : E) → (let r : Result V E = Ok x in r ≡ Err e) → ⊥
no_err x e same = let no_such : ⊥ = cc in no_such
