-- What setting a watch and taking one away come to.
use Rattle.std.proofs.Common.{◌≡◌, ◌≢◌, ◌⊎◌, ◌↔◌, ℕ, true, false, List, length, Result, Ok, Err, inl, inr, refl, sym, ap, ◌∙◌, arith}
use Rattle.std.specs.Prelude.{OnOk, OnErr, IsErr}
use Rattle.std.proofs.lemmas.Bool.{false≢true}
use Rattle.eb_base.specs.Query.{Tree}
use Rattle.eb_watch.specs.declared.faults.SetFault.{SetFault}
use Rattle.eb_watch.specs.declared.faults.SetFault.TheVariants.{Taken, Full, NoMemory}
use Rattle.eb_watch.specs.Watches.{Watched, is_set, most_watches, with_watch, without_watch}
use Rattle.eb_c.specs.Watching.{set_number, remove_number, HasSet, HasRemoved}

is_taken : {T : Type 0} (r : Result T SetFault) → set_number r ≡ 18 → r ≡ Err Taken
is_taken (Ok t) e = absurd (omega (arith, e))
is_taken (Err Taken) e = refl
is_taken (Err Full) e = absurd (omega (arith, e))
is_taken (Err NoMemory) e = absurd (omega (arith, e))

is_full : {T : Type 0} (r : Result T SetFault) → set_number r ≡ 19 → r ≡ Err Full
is_full (Ok t) e = absurd (omega (arith, e))
is_full (Err Taken) e = absurd (omega (arith, e))
is_full (Err Full) e = refl
is_full (Err NoMemory) e = absurd (omega (arith, e))

is_done : {T P : Type 0} (r : Result T SetFault) → set_number r ≡ 0 → OnOk r P → P
is_done (Ok t) e p = p
is_done (Err Taken) e p = absurd (omega (arith, e))
is_done (Err Full) e p = absurd (omega (arith, e))
is_done (Err NoMemory) e p = absurd (omega (arith, e))

is_failed : {T P : Type 0} (r : Result T SetFault) → (set_number r ≡ 0 → ⊥) → OnErr r P → P
is_failed (Ok t) e p = absurd (e refl)
is_failed (Err f) e p = p

pub has_set : {T : Type 0} (old new : List Watched) (n : ℕ) (q : Tree) (r : Result T SetFault) (x : ℕ) → x ≡ set_number r
    → OnOk r (new ≡ with_watch old n q) → ((r ≡ Err Taken) ↔ (is_set old n ≡ true))
    → ((r ≡ Err Full) ↔ ((is_set old n ≡ false) × (length old ≡ most_watches))) → OnErr r (new ≡ old) → HasSet old n q x new
has_set old new n q r x e ok taken full err = record {
  set = λ z. is_done r (sym e ∙ z) ok;
  taken = (λ z. taken.0 (is_taken r (sym e ∙ z)), λ is. e ∙ ap set_number (taken.1 is));
  full = (λ z. full.0 (is_full r (sym e ∙ z)), λ is. e ∙ ap set_number (full.1 is));
  unchanged = λ z. is_failed r (λ zero. z (e ∙ zero)) err;
}

was_removed : {T E P : Type 0} (r : Result T E) → remove_number r ≡ 0 → OnOk r P → P
was_removed (Ok t) e p = p
was_removed (Err f) e p = absurd (omega (arith, e))

was_missing : {T E P : Type 0} (r : Result T E) → (remove_number r ≡ 0 → ⊥) → OnErr r P → P
was_missing (Ok t) e p = absurd (e refl)
was_missing (Err f) e p = p

is_missing : {T E : Type 0} (r : Result T E) → remove_number r ≡ 20 → IsErr r
is_missing (Ok t) e = absurd (omega (arith, e))
is_missing (Err f) e = refl

missing_is : {T E : Type 0} (r : Result T E) → IsErr r → remove_number r ≡ 20
missing_is (Ok t) e = absurd (false≢true e)
missing_is (Err f) e = refl

either : {T E : Type 0} (r : Result T E) → (remove_number r ≡ 0) ⊎ (remove_number r ≡ 20)
either (Ok t) = inl refl
either (Err f) = inr refl

pub has_removed : {T E : Type 0} (old new : List Watched) (n : ℕ) (r : Result T E) (x : ℕ) → x ≡ remove_number r
    → OnOk r (new ≡ without_watch old n) → (IsErr r ↔ (is_set old n ≡ false)) → OnErr r (new ≡ old) → HasRemoved old n x new
has_removed old new n r x e ok none err = record {
  removed = λ z. was_removed r (sym e ∙ z) ok;
  no_watch = (λ z. none.0 (is_missing r (sym e ∙ z)), λ is. e ∙ missing_is r (none.1 is));
  either = elim (either r) [ inl z ↦ inl (e ∙ z) | inr z ↦ inr (e ∙ z) ];
  unchanged = λ z. was_missing r (λ zero. z (e ∙ zero)) err;
}
