-- What an office was asked grows with the numbers of the lines.
use Rattle.std.proofs.Common.{◌≡◌, ℕ, ◌+◌, ◌<◌, List, [], ◌∷◌, ◌++◌, sym, subst, arith}
use Rattle.std.specs.Prelude.{Contains}
use Rattle.std.proofs.lemmas.List.Elements.{All-weaker, Contains-append_left, Contains-push}
use Rattle.eb_desk.specs.Asks.{asks_of}
use Rattle.eb_desk.specs.Rule.{IsAboveEach, HaveRisingNumbers}
use Rattle.eb_desk.specs.declared.rule.Pair.{Pair}
use Rattle.eb_desk.proofs.Asking.{above_next}
use Rattle.eb_desk.proofs.Weighing.{rising_last}
use Rattle.eb_cursor.specs.declared.frame.Frame.{Frame}
use Rattle.eb_cursor.specs.Frames.{query_of, k_of}
use Rattle.run_with_workers.specs.Offices.{WasAsked, Asks}

-- what was asked stays, in rising numbers, all below this one
pub record HasGrown (ps qs : List Pair) (n : ℕ) : Type 0 where
  pub keeps : (p : Pair) → Contains ps p → Contains qs p
  pub rises : HaveRisingNumbers ps → HaveRisingNumbers qs
  pub above : IsAboveEach n qs

-- nothing was asked
pub grown_none : (ps qs : List Pair) (n : ℕ) → qs ≡ ps → IsAboveEach n ps → HasGrown ps qs (n + 1)
grown_none ps qs n same a = record {
  keeps = λ p c. subst (λ (l : List Pair). Contains l p) (sym same) c;
  rises = λ r. subst HaveRisingNumbers (sym same) r;
  above = subst (IsAboveEach (n + 1)) (sym same) (All-weaker (λ (q : Pair). q.number < n) (λ q. q.number < n + 1) (λ q h. omega (arith, h)) ps a);
}

-- a query was asked under this number
pub grown_one : (ps qs : List Pair) (n : ℕ) (p : Pair) → qs ≡ ps ++ p ∷ [] → p.number ≡ n → IsAboveEach n ps → HasGrown ps qs (n + 1)
grown_one ps qs n p more number a = record {
  keeps = λ q c. subst (λ (l : List Pair). Contains l q) (sym more) (Contains-append_left ps (p ∷ []) q c);
  rises = λ r. subst HaveRisingNumbers (sym more) (rising_last ps p r (subst (λ m. IsAboveEach m ps) (sym number) a));
  above = subst (IsAboveEach (n + 1)) (sym more) (above_next n ps p a number);
}

pub was_asked : (ps qs : List Pair) (n : ℕ) (frame : Frame) → Asks ps qs n frame → WasAsked qs n (query_of frame) (k_of frame)
was_asked ps qs n frame asks =
    let p : Pair = record { number = n; told = asks.0; asks = asks_of (query_of frame) (k_of frame) } in
    (asks.0, subst (λ (l : List Pair). Contains l p) (sym asks.1) (Contains-push ps p))
