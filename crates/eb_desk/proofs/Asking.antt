-- Numbers that rise.
use Rattle.std.proofs.Common.{◌≡◌, ℕ, ◌+◌, ◌<◌, List, [], ◌∷◌, ◌++◌, get_or, refl, arith}
use Rattle.std.specs.Prelude.{All, Contains}
use Rattle.std.proofs.lemmas.List.Elements.{All-push, All-weaker, All-nil, All-cons, All-contains}
use Rattle.eb_desk.specs.declared.rule.Pair.{Pair}
use Rattle.eb_desk.specs.Rule.{IsAboveEach, HaveRisingNumbers}

-- after a number comes the next
pub above_next : (n : ℕ) (ps : List Pair) (p : Pair) → IsAboveEach n ps → p.number ≡ n → IsAboveEach (n + 1) (ps ++ p ∷ [])
above_next n ps p a e = All-push (λ q. q.number < n + 1) ps p (All-weaker (λ q. q.number < n) (λ q. q.number < n + 1) (λ q h. omega (arith, h)) ps a) (omega (arith, e))

-- a number stands in one pair
abbrev Stand : List Pair → List Pair → Type 0
Stand ps qs = All (λ (p : Pair). All (λ (q : Pair). p.number ≡ q.number → p ≡ q) qs) ps

all_once : (ps : List Pair) → HaveRisingNumbers ps → Stand ps ps
all_once [] r = All-nil _
all_once (x ∷ ps) r =
    let first : All (λ (q : Pair). x.number ≡ q.number → x ≡ q) (x ∷ ps) =
    All-cons (λ (q : Pair). x.number ≡ q.number → x ≡ q) x ps (λ e. refl)
    (All-weaker (λ (q : Pair). x.number < q.number) (λ q. x.number ≡ q.number → x ≡ q) (λ q h e. absurd (omega (arith, h, e))) ps r.0) in
    let rest : Stand ps (x ∷ ps) = λ i d h.
    All-cons (λ (q : Pair). (get_or ps i d).number ≡ q.number → get_or ps i d ≡ q) x ps (λ e. absurd (omega (arith, e, r.0 i d h))) (all_once ps r.1 i d h) in
    All-cons (λ (p : Pair). All (λ (q : Pair). p.number ≡ q.number → p ≡ q) (x ∷ ps)) x ps first rest

pub asked_once : (ps : List Pair) (p q : Pair) → HaveRisingNumbers ps → Contains ps p → Contains ps q → p.number ≡ q.number → p ≡ q
asked_once ps p q r has_p has_q =
    All-contains (λ (y : Pair). p.number ≡ y.number → p ≡ y) ps q (All-contains (λ (x : Pair). All (λ (y : Pair). x.number ≡ y.number → x ≡ y) ps) ps p (all_once ps r) has_p) has_q
