-- Which bytes begin the head of an allowed setting: where the numbers that they leave open are the
-- least, the setting is one.
use Rattle.std.proofs.Common.{◌≡◌, ℕ, zero, suc, ◌+◌, ◌*◌, ◌-◌, ◌^◌, ◌<◌, ◌≤◌, ◌⊎◌, inl, inr, List, [], ◌++◌, length, get_or, take, drop}
use Rattle.std.proofs.Common.{refl, sym, ap, subst, ◌∙◌, length-append, append-nil, arith}
use Rattle.std.specs.Int.{w32, from_be_bytes, to_be_bytes}
use Rattle.std.proofs.lemmas.Bool.{cases_lt}
use Rattle.std.proofs.lemmas.Nat.{mul-le, pow_below, pow-add}
use Rattle.std.proofs.Math.Nat.{pow-le-pow_right}
use Rattle.std.proofs.lemmas.List.{take-append-drop, length-take-le, get_or-take, get_or_past, get_or_append_left, get_or-append-add, ext_get_or, nil_from_length}
use Rattle.std.proofs.Math.Seq.{take-append_seam}
use Rattle.eb_base.specs.Setting.{Setting, IsSetting, AreSegments, AreDocs, AreTerms, words_of}
use Rattle.eb_image.specs.Image.{mark, head_of, IsFront}
use Rattle.eb_image.specs.Reading.{IsHead, Begins}
use Rattle.eb_image.specs.Scan.{byte_window}
use Rattle.eb_image.proofs.Scans.{front_byte}
use Rattle.eb_image.proofs.Parts.{few_terms}
use Rattle.eb_image.proofs.Heads.{head_len}

-- a byte of a number of four
abbrev pub byte : ℕ → ℕ → ℕ
byte n k = get_or (to_be_bytes w32 n) k 0

-- these are the first m bytes of a number, with 0 for each of the others
record Shows (x m a b c d : ℕ) : Type 0 where
  first : (0 < m → a ≡ byte x 0) × (m ≤ 0 → a ≡ 0)
  second : (1 < m → b ≡ byte x 1) × (m ≤ 1 → b ≡ 0)
  third : (2 < m → c ≡ byte x 2) × (m ≤ 2 → c ≡ 0)
  fourth : (3 < m → d ≡ byte x 3) × (m ≤ 3 → d ≡ 0)

-- the number that they are
abbrev number : ℕ → ℕ → ℕ → ℕ → ℕ
number a b c d = a * 16777216 + b * 65536 + c * 256 + d

number_low : (x m a b c d : ℕ) → x < 2 ^ 32 → Shows x m a b c d → number a b c d ≤ x
number_low x zero a b c d lt s = omega (arith, s.first.1 (omega arith), s.second.1 (omega arith), s.third.1 (omega arith), s.fourth.1 (omega arith))
number_low x (suc zero) a b c d lt s = omega (arith, lt, s.first.0 (omega arith), s.second.1 (omega arith), s.third.1 (omega arith), s.fourth.1 (omega arith))
number_low x (suc (suc zero)) a b c d lt s = omega (arith, lt, s.first.0 (omega arith), s.second.0 (omega arith), s.third.1 (omega arith), s.fourth.1 (omega arith))
number_low x (suc (suc (suc zero))) a b c d lt s = omega (arith, lt, s.first.0 (omega arith), s.second.0 (omega arith), s.third.0 (omega arith), s.fourth.1 (omega arith))
number_low x (suc (suc (suc (suc m)))) a b c d lt s =
    omega (arith, lt, s.first.0 (omega arith), s.second.0 (omega arith), s.third.0 (omega arith), s.fourth.0 (omega arith))

number_all : (x m a b c d : ℕ) → x < 2 ^ 32 → 4 ≤ m → Shows x m a b c d → number a b c d ≡ x
number_all x m a b c d lt le s = omega (arith, lt, s.first.0 (omega arith), s.second.0 (omega arith), s.third.0 (omega arith), s.fourth.0 (omega arith))

-- the bytes that are shown are bytes
small : (x m a b c d : ℕ) → Shows x m a b c d → (a < 256) × (b < 256) × (c < 256) × (d < 256)
small x m a b c d s = (part 0 a s.first, part 1 b s.second, part 2 c s.third, part 3 d s.fourth)
  where
    below : (k : ℕ) → byte x k < 256
    below zero = omega arith
    below (suc zero) = omega arith
    below (suc (suc zero)) = omega arith
    below (suc (suc (suc zero))) = omega arith
    below (suc (suc (suc (suc k)))) = omega arith

    part : (k e : ℕ) → (k < m → e ≡ byte x k) × (m ≤ k → e ≡ 0) → e < 256
    part k e h = elim (cases_lt k m) [
      | inl lt ↦ omega (arith, h.0 lt, below k)
      | inr le ↦ omega (arith, h.1 le)
    ]

-- the first m bytes of the number are those of the one that shows them
number_same : (x m a b c d k : ℕ) → Shows x m a b c d → k < m → k < 4 → byte (number a b c d) k ≡ byte x k
number_same x m a b c d zero s lt four = let l = small x m a b c d s in omega (arith, l.0, l.1, l.2, l.3, s.first.0 lt)
number_same x m a b c d (suc zero) s lt four = let l = small x m a b c d s in omega (arith, l.0, l.1, l.2, l.3, s.second.0 lt)
number_same x m a b c d (suc (suc zero)) s lt four = let l = small x m a b c d s in omega (arith, l.0, l.1, l.2, l.3, s.third.0 lt)
number_same x m a b c d (suc (suc (suc zero))) s lt four = let l = small x m a b c d s in omega (arith, l.0, l.1, l.2, l.3, s.fourth.0 lt)
number_same x m a b c d (suc (suc (suc (suc k)))) s lt four = absurd (omega (arith, four))

-- what a number is taken for of which these bytes are there
abbrev pub Taken : ℕ → ℕ → ℕ → ℕ → Type 0
Taken least m n y = ((0 < n) ⊎ (4 ≤ m) → y ≡ n) × (n ≡ 0 → m < 4 → y ≡ least)

-- a number that is allowed, not above the one that shows its bytes, and with the same first bytes
record Completes (Allowed : ℕ → Type 0) (x m y : ℕ) : Type 0 where
  allowed : Allowed y
  low : y ≤ x
  same : (k : ℕ) → k < m → k < 4 → byte y k ≡ byte x k

itself : (Allowed : ℕ → Type 0) (x m y : ℕ) → Allowed x → y ≡ x → Completes Allowed x m y
itself Allowed x m y is e = rw e (let r : Completes Allowed x m x = record { allowed = is; low = omega arith; same = λ k lt four. refl } in r)

-- where only zeros are there, 1 begins with them
one_begins : (x m a b c d k : ℕ) → Shows x m a b c d → number a b c d ≡ 0 → m < 4 → k < m → k < 4 → byte 1 k ≡ byte x k
one_begins x m a b c d zero s z less lt four = omega (arith, z, s.first.0 lt)
one_begins x m a b c d (suc zero) s z less lt four = omega (arith, z, s.second.0 lt)
one_begins x m a b c d (suc (suc zero)) s z less lt four = omega (arith, z, s.third.0 lt)
one_begins x m a b c d (suc (suc (suc k))) s z less lt four = absurd (omega (arith, less, lt))

segments_complete : (x m a b c d y : ℕ) → AreSegments x → Shows x m a b c d → Taken 1 m (number a b c d) y → Completes AreSegments x m y
segments_complete x m a b c d y is s t = elim (cases_lt m 4) [
  | inl less ↦
      let low = number_low x m a b c d (omega (arith, is.1)) s in
      let none : number a b c d ≡ 0 = omega (arith, low, is.1, s.fourth.1 (omega (arith, less))) in
      rw (t.1 none less) (let r : Completes AreSegments x m 1 = record { allowed = (omega arith, omega arith); low = omega (arith, is.0); same = λ k. one_begins x m a b c d k s none less } in r)
  | inr le ↦ itself AreSegments x m y is (t.0 (inr le) ∙ number_all x m a b c d (omega (arith, is.1)) le s)
]

docs_complete : (x m a b c d y : ℕ) → AreDocs x → Shows x m a b c d → Taken 1 m (number a b c d) y → Completes AreDocs x m y
docs_complete x m a b c d y is s t = elim (cases_lt m 4) [
  | inl less ↦
      let low = number_low x m a b c d (omega (arith, is.1)) s in
      elim (cases_lt 0 (number a b c d)) [
        | inl some ↦ rw (t.0 (inl some)) (let r : Completes AreDocs x m (number a b c d) = record {
          allowed = (omega (arith, some), omega (arith, low, is.1));
          low = low;
          same = λ k lt four. number_same x m a b c d k s lt four;
        } in r)
        | inr le ↦
            let none : number a b c d ≡ 0 = omega (arith, le) in
            rw (t.1 none less) (let r : Completes AreDocs x m 1 = record { allowed = (omega arith, omega arith); low = omega (arith, is.0); same = λ k. one_begins x m a b c d k s none less } in r)
      ]
  | inr le ↦ itself AreDocs x m y is (t.0 (inr le) ∙ number_all x m a b c d (omega (arith, is.1)) le s)
]

-- a power of two that isn't below another one is a multiple of it
power_multiple : (k e x : ℕ) → x ≡ 2 ^ k → 2 ^ e ≤ x → (q : ℕ) × (x ≡ 2 ^ e * q)
power_multiple k e x is le = elim (cases_lt k e) [
  | inl less ↦ absurd (omega (arith, is, le, pow_below k e less))
  | inr more ↦ let sum : k ≡ e + (k - e) = omega (arith, more) in (2 ^ (k - e), is ∙ (ap (λ (n : ℕ). 2 ^ n) sum ∙ pow-add 2 e (k - e)))
]

-- where not only zeros of the terms are there, all that is missing of them is zeros
terms_whole : (x m a b c d : ℕ) → AreTerms x → Shows x m a b c d → m < 4 → 0 < number a b c d → number a b c d ≡ x
terms_whole x zero a b c d is s less some =
    absurd (omega (arith, some, s.first.1 (omega arith), s.second.1 (omega arith), s.third.1 (omega arith), s.fourth.1 (omega arith)))
terms_whole x (suc zero) a b c d is s less some =
    let below = pow_below is.0 21 (omega (arith, is.2)) in
    absurd (omega (arith, is.3, below, some, s.first.0 (omega arith), s.second.1 (omega arith), s.third.1 (omega arith), s.fourth.1 (omega arith)))
terms_whole x (suc (suc zero)) a b c d is s less some =
    let low = number_low x 2 a b c d (few_terms x is) s in
    let q = power_multiple is.0 16 x is.3 (omega (arith, low, some, s.third.1 (omega arith), s.fourth.1 (omega arith))) in
    omega (arith, few_terms x is, q.1, s.first.0 (omega arith), s.second.0 (omega arith), s.third.1 (omega arith), s.fourth.1 (omega arith))
terms_whole x (suc (suc (suc zero))) a b c d is s less some =
    let low = number_low x 3 a b c d (few_terms x is) s in
    let q = power_multiple is.0 8 x is.3 (omega (arith, low, some, s.fourth.1 (omega arith))) in
    omega (arith, few_terms x is, q.1, s.first.0 (omega arith), s.second.0 (omega arith), s.third.0 (omega arith), s.fourth.1 (omega arith))
terms_whole x (suc (suc (suc (suc m)))) a b c d is s less some = absurd (omega (arith, less))

-- where only zeros are there, 1,024 begins with them
least_begins : (x m a b c d k : ℕ) → 1024 ≤ x → x < 2 ^ 32 → Shows x m a b c d → number a b c d ≡ 0 → m < 4 → k < m → k < 4 → byte 1024 k ≡ byte x k
least_begins x m a b c d zero high low s z less lt four = omega (arith, z, s.first.0 lt)
least_begins x m a b c d (suc zero) high low s z less lt four = omega (arith, z, s.second.0 lt)
least_begins x m a b c d (suc (suc zero)) high low s z less lt four =
    absurd (omega (arith, z, high, low, s.first.0 (omega (arith, lt)), s.second.0 (omega (arith, lt)), s.third.0 lt))
least_begins x m a b c d (suc (suc (suc k))) high low s z less lt four = absurd (omega (arith, less, lt))

terms_complete : (x m a b c d y : ℕ) → AreTerms x → Shows x m a b c d → Taken 1024 m (number a b c d) y → Completes AreTerms x m y
terms_complete x m a b c d y is s t = elim (cases_lt m 4) [
  | inl less ↦ elim (cases_lt 0 (number a b c d)) [
    | inl some ↦ itself AreTerms x m y is (t.0 (inl some) ∙ terms_whole x m a b c d is s less some)
    | inr le ↦
        let none : number a b c d ≡ 0 = omega (arith, le) in
        let high : 1024 ≤ x = let q : 2 ^ 10 ≤ 2 ^ is.0 = pow-le-pow_right (omega arith) is.1 in omega (arith, is.3, q) in
        rw (t.1 none less) (let r : Completes AreTerms x m 1024 = record {
          allowed = (10, omega arith, omega arith, omega arith);
          low = high;
          same = λ k. least_begins x m a b c d k high (few_terms x is) s none less;
        } in r)
  ]
  | inr le ↦ itself AreTerms x m y is (t.0 (inr le) ∙ number_all x m a b c d (few_terms x is) le s)
]

-- ---- the three numbers of a head

-- two lists before two others: bytes that are the same in each are the same in both
both_same : (a b x y : List ℕ) (n : ℕ) → length a ≡ length b → ((k : ℕ) → k < length a → k < n → get_or a k 0 ≡ get_or b k 0)
    → ((k : ℕ) → length a + k < n → get_or x k 0 ≡ get_or y k 0) → (k : ℕ) → k < n → get_or (a ++ x) k 0 ≡ get_or (b ++ y) k 0
both_same a b x y n len front behind k lt = elim (cases_lt k (length a)) [
  | inl low ↦ get_or_append_left a x 0 k low ∙ (front k low lt ∙ sym (get_or_append_left b y 0 k (omega (arith, low, len))))
  | inr high ↦
      let split : k ≡ length a + (k - length a) = omega (arith, high) in
      let one : get_or (a ++ x) k 0 ≡ get_or x (k - length a) 0 = ap (λ (i : ℕ). get_or (a ++ x) i 0) split ∙ get_or-append-add a x (k - length a) 0 in
      let two : get_or (b ++ y) k 0 ≡ get_or y (k - length a) 0 =
      ap (λ (i : ℕ). get_or (b ++ y) i 0) (split ∙ ap (λ (j : ℕ). j + (k - length a)) len) ∙ get_or-append-add b y (k - length a) 0 in
      one ∙ (behind (k - length a) (omega (arith, lt, high)) ∙ sym two)
]

-- two heads with the same first bytes of each number
heads_same : (σ τ : Setting) (n : ℕ) → ((k : ℕ) → k < n - 8 → k < 4 → byte τ.segments k ≡ byte σ.segments k)
    → ((k : ℕ) → k < n - 12 → k < 4 → byte τ.docs k ≡ byte σ.docs k) → ((k : ℕ) → k < n - 16 → k < 4 → byte τ.terms k ≡ byte σ.terms k)
    → (k : ℕ) → k < n → get_or (head_of τ) k 0 ≡ get_or (head_of σ) k 0
unfolding head_of
heads_same σ τ n s d t =
    both_same mark mark (to_be_bytes w32 τ.segments ++ (to_be_bytes w32 τ.docs ++ to_be_bytes w32 τ.terms)) (to_be_bytes w32 σ.segments ++ (to_be_bytes w32 σ.docs ++ to_be_bytes w32 σ.terms))
    n refl (λ k low lt. refl) (λ k lt.
    both_same (to_be_bytes w32 τ.segments) (to_be_bytes w32 σ.segments) (to_be_bytes w32 τ.docs ++ to_be_bytes w32 τ.terms) (to_be_bytes w32 σ.docs ++ to_be_bytes w32 σ.terms)
    (n - 8) refl (λ k four low. s k low four) (λ j more.
    both_same (to_be_bytes w32 τ.docs) (to_be_bytes w32 σ.docs) (to_be_bytes w32 τ.terms) (to_be_bytes w32 σ.terms) (n - 12) refl (λ k four low. d k low four) (λ i rest.
    terms_last i (omega (arith, rest))) j (omega (arith, more))) k (omega (arith, lt)))
  where
    terms_last : (i : ℕ) → i < n - 16 → byte τ.terms i ≡ byte σ.terms i
    terms_last i lt = elim (cases_lt i 4) [
      | inl four ↦ t i lt four
      | inr past ↦ get_or_past (to_be_bytes w32 τ.terms) i 0 past ∙ sym (get_or_past (to_be_bytes w32 σ.terms) i 0 past)
    ]

-- the bytes of a number in the first bytes of a head, and 0 for each that is missing
shown : (x at : ℕ) (bytes whole : List ℕ) (rest : List ℕ) → whole ≡ bytes ++ rest → ((k : ℕ) → k < 4 → get_or whole (at + k) 0 ≡ byte x k)
    → Shows x (length bytes - at) (get_or bytes at 0) (get_or bytes (at + 1) 0) (get_or bytes (at + 2) 0) (get_or bytes (at + 3) 0)
shown x at bytes whole rest e has = record {
  first = let z : at + 0 ≡ at = omega arith in (λ lt. ap (λ (i : ℕ). get_or bytes i 0) (sym z) ∙ there 0 (omega arith) lt, λ le. get_or_past bytes at 0 (omega (arith, le)));
  second = (λ lt. there 1 (omega arith) lt, λ le. get_or_past bytes (at + 1) 0 (omega (arith, le)));
  third = (λ lt. there 2 (omega arith) lt, λ le. get_or_past bytes (at + 2) 0 (omega (arith, le)));
  fourth = (λ lt. there 3 (omega arith) lt, λ le. get_or_past bytes (at + 3) 0 (omega (arith, le)));
}
  where
    there : (k : ℕ) → k < 4 → k < length bytes - at → get_or bytes (at + k) 0 ≡ byte x k
    there k four lt = front_byte bytes rest whole (at + k) e (omega (arith, lt)) ∙ has k four

-- what a number in the first bytes of a head is taken for
abbrev pub TakenAt : List ℕ → ℕ → ℕ → ℕ → Type 0
TakenAt bytes at least y = ((0 < from_be_bytes w32 (byte_window bytes at 4)) ⊎ (at + 4 ≤ length bytes) → y ≡ from_be_bytes w32 (byte_window bytes at 4))
    × (from_be_bytes w32 (byte_window bytes at 4) ≡ 0 → length bytes < at + 4 → y ≡ least)

taken_of : (bytes : List ℕ) (at least y : ℕ) → TakenAt bytes at least y
    → Taken least (length bytes - at) (number (get_or bytes at 0) (get_or bytes (at + 1) 0) (get_or bytes (at + 2) 0) (get_or bytes (at + 3) 0)) y
taken_of bytes at least y t =
    let same : from_be_bytes w32 (byte_window bytes at 4) ≡ number (get_or bytes at 0) (get_or bytes (at + 1) 0) (get_or bytes (at + 2) 0) (get_or bytes (at + 3) 0) =
    let b : get_or bytes (at + 1 + 1) 0 ≡ get_or bytes (at + 2) 0 = ap (λ (i : ℕ). get_or bytes i 0) (let e : at + 1 + 1 ≡ at + 2 = omega arith in e) in
    let c : get_or bytes (at + 1 + 1 + 1) 0 ≡ get_or bytes (at + 3) 0 = ap (λ (i : ℕ). get_or bytes i 0) (let e : at + 1 + 1 + 1 ≡ at + 3 = omega arith in e) in
    omega (arith, b, c) in
    (go same, λ none less. t.1 (omega (arith, same, none)) (omega (arith, less)))
  where
    go : (same : from_be_bytes w32 (byte_window bytes at 4) ≡ number (get_or bytes at 0) (get_or bytes (at + 1) 0) (get_or bytes (at + 2) 0) (get_or bytes (at + 3) 0))
        → (0 < number (get_or bytes at 0) (get_or bytes (at + 1) 0) (get_or bytes (at + 2) 0) (get_or bytes (at + 3) 0)) ⊎ (4 ≤ length bytes - at)
        → y ≡ number (get_or bytes at 0) (get_or bytes (at + 1) 0) (get_or bytes (at + 2) 0) (get_or bytes (at + 3) 0)
    go same (inl some) = t.0 (inl (omega (arith, same, some))) ∙ same
    go same (inr le) = t.0 (inr (omega (arith, le))) ∙ same

-- the setting of the numbers that the bytes are taken for
pub record LeastSetting (bytes : List ℕ) (σ : Setting) : Type 0 where
  pub segments : TakenAt bytes 8 1 σ.segments
  pub docs : TakenAt bytes 12 1 σ.docs
  pub terms : TakenAt bytes 16 1024 σ.terms

number_at : (σ : Setting) → ((k : ℕ) → k < 4 → get_or (head_of σ) (8 + k) 0 ≡ byte σ.segments k)
    × ((k : ℕ) → k < 4 → get_or (head_of σ) (12 + k) 0 ≡ byte σ.docs k) × ((k : ℕ) → k < 4 → get_or (head_of σ) (16 + k) 0 ≡ byte σ.terms k)
unfolding head_of
number_at σ =
    let s = to_be_bytes w32 σ.segments in
    let d = to_be_bytes w32 σ.docs in
    let t = to_be_bytes w32 σ.terms in (
      λ k lt. get_or-append-add mark (s ++ (d ++ t)) k 0 ∙ get_or_append_left s (d ++ t) 0 k lt,
      λ k lt. get_or-append-add (mark ++ s) (d ++ t) k 0 ∙ get_or_append_left d t 0 k lt,
      λ k lt. get_or-append-add (mark ++ s ++ d) t k 0,
    )

-- where the bytes begin a head, they begin the head of this setting, and it is allowed
pub least_head : (bytes : List ℕ) (τ : Setting) → LeastSetting bytes τ → Begins IsHead bytes → IsSetting τ × IsFront bytes (head_of τ)
unfolding head_of
least_head bytes τ l (whole, h, front) =
    let σ = h.setting in
    let is = h.allowed in
    let cut : head_of σ ≡ bytes ++ front.rest = sym h.is ∙ front.is in
    let n = length bytes in
    let twenty : n ≤ 20 = omega (arith, head_len whole h, ap length front.is, length-append bytes front.rest) in
    let s = segments_complete σ.segments (n - 8) _ _ _ _ τ.segments is.segments (shown σ.segments 8 bytes (head_of σ) front.rest cut (number_at σ).0) (taken_of bytes 8 1 τ.segments l.segments) in
    let d = docs_complete σ.docs (n - 12) _ _ _ _ τ.docs is.docs (shown σ.docs 12 bytes (head_of σ) front.rest cut (number_at σ).1) (taken_of bytes 12 1 τ.docs l.docs) in
    let t = terms_complete σ.terms (n - 16) _ _ _ _ τ.terms is.terms (shown σ.terms 16 bytes (head_of σ) front.rest cut (number_at σ).2) (taken_of bytes 16 1024 τ.terms l.terms) in
    let words : words_of τ ≤ words_of σ =
    let one : 77 * τ.terms ≤ 77 * σ.terms = omega (arith, t.low) in
    let all = mul-le τ.segments (2 + τ.docs + 77 * τ.terms) σ.segments (2 + σ.docs + 77 * σ.terms) s.low (omega (arith, d.low, t.low)) in
    omega (arith, all) in
    let same = heads_same σ τ n s.same d.same t.same in
    let len : length (take n (head_of τ)) ≡ n = length-take-le n (head_of τ) (omega (arith, twenty)) in
    let begins : take n (head_of τ) ≡ bytes =
    ext_get_or 0 _ _ len (λ (i : ℕ) (lt : i < length (take n (head_of τ))). let low : i < n = omega (arith, lt, len) in
    get_or-take n (head_of τ) i 0 low ∙ (same i low ∙ sym (front_byte bytes front.rest (head_of σ) i cut low))) in (
      record { segments = s.allowed; docs = d.allowed; terms = t.allowed; words = omega (arith, words, is.words) },
      record { rest = drop n (head_of τ); is = sym (take-append-drop n (head_of τ)) ∙ ap (λ (x : List ℕ). x ++ drop n (head_of τ)) begins },
    )

-- a head whose first bytes these are
pub begins_it : (bytes head : List ℕ) (τ : Setting) → IsSetting τ → head ≡ head_of τ → take (length bytes) head ≡ bytes → Begins IsHead bytes
begins_it bytes head τ is e same = (
  head,
  record { setting = τ; allowed = is; is = e },
  record { rest = drop (length bytes) head; is = sym (take-append-drop (length bytes) head) ∙ ap (λ (x : List ℕ). x ++ drop (length bytes) head) same },
)

-- more bytes than a head has begin none
pub none_long : (bytes : List ℕ) → 20 < length bytes → Begins IsHead bytes → ⊥
none_long bytes more (whole, h, front) = omega (arith, more, head_len whole h, ap length front.is, length-append bytes front.rest)

-- the first bytes of the head that they begin
pub first_bytes : (bytes head : List ℕ) (τ : Setting) → head ≡ head_of τ → IsFront bytes (head_of τ) → take (length bytes) head ≡ bytes
first_bytes bytes head τ e front = ap (take (length bytes)) (e ∙ front.is) ∙ take-append_seam bytes front.rest

-- nothing begins a head
pub nothing_begins : Begins IsHead []
nothing_begins =
    let σ : Setting = record { segments = 1; docs = 1; terms = 1024 } in (
      head_of σ,
      record {
        setting = σ;
        allowed = record { segments = (omega arith, omega arith); docs = (omega arith, omega arith); terms = (10, omega arith, omega arith, omega arith); words = omega arith };
        is = refl;
      },
      record { rest = head_of σ; is = refl },
    )

-- bytes that begin a head and are as many are the head
pub whole_head : (bytes : List ℕ) → length bytes ≡ 20 → Begins IsHead bytes → IsHead bytes
whole_head bytes len (whole, h, front) =
    let nil : front.rest ≡ [] = nil_from_length front.rest (omega (arith, len, head_len whole h, ap length front.is, length-append bytes front.rest)) in
    let same : whole ≡ bytes = front.is ∙ (ap (λ (x : List ℕ). bytes ++ x) nil ∙ append-nil bytes) in
    let P : List ℕ → Type 0 = IsHead in
    subst P same h
