-- Numbers in bytes, and windows of bytes in which missing bytes count as 0.
use Rattle.std.proofs.Common.{◌≡◌, ℕ, zero, suc, ◌+◌, ◌^◌, ◌<◌, List, ◌∷◌, ◌++◌, length, get_or, take, drop, All, refl, sym, ap, ◌∙◌, lit<, arith}
use Rattle.std.specs.Int.{w16, w32, w64, from_be_bytes, to_be_bytes}
use Rattle.std.proofs.lemmas.Nat.{from_be_bytes-to_be_bytes_2, from_be_bytes-to_be_bytes_4, from_be_bytes-to_be_bytes_8}
use Rattle.eb_image.specs.Scan.{byte_window}
use Rattle.std.proofs.lemmas.List.{take_at, drop_at, ext_get_or}

-- lists that begin two equal lists, and are equally long, are equal, and so are the rests
pub same_front : (a b x y : List ℕ) → length a ≡ length b → a ++ x ≡ b ++ y → (a ≡ b) × (x ≡ y)
same_front a b x y len e =
    let one : a ≡ b = sym (take_at a x (length a) refl) ∙ (ap (take (length a)) e ∙ take_at b y (length a) (sym len)) in
    let two : x ≡ y = sym (drop_at a x (length a) refl) ∙ (ap (drop (length a)) e ∙ drop_at b y (length a) (sym len)) in
    (one, two)

-- the number in the first two bytes
pub two_front : (n m : ℕ) (x y : List ℕ) → n < 2 ^ 16 → m < 2 ^ 16 → to_be_bytes w16 n ++ x ≡ to_be_bytes w16 m ++ y → (n ≡ m) × (x ≡ y)
two_front n m x y ln lm e =
    let both = same_front (to_be_bytes w16 n) (to_be_bytes w16 m) x y refl e in
    (sym (from_be_bytes-to_be_bytes_2 n ln) ∙ (ap (from_be_bytes w16) both.0 ∙ from_be_bytes-to_be_bytes_2 m lm), both.1)

pub four_front : (n m : ℕ) (x y : List ℕ) → n < 2 ^ 32 → m < 2 ^ 32 → to_be_bytes w32 n ++ x ≡ to_be_bytes w32 m ++ y → (n ≡ m) × (x ≡ y)
four_front n m x y ln lm e =
    let both = same_front (to_be_bytes w32 n) (to_be_bytes w32 m) x y refl e in
    (sym (from_be_bytes-to_be_bytes_4 n ln) ∙ (ap (from_be_bytes w32) both.0 ∙ from_be_bytes-to_be_bytes_4 m lm), both.1)

pub eight_front : (n m : ℕ) (x y : List ℕ) → n < 2 ^ 64 → m < 2 ^ 64 → to_be_bytes w64 n ++ x ≡ to_be_bytes w64 m ++ y → (n ≡ m) × (x ≡ y)
eight_front n m x y ln lm e =
    let both = same_front (to_be_bytes w64 n) (to_be_bytes w64 m) x y refl e in
    (sym (from_be_bytes-to_be_bytes_8 n ln) ∙ (ap (from_be_bytes w64) both.0 ∙ from_be_bytes-to_be_bytes_8 m lm), both.1)

abbrev pub IsBytes : List ℕ → Type 0
IsBytes bytes = (i : ℕ) → get_or bytes i 0 < 256

pub length-byte_window : (bytes : List ℕ) (at n : ℕ) → length (byte_window bytes at n) ≡ n
length-byte_window bytes at zero = refl
length-byte_window bytes at (suc n) = ap suc (length-byte_window bytes (at + 1) n)

pub byte_window-add : (bytes : List ℕ) (m at n to : ℕ) → to ≡ at + m → byte_window bytes at (m + n) ≡ byte_window bytes at m ++ byte_window bytes to n
byte_window-add bytes zero at n to e =
    let z : 0 + n ≡ n = omega arith in
    let same : at ≡ to = omega arith in
    ap (byte_window bytes at) z ∙ ap (λ t. byte_window bytes t n) same
byte_window-add bytes (suc m) at n to e =
    let s : suc m + n ≡ suc (m + n) = omega arith in
    let next : to ≡ (at + 1) + m = omega arith in
    ap (byte_window bytes at) s ∙ ap (λ (t : List ℕ). get_or bytes at 0 ∷ t) (byte_window-add bytes m (at + 1) n to next)

pub window_byte : (bytes : List ℕ) (at n k d : ℕ) → IsBytes bytes → k < length (byte_window bytes at n) → get_or (byte_window bytes at n) k d < 256
window_byte bytes at zero k d fits lt = absurd (omega arith)
window_byte bytes at (suc n) zero d fits lt = fits at
window_byte bytes at (suc n) (suc k) d fits lt = window_byte bytes (at + 1) n k d fits (omega arith)

pub IsBytes-byte_window : (bytes : List ℕ) (at n : ℕ) → IsBytes bytes → All (λ b. b < 256) (byte_window bytes at n)
IsBytes-byte_window bytes at zero fits = λ k d lt. absurd (omega arith)
IsBytes-byte_window bytes at (suc n) fits = λ k d lt. window_byte bytes at (suc n) k d fits lt

pub window_fits : (bytes : List ℕ) (at n : ℕ) → IsBytes bytes → IsBytes (byte_window bytes at n)
window_fits bytes at zero fits i = lit< tt
window_fits bytes at (suc n) fits zero = fits at
window_fits bytes at (suc n) fits (suc i) = window_fits bytes (at + 1) n fits i

pub get_or-byte_window : (bytes : List ℕ) (at n k to : ℕ) → k < n → to ≡ at + k → get_or (byte_window bytes at n) k 0 ≡ get_or bytes to 0
get_or-byte_window bytes at zero k to lt e = absurd (omega arith)
get_or-byte_window bytes at (suc n) zero to lt e = ap (λ (i : ℕ). get_or bytes i 0) (let s : at ≡ to = omega arith in s)
get_or-byte_window bytes at (suc n) (suc k) to lt e = get_or-byte_window bytes (at + 1) n k to (omega arith) (omega arith)

pub window_all : (bytes : List ℕ) → byte_window bytes 0 (length bytes) ≡ bytes
window_all bytes =
    ext_get_or 0 _ _ (length-byte_window bytes 0 (length bytes))
    (λ (i : ℕ) (lt : i < length (byte_window bytes 0 (length bytes))). get_or-byte_window bytes 0 (length bytes) i i (omega (arith, length-byte_window bytes 0 (length bytes))) (omega arith))
