-- Text words.
use Rattle.std.proofs.Common.{◌≡◌, ℕ, zero, suc, ◌+◌, ◌-◌, ◌*◌, ◌/◌, ◌<◌, ◌≤◌, List, length, take, drop, get_or, min, inl, inr, refl, ap, sym, ◌∙◌, arith}
use Rattle.std.proofs.lemmas.Bool.{cases_lt}
use Rattle.std.proofs.lemmas.List.{drop-drop, take_all, length-drop}
use Rattle.eb_base.specs.Term.{Term}
use Rattle.eb_place.specs.Room.{text_words}
use Rattle.eb_place.specs.Placing.{little_endian, eights, text_of}

-- a word of the bytes
pub eights_at : (n : ℕ) (bs : List ℕ) (i : ℕ) → i < n → get_or (eights n bs) i 0 ≡ little_endian (take 8 (drop (8 * i) bs))
eights_at zero bs i h = absurd (omega arith)
eights_at (suc n) bs zero h = refl
eights_at (suc n) bs (suc i) h =
    eights_at n (drop 8 bs) i (omega arith)
    ∙ ap (λ z. little_endian (take 8 z)) (drop-drop (8 * i) 8 bs ∙ ap (λ k. drop k bs) (let e : 8 + 8 * i ≡ 8 * suc i = omega arith in e))

-- a text word after the length
pub text_word_at : (t : Term) (i : ℕ) → 1 ≤ i → i < text_words t → get_or (text_of t) i 0 ≡ little_endian (take 8 (drop ((i - 1) * 8) t))
text_word_at t zero h l = absurd (omega arith)
text_word_at t (suc i) h l = eights_at ((length t + 7) / 8) t i (omega arith) ∙ ap (λ k. little_endian (take 8 (drop k t))) (let e : 8 * i ≡ (suc i - 1) * 8 = omega arith in e)

-- the bytes of a text word after the length, as the rest of the bytes from there on and no more
-- than eight
pub word_from : (t bs : List ℕ) (i n w : ℕ) → bs ≡ t → (i ≡ 0 → ⊥) → i < text_words t → n ≡ min (length (take (length bs - (i - 1) * 8) (drop ((i - 1) * 8) bs))) 8
    → w ≡ little_endian (take n (take (length bs - (i - 1) * 8) (drop ((i - 1) * 8) bs))) → w ≡ get_or (text_of t) i 0
word_from t bs i n w e some low few is =
    let xs : List ℕ = drop ((i - 1) * 8) bs in
    let l = length-drop ((i - 1) * 8) bs in
    let whole : take (length bs - (i - 1) * 8) xs ≡ xs = take_all (length bs - (i - 1) * 8) xs (omega arith) in
    let m = few ∙ ap (λ z. min (length z) 8) whole in
    let same : take n xs ≡ take 8 xs = elim (cases_lt (length xs) 8) [
      | inl short ↦ take_all n xs (omega arith) ∙ sym (take_all 8 xs (omega arith))
      | inr long ↦ ap (λ k. take k xs) (let q : n ≡ 8 = omega arith in q)
    ] in
    let some' : 1 ≤ i = elim (cases_lt 0 i) [ inl o ↦ o | inr z ↦ absurd (some (omega arith)) ] in
    is ∙ ap (λ z. little_endian (take n z)) whole ∙ ap little_endian same ∙ ap (λ z. little_endian (take 8 (drop ((i - 1) * 8) z))) e ∙ sym (text_word_at t i some' low)
