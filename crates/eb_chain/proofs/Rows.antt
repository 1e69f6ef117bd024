-- Where a row of postings is in the words.
use Rattle.std.proofs.Common.{◌≡◌, ℕ, ◌+◌, ◌/◌, ◌%◌, ◌^◌, ◌<◌, ◌≤◌, refl, ap, sym, ◌∙◌, subst, arith}
use Rattle.eb_base.specs.Setting.{Setting, words_of}
use Rattle.eb_base.specs.Term.{Term}
use Rattle.eb_place.specs.declared.moment.Moment.{Moment}
use Rattle.eb_place.specs.Layout.{place, pool_slot, IsInPool}
use Rattle.eb_place.specs.Moments.{IsMoment}
use Rattle.eb_place.specs.Later.{IsNotBefore}
use Rattle.eb_place.proofs.PlacesOfSlots.{InTable, place_in}
use Rattle.eb_place.proofs.ReaderWords.{address_in_pool}
use Rattle.eb_place.proofs.ReachedWordsStay.{address_later}
use Rattle.eb_chain.specs.Chains.{IsPlaceOf}
use Rattle.eb_chain.specs.Leaps.{IsRow, IsRowAt}
use Rattle.eb_chain.proofs.Leaping.{row_later, row_first}

in_table : (σ : Setting) (s a : ℕ) → s < σ.segments → IsInPool σ a → InTable σ (pool_slot s a)
unfolding pool_slot
in_table σ s a h k = (h, k)

-- the place of a seen posting is below the number of words
pub place_low : (m : Moment) (s : ℕ) (t : Term) (f a at : ℕ) → IsMoment m → IsPlaceOf m s t f a at → at < words_of m.setting
place_low m s t f a at is h =
    let low = place_in m.setting (pool_slot s a) (in_table m.setting s a h.address.inside (address_in_pool m s t f a is h.address)) in
    subst (λ z. z < words_of m.setting) (sym h.is) low

pub place_later : (m n : Moment) (s : ℕ) (t : Term) (f a at : ℕ) → IsMoment m → IsNotBefore n m → IsPlaceOf m s t f a at → IsPlaceOf n s t f a at
place_later m n s t f a at is l h = record { address = address_later m n s t f a is l h.address; is = h.is ∙ ap (λ (σ : Setting). place σ (pool_slot s a)) l.setting }

-- places of one pool follow each other as their addresses do
in_order : (σ : Setting) (s o p at : ℕ) → (o % 2 ^ 30 + p) < 2 ^ 30 → at ≡ place σ (pool_slot s o) → at + p ≡ place σ (pool_slot s (o + p))
unfolding place pool_slot
in_order σ s o p at h e =
    let q : (o + p) / 2 ^ 30 ≡ o / 2 ^ 30 = omega arith in
    let r : (o + p) % 2 ^ 30 ≡ o % 2 ^ 30 + p = omega arith in
    rw (q, r) (omega (arith, e))

low_in_pool : (σ : Setting) (s o : ℕ) → place σ (pool_slot s o) < 2 ^ 27 → o % 2 ^ 30 < 2 ^ 27
unfolding place pool_slot
low_in_pool σ s o h = omega arith

pub row_at : (m : Moment) (s : ℕ) (t : Term) (b o span at : ℕ) → IsMoment m → IsRow m s t b o span → at ≡ place m.setting (pool_slot s o) → IsRowAt m s t b o span at
row_at m s t b o span at is h e =
    let low = place_low m s t b o at is (record { address = row_first m s t b o span h; is = e }) in
    let words = is.setting.words in
    let small : place m.setting (pool_slot s o) < 2 ^ 27 = omega (arith, low, words, e) in
    let inside = low_in_pool m.setting s o small in
    record { row = h; from = λ p k. in_order m.setting s o p at (let few = h.short in omega arith) e }

pub row_at_later : (m n : Moment) (s : ℕ) (t : Term) (b o span at : ℕ) → IsMoment m → IsNotBefore n m → IsRowAt m s t b o span at → IsRowAt n s t b o span at
row_at_later m n s t b o span at is l h =
    record { row = row_later m n s t b o span is l h.row; from = λ p k. h.from p k ∙ ap (λ (σ : Setting). place σ (pool_slot s (o + p))) l.setting }

-- a posting of the row
pub of_row : (m : Moment) (s : ℕ) (t : Term) (b o span at p q : ℕ) → IsRowAt m s t b o span at → p ≤ span → q ≡ p → IsPlaceOf m s t (b + p) (o + p) (at + q)
of_row m s t b o span at p q h k e = record { address = h.row.places p k; is = ap (λ z. at + z) e ∙ h.from p k }

-- its place has 64 bits
pub row_low : (m : Moment) (s : ℕ) (t : Term) (b o span at p : ℕ) → IsMoment m → IsRowAt m s t b o span at → p ≤ span → at + p < 2 ^ 64
row_low m s t b o span at p is h k =
    let low = place_low m s t (b + p) (o + p) (at + p) is (of_row m s t b o span at p p h k refl) in
    let words = is.setting.words in
    omega arith
