-- Two words have two places, and each place is in the table.
use Rattle.std.proofs.Common.{◌≡◌, ℕ, zero, suc, ◌+◌, ◌<◌, ◌==◌, Bool, false, cond, List, [], ◌∷◌, length, get_or, All, refl, ap, sym, ◌∙◌, arith}
use Rattle.std.proofs.lemmas.Bool.{ne_eqb}
use Rattle.std.proofs.lemmas.Nat.{same_from_place, mul-add-lt}
use Rattle.std.proofs.lemmas.List.Elements.{All-head, All-tail}
use Rattle.eb_base.specs.Setting.{Setting, words_of}
use Rattle.eb_place.specs.Layout.{Slot, Region, rank, sizes, starts_at, start, size, segment_words, place, pool_slot, IsInPool}
use Rattle.eb_place.specs.Layout.Slot.{published, slot}
use Rattle.eb_place.specs.Layout.Region.{first_region, converted_region, cell_region, text_place_region, tail_region}
use Rattle.eb_place.specs.Layout.Region.{text_region, id_region, pool_0, pool_1, pool_2, pool_3, directory_region, packed_region}
use Rattle.eb_place.specs.Placing.{Store, pairs_of}
use Rattle.eb_place.specs.Moments.{value_after}

unrank : ℕ → Region
unrank zero = first_region
unrank (suc zero) = converted_region
unrank (suc (suc zero)) = cell_region
unrank (suc (suc (suc zero))) = text_place_region
unrank (suc (suc (suc (suc zero)))) = tail_region
unrank (suc (suc (suc (suc (suc zero))))) = text_region
unrank (suc (suc (suc (suc (suc (suc zero)))))) = id_region
unrank (suc (suc (suc (suc (suc (suc (suc zero))))))) = pool_0
unrank (suc (suc (suc (suc (suc (suc (suc (suc zero)))))))) = pool_1
unrank (suc (suc (suc (suc (suc (suc (suc (suc (suc zero))))))))) = pool_2
unrank (suc (suc (suc (suc (suc (suc (suc (suc (suc (suc zero)))))))))) = pool_3
unrank (suc (suc (suc (suc (suc (suc (suc (suc (suc (suc (suc zero))))))))))) = directory_region
unrank (suc (suc (suc (suc (suc (suc (suc (suc (suc (suc (suc (suc n)))))))))))) = packed_region

unrank-rank : (r : Region) → unrank (rank r) ≡ r
unfolding unrank
unrank-rank first_region = refl
unrank-rank converted_region = refl
unrank-rank cell_region = refl
unrank-rank text_place_region = refl
unrank-rank tail_region = refl
unrank-rank text_region = refl
unrank-rank id_region = refl
unrank-rank pool_0 = refl
unrank-rank pool_1 = refl
unrank-rank pool_2 = refl
unrank-rank pool_3 = refl
unrank-rank directory_region = refl
unrank-rank packed_region = refl

-- parts in a row do not overlap
starts_once : (ns : List ℕ) (r q i j : ℕ) → i < get_or ns r 0 → j < get_or ns q 0 → starts_at ns r + i ≡ starts_at ns q + j → (r ≡ q) × (i ≡ j)
starts_once [] r q i j hi hj e = absurd (omega arith)
starts_once (n ∷ ns) zero zero i j hi hj e = (refl, omega arith)
starts_once (n ∷ ns) zero (suc q) i j hi hj e = absurd (omega arith)
starts_once (n ∷ ns) (suc r) zero i j hi hj e = absurd (omega arith)
starts_once (n ∷ ns) (suc r) (suc q) i j hi hj e = let w = starts_once ns r q i j hi hj (omega arith) in (ap suc w.0, w.1)

-- and all end where the last one does
starts_in : (ns : List ℕ) (r i : ℕ) → i < get_or ns r 0 → starts_at ns r + i < starts_at ns (length ns)
starts_in [] r i h = absurd (omega arith)
starts_in (n ∷ ns) zero i h = omega arith
starts_in (n ∷ ns) (suc r) i h = omega (arith, starts_in ns r i h)

-- the word is one of the index
abbrev pub InTable : Setting → Slot → Type 0
InTable σ published = Unit {0}
InTable σ (slot s r i) = (s < σ.segments) × (i < size σ r)

-- a tail
pub tail_in_segment : (σ : Setting) (s k : ℕ) → InTable σ (slot s tail_region k) → (s < σ.segments) × (k < σ.terms)
unfolding size
tail_in_segment σ s k h = h

-- so its address is one of a pool
pub pool_in_segment : (σ : Setting) (s a : ℕ) → InTable σ (pool_slot s a) → (s < σ.segments) × IsInPool σ a
unfolding pool_slot
pool_in_segment σ s a h = h

-- a word of a region is one of its segment
pub offset_in : (σ : Setting) (r : Region) (i : ℕ) → i < size σ r → start σ r + i < segment_words σ
unfolding start size
offset_in σ r i h = omega (arith, starts_in (sizes σ) (rank r) i h)

-- its place is below the number of words
pub place_in : (σ : Setting) (x : Slot) → InTable σ x → place σ x < words_of σ
unfolding place
place_in σ published h = omega arith
place_in σ (slot s r i) h = let a = offset_in σ r i h.1 in omega (arith, mul-add-lt s (segment_words σ) (start σ r + i) σ.segments h.0 a)

-- two words have two places
pub place_once : (σ : Setting) (x y : Slot) → InTable σ x → InTable σ y → place σ x ≡ place σ y → x ≡ y
unfolding place start size
place_once σ published published hx hy e = refl
place_once σ published (slot s r i) hx hy e = absurd (omega arith)
place_once σ (slot s r i) published hx hy e = absurd (omega arith)
place_once σ (slot s r i) (slot t q j) hx hy e =
    let w = same_from_place s (start σ r + i) t (start σ q + j) (segment_words σ) (offset_in σ r i hx.1) (offset_in σ q j hy.1) (omega arith) in
    let v = starts_once (sizes σ) (rank r) (rank q) i j hx.1 hy.1 w.1 in
    let u : r ≡ q = sym (unrank-rank r) ∙ ap unrank v.0 ∙ unrank-rank q in
    cc

-- stores to other words leave a word as it is
pub untouched : (σ : Setting) (x : Slot) (v : ℕ) (xs : List Store) → InTable σ x → All (λ y. InTable σ y.0) xs → All (λ y. y.0 ≡ x → ⊥) xs → value_after (place σ x) v (pairs_of σ xs) ≡ v
unfolding value_after
untouched σ x v [] h all other = refl
untouched σ x v (y ∷ ys) h all other =
    let away : (place σ y.0 == place σ x) ≡ false = ne_eqb _ _ (λ q. All-head (λ (z : Store). z.0 ≡ x → ⊥) y ys other (place_once σ y.0 x (All-head (λ (z : Store). InTable σ z.0) y ys all) h q)) in
    ap (λ (b : Bool). value_after (place σ x) (cond b y.1 v) (pairs_of σ ys)) away
    ∙ untouched σ x v ys h (All-tail (λ (z : Store). InTable σ z.0) y ys all) (All-tail (λ (z : Store). z.0 ≡ x → ⊥) y ys other)
