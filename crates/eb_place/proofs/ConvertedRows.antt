-- What the stores of one conversion leave at its words.
use Rattle.std.proofs.Common.{◌≡◌, ℕ, zero, suc, ◌+◌, ◌*◌, ◌^◌, ◌<◌, List, [], ◌∷◌, ◌++◌, length, take, get_or, sum_by, refl, ap, sym, ◌∙◌, arith, append_assoc}
use Rattle.std.proofs.lemmas.List.Sums.{sum_by-cons}
use Rattle.eb_base.specs.Term.{Term}
use Rattle.eb_base.specs.Document.{Doc}
use Rattle.eb_base.specs.Setting.{Setting}
use Rattle.eb_place.specs.Layout.{Slot, size}
use Rattle.eb_place.specs.Layout.Slot.{published, slot}
use Rattle.eb_place.specs.Layout.Region.{converted_region, directory_region, packed_region}
use Rattle.eb_place.specs.Postings.{frequency}
use Rattle.eb_place.specs.Packed.{packed}
use Rattle.eb_place.specs.Placing.{Store, in_row}
use Rattle.eb_place.specs.Conversion.{pack_stores, convert_stores}
use Rattle.eb_place.proofs.StoresWithinTable.{IsWithin}
use Rattle.eb_place.proofs.FreshPoolWords.{Each, Each-append, each_head}
use Rattle.eb_place.proofs.FreshPoolWords.Each.{none, more}
use Rattle.eb_place.proofs.WordsOfTokens.{val, val_keeps, val_stored}
use Rattle.eb_place.proofs.StoringTokens.{Each-front, Each-back}

-- the word is one of this segment
abbrev pub IsOf : ℕ → Slot → Type 0
IsOf s published = ⊥
IsOf s (slot v r i) = v ≡ s

packed_at_index : (s i j : ℕ) → slot s packed_region i ≡ slot s packed_region j → i ≡ j
packed_at_index s i j e = cc

directory_at_index : (s i j : ℕ) → slot s directory_region i ≡ slot s directory_region j → i ≡ j
directory_at_index s i j e = cc

row_of : (s i : ℕ) (vs : List ℕ) → Each (λ (y : Store). IsOf s y.0) (in_row s packed_region i vs)
row_of s i [] = none
row_of s i (v ∷ vs) = more refl (row_of s (i + 1) vs)

pack_of : (s : ℕ) (seg : List Doc) (start k : ℕ) (ts : List Term) → Each (λ (y : Store). IsOf s y.0) (pack_stores s seg start k ts)
unfolding pack_stores
pack_of s seg start k [] = none
pack_of s seg start k (t ∷ ts) = Each-append (row_of s start (packed t seg)) (more refl (pack_of s seg (start + length (packed t seg)) (k + 1) ts))

-- all stores of a conversion are of its segment
pub convert_of : (s : ℕ) (seg : List Doc) → Each (λ (y : Store). IsOf s y.0) (convert_stores s seg)
unfolding convert_stores
convert_of s seg = Each-append (pack_of s seg 0 0 _) (more refl none)

row_after : (s i : ℕ) (vs : List ℕ) (j : ℕ) → j < i → Each (λ (y : Store). y.0 ≡ slot s packed_region j → ⊥) (in_row s packed_region i vs)
row_after s i [] j h = none
row_after s i (v ∷ vs) j h = more (λ e. let k = packed_at_index s i j e in omega arith) (row_after s (i + 1) vs j (omega arith))

row_no_directory : (s i : ℕ) (vs : List ℕ) (j : ℕ) → Each (λ (y : Store). y.0 ≡ slot s directory_region j → ⊥) (in_row s packed_region i vs)
row_no_directory s i [] j = none
row_no_directory s i (v ∷ vs) j = more (λ e. absurd cc) (row_no_directory s (i + 1) vs j)

row_no_converted : (s i : ℕ) (vs : List ℕ) → Each (λ (y : Store). y.0 ≡ slot s converted_region 0 → ⊥) (in_row s packed_region i vs)
row_no_converted s i [] = none
row_no_converted s i (v ∷ vs) = more (λ e. absurd cc) (row_no_converted s (i + 1) vs)

pack_after : (s : ℕ) (seg : List Doc) (start k : ℕ) (ts : List Term) (j : ℕ) → j < start → Each (λ (y : Store). y.0 ≡ slot s packed_region j → ⊥) (pack_stores s seg start k ts)
unfolding pack_stores
pack_after s seg start k [] j h = none
pack_after s seg start k (t ∷ ts) j h = Each-append (row_after s start (packed t seg) j h) (more (λ e. absurd cc) (pack_after s seg (start + length (packed t seg)) (k + 1) ts j (omega arith)))

pack_directory_after : (s : ℕ) (seg : List Doc) (start k : ℕ) (ts : List Term) (j : ℕ) → j < k → Each (λ (y : Store). y.0 ≡ slot s directory_region j → ⊥) (pack_stores s seg start k ts)
unfolding pack_stores
pack_directory_after s seg start k [] j h = none
pack_directory_after s seg start k (t ∷ ts) j h =
    Each-append (row_no_directory s start (packed t seg) j) (more (λ e. let q =
    directory_at_index s k j e in omega arith) (pack_directory_after s seg (start + length (packed t seg)) (k + 1) ts j (omega arith)))

pub pack_no_converted : (s : ℕ) (seg : List Doc) (start k : ℕ) (ts : List Term) → Each (λ (y : Store). y.0 ≡ slot s converted_region 0 → ⊥) (pack_stores s seg start k ts)
unfolding pack_stores
pack_no_converted s seg start k [] = none
pack_no_converted s seg start k (t ∷ ts) = Each-append (row_no_converted s start (packed t seg)) (more (λ e. absurd cc) (pack_no_converted s seg (start + length (packed t seg)) (k + 1) ts))

tail_of : {X : Type 0} {Q : X → Type 0} (x : X) (xs : List X) → Each Q (x ∷ xs) → Each Q xs
tail_of x xs (more h t) = t

-- a row leaves its values
row_value : (σ : Setting) (L : List Store) (s i : ℕ) (vs : List ℕ) (j : ℕ) → Each (IsWithin σ) (in_row s packed_region i vs) → j < length vs
    → val σ (L ++ in_row s packed_region i vs) (slot s packed_region (i + j)) ≡ get_or vs j 0
row_value σ L s i [] j w h = absurd (omega arith)
row_value σ L s i (v ∷ vs) zero w h =
    let x = slot s packed_region i in
    let M = in_row s packed_region (i + 1) vs in
    let e : L ++ ((x, v) ∷ M) ≡ (L ++ (x, v) ∷ []) ++ M = sym (append_assoc L ((x, v) ∷ []) M) in
    let z : i + 0 ≡ i = omega arith in
    ap (λ k. val σ (L ++ ((x, v) ∷ M)) (slot s packed_region k)) z ∙ ap (λ l. val σ l x) e
    ∙ val_keeps σ (L ++ (x, v) ∷ []) M x (each_head (x, v) M w) (tail_of (x, v) M w) (row_after s (i + 1) vs i (omega arith)) ∙ val_stored σ L x v
row_value σ L s i (v ∷ vs) (suc j) w h =
    let x = slot s packed_region i in
    let M = in_row s packed_region (i + 1) vs in
    let e : L ++ ((x, v) ∷ M) ≡ (L ++ (x, v) ∷ []) ++ M = sym (append_assoc L ((x, v) ∷ []) M) in
    let z : i + suc j ≡ i + 1 + j = omega arith in
    ap (λ k. val σ (L ++ ((x, v) ∷ M)) (slot s packed_region k)) z ∙ ap (λ l. val σ l (slot s packed_region (i + 1 + j))) e
    ∙ row_value σ (L ++ (x, v) ∷ []) s (i + 1) vs j (tail_of (x, v) M w) (omega arith)

-- how many packed words the lists of these terms have
abbrev pub lists_long : List Doc → List Term → ℕ
lists_long seg ts = sum_by (λ t. length (packed t seg)) ts

-- the stores of a conversion, term by term: the first list is there
split_first : (L : List Store) (R : List Store) (d : Store) (M : List Store) → L ++ (R ++ (d ∷ M)) ≡ ((L ++ R) ++ d ∷ []) ++ M
split_first L R d M = simp append_assoc

-- the packed words of term j
pub pack_value : (σ : Setting) (L : List Store) (s : ℕ) (seg : List Doc) (start k : ℕ) (ts : List Term) (j i : ℕ) → s < σ.segments → Each (IsWithin σ) (pack_stores s seg start k ts) → j < length ts
    → i < length (packed (get_or ts j []) seg)
    → start + lists_long seg (take j ts) + i < 34 * σ.terms → val σ (L ++ pack_stores s seg start k ts) (slot s packed_region (start + lists_long seg (take j ts) + i)) ≡ get_or
    (packed (get_or ts j []) seg) i 0
unfolding pack_stores size
pack_value σ L s seg start k [] j i ins w h l b = absurd (omega arith)
pack_value σ L s seg start k (t ∷ ts) zero i ins w h l b =
    let p = packed t seg in
    let R = in_row s packed_region start p in
    let d : Store = (slot s directory_region k, start * 2 ^ 32 + frequency t seg) in
    let M = pack_stores s seg (start + length p) (k + 1) ts in
    let z : start + 0 + i ≡ start + i = omega arith in
    let x = slot s packed_region (start + i) in
    let rest = Each-back R (d ∷ M) w in
    ap (λ n. val σ (L ++ (R ++ (d ∷ M))) (slot s packed_region n)) z
    ∙ ap (λ l. val σ l x) (sym (append_assoc L R (d ∷ M)))
    ∙ val_keeps σ (L ++ R) (d ∷ M) x (ins, omega arith) rest (more (λ e. absurd cc) (pack_after s seg (start + length p) (k + 1) ts (start + i) (omega arith)))
    ∙ row_value σ L s start p i (Each-front R (d ∷ M) w) l
pack_value σ L s seg start k (t ∷ ts) (suc j) i ins w h l b =
    let p = packed t seg in
    let R = in_row s packed_region start p in
    let d : Store = (slot s directory_region k, start * 2 ^ 32 + frequency t seg) in
    let M = pack_stores s seg (start + length p) (k + 1) ts in
    let c = sum_by-cons (λ u. length (packed u seg)) t (take j ts) in
    let z : start + lists_long seg (t ∷ take j ts) + i ≡ start + length p + lists_long seg (take j ts) + i = omega arith in
    ap (λ n. val σ (L ++ (R ++ (d ∷ M))) (slot s packed_region n)) z
    ∙ ap (λ l. val σ l (slot s packed_region (start + length p + lists_long seg (take j ts) + i))) (split_first L R d M)
    ∙ pack_value σ ((L ++ R) ++ d ∷ []) s seg (start + length p) (k + 1) ts j i ins (tail_of d M (Each-back R (d ∷ M) w)) (omega arith) l (omega arith)

-- and its directory word
pub pack_directory : (σ : Setting) (L : List Store) (s : ℕ) (seg : List Doc) (start k : ℕ) (ts : List Term) (j : ℕ) → s < σ.segments → Each (IsWithin σ) (pack_stores s seg start k ts)
    → j < length ts → k + j < σ.terms
    → val σ (L ++ pack_stores s seg start k ts) (slot s directory_region (k + j)) ≡ (start + lists_long seg (take j ts)) * 2 ^ 32 + frequency (get_or ts j []) seg
unfolding pack_stores size
pack_directory σ L s seg start k [] j ins w h b = absurd (omega arith)
pack_directory σ L s seg start k (t ∷ ts) zero ins w h b =
    let p = packed t seg in
    let R = in_row s packed_region start p in
    let x = slot s directory_region k in
    let d : Store = (x, start * 2 ^ 32 + frequency t seg) in
    let M = pack_stores s seg (start + length p) (k + 1) ts in
    let z : k + 0 ≡ k = omega arith in
    ap (λ n. val σ (L ++ (R ++ (d ∷ M))) (slot s directory_region n)) z
    ∙ ap (λ l. val σ l x) (split_first L R d M)
    ∙ val_keeps σ ((L ++ R) ++ d ∷ []) M x (ins, omega arith) (tail_of d M (Each-back R (d ∷ M) w)) (pack_directory_after s seg (start + length p) (k + 1) ts k (omega arith))
    ∙ val_stored σ (L ++ R) x (start * 2 ^ 32 + frequency t seg) ∙ ap (λ n. n * 2 ^ 32 + frequency t seg) (omega arith)
pack_directory σ L s seg start k (t ∷ ts) (suc j) ins w h b =
    let p = packed t seg in
    let R = in_row s packed_region start p in
    let d : Store = (slot s directory_region k, start * 2 ^ 32 + frequency t seg) in
    let M = pack_stores s seg (start + length p) (k + 1) ts in
    let c = sum_by-cons (λ u. length (packed u seg)) t (take j ts) in
    let z : k + suc j ≡ k + 1 + j = omega arith in
    let y : start + length p + lists_long seg (take j ts) ≡ start + lists_long seg (t ∷ take j ts) = omega arith in
    ap (λ n. val σ (L ++ (R ++ (d ∷ M))) (slot s directory_region n)) z
    ∙ ap (λ l. val σ l (slot s directory_region (k + 1 + j))) (split_first L R d M)
    ∙ pack_directory σ ((L ++ R) ++ d ∷ []) s seg (start + length p) (k + 1) ts j ins (tail_of d M (Each-back R (d ∷ M) w)) (omega arith) (omega arith)
    ∙ ap (λ n. n * 2 ^ 32 + frequency (get_or ts j []) seg) y
