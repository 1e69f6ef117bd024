-- The stores of a conversion, one put after the other, also where documents grow between them.
use Rattle.std.proofs.Common.{◌≡◌, ℕ, suc, ◌+◌, ◌*◌, ◌<◌, ◌≤◌, Bool, ltb, List, [], ◌∷◌, ◌++◌, length, drop, get_or, ap, sym, ◌∙◌, subst, arith}
use Rattle.std.proofs.lemmas.Bool.{lt-ltb, le-ltb}
use Rattle.std.proofs.lemmas.List.{length-drop, drop_more, length-append}
use Rattle.eb_base.specs.Setting.{Setting}
use Rattle.eb_place.specs.declared.moment.Conversions.{Conversions}
use Rattle.eb_place.specs.declared.moment.Moment.{Moment}
use Rattle.eb_place.specs.Layout.{place, size}
use Rattle.eb_place.specs.Layout.Slot.{slot}
use Rattle.eb_place.specs.Layout.Region.{converted_region, directory_region, packed_region}
use Rattle.eb_place.specs.Placing.{Store, in_row}
use Rattle.eb_place.specs.Conversion.{segment_stores}
use Rattle.eb_place.specs.Moments.{with_current, IsMoment, IsClosed}
use Rattle.eb_place.specs.Later.{IsNotBefore}
use Rattle.eb_place.specs.NextStores.{IsNextPut, conversions_after, after_put}
use Rattle.eb_place.proofs.PlacesOfSlots.{InTable}
use Rattle.eb_place.proofs.NextStore.{each_at}
use Rattle.eb_place.proofs.PackedStores.{segment_packs}
use Rattle.eb_place.proofs.NextPackedStore.{later_packed, moment_packed}
use Rattle.eb_place.proofs.ConverterWords.{closed_room, closed_later}
use Rattle.eb_place.proofs.NextPuts.{next_pair, left_after, segment_stores_later}
use Rattle.eb_convert.specs.Progress.{HasLeft}

-- the next put, and what is left after it
pub record OnePut (m : Moment) (s : ℕ) (x : Store) (rest : List Store) : Type 0 where
  pub within : InTable m.setting x.0
  pub next : IsNextPut m (place m.setting x.0) x.1
  pub later : IsNotBefore (after_put m) m
  pub moment : IsMoment (after_put m)
  pub left : 1 ≤ length rest → HasLeft (after_put m) s rest
  pub last : rest ≡ [] → (after_put m).conversions ≡ record { converted = suc s; packed = 0 }

pub one_put : (m : Moment) (s : ℕ) (x : Store) (rest : List Store) → IsMoment m → HasLeft m s (x ∷ rest) → OnePut m s x rest
unfolding after_put
one_put m s x rest is h =
    let σ = m.setting in
    let docs = with_current m.documents in
    let X = segment_stores σ docs s in
    let Y = segment_stores σ docs m.conversions.converted in
    let i = m.conversions.packed in
    let q : Y ≡ X = ap (segment_stores σ docs) h.converted in
    let d : drop i Y ≡ x ∷ rest = ap (drop i) q ∙ h.are in
    let g = next_pair σ Y i x rest d in
    let e = left_after Y i x rest d in
    let le = ap length e in
    let ld = length-drop (suc i) Y in
    let lx = ap length d in
    let lz = length-drop i Y in
    let closed : IsClosed m m.conversions.converted = subst (IsClosed m) (sym h.converted) h.closed in
    let next : IsNextPut m (place σ x.0) x.1 = record { closed = closed; pair = g.0 } in
    record {
      within = (each_at Y i x (segment_packs σ docs m.conversions.converted (closed_room m m.conversions.converted is closed)) g.1).within;
      next = next;
      later = later_packed m;
      moment = moment_packed m (place σ x.0) x.1 is next;
      left = λ l. (let long : suc i < length Y = omega arith in
          let c : conversions_after (ltb (suc i) (length Y)) m.conversions ≡ record { converted = m.conversions.converted; packed = suc i } =
          ap (λ (b : Bool). conversions_after b m.conversions) (lt-ltb (suc i) (length Y) long) in
          record { converted = ap (λ (z : Conversions). z.converted) c ∙ h.converted; closed = h.closed; are = ap (λ (z : Conversions). drop z.packed X) c ∙ ap (drop (suc i)) (sym q) ∙ e });
      last = λ z. (let lr = ap length z in
          let short : length Y ≤ suc i = omega arith in
          ap (λ (b : Bool). conversions_after b m.conversions) (le-ltb (suc i) (length Y) short) ∙ ap (λ k. record { converted = suc k; packed = 0 }) h.converted);
    }

-- what is left stays where the conversions do
pub left_later : (m n : Moment) (s : ℕ) (left : List Store) → IsNotBefore n m → n.conversions ≡ m.conversions → HasLeft m s left → HasLeft n s left
left_later m n s left l e h = record {
  converted = ap (λ (z : Conversions). z.converted) e ∙ h.converted;
  closed = closed_later m n s l h.closed;
  are = ap (λ (z : Conversions). drop z.packed (segment_stores n.setting (with_current n.documents) s)) e
      ∙ ap (drop m.conversions.packed) (segment_stores_later m n s l h.closed) ∙ h.are;
}

-- at the beginning all stores are left
pub left_begin : (m : Moment) (s : ℕ) → m.conversions.converted ≡ s → m.conversions.packed ≡ 0 → IsClosed m s → HasLeft m s (segment_stores m.setting (with_current m.documents) s)
left_begin m s c z h = record { converted = c; closed = h; are = ap (λ k. drop k (segment_stores m.setting (with_current m.documents) s)) z }

-- places
pub packed_within : (σ : Setting) (s i : ℕ) → InTable σ (slot s packed_region i) → (s < σ.segments) × (i < 34 * σ.terms)
unfolding size
packed_within σ s i h = h

pub directory_within : (σ : Setting) (s i : ℕ) → InTable σ (slot s directory_region i) → (s < σ.segments) × (i < σ.terms)
unfolding size
directory_within σ s i h = h

-- the next pair by its place and value
pub put_at : (m : Moment) (s : ℕ) (x : Store) (rest : List Store) (at value : ℕ) → OnePut m s x rest → at ≡ place m.setting x.0 → value ≡ x.1 → IsNextPut m at value
put_at m s x rest at value o p v = subst (λ (z : ℕ × ℕ). IsNextPut m z.0 z.1) (λ i. (sym p i, sym v i)) o.next

-- a row in two parts
pub row-append : (s i : ℕ) (xs ys : List ℕ) → in_row s packed_region i (xs ++ ys) ≡ in_row s packed_region i xs ++ in_row s packed_region (i + length xs) ys
row-append s i [] ys = ap (λ k. in_row s packed_region k ys) (omega arith)
row-append s i (x ∷ xs) ys = ap (λ z. (slot s packed_region i, x) ∷ z) (row-append s (i + 1) xs ys ∙ ap (λ k. in_row s packed_region (i + 1) xs ++ in_row s packed_region k ys) (omega arith))

pub converted_within : (σ : Setting) (s : ℕ) → InTable σ (slot s converted_region 0) → s < σ.segments
unfolding size
converted_within σ s h = h.0

-- one word of a row
pub row_one : (s i at : ℕ) (words : List ℕ) (rest : List Store) → i < length words
    → in_row s packed_region (at + i) (drop i words) ++ rest ≡ (slot s packed_region (at + i), get_or words i 0) ∷ (in_row s packed_region (at + (i + 1)) (drop (i + 1) words) ++ rest)
row_one s i at words rest h =
    let e : at + i + 1 ≡ at + (i + 1) = omega arith in
    ap (λ zs. in_row s packed_region (at + i) zs ++ rest) (drop_more words i 0 h)
    ∙ ap (λ k. (slot s packed_region (at + i), get_or words i 0) ∷ (in_row s packed_region k (drop (i + 1) words) ++ rest)) e

-- what is left has more after the word
pub row_rest : (s at : ℕ) (words : List ℕ) (rest : List Store) → 1 ≤ length rest → 1 ≤ length (in_row s packed_region at words ++ rest)
row_rest s at words rest h = omega (arith, length-append (in_row s packed_region at words) rest)
