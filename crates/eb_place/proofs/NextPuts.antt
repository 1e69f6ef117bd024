-- The next put stays the next put while documents grow.
use Rattle.std.proofs.Common.{◌≡◌, ℕ, zero, suc, ◌<◌, ◌≤◌, Bool, List, [], ◌∷◌, ◌++◌, length, drop, get_or, ap, sym, ◌∙◌, subst, Some, slice_get, arith, inl, inr}
use Rattle.std.proofs.lemmas.Bool.{cases_lt, lt-ltb, le-ltb}
use Rattle.std.proofs.lemmas.List.{length-append}
use Rattle.eb_base.specs.Setting.{Setting}
use Rattle.eb_place.specs.declared.moment.Conversions.{Conversions}
use Rattle.eb_place.specs.declared.moment.Moment.{Moment}
use Rattle.eb_place.specs.Layout.{place, size}
use Rattle.eb_place.specs.Layout.Slot.{slot}
use Rattle.eb_place.specs.Layout.Region.{converted_region}
use Rattle.eb_place.specs.Postings.{terms_of, distinct}
use Rattle.eb_place.specs.Room.{cut}
use Rattle.eb_place.specs.Placing.{Store, pairs_of}
use Rattle.eb_place.specs.Conversion.{pack_stores, convert_stores, segment_stores}
use Rattle.eb_place.specs.Moments.{with_current, IsMoment, IsClosed}
use Rattle.eb_place.specs.Later.{IsNotBefore}
use Rattle.eb_place.specs.NextStores.{IsNextPut, conversions_after, after_put}
use Rattle.eb_place.proofs.ReachedLater.{later_started}
use Rattle.eb_place.proofs.NextStore.{segment_stays, find, each_at}
use Rattle.eb_place.proofs.ConverterWords.{closed_room, closed_later}
use Rattle.eb_place.proofs.ConvertedRows.{pack_no_converted}
use Rattle.eb_place.proofs.PlacesOfSlots.{place_once}
use Rattle.eb_place.proofs.PackedStores.{segment_packs}
use Rattle.eb_place.proofs.FreshPoolWords.{Each}
use Rattle.eb_place.proofs.FreshPoolWords.Each.{more}

-- the stores that convert a closed segment stay the same
pub segment_stores_later : (m n : Moment) (s : ℕ) → IsNotBefore n m → IsClosed m s → segment_stores n.setting (with_current n.documents) s ≡ segment_stores m.setting (with_current m.documents) s
segment_stores_later m n s l c =
    let p = later_started m n l in
    ap (λ (σ : Setting). segment_stores σ (with_current n.documents) s) (sym l.setting)
    ∙ ap (λ docs. segment_stores m.setting docs s) (sym p.1)
    ∙ segment_stays m.setting (with_current m.documents) p.0 s c

pub next_put_later : (m n : Moment) (at value : ℕ) → IsNotBefore n m → n.conversions ≡ m.conversions → IsNextPut m at value → IsNextPut n at value
next_put_later m n at value l e h =
    let k = m.conversions.converted in
    let same : n.conversions.converted ≡ k = ap (λ (c : Conversions). c.converted) e in
    record {
      closed = subst (IsClosed n) (sym same) (closed_later m n k l h.closed);
      pair = ap (λ (c : Conversions). slice_get (pairs_of n.setting (segment_stores n.setting (with_current n.documents) c.converted)) c.packed) e
          ∙ ap (λ (σ : Setting). slice_get (pairs_of σ (segment_stores n.setting (with_current n.documents) k)) m.conversions.packed) (sym l.setting)
          ∙ ap (λ zs. slice_get (pairs_of m.setting zs) m.conversions.packed) (segment_stores_later m n k l h.closed)
          ∙ h.pair;
    }

-- ---- stores that come next in a list

-- the first store that is left is the next pair
pub next_pair : (σ : Setting) (xs : List Store) (i : ℕ) (x : Store) (rest : List Store) → drop i xs ≡ x ∷ rest
    → (slice_get (pairs_of σ xs) i ≡ Some (place σ x.0, x.1)) × (slice_get xs i ≡ Some x)
next_pair σ [] zero x rest e = absurd cc
next_pair σ [] (suc i) x rest e = absurd cc
next_pair σ (y ∷ ys) zero x rest e = let s : y ≡ x = cc in (ap (λ (z : Store). Some (place σ z.0, z.1)) s, ap (λ (z : Store). Some z) s)
next_pair σ (y ∷ ys) (suc i) x rest e = next_pair σ ys i x rest e

-- and the others are left after it
pub left_after : (xs : List Store) (i : ℕ) (x : Store) (rest : List Store) → drop i xs ≡ x ∷ rest → drop (suc i) xs ≡ rest
left_after [] zero x rest e = absurd cc
left_after [] (suc i) x rest e = absurd cc
left_after (y ∷ ys) zero x rest e = cc
left_after (y ∷ ys) (suc i) x rest e = left_after ys i x rest e

-- ---- the last store of a conversion is that of the converted word

not_last : (Q : Store → Type 0) (xs : List Store) (y : Store) (i : ℕ) (x : Store) → slice_get (xs ++ y ∷ []) i ≡ Some x → suc i < length (xs ++ y ∷ []) → Each Q xs → Q x
not_last Q [] y i x e l h = absurd (omega arith)
not_last Q (z ∷ zs) y zero x e l (more h t) = let k : z ≡ x = cc in subst Q k h
not_last Q (z ∷ zs) y (suc i) x e l (more h t) = not_last Q zs y i x e (omega arith) t

last_is : (xs : List Store) (y : Store) (i : ℕ) (x : Store) → slice_get (xs ++ y ∷ []) i ≡ Some x → length (xs ++ y ∷ []) ≤ suc i → x ≡ y
last_is [] y zero x e l = cc
last_is [] y (suc i) x e l = absurd cc
last_is (z ∷ zs) y zero x e l = absurd (omega (arith, length-append zs (y ∷ [])))
last_is (z ∷ zs) y (suc i) x e l = last_is zs y i x e (omega arith)

-- a put at the converted word ends the conversion of its segment, and another doesn't
pub record EndsAtWord (m : Moment) (at : ℕ) : Type 0 where
  pub last : at ≡ place m.setting (slot m.conversions.converted converted_region 0) → (after_put m).conversions ≡ record { converted = suc m.conversions.converted; packed = 0 }
  pub other : (at ≡ place m.setting (slot m.conversions.converted converted_region 0) → ⊥)
      → (after_put m).conversions ≡ record { converted = m.conversions.converted; packed = suc m.conversions.packed }

pub put_ends : (m : Moment) (at value : ℕ) → IsMoment m → IsNextPut m at value → EndsAtWord m at
unfolding after_put segment_stores convert_stores size
put_ends m at value is n =
    let σ = m.setting in
    let s = m.conversions.converted in
    let docs = with_current m.documents in
    let seg = get_or (cut σ docs) s [] in
    let P = pack_stores s seg 0 0 (distinct (terms_of seg)) in
    let X = segment_stores σ docs s in
    let c = slot s converted_region 0 in
    let i = m.conversions.packed in
    let k = find σ X i at value n.pair in
    let room = closed_room m s is n.closed in
    let within = each_at X i (k.0, value) (segment_packs σ docs s room) k.1 in
    elim (cases_lt (suc i) (length X)) [
      | inl low ↦
          let away = not_last (λ (y : Store). y.0 ≡ c → ⊥) P (c, 1) i (k.0, value) k.1 low (pack_no_converted s seg 0 0 (distinct (terms_of seg))) in
          record {
            last = λ e. absurd (away (place_once σ k.0 c within.within (room.inside, omega arith) (sym k.2 ∙ e)));
            other = λ e. ap (λ (b : Bool). conversions_after b m.conversions) (lt-ltb (suc i) (length X) low);
          }
      | inr high ↦
          let same = ap (λ (y : Store). y.0) (last_is P (c, 1) i (k.0, value) k.1 high) in
          record {
            last = λ e. ap (λ (b : Bool). conversions_after b m.conversions) (le-ltb (suc i) (length X) high);
            other = λ e. absurd (e (k.2 ∙ ap (place σ) same));
          }
    ]
