-- What a conversion shows of the history.
use Rattle.std.proofs.Common.{◌≡◌, ℕ, zero, suc, ◌+◌, ◌<◌, ◌≤◌, ◌⊎◌, List, [], ◌∷◌, ◌++◌, length, Option, Some, None, refl, ap, sym, subst, arith, append-nil, append_assoc, inl, inr}
use Rattle.std.proofs.lemmas.Bool.{cases_lt}
use mathlib.Core.List.{IsPrefix}
use Rattle.eb_base.specs.Document.{Doc}
use Rattle.eb_base.specs.Setting.{Setting}
use Rattle.eb_place.specs.declared.moment.Conversions.{Conversions}
use Rattle.eb_place.specs.declared.moment.Moment.{Moment}
use Rattle.eb_place.specs.Room.{cut, IsLawful}
use Rattle.eb_place.specs.Moments.{current_of, with_current, IsMoment}
use Rattle.eb_place.proofs.CutSegments.{cut_push, with_doc_keeps}
use Rattle.eb_place.proofs.FirstDocumentWords.{first_in, word_first}
use Rattle.eb_place.proofs.WordsAtMoment.{placed_all}
use Rattle.eb_convert.specs.Converting.{first_word}
use Rattle.eb_place.proofs.ReachedLater.{started_grows}
use Rattle.eb_place.specs.Later.{IsNotBefore}
use Rattle.eb_convert.specs.declared.conversion.Converted.{Converted}
use Rattle.eb_convert.specs.declared.conversion.Converted.TheVariants.{One, Nothing}
use Rattle.eb_engine.specs.Tokens.{ConverterToken, Converts, placed_by, with_placing, known_to}

-- a longer history has no fewer segments
cut_grows : (σ : Setting) (xs ys : List Doc) → length (cut σ xs) ≤ length (cut σ (xs ++ ys))
cut_grows σ xs [] = rw append-nil (omega arith)
cut_grows σ xs (y ∷ ys) =
    let w = with_doc_keeps σ (cut σ xs) y in
    let l = ap length (cut_push σ xs y) in
    let r = cut_grows σ (xs ++ y ∷ []) ys in
    let e : (xs ++ y ∷ []) ++ ys ≡ xs ++ (y ∷ ys) = append_assoc xs (y ∷ []) ys in
    let r' = rw e at r in
    omega (arith, r', w.longer, l)

-- the number of a segment's first document, plus 1, is not 0
first_some : (segs : List (List Doc)) (n s : ℕ) → s < length segs → 1 ≤ first_in n segs s
first_some [] n s h = absurd (omega arith)
first_some (x ∷ xs) n zero h = omega arith
first_some (x ∷ xs) n (suc s) h = first_some xs (n + length x) s (omega arith)

-- there are no more segments than the index has
cut_most : (m : Moment) → IsMoment m → length (cut m.setting (with_current m.documents)) ≤ m.setting.segments
cut_most m is = (placed_all m.setting (with_current m.documents) is.setting is.lawful).short

-- there is a segment after the converted ones
pub next_inside : (m : Moment) (σ : Setting) (count : ℕ) → IsMoment m → m.setting ≡ σ → m.conversions ≡ record { converted = count; packed = 0 } → count < σ.segments
next_inside m σ zero is e c = subst (λ (σ : Setting). 0 < σ.segments) e is.setting.segments.0
next_inside m σ (suc s) is e c =
    let q = ap (λ (x : Conversions). x.converted) c in
    let h = is.closed s (omega (arith, q)) in
    subst (λ (σ : Setting). suc s < σ.segments) e (omega (arith, h, cut_most m is))

-- all documents that a converter at this moment knows
abbrev pub known_at : Moment → List Doc
known_at m = with_placing m.documents.accepted (placed_by m.documents.current)

pub are_known : (m : Moment) → with_current m.documents ≡ known_at m
are_known m = by_current m.documents.current
  where
    by_current : (c : Option (Doc × ℕ)) → m.documents.accepted ++ current_of c ≡ with_placing m.documents.accepted (placed_by c)
    by_current None = append-nil m.documents.accepted
    by_current (Some c) = refl

-- they are more at a later moment
pub knows_on : (m n : Moment) → IsNotBefore n m → IsPrefix (known_at m) (known_at n)
knows_on m n l =
    subst (λ (x : List Doc × List Doc). IsPrefix x.0 x.1) (λ i. (are_known m i, are_known n i))
    (started_grows m.documents.accepted n.documents.accepted m.documents.current n.documents.current l.documents.accepted l.documents.current)

-- a converted segment is closed
pub closing : (n : Moment) (σ : Setting) (s : ℕ) → IsMoment n → n.setting ≡ σ → n.conversions ≡ record { converted = s + 1; packed = 0 } → s + 1 < length (cut σ (known_at n))
closing n σ s is e c =
    let q = ap (λ (x : Conversions). x.converted) c in
    subst (λ (x : Setting × List Doc). s + 1 < length (cut x.0 x.1)) (λ i. (e i, are_known n i)) (is.closed s (omega (arith, q)))

-- a segment that isn't begun is after all segments of what is known
pub none_behind : (n : Moment) (σ : Setting) (s : ℕ) → IsMoment n → n.setting ≡ σ → (s + 1 ≡ σ.segments) ⊎ (first_word n (s + 1) ≡ 0) → length (cut σ (known_at n)) ≤ s + 1
none_behind n σ s is e h =
    subst (λ (x : Setting × List Doc). length (cut x.0 x.1) ≤ s + 1) (λ i. (e i, are_known n i))
    (whole (subst (λ (σ : Setting). (s + 1 ≡ σ.segments) ⊎ (first_word n (s + 1) ≡ 0)) (sym e) h))
  where
    some : s + 1 < length (cut n.setting (with_current n.documents)) → first_word n (s + 1) ≡ 0 → ⊥
    some low z =
        let inside : s + 1 < n.setting.segments = omega (arith, low, cut_most n is) in
        let w = word_first n (s + 1) is inside in
        let f = first_some (cut n.setting (with_current n.documents)) 0 (s + 1) low in
        omega (arith, w, f, z)

    whole : (s + 1 ≡ n.setting.segments) ⊎ (first_word n (s + 1) ≡ 0) → length (cut n.setting (with_current n.documents)) ≤ s + 1
    whole (inl q) = omega (arith, q, cut_most n is)
    whole (inr z) = elim (cases_lt (s + 1) (length (cut n.setting (with_current n.documents)))) [
      | inl low ↦ absurd (some low z)
      | inr high ↦ high
    ]

-- all that is known is a history that the setting allows
pub known_lawful : (n : Moment) (σ : Setting) → IsMoment n → n.setting ≡ σ → IsLawful σ (known_at n)
known_lawful n σ is e = subst (λ (x : Setting × List Doc). IsLawful x.0 x.1) (λ i. (e i, are_known n i)) is.lawful

-- so its first document is in no prefix of the history
pub not_told : (σ : Setting) (old new : List Doc) (s : ℕ) → IsPrefix old new → length (cut σ new) ≤ s + 1 → s + 1 < length (cut σ old) → ⊥
not_told σ old new s p few low =
    let g = cut_grows σ old p.0 in
    let g' = rw p.1 at g in
    omega (arith, g', few, low)

-- a seat that knows no document after a segment has none in the history
few_known : (σ : Setting) (t : ConverterToken) (n : ℕ) → length (cut σ (known_to t)) ≤ n → length (cut σ t.docs) ≤ n
few_known σ t n h = by_placing t.placing h
  where
    by_placing : (p : Option Doc) → length (cut σ (with_placing t.docs p)) ≤ n → length (cut σ t.docs) ≤ n
    by_placing None h = h
    by_placing (Some d) h = omega (arith, h, cut_grows σ t.docs (d ∷ []))

-- where a call converted nothing, it found no document after the next segment
pub nothing_left : (σ : Setting) (old new : ConverterToken) (r : Converted) → Converts σ old new r → ((s : ℕ) → r ≡ One s → ⊥) → length (cut σ new.docs) ≤ new.converted + 1
nothing_left σ old new (One s) did none = absurd (none s refl)
nothing_left σ old new Nothing did none = few_known σ new (new.converted + 1) (omega (arith, did.0, did.1))
