-- The first-document words at a moment at which more may be accepted.
use Rattle.std.proofs.Common.{◌≡◌, ◌≢◌, ℕ, zero, suc, ◌+◌, ◌<◌, ◌≤◌, ◌⊎◌, inl, inr, List, [], ◌∷◌, ◌++◌, length, take, get_or, set, refl, ap, sym, ◌∙◌, subst, arith, append-nil, append_assoc}
use Rattle.std.proofs.lemmas.Bool.{cases_lt}
use Rattle.std.proofs.lemmas.List.{length_push, get_or-set_same, get_or-set_other}
use Rattle.std.proofs.lemmas.List.Sums.{sum_by-cons}
use native.Mathlib.Decide.{ℕ_discrete}
use mathlib.Core.List.{IsPrefix}
use Rattle.eb_place.proofs.NextStore.{accepted_lawful}
use Rattle.eb_base.specs.Document.{Doc}
use Rattle.eb_base.specs.Setting.{Setting}
use Rattle.eb_place.specs.declared.moment.Moment.{Moment}
use Rattle.eb_place.specs.Layout.{place}
use Rattle.eb_place.specs.Layout.Slot.{slot}
use Rattle.eb_place.specs.Layout.Region.{first_region}
use Rattle.eb_place.specs.Room.{cut, with_doc, IsLawful}
use Rattle.eb_place.specs.Moments.{IsMoment, word, with_current, current_of}
use Rattle.eb_place.proofs.CutSegments.{cut_push, with_doc_keeps, with_doc_last}
use Rattle.eb_place.specs.Later.{IsNotBefore}
use Rattle.eb_place.proofs.WordsAtMoment.{placed_all, lawful_front}
use Rattle.eb_place.proofs.Prefixes.{prefix_trans}
use Rattle.eb_place.proofs.FirstDocumentWords.{first_in, first_push, first_new, cut_sum, word_first}
use Rattle.eb_search.specs.Visible.{documents_before, AreVisible}
use Rattle.eb_search.proofs.Parts.{is_part}

first_is : (segs : List (List Doc)) (n s : ℕ) → s < length segs → first_in n segs s ≡ n + documents_before segs s + 1
first_is [] n s h = absurd (omega arith)
first_is (x ∷ xs) n zero h = omega arith
first_is (x ∷ xs) n (suc s) h = omega (arith, first_is xs (n + length x) s (omega arith), sum_by-cons {X = List Doc} length x (take s xs))

first_beyond : (segs : List (List Doc)) (n s : ℕ) → length segs ≤ s → first_in n segs s ≡ 0
first_beyond [] n s h = refl
first_beyond (x ∷ xs) n zero h = absurd (omega arith)
first_beyond (x ∷ xs) n (suc s) h = first_beyond xs (n + length x) s (omega arith)

-- a begun segment keeps its word
first_stays : (σ : Setting) (xs ys : List Doc) (s : ℕ) → s < length (cut σ xs) → first_in 0 (cut σ (xs ++ ys)) s ≡ first_in 0 (cut σ xs) s
first_stays σ xs [] s h = ap (λ z. first_in 0 (cut σ z) s) (append-nil xs)
first_stays σ xs (y ∷ ys) s h =
    let w = with_doc_keeps σ (cut σ xs) y in
    let e = cut_push σ xs y in
    ap (λ z. first_in 0 (cut σ z) s) (sym (append_assoc xs (y ∷ []) ys))
    ∙ first_stays σ (xs ++ y ∷ []) ys s (omega (arith, w.longer, ap length e))
    ∙ ap (λ z. first_in 0 z s) e ∙ first_push σ (cut σ xs) y 0 s (λ q. absurd (omega arith))

-- the word of a segment that is begun later: 0, or a greater number than that of these documents
abbrev pub IsHidden : ℕ → ℕ → Type 0
IsHidden n w = (w ≡ 0) ⊎ (n < w)

with_length : (σ : Setting) (segs : List (List Doc)) (d : Doc) → (length (with_doc σ segs d) ≤ length segs) ⊎ (length (with_doc σ segs d) ≡ length segs + 1)
with_length σ [] d = inr refl
with_length σ (x ∷ segs) d = elim (with_doc_last σ x segs d) [
  | inl w ↦ inl (omega (arith, w.1))
  | inr w ↦ inr w.1
]

hidden_push : (σ : Setting) (n : ℕ) (xs : List Doc) (y : Doc) (s : ℕ) → n ≤ length xs → IsHidden n (first_in 0 (cut σ xs) s) → IsHidden n (first_in 0 (with_doc σ (cut σ xs) y) s)
hidden_push σ n xs y s le h = elim (ℕ_discrete s (length (cut σ xs))) [
  | no o ↦ subst (IsHidden n) (sym (first_push σ (cut σ xs) y 0 s o)) h
  | yes q ↦ elim (with_length σ (cut σ xs) y) [
    | inl same ↦ inl (first_beyond (with_doc σ (cut σ xs) y) 0 s (omega arith))
    | inr new ↦ inr (omega (arith, ap (first_in 0 (with_doc σ (cut σ xs) y)) q, first_new σ (cut σ xs) y 0 new, cut_sum σ xs))
  ]
]

hidden_after : (σ : Setting) (n : ℕ) (xs ys : List Doc) (s : ℕ) → n ≤ length xs → IsHidden n (first_in 0 (cut σ xs) s) → IsHidden n (first_in 0 (cut σ (xs ++ ys)) s)
hidden_after σ n xs [] s le h = subst (λ z. IsHidden n (first_in 0 (cut σ z) s)) (sym (append-nil xs)) h
hidden_after σ n xs (y ∷ ys) s le h =
    subst (λ z. IsHidden n (first_in 0 (cut σ z) s)) (append_assoc xs (y ∷ []) ys)
    (hidden_after σ n (xs ++ y ∷ []) ys s (omega (arith, length_push xs y)) (subst (λ z. IsHidden n (first_in 0 z s)) (sym (cut_push σ xs y)) (hidden_push σ n xs y s le h)))

-- the documents begin those that are accepted or being placed
started : (m : Moment) (docs : List Doc) → IsPrefix docs m.documents.accepted → (rest : List Doc) × (docs ++ rest ≡ with_current m.documents)
started m docs p = (p.0 ++ current_of m.documents.current, sym (append_assoc docs p.0 (current_of m.documents.current)) ∙ ap (λ (z : List Doc). z ++ current_of m.documents.current) p.1)

-- the word of a segment of the first accepted documents
pub visible_word : (m : Moment) (docs : List Doc) (s w : ℕ) → IsMoment m → IsPrefix docs m.documents.accepted → s < m.setting.segments → w ≡ word m (place m.setting (slot s first_region 0))
    → s < length (cut m.setting docs) → w ≡ documents_before (cut m.setting docs) s + 1
visible_word m docs s w is p inside e h =
    let r = started m docs p in
    let a : w ≡ first_in 0 (cut m.setting docs) s = e ∙ word_first m s is inside ∙ ap (λ (z : List Doc). first_in 0 (cut m.setting z) s) (sym r.1) ∙ first_stays m.setting docs r.0 s h in
    omega (arith, a, first_is (cut m.setting docs) 0 s h)

-- and of any other
pub hidden_word : (m : Moment) (docs : List Doc) (s w : ℕ) → IsMoment m → IsPrefix docs m.documents.accepted → s < m.setting.segments → w ≡ word m (place m.setting (slot s first_region 0))
    → length (cut m.setting docs) ≤ s → IsHidden (length docs) w
hidden_word m docs s w is p inside e h =
    let r = started m docs p in
    subst (IsHidden (length docs)) (sym (e ∙ word_first m s is inside ∙ ap (λ (z : List Doc). first_in 0 (cut m.setting z) s) (sym r.1)))
    (hidden_after m.setting (length docs) docs r.0 s (omega arith) (inl (first_beyond (cut m.setting docs) 0 s h)))

-- a word that is neither 0 nor above the number of documents is that of a segment of theirs
pub seen_segment : (m : Moment) (docs : List Doc) (s w : ℕ) → IsMoment m → IsPrefix docs m.documents.accepted → s < m.setting.segments → w ≡ word m (place m.setting (slot s first_region 0))
    → w ≢ 0 → w ≤ length docs → s < length (cut m.setting docs)
seen_segment m docs s w is p inside e some low = elim (cases_lt s (length (cut m.setting docs))) [
  | inl h ↦ h
  | inr h ↦ elim (hidden_word m docs s w is p inside e h) [
    | inl z ↦ absurd (some z)
    | inr z ↦ absurd (omega arith)
  ]
]

-- a word that is 0 or above it is the word of none
pub unseen_segment : (m : Moment) (docs : List Doc) (s w : ℕ) → IsMoment m → IsPrefix docs m.documents.accepted → s < m.setting.segments → w ≡ word m (place m.setting (slot s first_region 0))
    → IsHidden (length docs) w → length (cut m.setting docs) ≤ s
unseen_segment m docs s w is p inside e hid = elim (cases_lt s (length (cut m.setting docs))) [
  | inl h ↦
      let v = visible_word m docs s w is p inside e h in
      let i = is_part m.setting docs s h in
      elim hid [
        | inl z ↦ absurd (omega arith)
        | inr z ↦ absurd (omega (arith, i.next, i.some, i.within))
      ]
  | inr h ↦ h
]

-- the first segments of the first accepted documents have their words here
pub record AreSome (m : Moment) (docs : List Doc) (firsts : List ℕ) (segment : ℕ) : Type 0 where
  pub accepted : IsPrefix docs m.documents.accepted
  pub few : segment ≤ length (cut m.setting docs)
  pub each : (s : ℕ) → s < segment → get_or firsts s 0 ≡ documents_before (cut m.setting docs) s + 1

pub none_yet : (m : Moment) (docs : List Doc) (firsts : List ℕ) → IsPrefix docs m.documents.accepted → AreSome m docs firsts 0
none_yet m docs firsts p = record { accepted = p; few = omega arith; each = λ s h. absurd (omega arith) }

pub some_later : (m n : Moment) (docs : List Doc) (firsts : List ℕ) (segment : ℕ) → IsNotBefore n m → AreSome m docs firsts segment → AreSome n docs firsts segment
some_later m n docs firsts segment l h = record {
  accepted = prefix_trans _ _ _ h.accepted l.documents.accepted;
  few = subst (λ (σ : Setting). segment ≤ length (cut σ docs)) l.setting h.few;
  each = λ s low. subst (λ (σ : Setting). get_or firsts s 0 ≡ documents_before (cut σ docs) s + 1) l.setting (h.each s low);
}

-- one more
pub some_more : (m : Moment) (docs : List Doc) (firsts : List ℕ) (segment w : ℕ) → segment < length firsts
    → segment < length (cut m.setting docs) → w ≡ documents_before (cut m.setting docs) segment + 1
    → AreSome m docs firsts segment → AreSome m docs (set firsts segment w) (segment + 1)
some_more m docs firsts segment w long low e h = record { accepted = h.accepted; few = omega arith; each = each }
  where
    each : (s : ℕ) → s < segment + 1 → get_or (set firsts segment w) s 0 ≡ documents_before (cut m.setting docs) s + 1
    each s l = elim (ℕ_discrete s segment) [
      | yes q ↦ subst (λ z. get_or (set firsts segment w) z 0 ≡ documents_before (cut m.setting docs) z + 1) (sym q) (get_or-set_same firsts segment w 0 long ∙ e)
      | no o ↦ get_or-set_other firsts segment s w 0 o ∙ h.each s (omega (arith, o))
    ]

-- all of them
pub some_all : (m : Moment) (docs : List Doc) (firsts : List ℕ) (segment : ℕ) → length (cut m.setting docs) ≤ segment → AreSome m docs firsts segment → AreVisible m docs firsts segment
some_all m docs firsts segment le h = record { accepted = h.accepted; words = record { all = omega (arith, h.few); each = h.each } }

-- there are no more than the index has
pub cut_short : (m : Moment) (docs : List Doc) → IsMoment m → IsPrefix docs m.documents.accepted → length (cut m.setting docs) ≤ m.setting.segments
cut_short m docs is p =
    let placed = placed_all m.setting docs is.setting (lawful_front m.setting docs p.0 (subst (IsLawful m.setting) (sym p.1) (accepted_lawful m is))) in
    placed.short
