-- Accepted documents are whole: their terms are entered, and their postings are seen.
use Rattle.std.proofs.Common.{◌≡◌, ℕ, zero, suc, ◌<◌, ◌≤◌, ◌==◌, inl, inr, false, cond, List, [], ◌∷◌, ◌++◌, length, get_or}
use Rattle.std.proofs.Common.{filter, count_by, Contains, None, refl, ap, sym, ◌∙◌, subst, arith, append-nil, bytes_eq}
use Rattle.std.specs.List.{position_or_len}
use Rattle.std.proofs.lemmas.Bool.{cases_Bool, cases_lt}
use Rattle.std.proofs.lemmas.List.{length-take, length-append}
use Rattle.std.proofs.lemmas.List.Sums.{sum_by-append}
use Rattle.eb_place.proofs.NextStore.{accepted_lawful}
use Rattle.eb_base.specs.Term.{Term}
use Rattle.eb_base.specs.Document.{Doc}
use Rattle.eb_base.specs.Setting.{Setting}
use Rattle.eb_place.specs.declared.moment.Moment.{Moment}
use Rattle.eb_place.specs.Layout.{place}
use Rattle.eb_place.specs.Layout.Slot.{slot}
use Rattle.eb_place.specs.Layout.Region.{cell_region, tail_region}
use Rattle.eb_place.specs.Postings.{postings, terms_of, distinct, count_of, number_of}
use Rattle.eb_place.specs.Placing.{Store, pairs_of}
use Rattle.eb_place.specs.Room.{cut, IsLawful}
use Rattle.eb_place.specs.Moments.{IsMoment, document_stores, placings}
use Rattle.eb_place.specs.Later.{IsNotBefore, ReachesPacked}
use Rattle.eb_place.specs.Seen.{segment, tails_done, seen_count, is_in, entered, IsEntered}
use Rattle.std.proofs.lemmas.Slice.Eq.{bytes_eq-Decides}
use Rattle.eb_place.proofs.TermNumbersStay.{number_low}
use Rattle.eb_place.proofs.EnoughPackedWords.{length-postings}
use Rattle.eb_place.proofs.FreshPoolWords.{Each}
use Rattle.eb_place.proofs.FreshPoolWords.Each.{none, more}
use Rattle.eb_place.proofs.DictionaryOfTerms.{Behind}
use Rattle.eb_place.proofs.EntryStores.{is_entry, entries, entries_picked}
use Rattle.eb_place.proofs.RegionStores.{picks_all, count_none}
use Rattle.eb_place.proofs.DictionaryAtMoment.{entered_done_is, cells_counted}
use Rattle.eb_place.proofs.WordsAtMoment.{placed_all}
use Rattle.eb_place.proofs.Prefixes.{prefix_self}
use Rattle.eb_place.proofs.EnteredTerms.{is_entered_later}
use Rattle.eb_place.proofs.ReachedLater.{later_reached}

-- the moment at which the last accepted document was whole
abbrev pub whole_moment : Moment → Moment
whole_moment m = record { setting = m.setting; documents = record { accepted = m.documents.accepted; current = None }; conversions = record { converted = 0; packed = 0 } }

pub whole_is : (m : Moment) → IsMoment m → IsMoment (whole_moment m)
whole_is m is = record {
  setting = is.setting;
  lawful = subst (IsLawful m.setting) (sym (append-nil m.documents.accepted)) (accepted_lawful m is);
  begun = tt;
  closed = λ s h. absurd (omega arith);
  packs = λ h. absurd (omega arith);
}

packed_none : (c p : ℕ) → ReachesPacked record { converted = 0; packed = 0 } record { converted = c; packed = p }
packed_none zero p = inr (refl, omega arith)
packed_none (suc c) p = inl (omega arith)

-- its segments are those of the accepted documents
pub whole_segment : (m : Moment) (s : ℕ) → segment (whole_moment m) s ≡ get_or (cut m.setting m.documents.accepted) s []
whole_segment m s = ap (λ (z : List Doc). get_or (cut m.setting z) s []) (append-nil m.documents.accepted)

-- it is not after the moment
pub whole_before : (m : Moment) → IsNotBefore m (whole_moment m)
whole_before m = record {
  setting = refl;
  documents = record { accepted = prefix_self m.documents.accepted; current = tt };
  conversions = packed_none m.conversions.converted m.conversions.packed;
}

-- ---- the postings are seen

whole_tails : (σ : Setting) (docs : List Doc) (s : ℕ) (t : Term) → (h : s < σ.segments)
    → IsMoment (record { setting = σ; documents = record { accepted = docs; current = None }; conversions = record { converted = 0; packed = 0 } })
    → 1 ≤ count_of t (terms_of (get_or (cut σ (docs ++ [])) s [])) → count_by (λ (x : ℕ × ℕ). x.0 == place σ (slot s tail_region (number_of t (terms_of (get_or (cut σ (docs ++ [])) s [])))))
    (pairs_of σ (document_stores σ (record { accepted = docs; current = None }))) ≡ count_of t (terms_of (get_or (cut σ (docs ++ [])) s []))
unfolding document_stores
whole_tails σ docs s t h is some =
    let e : docs ++ [] ≡ docs = append-nil docs in
    let p = placed_all σ (docs ++ []) is.setting is.lawful in
    let l : placings σ (docs ++ []) ≡ placings σ docs ++ [] = ap (placings σ) e ∙ sym (append-nil (placings σ docs)) in
    ap (λ (z : List Store). count_by (λ (x : ℕ × ℕ). x.0 == place σ (slot s tail_region (number_of t (terms_of (get_or (cut σ (docs ++ [])) s []))))) (pairs_of σ z)) (sym l)
    ∙ (p.reached s h).done t some

seen_whole : (m : Moment) (s : ℕ) (t : Term) → IsMoment m → s < m.setting.segments → length (postings t (segment (whole_moment m) s)) ≤ seen_count (whole_moment m) s t
unfolding seen_count tails_done
seen_whole m s t is h =
    let seg : List Doc = segment (whole_moment m) s in
    let n = length-postings t seg in
    elim (cases_lt 0 (count_of t (terms_of seg))) [
      | inl some ↦ let d = whole_tails m.setting m.documents.accepted s t h (whole_is m is) some in
          omega (
            arith,
            n,
            d,
            length-take (count_by (λ (x : ℕ × ℕ). x.0 == place m.setting (slot s tail_region (number_of t (terms_of seg))))
                (pairs_of m.setting (document_stores m.setting (record { accepted = m.documents.accepted; current = None })))) (postings t seg),
          )
      | inr away ↦ omega (arith, n)
    ]

-- as many postings of a term are seen as the accepted documents of the segment have
pub seen_accepted : (m n : Moment) (s : ℕ) (t : Term) → IsMoment m → s < m.setting.segments → IsNotBefore n m → length (postings t (segment (whole_moment m) s)) ≤ seen_count n s t
seen_accepted m n s t is h l = omega (arith, seen_whole m s t is h, later_reached (whole_moment m) m s t (whole_before m), later_reached m n s t l)

-- ---- the terms are entered

behind_none : (s : ℕ) (terms : List Term) (xs : List Store) → Each (Behind s terms) xs → Each (λ (y : Store). is_in s cell_region y ≡ false) xs
behind_none s terms [] none = none
behind_none s terms (x ∷ xs) (more h t) = more h.test (behind_none s terms xs t)

whole_entries : (σ : Setting) (docs : List Doc) (s : ℕ)
    → filter (is_entry s) (document_stores σ (record { accepted = docs; current = None })) ≡ entries σ s [] (distinct (terms_of (get_or (cut σ (docs ++ [])) s [])))
unfolding document_stores
whole_entries σ docs s =
    ap (filter (is_entry s)) (append-nil (placings σ docs)) ∙ picks_all σ s (is_entry s) (λ ts. entries σ s [] (distinct ts)) (entries_picked σ s) docs
    ∙ ap (λ (z : List Doc). entries σ s [] (distinct (terms_of (get_or (cut σ z) s [])))) (sym (append-nil docs))

entered_whole : (m : Moment) (s : ℕ) → entered (whole_moment m) s ≡ distinct (terms_of (segment (whole_moment m) s))
entered_whole m s =
    let σ : Setting = m.setting in
    let d = entered_done_is (whole_moment m) s in
    let D : List Term = distinct (terms_of (segment (whole_moment m) s)) in
    let same : entries σ s [] (entered (whole_moment m) s) ++ d.part ≡ entries σ s [] D = sym d.is ∙ whole_entries σ m.documents.accepted s in
    let counts : count_by (is_in s cell_region) (entries σ s [] (entered (whole_moment m) s) ++ d.part) ≡ length D = ap (count_by (is_in s cell_region)) same ∙ cells_counted σ s D in
    let split = sum_by-append (λ y. cond (is_in s cell_region y) 1 0) (entries σ s [] (entered (whole_moment m) s)) d.part in
    let rest = count_none (is_in s cell_region) d.part (behind_none s (entered (whole_moment m) s) d.part d.behind) in
    let long : length D ≤ length (entered (whole_moment m) s) = omega (arith, counts, split, rest, cells_counted σ s (entered (whole_moment m) s)) in
    whole (entered (whole_moment m) s) D d.left d.all long
  where
    whole : (xs ys left : List Term) → ys ≡ xs ++ left → length ys ≤ length xs → xs ≡ ys
    whole xs ys [] e h = sym (e ∙ append-nil xs)
    whole xs ys (x ∷ left) e h = absurd (omega (arith, ap length e, length-append xs (x ∷ left)))

at_position : (t : Term) (xs : List Term) → position_or_len (bytes_eq t) xs < length xs → Contains xs t
at_position t [] h = absurd (omega arith)
at_position t (x ∷ xs) h = elim (cases_Bool (bytes_eq t x)) [
  | inl e ↦ (0, omega arith, sym ((bytes_eq-Decides t x).0 e))
  | inr e ↦ let w = at_position t xs (omega (arith, rw e at h)) in (suc w.0, omega (arith, w.1), w.2)
]

-- a term of an accepted document of the segment is entered
pub entered_accepted : (m : Moment) (s : ℕ) (t : Term) → 1 ≤ count_of t (terms_of (segment (whole_moment m) s)) → IsEntered m s t
entered_accepted m s t some = is_entered_later (whole_moment m) m s t (whole_before m)
    (subst (λ z. Contains z t) (sym (entered_whole m s)) (at_position t (distinct (terms_of (segment (whole_moment m) s))) (number_low t (terms_of (segment (whole_moment m) s)) some)))
