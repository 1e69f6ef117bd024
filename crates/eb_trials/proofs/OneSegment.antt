-- An index of one segment.
use Rattle.std.proofs.Common.{◌≡◌, ◌≤◌, ℕ, List, [], ◌∷◌, ◌++◌, length, get_or, take, drop, fold, refl, ap, sym, ◌∙◌, arith, inl, inr, append-nil, append_assoc}
use Rattle.std.proofs.lemmas.Bool.{cases_Bool}
use Rattle.std.proofs.lemmas.List.{take-append-drop, length-take-le}
use mathlib.Core.List.{IsPrefix}
use Rattle.eb_place.proofs.NextStore.{accepted_lawful}
use Rattle.eb_base.specs.Document.{Doc}
use Rattle.eb_base.specs.Setting.{Setting}
use Rattle.eb_place.specs.declared.moment.Moment.{Moment}
use Rattle.eb_place.specs.Room.{cut, fits, with_doc}
use Rattle.eb_place.specs.Moments.{IsMoment}
use Rattle.eb_place.proofs.CutSegments.{with_doc_keeps}
use Rattle.eb_place.specs.Later.{IsNotBefore}
use Rattle.eb_place.proofs.WordsAtMoment.{placed_all}
use Rattle.eb_place.proofs.Prefixes.{prefix_length}
use Rattle.eb_cursor.specs.Accepted.{accepted_in}
use Rattle.eb_trials.specs.Added.{Holds}

longer_fold : (σ : Setting) (segs : List (List Doc)) (docs : List Doc) → length segs ≤ length (fold (with_doc σ) segs docs)
longer_fold σ segs [] = omega arith
longer_fold σ segs (d ∷ ds) = omega (arith, (with_doc_keeps σ segs d).longer, longer_fold σ (with_doc σ segs d) ds)

one_more : (σ : Setting) (segs : List (List Doc)) (d : Doc) → length (with_doc σ segs d) ≤ 1 → get_or (with_doc σ segs d) 0 [] ≡ get_or segs 0 [] ++ d ∷ []
one_more σ [] d h = refl
one_more σ (s ∷ []) d h = elim (cases_Bool (fits σ s d)) [
  | inl here ↦ rw here refl
  | inr away ↦ let k = rw away at h in absurd (omega arith)
]
one_more σ (s ∷ r ∷ rs) d h = absurd (omega (arith, (with_doc_keeps σ (r ∷ rs) d).longer))

all_in_one : (σ : Setting) (segs : List (List Doc)) (docs : List Doc) → length (fold (with_doc σ) segs docs) ≤ 1 → get_or (fold (with_doc σ) segs docs) 0 [] ≡ get_or segs 0 [] ++ docs
all_in_one σ segs [] h = sym (append-nil (get_or segs 0 []))
all_in_one σ segs (d ∷ ds) h =
    let more = longer_fold σ (with_doc σ segs d) ds in
    all_in_one σ (with_doc σ segs d) ds h
    ∙ ap (λ (z : List Doc). z ++ ds) (one_more σ segs d (omega arith))
    ∙ append_assoc (get_or segs 0 []) (d ∷ []) ds

-- where there is one segment, it has all accepted documents
alone : (m : Moment) → IsMoment m → m.setting.segments ≡ 1 → accepted_in m 0 ≡ m.documents.accepted
unfolding cut
alone m is one =
    let few = (placed_all m.setting m.documents.accepted is.setting (accepted_lawful m is)).short in
    all_in_one m.setting [] m.documents.accepted (omega arith)

-- as many as it holds, and at least as many later
pub held : (m n : Moment) (σ : Setting) (docs : List Doc) → IsMoment n → Holds m σ docs → σ.segments ≡ 1 → IsNotBefore n m → length docs ≤ length (accepted_in n 0)
held m n σ docs is h one l =
    let s : n.setting.segments ≡ 1 = ap (λ (τ : Setting). τ.segments) (sym l.setting ∙ h.setting) ∙ one in
    let all = ap length (alone n is s) in
    let more = prefix_length m.documents.accepted n.documents.accepted l.documents.accepted in
    let docs_are = ap length h.accepted in
    omega arith

-- the first n of a list
pub first_of : {A : Type 0} (xs : List A) (n : ℕ) → n ≤ length xs → IsPrefix (take n xs) xs × (length (take n xs) ≡ n)
first_of xs n h = ((drop n xs, take-append-drop n xs), length-take-le n xs h)
