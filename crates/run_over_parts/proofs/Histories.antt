-- The parts of a history, with one more document.
use Rattle.std.proofs.Common.{◌≡◌, ℕ, zero, suc, ◌+◌, ◌-◌, ◌%◌, ◌<◌, ◌≤◌, inl, inr, Bool, true, false, List, [], ◌∷◌, ◌++◌}
use Rattle.std.proofs.Common.{length, map, get_or, set, Some, refl, ap, ap₂, sym, ◌∙◌, subst, arith, length-append, zero-add}
use Rattle.std.specs.Prelude.{min, ◌^◌, nat_lt, ◌||◌}
use Rattle.std.specs.List.{range_with_len}
use Rattle.std.proofs.lemmas.Bool.{ltb-true}
use Rattle.std.proofs.Math.Nat.{mod-lt}
use Rattle.std.proofs.lemmas.List.Elements.{All-nil, All-cons, All-push, All-head}
use Rattle.eb_base.specs.Document.{Doc}
use Rattle.eb_base.specs.Setting.{Setting}
use Rattle.eb_place.specs.Room.{cut, has_room, fits, last_of, with_doc}
use Rattle.eb_place.proofs.CutSegments.{cut_push, with_doc_last}
use Rattle.eb_blend.specs.Laws.{part, cut_into, HasRisingIds}
use Rattle.eb_blend.specs.Parts.{history, with_document, IsAbove, counted, lengths_of}
use Rattle.eb_blend.proofs.Law.{own_part, other_part}
use Rattle.eb_blend.proofs.Each.{counted_more}
use Rattle.run_over_parts.specs.AcceptedInParts.{last_id}

-- ---- the parts of a range

range_length : (parts a n : ℕ) (docs : List Doc) → length (map (part parts docs) (range_with_len a n)) ≡ n
range_length parts a zero docs = refl
range_length parts a (suc n) docs = ap suc (range_length parts (a + 1) n docs)

pub cut_length : (parts : ℕ) (docs : List Doc) → length (cut_into parts docs) ≡ parts
cut_length parts docs = range_length parts 0 parts docs

range_at : (parts a n i : ℕ) (docs : List Doc) → i < n → get_or (map (part parts docs) (range_with_len a n)) i [] ≡ part parts docs (a + i)
range_at parts a zero i docs lt = absurd (omega (arith, lt))
range_at parts a (suc n) zero docs lt = let e : a ≡ a + 0 = omega arith in ap (part parts docs) e
range_at parts a (suc n) (suc i) docs lt =
    let e : a + 1 + i ≡ a + suc i = omega arith in
    range_at parts (a + 1) n i docs (omega (arith, lt)) ∙ ap (part parts docs) e

pub history_of : (parts p : ℕ) (docs : List Doc) → p < parts → history (cut_into parts docs) p ≡ part parts docs p
history_of parts p docs lt = range_at parts 0 parts p docs lt ∙ ap (part parts docs) (zero-add p)

past_range : (parts a n i : ℕ) (docs : List Doc) → n ≤ i → get_or (map (part parts docs) (range_with_len a n)) i [] ≡ []
past_range parts a zero i docs le = refl
past_range parts a (suc n) zero docs le = absurd (omega (arith, le))
past_range parts a (suc n) (suc i) docs le = past_range parts (a + 1) n i docs (omega (arith, le))

pub history_past : (parts p : ℕ) (docs : List Doc) → parts ≤ p → history (cut_into parts docs) p ≡ []
history_past parts p docs le = past_range parts 0 parts p docs le

-- parts above that of the document stay
range_above : (parts a n : ℕ) (docs : List Doc) (d : Doc) → d.id % parts < a → map (part parts (docs ++ d ∷ [])) (range_with_len a n) ≡ map (part parts docs) (range_with_len a n)
range_above parts a zero docs d lt = refl
range_above parts a (suc n) docs d lt =
    ap₂ (λ (h : List Doc) (hs : List (List Doc)). h ∷ hs) (other_part parts docs d a (λ e. omega (arith, lt, e))) (range_above parts (a + 1) n docs d (omega (arith, lt)))

-- the document's part grows, the others stay
range_push : (parts a n i : ℕ) (docs : List Doc) (d : Doc) → d.id % parts ≡ a + i → i < n
    → map (part parts (docs ++ d ∷ [])) (range_with_len a n)
    ≡ set (map (part parts docs) (range_with_len a n)) i (get_or (map (part parts docs) (range_with_len a n)) i [] ++ d ∷ [])
range_push parts a zero i docs d e lt = absurd (omega (arith, lt))
range_push parts a (suc n) zero docs d e lt =
    let same : d.id % parts ≡ a = omega (arith, e) in
    let own : part parts (docs ++ d ∷ []) a ≡ part parts docs a ++ d ∷ [] = subst (λ p. part parts (docs ++ d ∷ []) p ≡ part parts docs p ++ d ∷ []) same (own_part parts docs d) in
    ap₂ (λ (h : List Doc) (hs : List (List Doc)). h ∷ hs) own (range_above parts (a + 1) n docs d (omega (arith, same)))
range_push parts a (suc n) (suc i) docs d e lt =
    ap₂ (λ (h : List Doc) (hs : List (List Doc)). h ∷ hs) (other_part parts docs d a (λ q. omega (arith, q, e)))
    (range_push parts (a + 1) n i docs d (omega (arith, e)) (omega (arith, lt)))

pub histories_push : (parts : ℕ) (docs : List Doc) (d : Doc) → 1 ≤ parts → cut_into parts (docs ++ d ∷ []) ≡ with_document (cut_into parts docs) d
histories_push parts docs d some =
    let hs = cut_into parts docs in
    let below : d.id % parts < parts = mod-lt d.id (omega (arith, some)) in
    let at : (n : ℕ) → n ≡ parts → cut_into parts (docs ++ d ∷ []) ≡ set hs (d.id % n) (history hs (d.id % n) ++ d ∷ []) = λ n e.
    subst (λ m. cut_into parts (docs ++ d ∷ []) ≡ set hs (d.id % m) (history hs (d.id % m) ++ d ∷ [])) (sym e)
    (range_push parts 0 parts (d.id % parts) docs d (omega arith) below) in
    at (length hs) (cut_length parts docs)

-- ---- the last id

pub last-push : (docs : List Doc) (d : Doc) → last_id (docs ++ d ∷ []) ≡ Some d.id
last-push [] d = refl
last-push (e ∷ []) d = refl
last-push (e ∷ f ∷ docs) d = last-push (f ∷ docs) d

-- ---- ids rise

rising_more : (docs : List Doc) (d : Doc) → HasRisingIds docs → IsAbove (last_id docs) d.id → HasRisingIds (docs ++ d ∷ []) × ((e : Doc) (ds : List Doc) → docs ≡ e ∷ ds → e.id < d.id)
rising_more [] d r above = ((All-nil (λ (f : Doc). d.id < f.id), tt), (λ e ds is. absurd (cc is)))
rising_more (e ∷ []) d r above = (
  (All-cons (λ (f : Doc). e.id < f.id) d [] above (All-nil (λ (f : Doc). e.id < f.id)), (All-nil (λ (f : Doc). d.id < f.id), tt)),
  (λ x ds is. let same : e ≡ x = cc in subst (λ (z : Doc). z.id < d.id) same above),
)
rising_more (e ∷ f ∷ docs) d r above =
    let rest = rising_more (f ∷ docs) d r.1 above in
    let first : e.id < f.id = All-head (λ (g : Doc). e.id < g.id) f docs r.0 in
    let next : f.id < d.id = rest.1 f docs refl in
    let low : e.id < d.id = omega (arith, first, next) in
    ((All-push (λ (g : Doc). e.id < g.id) (f ∷ docs) d r.0 low, rest.0), (λ x ds is. let same : e ≡ x = cc in subst (λ (z : Doc). z.id < d.id) same low))

pub rising-push : (docs : List Doc) (d : Doc) → HasRisingIds docs → IsAbove (last_id docs) d.id → HasRisingIds (docs ++ d ∷ [])
rising-push docs d r above = (rising_more docs d r above).0

-- ---- how many segments a part has

or_first : (a b : Bool) → (a || b) ≡ true → b ≡ false → a ≡ true
or_first true b r e = refl
or_first false b r e = sym e ∙ r

grows_short : (σ : Setting) (segs : List (List Doc)) (d : Doc) → σ.segments ≤ 64 → length segs ≤ 64
    → (nat_lt (length segs) σ.segments || fits σ (last_of segs) d) ≡ true → length (with_doc σ segs d) ≤ 64
grows_short σ [] d few short room = omega arith
grows_short σ (s ∷ segs) d few short room = elim (with_doc_last σ s segs d) [
  | inl w ↦ omega (arith, w.1, short)
  | inr w ↦ let r = ltb-true (length (s ∷ segs)) σ.segments (or_first (nat_lt (length (s ∷ segs)) σ.segments) (fits σ (last_of (s ∷ segs)) d) room w.0) in omega (arith, r, w.1, few)
]

pub short_push : (σ : Setting) (docs : List Doc) (d : Doc) → σ.segments ≤ 64 → length (cut σ docs) ≤ 64 → has_room σ docs d ≡ true → length (cut σ (docs ++ d ∷ [])) ≤ 64
unfolding has_room
short_push σ docs d few short room = subst (λ (z : List (List Doc)). length z ≤ 64) (sym (cut_push σ docs d)) (grows_short σ (cut σ docs) d few short room)

pub short_none : (σ : Setting) → length (cut σ []) ≤ 64
unfolding cut
short_none σ = omega arith

-- ---- how many documents there are

pub counts_push : (parts : ℕ) (docs : List Doc) (d : Doc) → 1 ≤ parts → counted (lengths_of (cut_into parts docs)) ≡ min (length docs) (2 ^ 64 - 1)
    → counted (lengths_of (cut_into parts (docs ++ d ∷ []))) ≡ min (length (docs ++ d ∷ [])) (2 ^ 64 - 1)
counts_push parts docs d some e =
    let long = cut_length parts docs in
    let more = counted_more (cut_into parts docs) d (min (length docs) (2 ^ 64 - 1)) (omega (arith, some, long)) (sym e) in
    let here : counted (lengths_of (cut_into parts (docs ++ d ∷ []))) ≡ counted (lengths_of (with_document (cut_into parts docs) d)) =
    ap (λ hs. counted (lengths_of hs)) (histories_push parts docs d some) in
    let grown : length (docs ++ d ∷ []) ≡ length docs + 1 = length-append docs (d ∷ []) in
    omega (arith, more, here, grown)
