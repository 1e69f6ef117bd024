-- Windows: places where a window ends.
use Rattle.std.proofs.Common.{◌≡◌, ℕ, zero, suc, ◌+◌, ◌*◌, ◌/◌, ◌<◌, ◌≤◌, Bool, true, leb, min, List, [], ◌∷◌, length, ◌-◌}
use Rattle.std.proofs.Common.{get_or, set, slice_get, Option, Some, None, length-set, refl, sym, ap, ◌∙◌, subst, inl, inr, arith}
use Rattle.std.proofs.lemmas.Bool.{cases_Bool, and_parts, and_from, le-leb, leb-true, leb-false, false≢true}
use Rattle.std.proofs.lemmas.Slice.Eq.{bytes_eq-Decides}
use Rattle.eb_base.specs.Document.{Doc}
use Rattle.eb_base.specs.Query.{window}
use Rattle.eb_base.specs.Match.{Stand}
use Rattle.eb_base.proofs.Matching.{match_decides}
use Rattle.eb_place.specs.declared.moment.Moment.{Moment}
use Rattle.eb_place.specs.Postings.{places}
use Rattle.eb_cursor.specs.Tops.{top, number_before}
use Rattle.eb_cursor.specs.Asked.{CanAskBehind, CanAskLeaf}
use Rattle.eb_cursor.specs.Finds.{FindsLeaf, FindsSpan}
use Rattle.eb_cursor.specs.Lists.{Gives, gives}
use Rattle.eb_cursor.specs.Posted.{doc_at, terms_at, is_term, is_posting, match_at, last_term, first_below, reach_end, is_window_end, Narrow, document_end}
use Rattle.eb_cursor.specs.Ready.{IsLeaf, AllBehind, IsPassed, Ready, upto}
use Rattle.eb_cursor.specs.declared.cursor.Cursor.{Cursor}
use Rattle.eb_cursor.proofs.Tops.{top_le, top_between, top_twice, top_implied, top_here, top_passes}
use Rattle.eb_cursor.proofs.Spans.{before_of, before_up, before_is, first_up, first_low, reach_up}
use Rattle.eb_cursor.proofs.Tellings.{Later}
use Rattle.eb_cursor.proofs.Leaves.{leaf_lower, leaf_later}
use Rattle.eb_cursor.proofs.Readies.{behind_later, ready_lower}
use Rattle.eb_cursor.proofs.Documents.{Block, blocks, posting_at, top_reaches}
use Rattle.eb_cursor.proofs.Phrases.{leaf_upto, upto_set, upto_at, ahead_of}
use Rattle.eb_cursor.proofs.Steps.{passed_min, passed_again}

-- ---- the greatest place where a window ends

-- it is within the reach of the greatest place where its terms can begin
pub window_under : (docs : List Doc) (ts : List (List ℕ)) (w place : ℕ) → top (is_window_end docs ts w) place ≤ reach_end w (first_below docs ts place)
window_under docs ts w place = go (top (is_window_end docs ts w) place) refl
  where
    go : (n : ℕ) → top (is_window_end docs ts w) place ≡ n → top (is_window_end docs ts w) place ≤ reach_end w (first_below docs ts place)
    go zero e = omega arith
    go (suc y) e =
        let ends : is_window_end docs ts w y ≡ true = top_passes (is_window_end docs ts w) place y e in
        let near = leb-true (suc y) (reach_end w (first_below docs ts (suc y))) (and_parts (is_posting docs (last_term ts) y) (leb (suc y) (reach_end w (first_below docs ts (suc y)))) ends).1 in
        let low : suc y ≤ place = omega (arith, top_le (is_window_end docs ts w) place) in
        let up = reach_up w (first_below docs ts (suc y)) (first_below docs ts place) (first_up docs ts (suc y) place low) in
        omega (arith, near, up, e)

-- where no window ends above that, the search goes on below it, or below a greater end
pub window_falls : (docs : List Doc) (ts : List (List ℕ)) (w place reached : ℕ) → reach_end w (first_below docs ts place) ≤ reached → reached ≤ place
    → top (is_window_end docs ts w) place ≡ top (is_window_end docs ts w) reached
window_falls docs ts w place reached e h = sym (top_between (is_window_end docs ts w) reached place (omega (arith, e, window_under docs ts w place)) h)

-- the terms begin where they do before the greatest place of the last
first_at_last : (docs : List Doc) (t : List ℕ) (ts : List (List ℕ)) (place : ℕ) → first_below docs (t ∷ ts) place ≡ first_below docs (t ∷ ts) (top (is_posting docs (last_term (t ∷ ts))) place)
first_at_last docs t [] place = sym (top_twice (is_posting docs t) place)
first_at_last docs t (u ∷ ts) place = ap (λ (k : ℕ). top (is_posting docs t) (number_before k)) (first_at_last docs u ts place)

-- a window ends at the greatest place of the last term where that is within reach
pub window_here : (docs : List Doc) (ts : List (List ℕ)) (w place last : ℕ) → 0 < length ts → last ≡ top (is_posting docs (last_term ts)) place
    → last ≤ reach_end w (first_below docs ts place) → last ≡ top (is_window_end docs ts w) place
window_here docs [] w place last some e h = absurd (omega arith)
window_here docs (t ∷ ts) w place last some e h = go last e h
  where
    under : top (is_window_end docs (t ∷ ts) w) place ≤ top (is_posting docs (last_term (t ∷ ts))) place
    under = top_implied (is_posting docs (last_term (t ∷ ts))) (is_window_end docs (t ∷ ts) w)
        (λ n p. (and_parts (is_posting docs (last_term (t ∷ ts)) n) (leb (suc n) (reach_end w (first_below docs (t ∷ ts) (suc n)))) p).0) place

    go : (n : ℕ) → n ≡ top (is_posting docs (last_term (t ∷ ts))) place → n ≤ reach_end w (first_below docs (t ∷ ts) place) → n ≡ top (is_window_end docs (t ∷ ts) w) place
    go zero i near = omega (arith, under)
    go (suc x) i near =
        let stands : is_posting docs (last_term (t ∷ ts)) x ≡ true = top_passes (is_posting docs (last_term (t ∷ ts))) place x (sym i) in
        let same : first_below docs (t ∷ ts) place ≡ first_below docs (t ∷ ts) (suc x) = first_at_last docs t ts place ∙ ap (first_below docs (t ∷ ts)) (sym i) in
        let within : suc x ≤ reach_end w (first_below docs (t ∷ ts) (suc x)) = subst (λ (k : ℕ). suc x ≤ reach_end w k) same near in
        let ends : is_window_end docs (t ∷ ts) w x ≡ true = and_from (is_posting docs (last_term (t ∷ ts)) x)
        (leb (suc x) (reach_end w (first_below docs (t ∷ ts) (suc x)))) stands (le-leb (suc x) (reach_end w (first_below docs (t ∷ ts) (suc x))) within) in
        let low : x < place = omega (arith, i, top_le (is_posting docs (last_term (t ∷ ts))) place) in
        omega (arith, top_reaches (is_window_end docs (t ∷ ts) w) x place ends low, under, i)

-- ---- from places to documents

-- where terms occur
there_in : (ts : List (List ℕ)) (k : ℕ) (t : List ℕ) → slice_get ts k ≡ Some t → k < length ts
there_in [] k t e = cc
there_in (u ∷ us) zero t e = omega arith
there_in (u ∷ us) (suc k) t e = omega (arith, there_in us k t e)

stand_within : (terms ts : List (List ℕ)) (first last : ℕ) → Stand terms ts first last → (first ≤ last) × (last < length terms)
stand_within terms [] first last h = absurd h
stand_within terms (t ∷ []) first last h = (omega (arith, h.1), omega (arith, h.1, there_in terms first t h.0))
stand_within terms (t ∷ u ∷ ts) first last h = let r = stand_within terms (u ∷ ts) h.1.0 last h.1.2 in (omega (arith, r.0, h.1.1), r.1)

stand_last : (terms ts : List (List ℕ)) (first last : ℕ) → Stand terms ts first last → slice_get terms last ≡ Some (last_term ts)
stand_last terms [] first last h = absurd h
stand_last terms (t ∷ []) first last h = ap (slice_get terms) h.1 ∙ h.0
stand_last terms (t ∷ u ∷ ts) first last h = stand_last terms (u ∷ ts) h.1.0 last h.1.2

some_term : (t : List ℕ) (o : Option (List ℕ)) → o ≡ Some t → is_term t o ≡ true
some_term t o e = ap (is_term t) e ∙ (bytes_eq-Decides t t).1 refl

term_some : (t : List ℕ) (o : Option (List ℕ)) → is_term t o ≡ true → o ≡ Some t
term_some t None e = absurd (false≢true e)
term_some t (Some u) e = ap Some (sym ((bytes_eq-Decides t u).0 e))

posting_here : (docs : List Doc) → Narrow docs → (t : List ℕ) (n k : ℕ) → slice_get (terms_at docs n) k ≡ Some t → is_posting docs t (places * n + k) ≡ true
posting_here docs narrow t n k e =
    let low : k < places = omega (arith, there_in (terms_at docs n) k t e, narrow.narrow n) in
    posting_at docs t n k low ∙ some_term t (slice_get (terms_at docs n) k) e

-- terms that occur in their order in a document can begin there
stand_first : (docs : List Doc) → Narrow docs → (n : ℕ) (ts : List (List ℕ)) (first last : ℕ) → Stand (terms_at docs n) ts first last
    → places * n + first < first_below docs ts (suc (places * n + last))
stand_first docs narrow n [] first last h = absurd h
stand_first docs narrow n (t ∷ []) first last h =
    top_reaches (is_posting docs t) (places * n + first) (suc (places * n + last)) (posting_here docs narrow t n first h.0) (omega (arith, h.1))
stand_first docs narrow n (t ∷ u ∷ ts) first last h =
    let behind = stand_first docs narrow n (u ∷ ts) h.1.0 last h.1.2 in
    let low = before_of (places * n + h.1.0) (first_below docs (u ∷ ts) (suc (places * n + last))) behind in
    top_reaches (is_posting docs t) (places * n + first) (number_before (first_below docs (u ∷ ts) (suc (places * n + last)))) (posting_here docs narrow t n first h.0) (omega (arith, low, h.1.1))

-- terms that can begin in a document whose last place has the last term occur there in their order
first_stands : (docs : List Doc) (n k : ℕ) (t : List ℕ) (ts : List (List ℕ)) (a : ℕ) → k < places → is_posting docs (last_term (t ∷ ts)) (places * n + k) ≡ true
    → first_below docs (t ∷ ts) (suc (places * n + k)) ≡ suc a → places * n ≤ a
    → (j : ℕ) × (a ≡ places * n + j) × (j ≤ k) × Stand (terms_at docs n) (t ∷ ts) j k
first_stands docs n k t [] a low own e h =
    let at : a ≡ places * n + k = omega (arith, top_here (is_posting docs t) (places * n + k) own, e) in
    (k, at, omega arith, (term_some t (slice_get (terms_at docs n) k) (sym (posting_at docs t n k low) ∙ own), refl))
first_stands docs n k t (u ∷ ts) a low own e h = go (first_below docs (u ∷ ts) (suc (places * n + k))) refl (λ b i l. first_stands docs n k u ts b low own i l)
  where
    go : (b : ℕ) → first_below docs (u ∷ ts) (suc (places * n + k)) ≡ b
        → ((x : ℕ) → first_below docs (u ∷ ts) (suc (places * n + k)) ≡ suc x → places * n ≤ x → (j : ℕ) × (x ≡ places * n + j) × (j ≤ k) × Stand (terms_at docs n) (u ∷ ts) j k)
        → (j : ℕ) × (a ≡ places * n + j) × (j ≤ k) × Stand (terms_at docs n) (t ∷ u ∷ ts) j k
    go zero i behind = let no : 0 ≡ suc a = sym (ap (λ (x : ℕ). top (is_posting docs t) (number_before x)) i) ∙ e in absurd (omega (arith, no))
    go (suc b) i behind =
        let is : top (is_posting docs t) b ≡ suc a = sym (ap (λ (x : ℕ). top (is_posting docs t) (number_before x)) i) ∙ e in
        let less : a < b = omega (arith, is, top_le (is_posting docs t) b) in
        let r = behind b i (omega (arith, less, h)) in
        front r.0 r.1 r.2 r.3 less (top_passes (is_posting docs t) b a is)
      where
        front : (q : ℕ) → b ≡ places * n + q → q ≤ k → Stand (terms_at docs n) (u ∷ ts) q k → a < b
            → is_posting docs t a ≡ true → (j : ℕ) × (a ≡ places * n + j) × (j ≤ k) × Stand (terms_at docs n) (t ∷ u ∷ ts) j k
        front q at under stands less here =
            let split : a ≡ places * n + (a - places * n) = omega arith in
            let own_low : a - places * n < places = omega arith in
            let term = term_some t (slice_get (terms_at docs n) (a - places * n)) (sym (posting_at docs t n (a - places * n) own_low) ∙ subst (λ (x : ℕ). is_posting docs t x ≡ true) split here) in
            (a - places * n, split, omega arith, (term, (q, omega arith, stands)))

window_some : (docs : List Doc) → Narrow docs → (ts : List (List ℕ)) (w n : ℕ) → match_at docs (window ts w) n ≡ true → (k : ℕ) × (k < places) × (is_window_end docs ts w (places * n + k) ≡ true)
window_some docs narrow ts w n e =
    let m = (match_decides (window ts w) (doc_at docs n)).0 e in
    let within = stand_within (terms_at docs n) ts m.0 m.1 m.2 in
    let low : m.1 < places = omega (arith, within.1, narrow.narrow n) in
    let last = posting_here docs narrow (last_term ts) n m.1 (stand_last (terms_at docs n) ts m.0 m.1 m.2) in
    let up = reach_up w (suc (places * n + m.0)) (first_below docs ts (suc (places * n + m.1))) (stand_first docs narrow n ts m.0 m.1 m.2) in
    let near : suc (places * n + m.1) ≤ reach_end w (suc (places * n + m.0)) = near_in n m.0 m.1 w within.0 low m.3 in (
      m.1,
      low,
      and_from (is_posting docs (last_term ts) (places * n + m.1)) (leb (suc (places * n + m.1)) (reach_end w (first_below docs ts (suc (places * n + m.1))))) last
          (le-leb (suc (places * n + m.1)) (reach_end w (first_below docs ts (suc (places * n + m.1)))) (omega (arith, near, up))),
    )
  where
    near_in : (n first last w : ℕ) → first ≤ last → last < places → last ≤ first + w → suc (places * n + last) ≤ reach_end w (suc (places * n + first))
    near_in n first last w h low near = let d : (places * n + first) / places ≡ n = omega arith in rw d (omega arith)

window_there : (docs : List Doc) (ts : List (List ℕ)) (w n k : ℕ) → 0 < length ts → k < places → is_window_end docs ts w (places * n + k) ≡ true → match_at docs (window ts w) n ≡ true
window_there docs [] w n k some low e = absurd (omega arith)
window_there docs (t ∷ ts) w n k some low e = go (first_below docs (t ∷ ts) (suc (places * n + k))) refl
  where
    parts : (is_posting docs (last_term (t ∷ ts)) (places * n + k) ≡ true) × (leb (suc (places * n + k)) (reach_end w (first_below docs (t ∷ ts) (suc (places * n + k)))) ≡ true)
    parts = and_parts (is_posting docs (last_term (t ∷ ts)) (places * n + k)) (leb (suc (places * n + k)) (reach_end w (first_below docs (t ∷ ts) (suc (places * n + k))))) e

    near : suc (places * n + k) ≤ reach_end w (first_below docs (t ∷ ts) (suc (places * n + k)))
    near = leb-true (suc (places * n + k)) (reach_end w (first_below docs (t ∷ ts) (suc (places * n + k)))) parts.1

    go : (b : ℕ) → first_below docs (t ∷ ts) (suc (places * n + k)) ≡ b → match_at docs (window (t ∷ ts) w) n ≡ true
    go zero i = let no : suc (places * n + k) ≤ reach_end w 0 = subst (λ (x : ℕ). suc (places * n + k) ≤ reach_end w x) i near in absurd (omega (arith, no))
    go (suc a) i =
        let at : suc (places * n + k) ≤ reach_end w (suc a) = subst (λ (x : ℕ). suc (places * n + k) ≤ reach_end w x) i near in
        let inside : places * n ≤ a = omega (arith, at) in
        let r = first_stands docs n k t ts a low parts.0 i inside in
        (match_decides (window (t ∷ ts) w) (doc_at docs n)).1 (r.0, k, r.3, omega (arith, at, r.1))

window_block : (docs : List Doc) → Narrow docs → (ts : List (List ℕ)) (w : ℕ) → 0 < length ts → (n : ℕ) → Block (match_at docs (window ts w)) (is_window_end docs ts w) n
window_block docs narrow ts w some n = record {
  some = λ e. window_some docs narrow ts w n e;
  none = λ e k low. elim (cases_Bool (is_window_end docs ts w (places * n + k))) [
    | inl ends ↦ absurd (false≢true (sym e ∙ window_there docs ts w n k some low ends))
    | inr away ↦ away
  ];
}

pub window_top : (docs : List Doc) → Narrow docs → (ts : List (List ℕ)) (w : ℕ) → 0 < length ts → (end : ℕ)
    → top (match_at docs (window ts w)) end ≡ document_end (top (is_window_end docs ts w) (places * end))
window_top docs narrow ts w some end = blocks (match_at docs (window ts w)) (is_window_end docs ts w) (window_block docs narrow ts w some) end

-- ---- the whole window

pub behind_length : (g : Gives) (docs : List Doc) (ts : List (List ℕ)) (cursors : List Cursor) (end : ℕ) → AllBehind g docs ts cursors end → length cursors ≡ length ts
behind_length g docs [] cursors end r = ap length r
behind_length g docs (t ∷ ts) [] end r = absurd r
behind_length g docs (t ∷ ts) (s ∷ ss) end r = omega (arith, behind_length g docs ts ss end r.1)

pub behind_upto : (g : Gives) (docs : List Doc) (ts : List (List ℕ)) (cursors : List Cursor) (d : Cursor) (v k i y : ℕ) → AllBehind g docs ts cursors y
    → AllBehind g docs ts (set cursors 0 (record { upto = v; lead = k; segment = i; current = (get_or cursors 0 d).current; list = (get_or cursors 0 d).list })) y
behind_upto g docs [] [] d v k i y r = r
behind_upto g docs [] (s ∷ ss) d v k i y r = let e : s ∷ ss ≡ [] = r in cc
behind_upto g docs (t ∷ ts) [] d v k i y r = absurd r
behind_upto g docs (t ∷ ts) (s ∷ ss) d v k i y r = (leaf_upto g (is_posting docs t) s v k i (number_before (first_below docs ts y)) r.0, r.1)

pub window_asks : (g : Gives) (docs : List Doc) (ts : List (List ℕ)) (w : ℕ) (cursors : List Cursor) (d : Cursor) (start end last : ℕ)
    → start ≡ min (places * end) (get_or cursors 0 d).upto → (start ≡ 0 → ⊥) → Ready g docs (window ts w) cursors last
    → (start ≤ (get_or cursors 0 d).upto) × AllBehind g docs ts cursors (get_or cursors 0 d).upto
window_asks g docs ts w cursors d start end last m some r = let u : upto cursors ≡ (get_or cursors 0 d).upto = upto_at cursors d r.0 in
    let ahead : 0 < upto cursors = ahead_of start (places * end) (get_or cursors 0 d).upto (upto cursors) m some u in
    (omega arith, subst (λ y. AllBehind g docs ts cursors y) u (r.4 ahead))

passed_at : (docs : List Doc) (ts : List (List ℕ)) (w : ℕ) (cursors : List Cursor) (d : Cursor) (last : ℕ) → 0 < length cursors
    → IsPassed (is_window_end docs ts w) (upto cursors) (places * last) → IsPassed (is_window_end docs ts w) (get_or cursors 0 d).upto (places * last)
passed_at docs ts w cursors d last some p = subst (λ y. IsPassed (is_window_end docs ts w) y (places * last)) (upto_at cursors d some) p

-- all places are passed
pub window_past : (g : Gives) (docs : List Doc) (ts : List (List ℕ)) (w : ℕ) (cursors : List Cursor) (d : Cursor) (start end last : ℕ)
    → start ≡ min (places * end) (get_or cursors 0 d).upto → start ≡ 0 → end ≤ last → Ready g docs (window ts w) cursors last
    → (0 ≡ top (match_at docs (window ts w)) end) × Ready g docs (window ts w) cursors end
window_past g docs ts w cursors d start end last m z h r =
    let f : ℕ → Bool = is_window_end docs ts w in
    let some : 0 < length ts = omega (arith, r.3, r.0) in
    let none : min (places * end) (get_or cursors 0 d).upto ≡ 0 = sym m ∙ z in
    let top_is : 0 ≡ top f (places * end) = ap (top f) (sym none) ∙ passed_min f (get_or cursors 0 d).upto (places * end) (places * last) (omega arith) (passed_at docs ts w cursors d last r.0 r.2) in
    (ap document_end top_is ∙ sym (window_top docs r.1 ts w some end), ready_lower g docs (window ts w) cursors end last h r)

pub window_told : (g g' : Gives) (docs : List Doc) (ts : List (List ℕ)) (v : ℕ) (cursors cursors2 : List Cursor) (d d' : Cursor) (start end last found : ℕ)
    → start ≡ min (places * end) (get_or cursors 0 d).upto → end ≤ last → length cursors2 ≡ length cursors
    → (found ≡ top (is_window_end docs ts v) start) × AllBehind g' docs ts cursors2 found
    → Ready g docs (window ts v) cursors last
    → (document_end found ≡ top (match_at docs (window ts v)) end)
    × Ready g' docs (window ts v) (set cursors2 0
    (record { upto = found; lead = (get_or cursors2 0 d').lead; segment = (get_or cursors2 0 d').segment; current = (get_or cursors2 0 d').current; list = (get_or cursors2 0 d').list })) end
window_told g g' docs ts v cursors cursors2 d d' start end last found m h len w r =
    let f : ℕ → Bool = is_window_end docs ts v in
    let some : 0 < length ts = omega (arith, r.3, r.0) in
    let some2 : 0 < length cursors2 = omega (arith, len, r.0) in
    let top_is : found ≡ top f (places * end) = w.0 ∙ ap (top f) m ∙ passed_min f (get_or cursors 0 d).upto (places * end) (places * last) (omega arith) (passed_at docs ts v cursors d last r.0 r.2) in
    let s' : Cursor =
    record { upto = found; lead = (get_or cursors2 0 d').lead; segment = (get_or cursors2 0 d').segment; current = (get_or cursors2 0 d').current; list = (get_or cursors2 0 d').list } in
    let u : upto (set cursors2 0 s') ≡ found = upto_set cursors2 s' some2 in
    let again : IsPassed f (upto (set cursors2 0 s')) (places * end) = subst (λ y. IsPassed f y (places * end)) (sym u) (passed_again f found (places * end) top_is) in
    let leaves : AllBehind g' docs ts (set cursors2 0 s') (upto (set cursors2 0 s')) =
    subst (λ y. AllBehind g' docs ts (set cursors2 0 s') y) (sym u) (behind_upto g' docs ts cursors2 d' found _ _ found w.1) in
    let long : 0 < length (set cursors2 0 s') = omega (arith, length-set cursors2 0 s') in
    (ap document_end top_is ∙ sym (window_top docs r.1 ts v some end), (long, r.1, again, length-set cursors2 0 s' ∙ len ∙ r.3, λ _. leaves))

-- ---- the leaves, from the last on

-- where terms are, each as near as it can before the one after it
abbrev pub IsSpan : Gives → List Doc → List (List ℕ) → List Cursor → ℕ → ℕ → ℕ → Type 0
IsSpan g docs ts ss end first last = (first ≡ first_below docs ts end) × (last ≡ top (is_posting docs (last_term ts)) end) × AllBehind g docs ts ss end

-- so it is within a limit
abbrev pub IsWithin : Gives → List Doc → List (List ℕ) → ℕ → List Cursor → ℕ → ℕ → ℕ → Type 0
IsWithin g docs ts limit ss end first last = (first_below docs ts end ≤ first) × (last ≤ first + limit → first ≡ first_below docs ts end)
    × (last ≡ top (is_posting docs (last_term ts)) end) × AllBehind g docs ts ss end

span_within : (g : Gives) (docs : List Doc) (ts : List (List ℕ)) (limit : ℕ) (ss : List Cursor) (end first last : ℕ)
    → IsSpan g docs ts ss end first last → IsWithin g docs ts limit ss end first last
span_within g docs ts limit ss end first last r = (omega (arith, r.0), λ near. r.0, r.1, r.2)

-- a limit that nothing exceeds
pub within_span : (g : Gives) (docs : List Doc) (ts : List (List ℕ)) (limit : ℕ) (ss : List Cursor) (end first last : ℕ) → end ≤ limit
    → IsWithin g docs ts limit ss end first last → IsSpan g docs ts ss end first last
within_span g docs ts limit ss end first last h r = (r.1 (omega (arith, r.2, h, top_le (is_posting docs (last_term ts)) end)), r.2, r.3)

-- the first leaf of a window, and the others
abbrev pub FrontBehind : Gives → List Doc → List (List ℕ) → Cursor → List Cursor → ℕ → Type 0
FrontBehind g docs ts s ss y = (t : List ℕ) × (us : List (List ℕ)) × (ts ≡ t ∷ us) × IsLeaf g (is_posting docs t) s (number_before (first_below docs us y)) × AllBehind g docs us ss y

pub behind_asks : (g : Gives) (docs : List Doc) (ts : List (List ℕ)) (cursors : List Cursor) (s : Cursor) (ss : List Cursor) (y : ℕ) → cursors ≡ s ∷ ss
    → AllBehind g docs ts cursors y → FrontBehind g docs ts s ss y
behind_asks g docs [] cursors s ss y e r = let k : s ∷ ss ≡ [] = sym e ∙ r in cc
behind_asks g docs (t ∷ us) [] s ss y e r = absurd r
behind_asks g docs (t ∷ us) (x ∷ xs) s ss y e r = let a : x ≡ s = cc in let b : xs ≡ ss = cc in
    (t, us, refl, subst (λ z. IsLeaf g (is_posting docs t) z (number_before (first_below docs us y))) a r.0, subst (λ z. AllBehind g docs us z y) b r.1)

-- the leaf of the last term
pub last_leaf : (g : Gives) (docs : List Doc) (us : List (List ℕ)) (s : Cursor) (ss : List Cursor) (t : List ℕ) (end y : ℕ) → end ≤ y → length ss ≡ 0
    → IsLeaf g (is_posting docs t) s (number_before (first_below docs us y)) → AllBehind g docs us ss y → (us ≡ []) × (ss ≡ []) × IsLeaf g (is_posting docs t) s end
last_leaf g docs [] s ss t end y h e leaf r = (refl, r, leaf_lower g (is_posting docs t) s end y h leaf)
last_leaf g docs (u ∷ us) s [] t end y h e leaf r = absurd r
last_leaf g docs (u ∷ us) s (x ∷ xs) t end y h e leaf r = absurd (omega arith)

pub span_last : (g : Gives) (docs : List Doc) (ts us : List (List ℕ)) (t : List ℕ) (s' : Cursor) (ss : List Cursor) (end place : ℕ) → ts ≡ t ∷ us → us ≡ [] → ss ≡ []
    → (place ≡ top (is_posting docs t) end) × IsLeaf g (is_posting docs t) s' end → IsSpan g docs ts (s' ∷ ss) end place place
span_last g docs ts us t s' ss end place e i k w =
    let one : ts ≡ t ∷ [] = e ∙ ap (λ (z : List (List ℕ)). t ∷ z) i in
    let all : AllBehind g docs (t ∷ []) (s' ∷ ss) end = (w.1, k) in
    let told : IsSpan g docs (t ∷ []) (s' ∷ ss) end place place = (w.0, w.0, all) in
    subst (λ (z : List (List ℕ)). IsSpan g docs z (s' ∷ ss) end place place) (sym one) told

-- where the last term is alone, its leaf may be asked
pub alone_can : {S : Type 0} (stands : S → Moment → Type 0) (p : S) (cursors : List Cursor) (s : Cursor) (ss : List Cursor) (end : ℕ)
    → cursors ≡ s ∷ ss → length ss ≡ 0 → CanAskBehind stands p cursors end → CanAskLeaf stands p s end
alone_can stands p cursors s ss end e none r =
    let a = behind_asks (gives r.0) r.1 r.2 cursors s ss r.3 e r.6 in
    (r.0, is_posting r.1 a.0, r.4, (last_leaf (gives r.0) r.1 a.1 s ss a.0 end r.3 r.5 none a.3 a.4).2)

-- and it begins and ends the terms
pub alone_found : {S : Type 0} {stands : S → Moment → Type 0} {keeps : S → Moment → S → Moment → Type 0} {p p1 : S} (cursors : List Cursor) (s s' : Cursor) (ss : List Cursor)
    (limit end place : ℕ) → cursors ≡ s ∷ ss → length ss ≡ 0 → FindsLeaf stands keeps p p1 s s' end place
    → FindsSpan stands keeps p p1 limit cursors (s' ∷ ss) end (record { first = place; last = place })
alone_found cursors s s' ss limit end place e none found = λ docs ts last h. record {
  told = λ m st r.
      let a = behind_asks (gives m) docs ts cursors s ss last e r in
      let l = last_leaf (gives m) docs a.1 s ss a.0 end last h none a.3 a.4 in
      let x = (found (is_posting docs a.0)).told m st l.2 in (
        x.0,
        x.1,
        x.2,
        x.3,
        span_within (gives x.0) docs ts limit (s' ∷ ss) end place place (span_last (gives x.0) docs ts a.1 a.0 s' ss end place a.2 l.0 l.1 (x.4.0, x.4.1)),
      );
}

-- so it is for a single cursor
pub single_can : {S : Type 0} (stands : S → Moment → Type 0) (p : S) (cursors : List Cursor) (d : Cursor) (end : ℕ)
    → 0 < length cursors → length cursors ≤ 1 → CanAskBehind stands p cursors end → CanAskLeaf stands p (get_or cursors 0 d) end
single_can stands p [] d end some few r = absurd (omega arith)
single_can stands p (s ∷ []) d end some few r = alone_can stands p (s ∷ []) s [] end refl refl r
single_can stands p (s ∷ x ∷ xs) d end some few r = absurd (omega arith)

pub single_found : {S : Type 0} {stands : S → Moment → Type 0} {keeps : S → Moment → S → Moment → Type 0} {p p1 : S} (cursors : List Cursor) (d s' : Cursor) (limit end place : ℕ)
    → 0 < length cursors → length cursors ≤ 1 → FindsLeaf stands keeps p p1 (get_or cursors 0 d) s' end place
    → FindsSpan stands keeps p p1 limit cursors (set cursors 0 s') end (record { first = place; last = place })
single_found [] d s' limit end place some few found = absurd (omega arith)
single_found (s ∷ []) d s' limit end place some few found = alone_found (s ∷ []) s s' [] limit end place refl refl found
single_found (s ∷ x ∷ xs) d s' limit end place some few found = absurd (omega arith)

-- the last of terms is that of those after the first, where there are some
last_behind : (t : List ℕ) (us : List (List ℕ)) → 0 < length us → last_term (t ∷ us) ≡ last_term us
last_behind t [] h = absurd (omega arith)
last_behind t (u ∷ us) h = refl

last_behind_is : (g : Gives) (docs : List Doc) (us : List (List ℕ)) (t : List ℕ) (ss : List Cursor) (end last : ℕ) → 0 < length ss → AllBehind g docs us ss end
    → last ≡ top (is_posting docs (last_term us)) end → last ≡ top (is_posting docs (last_term (t ∷ us))) end
last_behind_is g docs us t ss end last some r e = e ∙ ap (λ (z : List ℕ). top (is_posting docs z) end) (sym (last_behind t us (omega (arith, some, behind_length g docs us ss end r))))

-- the first leaf isn't asked
front_waits : (g g' : Gives) → Later g g' → (docs : List Doc) (us : List (List ℕ)) (t : List ℕ) (s : Cursor) (end last : ℕ) → end ≤ last
    → IsLeaf g (is_posting docs t) s (number_before (first_below docs us last)) → IsLeaf g' (is_posting docs t) s (number_before (first_below docs us end))
front_waits g g' w docs us t s end last h leaf =
    leaf_lower g' (is_posting docs t) s (number_before (first_below docs us end))
    (number_before (first_below docs us last)) (before_up (first_below docs us end) (first_below docs us last) (first_up docs us end last h))
    (leaf_later g g' w (is_posting docs t) s (number_before (first_below docs us last)) leaf)

-- the terms after don't occur in their order
pub span_none : (g g' : Gives) → Later g g' → (docs : List Doc) (ts us : List (List ℕ)) (t : List ℕ) (limit nearer : ℕ) (s : Cursor) (ss : List Cursor) (end last first behind_last : ℕ)
    → ts ≡ t ∷ us → 0 < length ss → end ≤ last → first ≡ 0 → IsWithin g' docs us nearer ss end first behind_last
    → IsLeaf g (is_posting docs t) s (number_before (first_below docs us last)) → IsWithin g' docs ts limit (s ∷ ss) end first behind_last
span_none g g' w docs ts us t limit nearer s ss end last first behind_last e some h none r leaf =
    let zero_is : first_below docs us end ≡ 0 = omega (arith, r.0, none) in
    let none_is : first ≡ first_below docs (t ∷ us) end = none ∙ sym (ap (λ (k : ℕ). top (is_posting docs t) (number_before k)) zero_is) in
    let told : IsSpan g' docs (t ∷ us) (s ∷ ss) end first behind_last =
    (none_is, last_behind_is g' docs us t ss end behind_last some r.3 r.2, (front_waits g g' w docs us t s end last h leaf, r.3)) in
    subst (λ (z : List (List ℕ)). IsWithin g' docs z limit (s ∷ ss) end first behind_last) (sym e) (span_within g' docs (t ∷ us) limit (s ∷ ss) end first behind_last told)

-- the terms after are too far apart
pub span_far : (g g' : Gives) → Later g g' → (docs : List Doc) (ts us : List (List ℕ)) (t : List ℕ) (limit nearer : ℕ) (s : Cursor) (ss : List Cursor) (end last behind behind_last : ℕ)
    → ts ≡ t ∷ us → 0 < length ss → end ≤ last → limit ≤ nearer + 1 → 0 < behind → behind + nearer < behind_last → IsWithin g' docs us nearer ss end behind behind_last
    → IsLeaf g (is_posting docs t) s (number_before (first_below docs us last)) → IsWithin g' docs ts limit (s ∷ ss) end (behind - 1) behind_last
span_far g g' w docs ts us t limit nearer s ss end last behind behind_last e some h less stands far r leaf =
    let under : first_below docs (t ∷ us) end ≤ behind - 1 =
    omega (arith, top_le (is_posting docs t) (number_before (first_below docs us end)), before_up (first_below docs us end) behind r.0, before_is behind) in
    let told : IsWithin g' docs (t ∷ us) limit (s ∷ ss) end (behind - 1) behind_last =
    (under, λ near. absurd (omega (arith, near, far, less, stands)), last_behind_is g' docs us t ss end behind_last some r.3 r.2, (front_waits g g' w docs us t s end last h leaf, r.3)) in
    subst (λ (z : List (List ℕ)). IsWithin g' docs z limit (s ∷ ss) end (behind - 1) behind_last) (sym e) told

-- the first leaf is asked below the terms after it
pub front_asked : (g g' : Gives) → Later g g' → (docs : List Doc) (us : List (List ℕ)) (t : List ℕ) (s : Cursor) (end last first : ℕ) → end ≤ last → first ≡ first_below docs us end
    → IsLeaf g (is_posting docs t) s (number_before (first_below docs us last)) → IsLeaf g' (is_posting docs t) s (first - 1)
front_asked g g' w docs us t s end last first h e leaf =
    let low : first - 1 ≤ number_before (first_below docs us last) = omega (arith, before_is first, before_up first (first_below docs us last) (omega (arith, e, first_up docs us end last h))) in
    leaf_lower g' (is_posting docs t) s (first - 1) (number_before (first_below docs us last)) low (leaf_later g g' w (is_posting docs t) s (number_before (first_below docs us last)) leaf)

pub span_step : (g g' : Gives) → Later g g' → (docs : List Doc) (ts us : List (List ℕ)) (t : List ℕ) (limit : ℕ) (s' : Cursor) (ss : List Cursor) (end behind behind_last first : ℕ)
    → ts ≡ t ∷ us → 0 < length ss → IsSpan g docs us ss end behind behind_last
    → (first ≡ top (is_posting docs t) (behind - 1)) × IsLeaf g' (is_posting docs t) s' (behind - 1) → IsWithin g' docs ts limit (s' ∷ ss) end first behind_last
span_step g g' w docs ts us t limit s' ss end behind behind_last first e some r own =
    let at : behind - 1 ≡ number_before (first_below docs us end) = sym (before_is behind) ∙ ap number_before r.0 in
    let told : IsSpan g' docs (t ∷ us) (s' ∷ ss) end first behind_last = (
      own.0 ∙ ap (top (is_posting docs t)) at,
      last_behind_is g docs us t ss end behind_last some r.2 r.1,
      (subst (λ (k : ℕ). IsLeaf g' (is_posting docs t) s' k) at own.1, behind_later g g' w docs us ss end r.2),
    ) in
    subst (λ (z : List (List ℕ)). IsWithin g' docs z limit (s' ∷ ss) end first behind_last) (sym e) (span_within g' docs (t ∷ us) limit (s' ∷ ss) end first behind_last told)

-- the terms of a window begin below the end
pub first_within : (docs : List Doc) (ts : List (List ℕ)) (end : ℕ) → 0 < length ts → first_below docs ts end ≤ end
first_within docs [] end h = absurd (omega arith)
first_within docs (t ∷ ts) end h = omega (arith, top_le (is_posting docs t) (number_before (first_below docs ts end)), first_low docs ts end)

-- so they do in a span
pub span_begins : (g : Gives) (docs : List Doc) (ts : List (List ℕ)) (limit : ℕ) (ss : List Cursor) (end first last : ℕ) → 0 < length ts
    → IsWithin g docs ts limit ss end first last → first ≤ end
span_begins g docs ts limit ss end first last some r = elim (cases_Bool (leb last (first + limit))) [
  | inl near ↦ omega (arith, r.1 (leb-true last (first + limit) near), first_within docs ts end some)
  | inr far ↦ omega (arith, leb-false last (first + limit) far, r.2, top_le (is_posting docs (last_term ts)) end)
]

pub top_zero : (f : ℕ → Bool) (place : ℕ) → place ≤ 0 → place ≡ top f place
top_zero f zero h = refl
top_zero f (suc n) h = absurd (omega arith)
