-- What the cursors hold at the beginning.
use Rattle.std.proofs.Common.{◌≡◌, ℕ, zero, suc, ◌+◌, ◌-◌, ◌*◌, ◌/◌, ◌%◌, ◌<◌, ◌≤◌, Bool, true, false, not, leb, List, [], ◌∷◌, ◌++◌, length}
use Rattle.std.proofs.Common.{take, drop, get_or, set, None, slice_get, if◌then◌else◌, refl, sym, ap, ◌∙◌, subst, inl, inr, arith, length-set}
use Rattle.std.proofs.lemmas.Bool.{cases_Bool, cases_lt, and_left, and_right, and_parts, lt-leb, false≢true}
use Rattle.eb_base.specs.Document.{Doc}
use Rattle.eb_base.specs.Query.{Tree, Trees, size, sizes, word, phrase, window, since, negation, conjunction, disjunction, no_trees, trees, IsFormed, AreFormed}
use Rattle.eb_place.specs.Postings.{places}
use Rattle.eb_place.specs.declared.moment.Moment.{Moment}
use Rattle.eb_cursor.specs.Tops.{top, number_before}
use Rattle.eb_cursor.specs.Loads.{ahead}
use Rattle.eb_cursor.specs.Lists.{Gives, gives, Gave}
use Rattle.eb_cursor.specs.Posted.{terms_at, is_term, is_posting, is_start, has_places, is_run_from, first_below, reach_end, last_term, is_window_end, match_at, each_at, some_at, Narrow, document_end}
use Rattle.eb_cursor.specs.Opened.{Opened}
use Rattle.eb_cursor.specs.Ready.{IsLeaf, AreStillGiven, IsOnly, IsBound, IsOnlyBound, IsPassed, AllLeaves, AllBehind, Ready, AllReady, upto, rest_of}
use Rattle.eb_cursor.specs.Begun.{AreClear, AllAt, HasAbsent, BegunLeaves, Begun, BegunEach, BegunSome}
use Rattle.eb_cursor.specs.declared.posting_list.PostingList.{PostingList}
use Rattle.eb_cursor.specs.declared.cursor.Cursor.{Cursor}
use Rattle.eb_cursor.proofs.Tellings.{IsLater, gives_later}
use Rattle.eb_cursor.proofs.Tops.{top_implied, top_or, top_past}
use Rattle.eb_cursor.proofs.Leaves.{leaf_lower, leaf_later, leaf_none, gave_left}
use Rattle.eb_cursor.proofs.Readies.{ready_lower, ready_later, all_join}
use Rattle.eb_cursor.proofs.Spans.{first_low}
use Rattle.eb_cursor.proofs.Windows.{behind_upto, window_top}
use Rattle.eb_cursor.proofs.Phrases.{leaves_upto, upto_set, phrase_top}
use Rattle.eb_cursor.proofs.Documents.{top_stays, word_top}
use Rattle.eb_cursor.proofs.Steps.{IsFront}

-- ---- one list

pub opened_leaf : (n o : Moment) (docs : List Doc) (t : List ℕ) (list : PostingList) (c : Cursor) → (h : Opened n docs t list)
    → Gave h.postings c.list c.current o → IsLeaf (gives o) (is_posting docs t) c (places * length docs)
opened_leaf n o docs t list c h gave = record { left = h.postings; told = gave_left (gives o) c.list h.postings c.current gave; falls = h.falls; rest = h.all }

below_none : (f : ℕ → Bool) (n x : ℕ) → top f n ≡ 0 → x < n → f x ≡ false
below_none f zero x e h = absurd (omega arith)
below_none f (suc n) x e h = elim (cases_Bool (f n)) [
  | inl i ↦ absurd (some_top f n i e)
  | inr i ↦ elim (cases_lt x n) [
    | inl j ↦ below_none f n x (sym (top_past f n i) ∙ e) j
    | inr j ↦ let k : x ≡ n = omega arith in rw k i
  ]
]
  where
    some_top : (f : ℕ → Bool) (n : ℕ) → f n ≡ true → top f (suc n) ≡ 0 → ⊥
    some_top f n i e = let k : suc n ≡ 0 = sym (rw i refl) ∙ e in absurd (omega arith)

past_docs : (docs : List Doc) (n : ℕ) → length docs ≤ n → terms_at docs n ≡ []
past_docs [] n h = refl
past_docs (d ∷ ds) zero h = absurd (omega arith)
past_docs (d ∷ ds) (suc n) h = past_docs ds n (omega arith)

none_in : (t : List ℕ) (k : ℕ) → is_term t (slice_get [] k) ≡ false
none_in t k = refl

-- a list without a posting is that of a term that occurs nowhere
pub leaf_absent : (g : Gives) (docs : List Doc) (t : List ℕ) (c : Cursor) → c.current ≡ None → IsLeaf g (is_posting docs t) c (places * length docs) → (x : ℕ) → is_posting docs t x ≡ false
leaf_absent g docs t c e leaf x = elim (cases_lt x (places * length docs)) [
  | inl h ↦ below_none (is_posting docs t) (places * length docs) x (sym (leaf_none g (is_posting docs t) c (places * length docs) e leaf)) h
  | inr h ↦ let far : length docs ≤ x / places = omega arith in rw (past_docs docs (x / places) far) refl
]

-- ---- the leaves of a phrase

pub leaves_end : (n : Moment) (docs : List Doc) (ts : List (List ℕ)) (cursors : List Cursor) → length cursors ≡ length ts → length cursors ≡ 0 → BegunLeaves docs ts cursors true n
leaves_end n docs [] [] e z = record { ready = λ _. refl; none = λ h. absurd (false≢true (sym h)) }
leaves_end n docs [] (c ∷ cs) e z = absurd (omega arith)
leaves_end n docs (t ∷ ts) [] e z = absurd (omega arith)
leaves_end n docs (t ∷ ts) (c ∷ cs) e z = absurd (omega arith)

pub leaves_none : (n : Moment) (docs : List Doc) (ts : List (List ℕ)) (t : List ℕ) (us : List (List ℕ)) (c : Cursor) (cs : List Cursor)
    → ts ≡ t ∷ us → c.current ≡ None → IsLeaf (gives n) (is_posting docs t) c (places * length docs) → BegunLeaves docs ts (c ∷ cs) false n
leaves_none n docs ts t us c cs e none leaf = record {
  ready = λ h. absurd (false≢true h);
  none = λ _. subst (HasAbsent docs) (sym e) (inl (leaf_absent (gives n) docs t c none leaf));
}

pub leaves_step : (m n : Moment) (docs : List Doc) (ts : List (List ℕ)) (t : List ℕ) (us : List (List ℕ)) (c : Cursor) (cs : List Cursor) (may : Bool)
    → ts ≡ t ∷ us → IsLater m n → IsLeaf (gives m) (is_posting docs t) c (places * length docs) → BegunLeaves docs us cs may n → BegunLeaves docs ts (c ∷ cs) may n
leaves_step m n docs ts t us c cs may e w leaf more = record {
  ready = λ h. subst (λ (z : List (List ℕ)). AllAt (gives n) docs z (c ∷ cs) (places * length docs)) (sym e)
      (leaf_later (gives m) (gives n) (gives_later m n w) (is_posting docs t) c (places * length docs) leaf, more.ready h);
  none = λ h. subst (HasAbsent docs) (sym e) (inr (more.none h));
}

-- nothing occurs from a place on where a term occurs nowhere
absent_run : (docs : List Doc) (ts : List (List ℕ)) → HasAbsent docs ts → (x : ℕ) → is_run_from docs ts x ≡ false
absent_run docs [] h x = absurd h
absent_run docs (t ∷ ts) h x = elim h [
  | inl none ↦ and_left (is_posting docs t x) (is_run_from docs ts (suc x)) (none x)
  | inr more ↦ and_right (is_posting docs t x) (is_run_from docs ts (suc x)) (absent_run docs ts more (suc x))
]

leaves_from : (g : Gives) (docs : List Doc) (ts : List (List ℕ)) (cursors : List Cursor) (low end : ℕ) → low + length ts ≤ end + 1 → AllAt g docs ts cursors end → AllLeaves g docs ts cursors low
leaves_from g docs [] cursors low end h r = r
leaves_from g docs (t ∷ ts) [] low end h r = r
leaves_from g docs (t ∷ ts) (c ∷ cs) low end h r = (leaf_lower g (is_posting docs t) c low end (omega arith) r.0, leaves_from g docs ts cs (suc low) end (omega arith) r.1)

-- ---- nothing is asked of cursors that have passed everything

clear_take : (n : ℕ) (cs : List Cursor) → AreClear cs → AreClear (take n cs)
clear_take zero cs h = tt
clear_take (suc n) [] h = tt
clear_take (suc n) (c ∷ cs) h = (h.0, h.1, h.2, clear_take n cs h.3)

clear_drop : (n : ℕ) (cs : List Cursor) → AreClear cs → AreClear (drop n cs)
clear_drop zero cs h = h
clear_drop (suc n) [] h = tt
clear_drop (suc n) (c ∷ cs) h = clear_drop n cs h.3

pub front_clear : (qs : Trees) (q : Tree) (qs' : Trees) (cursors own rest : List Cursor) → IsFront qs q qs' cursors own rest → AreClear cursors → AreClear own
front_clear qs q qs' cursors own rest e h = subst AreClear (sym e.front) (clear_take (size q) cursors h)

pub back_clear : (qs : Trees) (q : Tree) (qs' : Trees) (cursors own rest : List Cursor) → IsFront qs q qs' cursors own rest → AreClear cursors → AreClear rest
back_clear qs q qs' cursors own rest e h = subst AreClear (sym e.back) (clear_drop (size q) cursors h)

leaf_clear : (g : Gives) (f : ℕ → Bool) (c : Cursor) → c.current ≡ None → IsLeaf g f c 0
leaf_clear g f c e = let told : AreStillGiven g c.current c.list [] = rw e refl in record { left = []; told = told; falls = tt; rest = refl }

passed_zero : (f : ℕ → Bool) (low : ℕ) → IsPassed f low 0
passed_zero f low = record { same = λ h. let e : low ≡ 0 = omega arith in rw e refl }

clear_upto : (cs : List Cursor) → AreClear cs → upto cs ≡ 0
clear_upto [] h = refl
clear_upto (c ∷ cs) h = h.1

clear_rest : (cs : List Cursor) → AreClear cs → AreClear (rest_of cs)
clear_rest [] h = tt
clear_rest (c ∷ cs) h = h.3

length_rest : (cs : List Cursor) (n : ℕ) → length cs ≡ suc n → length (rest_of cs) ≡ n
length_rest [] n e = absurd (omega arith)
length_rest (c ∷ cs) n e = omega arith

length-take_min : (n : ℕ) (cs : List Cursor) → n ≤ length cs → length (take n cs) ≡ n
length-take_min zero cs h = refl
length-take_min (suc n) [] h = absurd (omega arith)
length-take_min (suc n) (c ∷ cs) h = ap suc (length-take_min n cs (omega arith))

length-drop_min : (n : ℕ) (cs : List Cursor) → length (drop n cs) ≡ length cs - n
length-drop_min zero cs = omega arith
length-drop_min (suc n) [] = omega arith
length-drop_min (suc n) (c ∷ cs) = omega (arith, length-drop_min n cs)

word_clear : (g : Gives) (docs : List Doc) (t : List ℕ) (cs : List Cursor) → Narrow docs → AreClear cs → length cs ≡ 1 → IsOnly g docs t cs 0
word_clear g docs t [] w h e = absurd (omega arith)
word_clear g docs t (c ∷ []) w h e = (refl, w, leaf_clear g (is_posting docs t) c h.0)
word_clear g docs t (c ∷ (x ∷ xs)) w h e = absurd (omega arith)

bound_clear : (g : Gives) (docs : List Doc) (x : ℕ) (cs : List Cursor) → AreClear cs → length cs ≡ 1 → IsOnlyBound g docs x cs 0
bound_clear g docs x [] h e = absurd (omega arith)
bound_clear g docs x (c ∷ []) h e =
    let none : ahead c.current ≡ 0 = ap ahead h.0 in (
      refl,
      record {
        passed = passed_zero (match_at docs (since x)) c.upto;
        firsts = λ some. absurd (omega (arith, h.1));
        within = omega (arith, h.1);
        near = omega (arith, h.1);
        low = omega (arith, none);
        known = λ low. absurd (omega (arith, h.1));
      },
    )
bound_clear g docs x (c ∷ (y ∷ ys)) h e = absurd (omega arith)

mutual
  pub clear_ready : (g : Gives) (docs : List Doc) (q : Tree) (cs : List Cursor) → Narrow docs → AreClear cs → IsFormed q → length cs ≡ size q → Ready g docs q cs 0
  clear_ready g docs (word t) cs w h f e = word_clear g docs t cs w h e
  clear_ready g docs (phrase ts) cs w h f e = (omega (arith, e, f), w, passed_zero (is_start docs ts) (upto cs), e, λ some. absurd (omega (arith, clear_upto cs h)))
  clear_ready g docs (window ts w) cs narrow h f e = (omega (arith, e, f.0), narrow, passed_zero (is_window_end docs ts w) (upto cs), e, λ some. absurd (omega (arith, clear_upto cs h)))
  clear_ready g docs (since x) cs w h f e = bound_clear g docs x cs h e
  clear_ready g docs (negation q) cs w h f e = (
    omega (arith, e),
    passed_zero (λ n. not (match_at docs q n)) (upto cs),
    subst (λ k. Ready g docs q (rest_of cs) k) (sym (clear_upto cs h)) (clear_ready g docs q (rest_of cs) w (clear_rest cs h) f (length_rest cs (size q) (omega (arith, e)))),
  )
  clear_ready g docs (conjunction qs) cs w h f e = (
    omega (arith, e),
    passed_zero (each_at docs qs) (upto cs),
    subst (λ k. AllReady g docs qs (rest_of cs) k) (sym (clear_upto cs h)) (clear_all g docs qs (rest_of cs) w (clear_rest cs h) f.1 (length_rest cs (sizes qs) (omega (arith, e)))),
  )
  clear_ready g docs (disjunction qs) cs w h f e = (omega (arith, e), clear_all g docs qs (rest_of cs) w (clear_rest cs h) f.1 (length_rest cs (sizes qs) (omega (arith, e))))

  pub clear_all : (g : Gives) (docs : List Doc) (qs : Trees) (cs : List Cursor) → Narrow docs → AreClear cs → AreFormed qs → length cs ≡ sizes qs → AllReady g docs qs cs 0
  clear_all g docs no_trees [] w h f e = refl
  clear_all g docs no_trees (c ∷ cs) w h f e = absurd (omega arith)
  clear_all g docs (trees q qs) cs w h f e = (
    clear_ready g docs q (take (size q) cs) w (clear_take (size q) cs h) f.0 (length-take_min (size q) cs (omega (arith, e))),
    clear_all g docs qs (drop (size q) cs) w (clear_drop (size q) cs h) f.1 (omega (arith, e, length-drop_min (size q) cs)),
  )

-- ---- each kind of query

pub begun_word : (n : Moment) (docs : List Doc) (q : Tree) (t : List ℕ) (cursors : List Cursor) (c : Cursor) (may : Bool) → q ≡ word t
    → length cursors ≡ 1 → Narrow docs → (may ≡ false → c.current ≡ None) → IsLeaf (gives n) (is_posting docs t) c (places * length docs)
    → Begun docs q (set cursors 0 c) may n
begun_word n docs q t cursors c may i one w absent leaf = record {
  ready = subst (λ (x : Tree). Ready (gives n) docs x (set cursors 0 c) (length docs)) (sym i) (only cursors one);
  none = λ h. ap (λ (x : Tree). top (match_at docs x) (length docs)) i ∙ word_top docs w t (length docs)
      ∙ ap document_end (sym (leaf_none (gives n) (is_posting docs t) c (places * length docs) (absent h) leaf));
}
  where
    only : (cs : List Cursor) → length cs ≡ 1 → IsOnly (gives n) docs t (set cs 0 c) (length docs)
    only [] e = absurd (omega arith)
    only (x ∷ []) e = (refl, w, leaf)
    only (x ∷ (y ∷ ys)) e = absurd (omega arith)

-- no phrase begins so near to the end
no_start : (docs : List Doc) (ts : List (List ℕ)) (n j : ℕ) → 0 < length ts → length ts ≤ places → 0 < n → j < length ts - 1 → is_start docs ts (places * n + 1 - length ts + j) ≡ false
no_start docs ts n j h i p k =
    let over : places < (places * n + 1 - length ts + j) % places + length ts = omega arith in
    and_left (has_places (length ts) (places * n + 1 - length ts + j)) (is_run_from docs ts (places * n + 1 - length ts + j))
    (lt-leb ((places * n + 1 - length ts + j) % places + length ts) places over)

phrase_passed : (docs : List Doc) (ts : List (List ℕ)) (n : ℕ) → 0 < length ts → length ts ≤ places → 0 < n → IsPassed (is_start docs ts) (places * n + 1 - length ts) (places * n)
phrase_passed docs ts n h i p = record {
  same = λ k.
      let e : places * n + 1 - length ts + (length ts - 1) ≡ places * n = omega arith in
      ap (top (is_start docs ts)) (sym e) ∙ top_stays (is_start docs ts) (places * n + 1 - length ts) (length ts - 1) (λ j m. no_start docs ts n j h i p m);
}

top_never : (f : ℕ → Bool) → ((n : ℕ) → f n ≡ false) → (n : ℕ) → top f n ≡ 0
top_never f w zero = refl
top_never f w (suc n) = rw (w n) (top_never f w n)

phrase_set : (g : Gives) (docs : List Doc) (ts : List (List ℕ)) (cursors : List Cursor) (d : Cursor) (low lead segment : ℕ) → 0 < length cursors
    → length cursors ≡ length ts → Narrow docs → IsPassed (is_start docs ts) low (places * length docs) → (0 < low → AllLeaves g docs ts cursors low)
    → Ready g docs (phrase ts) (set cursors 0 (record { upto = low; lead = lead; segment = segment; current = (get_or cursors 0 d).current; list = (get_or cursors 0 d).list })) (length docs)
phrase_set g docs ts cursors d low lead segment some len w passed leaves =
    let c : Cursor = record { upto = low; lead = lead; segment = segment; current = (get_or cursors 0 d).current; list = (get_or cursors 0 d).list } in
    let u : upto (set cursors 0 c) ≡ low = upto_set cursors c some in
    let long = length-set cursors 0 c in (
      omega arith,
      w,
      subst (λ y. IsPassed (is_start docs ts) y (places * length docs)) (sym u) passed,
      long ∙ len,
      subst (λ y. 0 < y → AllLeaves g docs ts (set cursors 0 c) y) (sym u) (λ h. leaves_upto g docs ts cursors d low lead segment low (leaves h)),
    )

never_starts : (docs : List Doc) (ts : List (List ℕ)) → ((x : ℕ) → is_run_from docs ts x ≡ false) → (n : ℕ) → top (is_start docs ts) n ≡ 0
never_starts docs ts h n = top_never (is_start docs ts) (λ x. and_right (has_places (length ts) x) (is_run_from docs ts x) (h x)) n

phrase_ready : (n : Moment) (docs : List Doc) (ts : List (List ℕ)) (cursors : List Cursor) (d : Cursor) (low lead segment end : ℕ) (may : Bool) → 2 ≤ length ts → length ts ≤ 64
    → 0 < length docs → end ≡ places * length docs + 1 - length ts → low ≡ (if may then end else 0) → length cursors ≡ length ts → Narrow docs → BegunLeaves docs ts cursors may n
    → Ready (gives n) docs (phrase ts) (set cursors 0 (record { upto = low; lead = lead; segment = segment; current = (get_or cursors 0 d).current; list = (get_or cursors 0 d).list })) (length docs)
phrase_ready n docs ts cursors d low lead segment end true few most some at e len w begun =
    let k : low ≡ places * length docs + 1 - length ts = e ∙ at in
    phrase_set (gives n) docs ts cursors d low lead segment (omega arith) len w
    (subst (λ y. IsPassed (is_start docs ts) y (places * length docs)) (sym k) (phrase_passed docs ts (length docs) (omega arith) (omega arith) some))
    (λ _. leaves_from (gives n) docs ts cursors low (places * length docs) (omega arith) (begun.ready refl))
phrase_ready n docs ts cursors d low lead segment end false few most some at e len w begun =
    phrase_set (gives n) docs ts cursors d low lead segment (omega arith) len w
    (record { same = λ _. never_starts docs ts (absent_run docs ts (begun.none refl)) (places * length docs) ∙ sym (never_starts docs ts (absent_run docs ts (begun.none refl)) low) })
    (λ h. absurd (omega (arith, e)))

pub begun_phrase : (n : Moment) (docs : List Doc) (q : Tree) (ts : List (List ℕ)) (cursors : List Cursor) (d : Cursor) (low lead segment end : ℕ) (may : Bool) → q ≡ phrase ts → 2 ≤ length ts
    → length ts ≤ 64 → 0 < length docs → end ≡ places * length docs + 1 - length ts → low ≡ (if may then end else 0) → length cursors ≡ length ts → Narrow docs → BegunLeaves docs ts cursors may n
    → Begun docs q (set cursors 0 (record { upto = low; lead = lead; segment = segment; current = (get_or cursors 0 d).current; list = (get_or cursors 0 d).list })) may n
begun_phrase n docs q ts cursors d low lead segment end may i few most some at e len w begun =
    let c : Cursor = record { upto = low; lead = lead; segment = segment; current = (get_or cursors 0 d).current; list = (get_or cursors 0 d).list } in
    record {
      ready = subst (λ (x : Tree). Ready (gives n) docs x (set cursors 0 c) (length docs)) (sym i) (phrase_ready n docs ts cursors d low lead segment end may few most some at e len w begun);
      none = λ h. ap (λ (x : Tree). top (match_at docs x) (length docs)) i ∙ phrase_top docs w ts (omega arith) (length docs)
          ∙ ap document_end (never_starts docs ts (absent_run docs ts (begun.none h)) (places * length docs));
    }

-- an operator begins with nothing passed
passed_self : (f : ℕ → Bool) (low n : ℕ) → low ≡ n → IsPassed f low n
passed_self f low n e = record { same = λ h. ap (top f) (sym e) }

-- ---- windows

behind_from : (g : Gives) (docs : List Doc) (ts : List (List ℕ)) (cursors : List Cursor) (low end : ℕ) → low ≤ end → AllAt g docs ts cursors end → AllBehind g docs ts cursors low
behind_from g docs [] cursors low end h r = r
behind_from g docs (t ∷ ts) [] low end h r = r
behind_from g docs (t ∷ ts) (c ∷ cs) low end h r =
    (leaf_lower g (is_posting docs t) c (number_before (first_below docs ts low)) end (omega (arith, first_low docs ts low)) r.0, behind_from g docs ts cs low end h r.1)

-- where a term occurs nowhere no window ends
absent_first : (docs : List Doc) (ts : List (List ℕ)) → HasAbsent docs ts → (end : ℕ) → first_below docs ts end ≡ 0
absent_first docs [] h end = absurd h
absent_first docs (t ∷ ts) h end = elim h [
  | inl none ↦ top_never (is_posting docs t) none (number_before (first_below docs ts end))
  | inr more ↦ ap (λ (k : ℕ). top (is_posting docs t) (number_before k)) (absent_first docs ts more end)
]

absent_window : (docs : List Doc) (ts : List (List ℕ)) (w : ℕ) → HasAbsent docs ts → (x : ℕ) → is_window_end docs ts w x ≡ false
absent_window docs ts w h x =
    let none : reach_end w (first_below docs ts (suc x)) < suc x = omega (arith, ap (reach_end w) (absent_first docs ts h (suc x))) in
    and_right (is_posting docs (last_term ts) x) (leb (suc x) (reach_end w (first_below docs ts (suc x)))) (lt-leb (suc x) (reach_end w (first_below docs ts (suc x))) none)

window_set : (g : Gives) (docs : List Doc) (ts : List (List ℕ)) (w : ℕ) (cursors : List Cursor) (d : Cursor) (low lead segment : ℕ) → 0 < length cursors
    → length cursors ≡ length ts → Narrow docs → IsPassed (is_window_end docs ts w) low (places * length docs) → (0 < low → AllBehind g docs ts cursors low)
    → Ready g docs (window ts w) (set cursors 0 (record { upto = low; lead = lead; segment = segment; current = (get_or cursors 0 d).current; list = (get_or cursors 0 d).list })) (length docs)
window_set g docs ts w cursors d low lead segment some len narrow passed leaves =
    let c : Cursor = record { upto = low; lead = lead; segment = segment; current = (get_or cursors 0 d).current; list = (get_or cursors 0 d).list } in
    let u : upto (set cursors 0 c) ≡ low = upto_set cursors c some in
    let long = length-set cursors 0 c in (
      omega arith,
      narrow,
      subst (λ y. IsPassed (is_window_end docs ts w) y (places * length docs)) (sym u) passed,
      long ∙ len,
      subst (λ y. 0 < y → AllBehind g docs ts (set cursors 0 c) y) (sym u) (λ h. behind_upto g docs ts cursors d low lead segment low (leaves h)),
    )

window_ready : (n : Moment) (docs : List Doc) (ts : List (List ℕ)) (w : ℕ) (cursors : List Cursor) (d : Cursor) (low lead segment end : ℕ) (may : Bool)
    → 0 < length ts → end ≡ places * length docs → low ≡ (if may then end else 0) → length cursors ≡ length ts → Narrow docs → BegunLeaves docs ts cursors may n
    → Ready (gives n) docs (window ts w) (set cursors 0 (record { upto = low; lead = lead; segment = segment; current = (get_or cursors 0 d).current; list = (get_or cursors 0 d).list })) (length docs)
window_ready n docs ts w cursors d low lead segment end true some at e len narrow begun =
    let k : low ≡ places * length docs = e ∙ at in
    window_set (gives n) docs ts w cursors d low lead segment (omega arith) len narrow (passed_self (is_window_end docs ts w) low (places * length docs) k)
    (λ _. behind_from (gives n) docs ts cursors low (places * length docs) (omega arith) (begun.ready refl))
window_ready n docs ts w cursors d low lead segment end false some at e len narrow begun =
    let none = absent_window docs ts w (begun.none refl) in
    window_set (gives n) docs ts w cursors d low lead segment (omega arith) len narrow
    (record { same = λ _. top_never (is_window_end docs ts w) none (places * length docs) ∙ sym (top_never (is_window_end docs ts w) none low) })
    (λ h. absurd (omega (arith, e)))

pub begun_window : (n : Moment) (docs : List Doc) (ts : List (List ℕ)) (w : ℕ) (cursors : List Cursor) (d : Cursor) (low lead segment end : ℕ) (may : Bool)
    → 0 < length ts → end ≡ places * length docs → low ≡ (if may then end else 0) → length cursors ≡ length ts → Narrow docs → BegunLeaves docs ts cursors may n
    → Begun docs (window ts w) (set cursors 0 (record { upto = low; lead = lead; segment = segment; current = (get_or cursors 0 d).current; list = (get_or cursors 0 d).list })) may n
begun_window n docs ts w cursors d low lead segment end may some at e len narrow begun = record {
  ready = window_ready n docs ts w cursors d low lead segment end may some at e len narrow begun;
  none = λ h. window_top docs narrow ts w some (length docs) ∙ ap document_end (top_never (is_window_end docs ts w) (absent_window docs ts w (begun.none h)) (places * length docs));
}

-- ---- bounds on ids

pub bound_begun : (g : Gives) (docs : List Doc) (x : ℕ) (c : Cursor) → c.upto ≡ length docs → ahead c.current ≡ c.upto → g.firsts c.segment docs → IsBound g docs x c (length docs)
bound_begun g docs x c upto current first = record {
  passed = passed_self (match_at docs (since x)) c.upto (length docs) upto;
  firsts = λ some. first;
  within = omega (arith, upto);
  near = omega (arith, current);
  low = omega (arith, current);
  known = λ low. absurd (omega (arith, low, current));
}

pub begun_since : (n : Moment) (docs : List Doc) (q : Tree) (x : ℕ) (cursors : List Cursor) (c : Cursor) → q ≡ since x
    → length cursors ≡ 1 → IsBound (gives n) docs x c (length docs) → Begun docs q (set cursors 0 c) true n
begun_since n docs q x cursors c i one bound = record {
  ready = subst (λ (z : Tree). Ready (gives n) docs z (set cursors 0 c) (length docs)) (sym i) (only cursors one);
  none = λ h. absurd (false≢true (sym h));
}
  where
    only : (cs : List Cursor) → length cs ≡ 1 → IsOnlyBound (gives n) docs x (set cs 0 c) (length docs)
    only [] e = absurd (omega arith)
    only (y ∷ []) e = (refl, bound)
    only (y ∷ (z ∷ zs)) e = absurd (omega arith)

pub begun_not : (n : Moment) (docs : List Doc) (q' q : Tree) (c : Cursor) (rest : List Cursor) (may : Bool)
    → q' ≡ negation q → c.upto ≡ length docs → Begun docs q rest may n → Begun docs q' (c ∷ rest) true n
begun_not n docs q' q c rest may i u begun =
    let all : Ready (gives n) docs (negation q) (c ∷ rest) (length docs) =
    (omega arith, passed_self (λ k. not (match_at docs q k)) c.upto (length docs) u, subst (λ y. Ready (gives n) docs q rest y) (sym u) begun.ready) in
    record { ready = subst (λ (x : Tree). Ready (gives n) docs x (c ∷ rest) (length docs)) (sym i) all; none = λ h. absurd (false≢true (sym h)) }

each_ready : (n : Moment) (docs : List Doc) (qs : Trees) (c : Cursor) (rest : List Cursor) (may : Bool)
    → c.upto ≡ (if may then length docs else 0) → BegunEach docs qs rest may n → Ready (gives n) docs (conjunction qs) (c ∷ rest) (length docs)
each_ready n docs qs c rest true u begun = (omega arith, passed_self (each_at docs qs) c.upto (length docs) u, subst (λ y. AllReady (gives n) docs qs rest y) (sym u) (begun.ready refl))
each_ready n docs qs c rest false u begun =
    (omega arith, record { same = λ _. begun.none refl ∙ ap (top (each_at docs qs)) (sym u) }, subst (λ y. AllReady (gives n) docs qs rest y) (sym u) (begun.ended refl))

pub begun_and : (n : Moment) (docs : List Doc) (q : Tree) (qs : Trees) (c : Cursor) (rest : List Cursor) (end : ℕ) (may : Bool)
    → q ≡ conjunction qs → end ≡ length docs → c.upto ≡ (if may then end else 0) → BegunEach docs qs rest may n → Begun docs q (c ∷ rest) may n
begun_and n docs q qs c rest end may i e u begun = record {
  ready = subst (λ (x : Tree). Ready (gives n) docs x (c ∷ rest) (length docs)) (sym i) (each_ready n docs qs c rest may (u ∙ ap (λ (k : ℕ). if may then k else 0) e) begun);
  none = λ h. ap (λ (x : Tree). top (match_at docs x) (length docs)) i ∙ begun.none h;
}

pub begun_or : (n : Moment) (docs : List Doc) (q : Tree) (qs : Trees) (c : Cursor) (rest : List Cursor) (may : Bool) → q ≡ disjunction qs → BegunSome docs qs rest may n → Begun docs q (c ∷ rest) may n
begun_or n docs q qs c rest may i begun =
    let all : Ready (gives n) docs (disjunction qs) (c ∷ rest) (length docs) = (omega arith, begun.ready) in
    record { ready = subst (λ (x : Tree). Ready (gives n) docs x (c ∷ rest) (length docs)) (sym i) all; none = λ h. ap (λ (x : Tree). top (match_at docs x) (length docs)) i ∙ begun.none h }

-- ---- the parts, one after the other

pub each_none : (n : Moment) (docs : List Doc) (qs : Trees) (cursors : List Cursor) → qs ≡ no_trees → length cursors ≡ sizes qs → BegunEach docs qs cursors true n
each_none n docs qs cursors e len = record {
  ready = λ _. none cursors (len ∙ ap sizes e);
  ended = λ h. absurd (false≢true (sym h));
  none = λ h. absurd (false≢true (sym h));
}
  where
    none : (cs : List Cursor) → length cs ≡ 0 → AllReady (gives n) docs qs cs (length docs)
    none [] z = subst (λ (x : Trees). AllReady (gives n) docs x [] (length docs)) (sym e) refl
    none (c ∷ cs) z = absurd (omega arith)

-- a part that matches nothing ends all
pub each_ends : (n : Moment) (docs : List Doc) (qs : Trees) (q : Tree) (qs' : Trees) (cursors own rest own' : List Cursor) → IsFront qs q qs' cursors own rest
    → Narrow docs → AreFormed qs' → length rest ≡ sizes qs' → AreClear rest → Begun docs q own' false n → BegunEach docs qs (own' ++ rest) false n
each_ends n docs qs q qs' cursors own rest own' e w formed len clear begun = record {
  ready = λ h. absurd (false≢true h);
  ended =
      λ _. all_join (gives n) docs qs q qs' own' rest 0 e.parts (ready_lower (gives n) docs q own' 0 (length docs) (omega arith) begun.ready) (clear_all (gives n) docs qs' rest w clear formed len);
  none = λ _. ap (λ (x : Trees). top (each_at docs x) (length docs)) e.parts
      ∙ (let h = top_implied (match_at docs q) (each_at docs (trees q qs')) (λ k p. (and_parts (match_at docs q k) (each_at docs qs' k) p).0) (length docs) in omega (arith, h, begun.none refl));
}

pub each_goes : (m n : Moment) (docs : List Doc) (qs : Trees) (q : Tree) (qs' : Trees) (cursors own rest own' rest' : List Cursor) (may1 may : Bool)
    → IsFront qs q qs' cursors own rest → IsLater m n → Begun docs q own' may1 m → BegunEach docs qs' rest' may n → BegunEach docs qs (own' ++ rest') may n
each_goes m n docs qs q qs' cursors own rest own' rest' may1 may e w begun more =
    let kept : Ready (gives n) docs q own' (length docs) = ready_later (gives m) (gives n) (gives_later m n w) docs q own' (length docs) begun.ready in
    record {
      ready = λ h. all_join (gives n) docs qs q qs' own' rest' (length docs) e.parts kept (more.ready h);
      ended = λ h. all_join (gives n) docs qs q qs' own' rest' 0 e.parts (ready_lower (gives n) docs q own' 0 (length docs) (omega arith) kept) (more.ended h);
      none = λ h. ap (λ (x : Trees). top (each_at docs x) (length docs)) e.parts
          ∙ (let i = top_implied (each_at docs qs') (each_at docs (trees q qs')) (λ k p. (and_parts (match_at docs q k) (each_at docs qs' k) p).1) (length docs) in omega (arith, i, more.none h));
    }

pub some_none : (n : Moment) (docs : List Doc) (qs : Trees) (cursors : List Cursor) → qs ≡ no_trees → length cursors ≡ sizes qs → BegunSome docs qs cursors false n
some_none n docs qs cursors e len = record {
  ready = none cursors (len ∙ ap sizes e);
  none = λ _. ap (λ (x : Trees). top (some_at docs x) (length docs)) e ∙ top_never (some_at docs no_trees) (λ k. refl) (length docs);
}
  where
    none : (cs : List Cursor) → length cs ≡ 0 → AllReady (gives n) docs qs cs (length docs)
    none [] z = subst (λ (x : Trees). AllReady (gives n) docs x [] (length docs)) (sym e) refl
    none (c ∷ cs) z = absurd (omega arith)

pub some_goes : (m n : Moment) (docs : List Doc) (qs : Trees) (q : Tree) (qs' : Trees) (cursors own rest own' rest' : List Cursor) (may1 may2 may : Bool) → IsFront qs q qs' cursors own rest
    → (may ≡ false → (may1 ≡ false) × (may2 ≡ false)) → IsLater m n → Begun docs q own' may1 m → BegunSome docs qs' rest' may2 n → BegunSome docs qs (own' ++ rest') may n
some_goes m n docs qs q qs' cursors own rest own' rest' may1 may2 may e split w begun more = record {
  ready = all_join (gives n) docs qs q qs' own' rest' (length docs) e.parts (ready_later (gives m) (gives n) (gives_later m n w) docs q own' (length docs) begun.ready) more.ready;
  none = λ h. let s = split h in ap (λ (x : Trees). top (some_at docs x) (length docs)) e.parts
      ∙ (let o = top_or (match_at docs q) (some_at docs qs') (length docs) in omega (arith, o, begun.none s.0, more.none s.1));
}
