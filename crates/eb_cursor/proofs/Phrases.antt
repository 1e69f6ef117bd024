-- Phrases: places from which all terms occur in a row.
use Rattle.std.proofs.Common.{◌≡◌, ℕ, zero, suc, ◌+◌, ◌-◌, ◌*◌, ◌%◌, ◌<◌, ◌≤◌, Bool, true, false, ◌&&◌, min, List, [], ◌∷◌}
use Rattle.std.proofs.Common.{length, get_or, set, slice_get, bytes_eq, length-set, refl, sym, ap, ◌∙◌, subst, inl, inr, arith}
use Rattle.std.specs.List.{starts_with}
use Rattle.std.proofs.lemmas.Bool.{cases_Bool, cases_lt, and_parts, and_from, and_left, and_right, or_cases, or_parts, le-leb, lt-leb}
use Rattle.eb_base.specs.Document.{Doc}
use Rattle.eb_base.specs.Query.{phrase}
use Rattle.eb_base.specs.Match.{has_phrase}
use Rattle.eb_place.specs.Postings.{places}
use Rattle.eb_cursor.specs.Tops.{top}
use Rattle.eb_cursor.specs.Lists.{Gives}
use Rattle.eb_cursor.specs.Posted.{terms_at, is_term, is_posting, match_at, is_run_from, has_places, is_start, Narrow, document_end}
use Rattle.eb_cursor.specs.Ready.{IsLeaf, AllLeaves, IsPassed, Ready, upto}
use Rattle.eb_cursor.specs.Asked.{IsLedRun, IsRun}
use Rattle.eb_cursor.specs.declared.cursor.Cursor.{Cursor}
use Rattle.eb_cursor.proofs.Tellings.{Later}
use Rattle.eb_cursor.proofs.Tops.{top_le, top_between, top_skips, top_implied, top_and, top_here, top_past, top_same}
use Rattle.eb_cursor.proofs.Leaves.{leaf_lower, leaf_later}
use Rattle.eb_cursor.proofs.Readies.{leaves_lower, leaves_later, leaves_length, ready_lower}
use Rattle.eb_cursor.proofs.Documents.{Block, blocks, posting_at, top_stays}
use Rattle.eb_cursor.proofs.Steps.{top_all, passed_min, passed_again}

-- two tests asked in turn
pub and_round : (f h : ℕ → Bool) (end found1 found : ℕ) → found1 ≡ top f end → found ≤ found1 → top h found1 ≡ top h found → (found ≡ found1 → top h found1 ≡ found1)
    → (top (λ x. f x && h x) end ≡ top (λ x. f x && h x) found) × (found ≡ end → top (λ x. f x && h x) end ≡ end)
and_round f h end found1 found told le same all =
    let both : ℕ → Bool = λ x. f x && h x in
    let skip : top both end ≡ top both found1 = subst (λ x. top both end ≡ top both x) (sym told) (top_skips f both (λ n p. (and_parts (f n) (h n) p).0) end) in
    let under : top both found1 ≤ found = omega (arith, top_implied h both (λ n p. (and_parts (f n) (h n) p).1) found1, same, top_le h found) in (
      skip ∙ sym (top_between both found found1 under le),
      λ k. let k1 : found1 ≡ end = omega (arith, top_le f end) in
          let p2 : top h end ≡ end = subst (λ y. top h y ≡ y) k1 (all (k ∙ sym k1)) in
          top_and f h end (sym told ∙ k1) p2,
    )

pub top_shift : (f : ℕ → Bool) (i x : ℕ) → top (λ n. f (n + i)) x ≡ top f (x + i) - i
top_shift f i zero = let e : zero + i ≡ i = omega arith in omega (arith, top_le f (zero + i), e)
top_shift f i (suc x) = let e : suc x + i ≡ suc (x + i) = omega arith in
    let m : top f (suc x + i) ≡ top f (suc (x + i)) = ap (top f) e in
    elim (cases_Bool (f (x + i))) [
      | inl k ↦ omega (arith, top_here (λ n. f (n + i)) x k, top_here f (x + i) k, m)
      | inr k ↦ omega (arith, top_past (λ n. f (n + i)) x k, top_past f (x + i) k, m, top_shift f i x)
    ]

-- ---- room

pub room_here : (n x : ℕ) → x % places + n ≤ places → suc x ≡ top (has_places n) (suc x)
room_here n x h = sym (top_here (has_places n) x (le-leb (x % places + n) places h))

pub room_past : (n x k : ℕ) → n ≤ places → 0 < n → x % places + n ≡ places + k → suc x - k ≡ top (has_places n) (suc x)
room_past n x k h p e =
    let m : suc (x - k) + k ≡ suc x = omega arith in
    let here : (x - k) % places + n ≤ places = omega arith in
    let stays : top (has_places n) (suc (x - k) + k) ≡ top (has_places n) (suc (x - k)) =
    top_stays (has_places n) (suc (x - k)) k (λ j i. let over : places < (suc (x - k) + j) % places + n = omega arith in lt-leb ((suc (x - k) + j) % places + n) places over) in
    let at : suc (x - k) ≡ top (has_places n) (suc (x - k)) = room_here n (x - k) here in
    let l : suc x - k ≡ suc (x - k) = omega arith in
    l ∙ at ∙ sym stays ∙ ap (top (has_places n)) m

-- ---- one round

pub run_end : (g : Gives) (docs : List Doc) (ts : List (List ℕ)) (cursors : List Cursor) (at end last : ℕ)
    → length cursors ≡ 0 → end ≤ last → AllLeaves g docs ts cursors (last + at) → IsRun g docs ts cursors at end end
run_end g docs [] cursors at end last n h r = record { falls = omega arith; same = refl; all = λ _. top_all (λ x. true) (λ x. refl) end; ready = r }
run_end g docs (t ∷ ts) [] at end last n h r = absurd r
run_end g docs (t ∷ ts) (s ∷ ss) at end last n h r = absurd (omega arith)

-- nothing is left to pass
pub run_none : (g : Gives) (docs : List Doc) (ts : List (List ℕ)) (cursors : List Cursor) (at end last : ℕ) → end ≡ 0 → AllLeaves g docs ts cursors (last + at) → IsRun g docs ts cursors at end 0
run_none g docs ts cursors at zero last e r = record { falls = omega arith; same = refl; all = λ _. refl; ready = leaves_lower g docs ts cursors (0 + at) (last + at) (omega arith) r }
run_none g docs ts cursors at (suc end) last e r = absurd (omega arith)

pub run_asks : (g : Gives) (docs : List Doc) (ts : List (List ℕ)) (cursors : List Cursor) (s : Cursor) (ss : List Cursor) (y : ℕ) → cursors ≡ s ∷ ss
    → AllLeaves g docs ts cursors y → (t : List ℕ) × (us : List (List ℕ)) × (ts ≡ t ∷ us) × IsLeaf g (is_posting docs t) s y × AllLeaves g docs us ss (suc y)
run_asks g docs [] cursors s ss y e r = let k : s ∷ ss ≡ [] = sym e ∙ r in cc
run_asks g docs (t ∷ us) [] s ss y e r = absurd r
run_asks g docs (t ∷ us) (x ∷ xs) s ss y e r = let a : x ≡ s = cc in let b : xs ≡ ss = cc in
    (t, us, refl, subst (λ z. IsLeaf g (is_posting docs t) z y) a r.0, subst (λ z. AllLeaves g docs us z (suc y)) b r.1)

-- the first leaf of a phrase, and the others
abbrev pub Front : Gives → List Doc → List (List ℕ) → Cursor → List Cursor → ℕ → Type 0
Front g docs ts s ss y = (t : List ℕ) × (us : List (List ℕ)) × (ts ≡ t ∷ us) × IsLeaf g (is_posting docs t) s y × AllLeaves g docs us ss (suc y)

pub front_leaf : (g : Gives) (docs : List Doc) (ts : List (List ℕ)) (s : Cursor) (ss : List Cursor) (at end last : ℕ)
    → end ≤ last → (a : Front g docs ts s ss (last + at)) → IsLeaf g (is_posting docs a.0) s (end + at)
front_leaf g docs ts s ss at end last h a = leaf_lower g (is_posting docs a.0) s (end + at) (last + at) (omega arith) a.3

pub front_rest : (g g' : Gives) → Later g g' → (docs : List Doc) (ts : List (List ℕ)) (s : Cursor) (ss : List Cursor) (at last : ℕ)
    → (a : Front g docs ts s ss (last + at)) → AllLeaves g' docs a.1 ss (last + (at + 1))
front_rest g g' w docs ts s ss at last a = let k : suc (last + at) ≡ last + (at + 1) = omega arith in
    leaves_later g g' w docs a.1 ss (last + (at + 1)) (subst (λ y. AllLeaves g docs a.1 ss y) k a.4)

pub run_step : (g1 g' : Gives) (docs : List Doc) (ts : List (List ℕ)) (t : List ℕ) (us : List (List ℕ)) (s' : Cursor) (ss' : List Cursor) (at end reach found1 found : ℕ)
    → ts ≡ t ∷ us → Later g1 g' → reach ≡ top (is_posting docs t) (end + at) → found1 ≡ reach - at
    → IsLeaf g1 (is_posting docs t) s' (end + at) → IsRun g' docs us ss' (at + 1) found1 found → IsRun g' docs ts (s' ∷ ss') at end found
run_step g1 g' docs ts t us s' ss' at end reach found1 found e w told minus leaf more =
    let f : ℕ → Bool = λ x. is_posting docs t (x + at) in
    let h : ℕ → Bool = λ x. is_run_from docs us (suc (x + at)) in
    let told1 : found1 ≡ top f end = omega (arith, top_shift (is_posting docs t) at end) in
    let hs : (x : ℕ) → top h x ≡ top (λ y. is_run_from docs us (y + (at + 1))) x =
    top_same h (λ y. is_run_from docs us (y + (at + 1))) (λ n. let k : suc (n + at) ≡ n + (at + 1) = omega arith in ap (is_run_from docs us) k) in
    let two = and_round f h end found1 found told1 more.falls (hs found1 ∙ more.same ∙ sym (hs found)) (λ k. hs found1 ∙ more.all k) in
    let le : found1 ≤ end = omega (arith, top_le f end) in
    let k : found + (at + 1) ≡ suc (found + at) = omega arith in
    let own : IsLeaf g' (is_posting docs t) s' (found + at) =
    leaf_lower g' (is_posting docs t) s' (found + at) (end + at) (omega (arith, more.falls)) (leaf_later g1 g' w (is_posting docs t) s' (end + at) leaf) in
    let rest : AllLeaves g' docs us ss' (suc (found + at)) = subst (λ y. AllLeaves g' docs us ss' y) k more.ready in
    let run : IsRun g' docs (t ∷ us) (s' ∷ ss') at end found = record { falls = omega (arith, more.falls); same = two.0; all = two.1; ready = (own, rest) } in
    subst (λ x. IsRun g' docs x (s' ∷ ss') at end found) (sym e) run

-- ---- the leading leaf

-- no leaf leads
pub led_run_none : (g : Gives) (docs : List Doc) (ts : List (List ℕ)) (cursors : List Cursor) (at end last : ℕ)
    → end ≤ last → AllLeaves g docs ts cursors (last + at) → IsLedRun g docs ts cursors at end end
led_run_none g docs ts cursors at end last h r = record {
  falls = omega arith;
  most = top_le (λ x. is_run_from docs ts (x + at)) end;
  ready = leaves_lower g docs ts cursors (end + at) (last + at) (omega arith) r;
}

-- the first leaf leads
pub led_run_here : (g : Gives) (docs : List Doc) (ts : List (List ℕ)) (t : List ℕ) (us : List (List ℕ)) (s' : Cursor) (ss : List Cursor) (at end last reach found : ℕ)
    → ts ≡ t ∷ us → end ≤ last → reach ≡ top (is_posting docs t) (end + at) → found ≡ reach - at
    → IsLeaf g (is_posting docs t) s' (end + at) → AllLeaves g docs us ss (last + (at + 1)) → IsLedRun g docs ts (s' ∷ ss) at end found
led_run_here g docs ts t us s' ss at end last reach found e h told minus leaf others =
    let f : ℕ → Bool = λ x. is_posting docs t (x + at) in
    let k : ℕ → Bool = λ x. is_run_from docs us (suc (x + at)) in
    let both : ℕ → Bool = λ x. f x && k x in
    let told1 : found ≡ top f end = omega (arith, top_shift (is_posting docs t) at end) in
    let le : found ≤ end = omega (arith, top_le f end) in
    let under : top both end ≤ top f end = top_implied f both (λ n p. (and_parts (f n) (k n) p).0) end in
    let most : top both end ≤ found = omega (arith, under, told1) in
    let own : IsLeaf g (is_posting docs t) s' (found + at) = leaf_lower g (is_posting docs t) s' (found + at) (end + at) (omega arith) leaf in
    let rest : AllLeaves g docs us ss (suc (found + at)) = leaves_lower g docs us ss (suc (found + at)) (last + (at + 1)) (omega arith) others in
    let run : IsLedRun g docs (t ∷ us) (s' ∷ ss) at end found = record { falls = le; most = most; ready = (own, rest) } in
    subst (λ x. IsLedRun g docs x (s' ∷ ss) at end found) (sym e) run

-- a leaf after the first leads
pub led_run_there : (g g' : Gives) (docs : List Doc) (ts : List (List ℕ)) (t : List ℕ) (us : List (List ℕ)) (s : Cursor) (ss' : List Cursor) (at end last found : ℕ)
    → ts ≡ t ∷ us → Later g g' → end ≤ last → IsLeaf g (is_posting docs t) s (last + at) → IsLedRun g' docs us ss' (at + 1) end found → IsLedRun g' docs ts (s ∷ ss') at end found
led_run_there g g' docs ts t us s ss' at end last found e w h leaf more =
    let f : ℕ → Bool = λ x. is_posting docs t (x + at) in
    let k : ℕ → Bool = λ x. is_run_from docs us (suc (x + at)) in
    let both : ℕ → Bool = λ x. f x && k x in
    let ks : top k end ≡ top (λ y. is_run_from docs us (y + (at + 1))) end =
    top_same k (λ y. is_run_from docs us (y + (at + 1))) (λ n. let j : suc (n + at) ≡ n + (at + 1) = omega arith in ap (is_run_from docs us) j) end in
    let under : top both end ≤ top k end = top_implied k both (λ n p. (and_parts (f n) (k n) p).1) end in
    let most : top both end ≤ found = omega (arith, under, ks, more.most) in
    let own : IsLeaf g' (is_posting docs t) s (found + at) =
    leaf_lower g' (is_posting docs t) s (found + at) (last + at) (omega (arith, more.falls)) (leaf_later g g' w (is_posting docs t) s (last + at) leaf) in
    let j : found + (at + 1) ≡ suc (found + at) = omega arith in
    let rest : AllLeaves g' docs us ss' (suc (found + at)) = subst (λ y. AllLeaves g' docs us ss' y) j more.ready in
    let run : IsLedRun g' docs (t ∷ us) (s ∷ ss') at end found = record { falls = more.falls; most = most; ready = (own, rest) } in
    subst (λ x. IsLedRun g' docs x (s ∷ ss') at end found) (sym e) run

-- the leading leaf passed no start
pub led_starts : (g : Gives) (docs : List Doc) (ts : List (List ℕ)) (cursors : List Cursor) (end found : ℕ)
    → IsLedRun g docs ts cursors 0 end found → top (is_start docs ts) found ≡ top (is_start docs ts) end
led_starts g docs ts cursors end found run =
    let k : ℕ → Bool = λ x. is_run_from docs ts (x + 0) in
    let under : top (is_start docs ts) end ≤ top k end =
    top_implied k (is_start docs ts) (λ n p. let z : n ≡ n + 0 = omega arith in subst (λ y. is_run_from docs ts y ≡ true) z (and_parts (has_places (length ts) n) (is_run_from docs ts n) p).1) end in
    let most : top k end ≤ found = run.most in
    top_between (is_start docs ts) found end (omega (arith, under, most)) run.falls

-- ---- the starts

pub start_round : (docs : List Doc) (ts : List (List ℕ)) (n place room found : ℕ) → n ≡ length ts
    → room ≡ top (has_places n) place → (g : Gives) (cursors : List Cursor) → IsRun g docs ts cursors 0 room found
    → (found ≤ place) × (top (is_start docs ts) place ≡ top (is_start docs ts) found) × (found ≡ place → top (is_start docs ts) place ≡ place) × AllLeaves g docs ts cursors found
start_round docs ts n place room found len told g cursors run =
    let h : ℕ → Bool = is_run_from docs ts in
    let hs : (x : ℕ) → top h x ≡ top (λ y. is_run_from docs ts (y + 0)) x = top_same h (λ y. is_run_from docs ts (y + 0)) (λ m. let k : m ≡ m + 0 = omega arith in ap (is_run_from docs ts) k) in
    let told1 : room ≡ top (has_places (length ts)) place = subst (λ k. room ≡ top (has_places k) place) len told in
    let two = and_round (has_places (length ts)) h place room found told1 run.falls (hs room ∙ run.same ∙ sym (hs found)) (λ k. hs room ∙ run.all k) in
    let z : found + 0 ≡ found = omega arith in
    (omega (arith, run.falls, top_le (has_places (length ts)) place), two.0, two.1, subst (λ y. AllLeaves g docs ts cursors y) z run.ready)

-- what a round over the leaves gave, from a place on
pub start_round_of : (g g' : Gives) (docs : List Doc) (ts : List (List ℕ)) (cursors cursors' : List Cursor) (count place room found last : ℕ)
    → count ≡ length cursors → room ≡ top (has_places count) place → AllLeaves g docs ts cursors last → IsRun g' docs ts cursors' 0 room found
    → (found ≤ place) × (top (is_start docs ts) place ≡ top (is_start docs ts) found) × (found ≡ place → top (is_start docs ts) place ≡ place) × AllLeaves g' docs ts cursors' found
start_round_of g g' docs ts cursors cursors' count place room found last len told r run =
    start_round docs ts count place room found (len ∙ leaves_length g docs ts cursors last r) told g' cursors' run

pub leaves_at : (g : Gives) (docs : List Doc) (ts : List (List ℕ)) (cursors : List Cursor) (last : ℕ) → AllLeaves g docs ts cursors last → AllLeaves g docs ts cursors (last + 0)
leaves_at g docs ts cursors last r = let k : last ≡ last + 0 = omega arith in subst (λ y. AllLeaves g docs ts cursors y) k r

pub leaves_of : (g : Gives) (docs : List Doc) (ts : List (List ℕ)) (cursors : List Cursor) (last : ℕ) → AllLeaves g docs ts cursors (last + 0) → AllLeaves g docs ts cursors last
leaves_of g docs ts cursors last r = let k : last + 0 ≡ last = omega arith in subst (λ y. AllLeaves g docs ts cursors y) k r

-- ---- from starts to documents

abbrev is_run : List (List ℕ) → List (List ℕ) → ℕ → Bool
is_run ts [] k = true
is_run ts (p ∷ ps) k = is_term p (slice_get ts k) && is_run ts ps (suc k)

run_shift : (u : List ℕ) (us ps : List (List ℕ)) (k : ℕ) → is_run (u ∷ us) ps (suc k) ≡ is_run us ps k
run_shift u us [] k = refl
run_shift u us (p ∷ ps) k = ap (λ (b : Bool). is_term p (slice_get us k) && b) (run_shift u us ps (suc k))

starts_run : (ts ps : List (List ℕ)) → starts_with bytes_eq ts ps ≡ is_run ts ps 0
starts_run ts [] = refl
starts_run [] (p ∷ ps) = refl
starts_run (u ∷ us) (p ∷ ps) = ap (λ (b : Bool). bytes_eq p u && b) (starts_run us ps ∙ sym (run_shift u us ps 0))

pub slice_in : (p : List ℕ) (ts : List (List ℕ)) (k : ℕ) → is_term p (slice_get ts k) ≡ true → k < length ts
slice_in p [] k e = cc
slice_in p (u ∷ us) zero e = omega arith
slice_in p (u ∷ us) (suc k) e = omega (arith, slice_in p us k e)

run_length : (ts ps : List (List ℕ)) (k : ℕ) → is_run ts ps k ≡ true → k ≤ length ts → k + length ps ≤ length ts
run_length ts [] k e h = omega arith
run_length ts (p ∷ ps) k e h = let a = and_parts (is_term p (slice_get ts k)) (is_run ts ps (suc k)) e in
    let i : suc k ≤ length ts = omega (arith, slice_in p ts k a.0) in omega (arith, run_length ts ps (suc k) a.1 i)

phrase_some : (ps ts : List (List ℕ)) → has_phrase ps ts ≡ true → (k : ℕ) × (k + length ps ≤ length ts) × (is_run ts ps k ≡ true)
phrase_some ps [] e = let r : is_run [] ps 0 ≡ true = sym (starts_run [] ps) ∙ e in (0, run_length [] ps 0 r (omega arith), r)
phrase_some ps (u ∷ us) e = elim (or_cases (starts_with bytes_eq (u ∷ us) ps) (has_phrase ps us) e) [
  | inl i ↦ let r : is_run (u ∷ us) ps 0 ≡ true = sym (starts_run (u ∷ us) ps) ∙ i in (0, run_length (u ∷ us) ps 0 r (omega arith), r)
  | inr i ↦ let w = phrase_some ps us i in (suc w.0, omega (arith, w.1), run_shift u us ps w.0 ∙ w.2)
]

phrase_none : (ps ts : List (List ℕ)) → has_phrase ps ts ≡ false → (k : ℕ) → is_run ts ps k ≡ false
phrase_none [] [] e k = cc
phrase_none (p ∷ ps) [] e k = refl
phrase_none ps (u ∷ us) e zero = sym (starts_run (u ∷ us) ps) ∙ (or_parts (starts_with bytes_eq (u ∷ us) ps) (has_phrase ps us) e).0
phrase_none ps (u ∷ us) e (suc k) = run_shift u us ps k ∙ phrase_none ps us (or_parts (starts_with bytes_eq (u ∷ us) ps) (has_phrase ps us) e).1 k

start_run : (docs : List Doc) (ps : List (List ℕ)) (n k : ℕ) → k + length ps ≤ places → is_run_from docs ps (places * n + k) ≡ is_run (terms_at docs n) ps k
start_run docs [] n k h = refl
start_run docs (p ∷ ps) n k h = let e : suc (places * n + k) ≡ places * n + suc k = omega arith in
    rw (posting_at docs p n k (omega arith), e, start_run docs ps n (suc k) (omega arith)) refl

phrase_block : (docs : List Doc) → Narrow docs → (ps : List (List ℕ)) → 0 < length ps → (n : ℕ) → Block (match_at docs (phrase ps)) (is_start docs ps) n
phrase_block docs w ps h n = record {
  some = λ e. let a = phrase_some ps (terms_at docs n) e in
      let in_doc : a.0 + length ps ≤ places = omega (arith, w.narrow n, a.1) in
      let k : a.0 < places = omega arith in
      let room : (places * n + a.0) % places + length ps ≤ places = omega arith in (
        a.0,
        k,
        and_from (has_places (length ps) (places * n + a.0)) (is_run_from docs ps (places * n + a.0)) (le-leb ((places * n + a.0) % places + length ps) places room)
            (start_run docs ps n a.0 in_doc ∙ a.2),
      );
  none = λ e k i. elim (cases_lt places (k + length ps)) [
    | inl j ↦ let over : places < (places * n + k) % places + length ps = omega arith in
        and_left (has_places (length ps) (places * n + k)) (is_run_from docs ps (places * n + k)) (lt-leb ((places * n + k) % places + length ps) places over)
    | inr j ↦ and_right (has_places (length ps) (places * n + k)) (is_run_from docs ps (places * n + k)) (start_run docs ps n k j ∙ phrase_none ps (terms_at docs n) e k)
  ];
}

pub phrase_top : (docs : List Doc) → Narrow docs → (ps : List (List ℕ)) → 0 < length ps → (end : ℕ) → top (match_at docs (phrase ps)) end ≡ document_end (top (is_start docs ps) (places * end))
phrase_top docs w ps h end = blocks (match_at docs (phrase ps)) (is_start docs ps) (phrase_block docs w ps h) end

-- ---- the whole phrase

pub leaf_upto : (g : Gives) (f : ℕ → Bool) (s : Cursor) (v k i y : ℕ) → IsLeaf g f s y → IsLeaf g f (record { upto = v; lead = k; segment = i; current = s.current; list = s.list }) y
leaf_upto g f s v k i y r = record { left = r.left; told = r.told; falls = r.falls; rest = r.rest }

pub leaves_upto : (g : Gives) (docs : List Doc) (ts : List (List ℕ)) (cursors : List Cursor) (d : Cursor) (v k i y : ℕ) → AllLeaves g docs ts cursors y
    → AllLeaves g docs ts (set cursors 0 (record { upto = v; lead = k; segment = i; current = (get_or cursors 0 d).current; list = (get_or cursors 0 d).list })) y
leaves_upto g docs [] [] d v k i y r = r
leaves_upto g docs [] (s ∷ ss) d v k i y r = let e : s ∷ ss ≡ [] = r in cc
leaves_upto g docs (t ∷ ts) [] d v k i y r = absurd r
leaves_upto g docs (t ∷ ts) (s ∷ ss) d v k i y r = (leaf_upto g (is_posting docs t) s v k i y r.0, r.1)

pub upto_set : (cursors : List Cursor) (s : Cursor) → 0 < length cursors → upto (set cursors 0 s) ≡ s.upto
upto_set [] s h = absurd (omega arith)
upto_set (x ∷ xs) s h = refl

pub upto_at : (cursors : List Cursor) (d : Cursor) → 0 < length cursors → upto cursors ≡ (get_or cursors 0 d).upto
upto_at [] d h = absurd (omega arith)
upto_at (x ∷ xs) d h = refl

pub ahead_of : (start a b u : ℕ) → start ≡ min a b → (start ≡ 0 → ⊥) → u ≡ b → 0 < u
ahead_of zero a b u m some e = absurd (some refl)
ahead_of (suc s) a b u m some e = omega arith

pub phrase_asks : (g : Gives) (docs : List Doc) (ts : List (List ℕ)) (cursors : List Cursor) (d : Cursor) (start end last : ℕ)
    → start ≡ min (places * end) (get_or cursors 0 d).upto → (start ≡ 0 → ⊥) → Ready g docs (phrase ts) cursors last
    → (start ≤ (get_or cursors 0 d).upto) × AllLeaves g docs ts cursors (get_or cursors 0 d).upto
phrase_asks g docs ts cursors d start end last m some r = let u : upto cursors ≡ (get_or cursors 0 d).upto = upto_at cursors d r.0 in
    let ahead : 0 < upto cursors = ahead_of start (places * end) (get_or cursors 0 d).upto (upto cursors) m some u in
    (omega arith, subst (λ y. AllLeaves g docs ts cursors y) u (r.4 ahead))

passed_at : (docs : List Doc) (ts : List (List ℕ)) (cursors : List Cursor) (d : Cursor) (last : ℕ) → 0 < length cursors
    → IsPassed (is_start docs ts) (upto cursors) (places * last) → IsPassed (is_start docs ts) (get_or cursors 0 d).upto (places * last)
passed_at docs ts cursors d last some p = subst (λ y. IsPassed (is_start docs ts) y (places * last)) (upto_at cursors d some) p

-- all places are passed
pub phrase_past : (g : Gives) (docs : List Doc) (ts : List (List ℕ)) (cursors : List Cursor) (d : Cursor) (start end last : ℕ)
    → start ≡ min (places * end) (get_or cursors 0 d).upto → start ≡ 0 → end ≤ last → Ready g docs (phrase ts) cursors last
    → (0 ≡ top (match_at docs (phrase ts)) end) × Ready g docs (phrase ts) cursors end
phrase_past g docs ts cursors d start end last m z h r =
    let f : ℕ → Bool = is_start docs ts in
    let some : 0 < length ts = omega (arith, r.3, r.0) in
    let none : min (places * end) (get_or cursors 0 d).upto ≡ 0 = sym m ∙ z in
    let top_is : 0 ≡ top f (places * end) = ap (top f) (sym none) ∙ passed_min f (get_or cursors 0 d).upto (places * end) (places * last) (omega arith) (passed_at docs ts cursors d last r.0 r.2) in
    (ap document_end top_is ∙ sym (phrase_top docs r.1 ts some end), ready_lower g docs (phrase ts) cursors end last h r)

pub phrase_told : (g g' : Gives) (docs : List Doc) (ts : List (List ℕ)) (cursors cursors2 : List Cursor) (d d' : Cursor) (start end last found : ℕ)
    → start ≡ min (places * end) (get_or cursors 0 d).upto → end ≤ last → length cursors2 ≡ length cursors
    → (found ≡ top (is_start docs ts) start) × AllLeaves g' docs ts cursors2 found
    → Ready g docs (phrase ts) cursors last
    → (document_end found ≡ top (match_at docs (phrase ts)) end) × Ready g' docs (phrase ts) (set cursors2 0
    (record { upto = found; lead = (get_or cursors2 0 d').lead; segment = (get_or cursors2 0 d').segment; current = (get_or cursors2 0 d').current; list = (get_or cursors2 0 d').list })) end
phrase_told g g' docs ts cursors cursors2 d d' start end last found m h len w r =
    let f : ℕ → Bool = is_start docs ts in
    let some : 0 < length ts = omega (arith, r.3, r.0) in
    let some2 : 0 < length cursors2 = omega (arith, len, r.0) in
    let top_is : found ≡ top f (places * end) = w.0 ∙ ap (top f) m ∙ passed_min f (get_or cursors 0 d).upto (places * end) (places * last) (omega arith) (passed_at docs ts cursors d last r.0 r.2) in
    let s' : Cursor =
    record { upto = found; lead = (get_or cursors2 0 d').lead; segment = (get_or cursors2 0 d').segment; current = (get_or cursors2 0 d').current; list = (get_or cursors2 0 d').list } in
    let v : upto (set cursors2 0 s') ≡ found = upto_set cursors2 s' some2 in
    let again : IsPassed f (upto (set cursors2 0 s')) (places * end) = subst (λ y. IsPassed f y (places * end)) (sym v) (passed_again f found (places * end) top_is) in
    let leaves : AllLeaves g' docs ts (set cursors2 0 s') (upto (set cursors2 0 s')) =
    subst (λ y. AllLeaves g' docs ts (set cursors2 0 s') y) (sym v) (leaves_upto g' docs ts cursors2 d' found _ _ found w.1) in
    let long : 0 < length (set cursors2 0 s') = omega (arith, length-set cursors2 0 s') in
    (ap document_end top_is ∙ sym (phrase_top docs r.1 ts some end), (long, r.1, again, length-set cursors2 0 s' ∙ len ∙ r.3, λ _. leaves))
