-- What the stores that enter a term change.
use Rattle.std.proofs.Common.{◌≡◌, ℕ, zero, suc, ◌+◌, ◌*◌, ◌/◌, ◌^◌, ◌<◌, ◌≤◌, List, [], ◌∷◌, ◌++◌, length}
use Rattle.std.proofs.Common.{filter, get_or, count_by, sum_by, refl, ap, sym, ◌∙◌, subst, arith, slice_get, Some}
use Rattle.std.proofs.lemmas.List.{length_push, length-append, take_all, take_at}
use Rattle.std.proofs.lemmas.List.Elements.{filter-append}
use Rattle.std.proofs.lemmas.List.Sums.{sum_by_push, length-filter}
use Rattle.std.proofs.Math.Seq.{get_or-append_seam}
use Rattle.eb_base.specs.Term.{Term, AreBytes}
use Rattle.eb_base.specs.Document.{Doc}
use Rattle.eb_base.specs.Setting.{Setting}
use Rattle.eb_place.specs.declared.moment.Documents.{Documents}
use Rattle.eb_place.specs.declared.moment.Moment.{Moment}
use Rattle.eb_place.specs.declared.used.Used.{Used}
use Rattle.eb_place.specs.Layout.{size, place}
use Rattle.eb_place.specs.Layout.Slot.{published, slot}
use Rattle.eb_place.specs.Layout.Region.{cell_region, text_region, text_place_region, tail_region}
use Rattle.eb_place.specs.Room.{cut, text_words}
use Rattle.eb_place.specs.Address.{slices_begun}
use Rattle.eb_place.specs.Placing.{Store, in_row, text_of, enter_stores, cell_of_next}
use Rattle.eb_place.specs.Moments.{document_stores, IsMoment}
use Rattle.eb_place.specs.Later.{IsNotBefore}
use Rattle.eb_place.specs.NextStores.{IsNext, after_store, AreNext, with_stores, with_placed}
use Rattle.eb_place.specs.Seen.{is_in, stores_in_region, entered, tokens_seen}
use Rattle.eb_place.specs.Tells.{TellsSegment}
use Rattle.eb_place.proofs.FreshPoolWords.{Each, Each-append, each_head}
use Rattle.eb_place.proofs.FreshPoolWords.Each.{none, more}
use Rattle.eb_place.proofs.StoresWithinTable.{IsWithin, length-text_of}
use Rattle.eb_place.proofs.WordsOfTokens.{val, Each-map}
use Rattle.eb_place.proofs.StoringTokens.{Each-front, Each-back}
use Rattle.eb_place.proofs.WordsAtMoment.{setting_terms}
use Rattle.eb_place.proofs.LaterMoments.{later_on}
use Rattle.eb_place.proofs.RegionStores.{filter_none, filter_whole, count_by-append}
use Rattle.eb_place.proofs.EntryStores.{is_entry, enter_entries, in_region}
use Rattle.eb_place.proofs.DictionaryOfTerms.{HasTerms, Texts, texts_done, text_stores, enter_split, text_stores_behind}
use Rattle.eb_place.proofs.DictionaryAtMoment.{entered_done_is, entered_whole}
use Rattle.eb_place.proofs.EnteredTerms.{entered_later, entered_bytes, text_same, entered_by}
use Rattle.eb_terms.specs.Finding.{cells_in}
use Rattle.eb_terms.specs.Entering.{IsNextTerm, IsNextText, HasEntered}
use Rattle.eb_terms.proofs.Probing.{has_number}
use Rattle.eb_place.proofs.ListOfStores.{After, HasMoreAfter, goes_on, placed_after, placed_next, placed_more, next_as, get_at, next_front, next_within}
use Rattle.eb_place.proofs.TailStores.{tokens_same, tokens_by}
use Rattle.eb_place.proofs.RegionCounts.{enter_no_tail}

-- ---- what comes next lies within the index

row_room : (σ : Setting) (s i : ℕ) (vs : List ℕ) → 1 ≤ length vs → Each (IsWithin σ) (in_row s text_region i vs) → (s < σ.segments) × (i + length vs ≤ 4 * σ.terms)
unfolding size
row_room σ s i [] l h = absurd (omega arith)
row_room σ s i (v ∷ []) l (more h none) = (h.0, omega (arith, h.1))
row_room σ s i (v ∷ w ∷ vs) l (more h t) = let r = row_room σ s (i + 1) (w ∷ vs) (omega arith) t in (h.0, omega (arith, r.1))

-- so there is room for the next term
pub enter_room : (σ : Setting) (s : ℕ) (terms : List Term) (t : Term) → Each (IsWithin σ) (enter_stores σ s terms t) → HasTerms σ s (terms ++ t ∷ [])
unfolding enter_stores size
enter_room σ s terms t h =
    let a = sum_by text_words terms in
    let R : List Store = in_row s text_region a (text_of t) in
    let x : Store = (slot s text_place_region (length terms), a) in
    let y : Store = (slot s cell_region (cell_of_next (2 * σ.terms) terms t), length terms + 1) in
    let w = length-text_of t in
    let r = row_room σ s a (text_of t) (omega arith) (Each-front R (x ∷ y ∷ []) h) in
    let b = (each_head x (y ∷ []) (Each-back R (x ∷ y ∷ []) h)).1 in
    record { inside = r.0; few = omega (arith, length_push terms t, b); texts = omega (arith, sum_by_push text_words terms t, r.1) }

-- and its text words are those of the segment
pub text_room : (m : Moment) (d : Doc) (s start : ℕ) (t : Term) → IsMoment m → IsNextText m d s start t
    → (s < m.setting.segments) × (start + text_words t ≤ 4 * m.setting.terms) × (m.setting.terms ≤ 2 ^ 20)
text_room m d s start t is n =
    let w = length-text_of t in
    let r = row_room m.setting s start (text_of t) (omega arith) (next_within m d (in_row s text_region start (text_of t)) is n) in
    (r.0, omega (arith, r.1), (setting_terms m.setting is.setting).1)

-- ---- the stores of a term

row_plain : (s i : ℕ) (vs : List ℕ) → Each (λ (y : Store). y.0 ≡ published → ⊥) (in_row s text_region i vs)
row_plain s i [] = none
row_plain s i (v ∷ vs) = more (λ e. absurd cc) (row_plain s (i + 1) vs)

pub length-in_row : (s i : ℕ) (vs : List ℕ) → length (in_row s text_region i vs) ≡ length vs
length-in_row s i [] = refl
length-in_row s i (v ∷ vs) = ap suc (length-in_row s (i + 1) vs)

pub row_get : (s i : ℕ) (vs : List ℕ) (k : ℕ) → k < length vs → slice_get (in_row s text_region i vs) k ≡ Some (slot s text_region (i + k), get_or vs k 0)
row_get s i [] k h = absurd (omega arith)
row_get s i (v ∷ vs) zero h = ap (λ n. Some (slot s text_region n, v)) (let e : i ≡ i + 0 = omega arith in e)
row_get s i (v ∷ vs) (suc k) h = row_get s (i + 1) vs k (omega arith) ∙ ap (λ n. Some (slot s text_region n, get_or vs k 0)) (let e : i + 1 + k ≡ i + suc k = omega arith in e)

pub text_goes_on : (m : Moment) (d : Doc) (s start : ℕ) (t : Term) → IsNextText m d s start t → HasMoreAfter m d (in_row s text_region start (text_of t))
text_goes_on m d s start t n = goes_on m d (in_row s text_region start (text_of t)) n (omega (arith, length-in_row s start (text_of t), length-text_of t)) (row_plain s start (text_of t))

enter_plain : (σ : Setting) (s : ℕ) (terms : List Term) (t : Term) → Each (λ (y : Store). y.0 ≡ published → ⊥) (enter_stores σ s terms t)
unfolding enter_stores
enter_plain σ s terms t = Each-append (row_plain s (sum_by text_words terms) (text_of t)) (more (λ e. absurd cc) (more (λ e. absurd cc) none))

-- how many they are
pub length-enter_stores : (σ : Setting) (s : ℕ) (terms : List Term) (t : Term) → length (enter_stores σ s terms t) ≡ text_words t + 2
unfolding enter_stores
length-enter_stores σ s terms t =
    let R : List Store = in_row s text_region (sum_by text_words terms) (text_of t) in
    let x : Store = (slot s text_place_region (length terms), sum_by text_words terms) in
    let y : Store = (slot s cell_region (cell_of_next (2 * σ.terms) terms t), length terms + 1) in
    omega (arith, length-append R (x ∷ y ∷ []), length-in_row s (sum_by text_words terms) (text_of t), length-text_of t)

pub enter_goes_on : (m : Moment) (d : Doc) (s : ℕ) (t : Term) → IsNextTerm m d s t → HasMoreAfter m d (enter_stores m.setting s (entered m s) t)
enter_goes_on m d s t n = goes_on m d (enter_stores m.setting s (entered m s) t) n (omega (arith, length-enter_stores m.setting s (entered m s) t)) (enter_plain m.setting s (entered m s) t)

-- after its text: the text place, then the cell
pub enter_at : (σ : Setting) (s : ℕ) (terms : List Term) (t : Term) → slice_get (enter_stores σ s terms t) (text_words t) ≡ Some (slot s text_place_region (length terms), sum_by text_words terms)
unfolding enter_stores
enter_at σ s terms t =
    let R : List Store = in_row s text_region (sum_by text_words terms) (text_of t) in
    let x : Store = (slot s text_place_region (length terms), sum_by text_words terms) in
    let y : Store = (slot s cell_region (cell_of_next (2 * σ.terms) terms t), length terms + 1) in
    get_at R (y ∷ []) x (text_words t) (omega (arith, length-in_row s (sum_by text_words terms) (text_of t), length-text_of t))

pub enter_cell : (σ : Setting) (s : ℕ) (terms : List Term) (t : Term)
    → slice_get (enter_stores σ s terms t) (text_words t + 1) ≡ Some (slot s cell_region (cell_of_next (2 * σ.terms) terms t), length terms + 1)
enter_cell σ s terms t =
    let y : Store = (slot s cell_region (cell_of_next (2 * σ.terms) terms t), length terms + 1) in
    let e = enter_split σ s terms t in
    let n = ap length e ∙ length_push (text_stores s terms t) y in
    ap (λ z. slice_get z (text_words t + 1)) e ∙ get_at (text_stores s terms t) [] y (text_words t + 1) (omega (arith, n, length-enter_stores σ s terms t))

-- its text comes next
pub next_text : (m : Moment) (d : Doc) (s : ℕ) (t : Term) → IsNextTerm m d s t → IsNextText m d s (sum_by text_words (entered m s)) t
unfolding enter_stores
next_text m d s t n = next_front m d (in_row s text_region (sum_by text_words (entered m s)) (text_of t))
    ((slot s text_place_region (length (entered m s)), sum_by text_words (entered m s)) ∷ (slot s cell_region (cell_of_next (2 * m.setting.terms) (entered m s) t), length (entered m s) + 1) ∷ []) n

-- ---- what goes by the documents part alone

next_by : (m n : Moment) (d : Doc) (stores : List Store) → n.setting ≡ m.setting → n.documents ≡ m.documents → AreNext m d stores → AreNext n d stores
next_by m n d stores e f h =
    let P : Setting → Documents → Type 0 = λ σ x. AreNext record { setting = σ; documents = x; conversions = n.conversions } d stores in
    let at : P m.setting m.documents = record { limits = h.limits; room = h.room; current = h.current; front = h.front } in
    subst (λ (z : Setting × Documents). P z.0 z.1) (λ i. (sym e i, sym f i)) at

pub term_by : (m n : Moment) (d : Doc) (s : ℕ) (t : Term) → n.setting ≡ m.setting → n.documents ≡ m.documents → IsNextTerm m d s t → IsNextTerm n d s t
term_by m n d s t e f h =
    subst (AreNext n d) (λ i. enter_stores (sym e i) s (sym (entered_by m n s e f) i) t) (next_by m n d (enter_stores m.setting s (entered m s) t) e f h)

-- ---- one more entered term

texts_agree : (σ : Setting) (s : ℕ) (terms : List Term) (x t : Term) (L : List Store) → Texts σ s (terms ++ x ∷ []) L → Texts σ s (terms ++ t ∷ []) L → AreBytes x → AreBytes t → x ≡ t
texts_agree σ s terms x t L h k bx bt =
    let n : ℕ = length terms in
    let one : (u : Term) → Texts σ s (terms ++ u ∷ []) L → (i : ℕ) → i < text_words u → val σ L (slot s text_region (sum_by text_words terms + i)) ≡ get_or (text_of u) i 0 = λ u w i l.
    (let g : get_or (terms ++ u ∷ []) n [] ≡ u = get_or-append_seam terms u [] [] in
    let words = ap text_words g in
    ap (λ z. val σ L (slot s text_region (sum_by text_words z + i))) (sym (take_at terms (u ∷ []) n refl))
    ∙ w.text n i (omega (arith, length_push terms u)) (omega arith) ∙ ap (λ z. get_or (text_of z) i 0) g) in
    let same : length x ≡ length t = sym (one x h 0 (omega arith)) ∙ one t k 0 (omega arith) in
    let words : text_words x ≡ text_words t = ap (λ z. 1 + (z + 7) / 8) same in
    text_same x t bx bt same (λ i l. sym (one x h i (omega arith)) ∙ one t k i l)

enter_one_cell : (σ : Setting) (s : ℕ) (terms : List Term) (t : Term) → count_by (is_in s cell_region) (enter_stores σ s terms t) ≡ 1
enter_one_cell σ s terms t =
    let p = is_in s cell_region in
    let c = cell_of_next (2 * σ.terms) terms t in
    let y : Store = (slot s cell_region c, length terms + 1) in
    let z : count_by p (text_stores s terms t) ≡ 0 = sym (length-filter p (text_stores s terms t))
    ∙ ap length (filter_none p (text_stores s terms t) (Each-map (λ w k. k.test) (text_stores_behind s terms t))) in
    let one : count_by p (y ∷ []) ≡ 1 = rw (in_region s cell_region c (length terms + 1)) refl in
    ap (count_by p) (enter_split σ s terms t) ∙ count_by-append p (text_stores s terms t) (y ∷ []) ∙ omega (arith, z, one)

one_of : {X : Type 0} (xs : List X) → length xs ≡ 1 → (x : X) × (xs ≡ x ∷ [])
one_of [] h = absurd (omega arith)
one_of (x ∷ []) h = (x, refl)
one_of (x ∷ y ∷ xs) h = absurd (omega arith)

-- after the stores that enter a term, it is the last entered one
pub entered_more : (m a : Moment) (d : Doc) (s : ℕ) (t : Term) → IsMoment m → AreBytes t → IsNextTerm m d s t
    → After m d (enter_stores m.setting s (entered m s) t) (length (enter_stores m.setting s (entered m s) t)) a → entered a s ≡ entered m s ++ t ∷ []
unfolding stores_in_region
entered_more m a d s t is bytes n h =
    let σ = m.setting in
    let E = entered m s in
    let X = enter_stores σ s E t in
    let p = is_in s cell_region in
    let L = document_stores σ m.documents in
    let M = document_stores a.setting a.documents in
    let whole : M ≡ L ++ X = h.written ∙ ap (λ z. L ++ z) (take_all (length X) X (omega arith)) in
    let room = enter_room σ s E t (next_within m d X is n) in
    let before = entered_done_is m s in
    let after = entered_done_is a s in
    let cells : length (entered a s) ≡ length E + 1 = sym after.cells ∙ ap (count_by p) whole ∙ count_by-append p L X ∙ omega (arith, before.cells, enter_one_cell σ s E t) in
    let front = entered_later m a s h.later in
    let x = one_of front.0 (omega (arith, ap length front.1, length-append E front.0)) in
    let list : entered a s ≡ E ++ x.0 ∷ [] = sym front.1 ∙ ap (λ z. E ++ z) x.1 in
    let F = filter (is_entry s) M in
    let kept : F ≡ filter (is_entry s) L ++ X = ap (filter (is_entry s)) whole ∙ filter-append (is_entry s) L X
    ∙ ap (λ z. filter (is_entry s) L ++ z) (filter_whole (is_entry s) X (enter_entries σ s E t)) in
    let inside : s < a.setting.segments = subst (λ (z : Setting). s < z.segments) (sym h.setting) room.inside in
    let new : Texts σ s (E ++ x.0 ∷ []) F = subst (λ z. Texts σ s z F) list (subst (λ (z : Setting). Texts z s (entered a s) F) h.setting (entered_whole a s h.moment inside).texts) in
    let old : Texts σ s (E ++ t ∷ []) F = subst (Texts σ s (E ++ t ∷ [])) (sym kept) (texts_done σ s E t (filter (is_entry s) L) room (entered_whole m s is room.inside).texts) in
    let low : length E < length (entered a s) = omega arith in
    let g : get_or (entered a s) (length E) [] ≡ x.0 = ap (λ z. get_or z (length E) []) list ∙ get_or-append_seam E x.0 [] [] in
    let bx : AreBytes x.0 = subst AreBytes g (entered_bytes a s (length E) h.moment low) in
    list ∙ ap (λ z. E ++ z ∷ []) (texts_agree σ s E x.0 t F new old bx bytes)

-- and the same tokens are seen
pub tokens_after : (m a : Moment) (d : Doc) (s : ℕ) (t : Term)
    → After m d (enter_stores m.setting s (entered m s) t) (length (enter_stores m.setting s (entered m s) t)) a → tokens_seen a s ≡ tokens_seen m s
unfolding stores_in_region
tokens_after m a d s t h =
    let X = enter_stores m.setting s (entered m s) t in
    let p = is_in s tail_region in
    let L = document_stores m.setting m.documents in
    let none : count_by p X ≡ 0 = sym (length-filter p X) ∙ ap length (filter_none p X (enter_no_tail m.setting s (entered m s) t)) in
    tokens_same m a s h.later (ap (count_by p) (h.written ∙ ap (λ z. L ++ z) (take_all (length X) X (omega arith))) ∙ count_by-append p L X ∙ omega (arith, none))

-- ---- the calls, one after the other

-- what is known where the loads end at n
pub record IsReady (n : Moment) (d : Doc) (s : ℕ) (t : Term) (u : Used) : Type 0 where
  pub moment : IsMoment n
  pub next : IsNextTerm n d s t
  pub more : HasMoreAfter n d (enter_stores n.setting s (entered n s) t)
  pub text : IsNextText n d s u.text t
  pub number : u.terms ≡ length (entered n s)
  pub start : u.text ≡ sum_by text_words (entered n s)
  pub inside : s < n.setting.segments
  pub few : u.terms + 1 ≤ n.setting.terms
  pub texts : u.text + text_words t ≤ 4 * n.setting.terms
  pub small : n.setting.terms ≤ 2 ^ 20

-- the segment is one of the index
pub enter_inside : (m : Moment) (d : Doc) (s : ℕ) (t : Term) → IsMoment m → IsNextTerm m d s t → s < m.setting.segments
enter_inside m d s t is n = (enter_room m.setting s (entered m s) t (next_within m d (enter_stores m.setting s (entered m s) t) is n)).inside

pub ready : (m n : Moment) (d : Doc) (s : ℕ) (t : Term) (u : Used) → IsMoment n → IsNotBefore n m → n.documents ≡ m.documents → IsNextTerm m d s t → TellsSegment u m s → IsReady n d s t u
ready m n d s t u is l f h tells =
    let next = term_by m n d s t (sym l.setting) f h in
    let same = entered_by m n s (sym l.setting) f in
    let room = enter_room n.setting s (entered n s) t (next_within n d (enter_stores n.setting s (entered n s) t) is next) in
    let start : u.text ≡ sum_by text_words (entered n s) = tells.text ∙ ap (sum_by text_words) (sym same) in
    let number : u.terms ≡ length (entered n s) = tells.terms ∙ ap length (sym same) in
    record {
      moment = is;
      next = next;
      more = enter_goes_on n d s t next;
      text = subst (λ z. IsNextText n d s z t) (sym start) (next_text n d s t next);
      number = number;
      start = start;
      inside = room.inside;
      few = omega (arith, room.few, length_push (entered n s) t, number);
      texts = omega (arith, room.texts, sum_by_push text_words (entered n s) t, start);
      small = (setting_terms n.setting is.setting).1;
    }

-- after the text comes the text place
pub place_next : (n : Moment) (d : Doc) (s : ℕ) (t : Term) (u : Used) (p v : ℕ) → IsReady n d s t u
    → p ≡ place n.setting (slot s text_place_region u.terms) → v ≡ u.text → IsNext (with_placed n d (text_words t)) d p v
place_next n d s t u p v r e w =
    let E = entered n s in
    let X = enter_stores n.setting s E t in
    let x : Store = (slot s text_place_region (length E), sum_by text_words E) in
    next_as (with_placed n d (text_words t)) d (place n.setting x.0) p x.1 v
    (placed_next n d X (text_words t) x r.moment r.next r.more (omega arith) (omega (arith, length-enter_stores n.setting s E t)) (enter_at n.setting s E t))
    (e ∙ ap (λ k. place n.setting (slot s text_place_region k)) r.number) (w ∙ r.start)

pub place_stored : (n : Moment) (d : Doc) (s : ℕ) (t : Term) (u : Used) → IsReady n d s t u → after_store (with_placed n d (text_words t)) d ≡ with_placed n d (text_words t + 1)
place_stored n d s t u r =
    placed_more n d (enter_stores n.setting s (entered n s) t) (text_words t) r.moment r.next r.more (omega arith) (omega (arith, length-enter_stores n.setting s (entered n s) t))

-- and then the cell
pub cell_next : (n : Moment) (d : Doc) (s : ℕ) (t : Term) (u : Used) (cell p v : ℕ) → IsReady n d s t u → cell ≡ cell_of_next (cells_in n) (entered n s) t
    → p ≡ place n.setting (slot s cell_region cell) → v ≡ u.terms + 1 → IsNext (with_placed n d (text_words t + 1)) d p v
cell_next n d s t u cell p v r c e w =
    let E = entered n s in
    let X = enter_stores n.setting s E t in
    let x : Store = (slot s cell_region (cell_of_next (2 * n.setting.terms) E t), length E + 1) in
    next_as (with_placed n d (text_words t + 1)) d (place n.setting x.0) p x.1 v
    (placed_next n d X (text_words t + 1) x r.moment r.next r.more (omega arith) (omega (arith, length-enter_stores n.setting s E t)) (enter_cell n.setting s E t))
    (e ∙ ap (λ k. place n.setting (slot s cell_region k)) c) (w ∙ ap (λ k. k + 1) r.number)

pub cell_stored : (n : Moment) (d : Doc) (s : ℕ) (t : Term) (u : Used) → IsReady n d s t u → after_store (with_placed n d (text_words t + 1)) d ≡ with_placed n d (text_words t + 2)
cell_stored n d s t u r =
    placed_more n d (enter_stores n.setting s (entered n s) t) (text_words t + 1) r.moment r.next r.more (omega arith) (omega (arith, length-enter_stores n.setting s (entered n s) t))
    ∙ ap (with_placed n d) (let e : text_words t + 1 + 1 ≡ text_words t + 2 = omega arith in e)

-- ---- the whole call

-- what `enter` ensures, where it begins at m, loads until n and stores from there on
pub enters : (m n : Moment) (d : Doc) (s : ℕ) (t : Term) (k : ℕ) → IsMoment n → IsNotBefore n m → n.documents ≡ m.documents
    → AreBytes t → IsNextTerm n d s t → k ≡ length (entered m s) → HasEntered m (with_placed n d (text_words t + 2)) d s t k
enters m n d s t k is l f bytes next number =
    let e = sym l.setting in
    let X = enter_stores n.setting s (entered n s) t in
    let size = length-enter_stores n.setting s (entered n s) t in
    let a = with_placed n d (text_words t + 2) in
    let h : After n d X (length X) a = subst (λ z. After n d X (length X) (with_placed n d z)) size (placed_after n d X (length X) is next (enter_goes_on n d s t next) (omega arith) (omega arith)) in
    let same = entered_by m n s e f in
    let terms : entered a s ≡ entered m s ++ t ∷ [] = entered_more n a d s t is bytes next h ∙ ap (λ z. z ++ t ∷ []) same in
    let here : k < length (entered a s) = omega (arith, ap length terms, length_push (entered m s) t) in
    let g : get_or (entered a s) k [] ≡ t = ap (λ z. get_or z k []) terms ∙ ap (λ z. get_or (entered m s ++ t ∷ []) z []) number ∙ get_or-append_seam (entered m s) t [] [] in
    record {
      later = later_on m n a l h.later;
      documents = (λ i. with_stores (f i) d (sym size i)) ∙ (λ i. with_stores m.documents d (length (enter_stores (e i) s (same i) t)));
      terms = terms;
      number = has_number a s k t here g;
    }

-- and that `used` describes the segment
pub enters_tells : (m n : Moment) (d : Doc) (s : ℕ) (t : Term) (u v : Used) → IsMoment n → IsNotBefore n m → n.documents ≡ m.documents → AreBytes t → IsNextTerm n d s t → TellsSegment u m s
    → v ≡ record u { terms = u.terms + 1; text = u.text + text_words t } → TellsSegment v (with_placed n d (text_words t + 2)) s
enters_tells m n d s t u v is l f bytes next tells e =
    let σ = sym l.setting in
    let X = enter_stores n.setting s (entered n s) t in
    let size = length-enter_stores n.setting s (entered n s) t in
    let a = with_placed n d (text_words t + 2) in
    let h : After n d X (length X) a = subst (λ z. After n d X (length X) (with_placed n d z)) size (placed_after n d X (length X) is next (enter_goes_on n d s t next) (omega arith) (omega arith)) in
    let terms : entered a s ≡ entered m s ++ t ∷ [] = entered_more n a d s t is bytes next h ∙ ap (λ z. z ++ t ∷ []) (entered_by m n s σ f) in
    let tokens : tokens_seen a s ≡ tokens_seen m s = tokens_after n a d s t h ∙ tokens_by m n s σ f in
    subst (λ z. TellsSegment z a s) (sym e) (record {
      documents = tells.documents ∙ (λ i. length (get_or (cut (sym σ i) (sym f i).accepted) s []));
      terms = omega (arith, tells.terms, ap length terms, length_push (entered m s) t);
      text = omega (arith, tells.text, ap (sum_by text_words) terms, sum_by_push text_words (entered m s) t);
      pool0 = tells.pool0 ∙ ap (slices_begun 0) (sym tokens);
      pool1 = tells.pool1 ∙ ap (slices_begun 1) (sym tokens);
      pool2 = tells.pool2 ∙ ap (slices_begun 2) (sym tokens);
      pool3 = tells.pool3 ∙ ap (slices_begun 3) (sym tokens);
    })
