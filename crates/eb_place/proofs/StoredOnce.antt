-- Each word but the count and the tails is stored at most once: how stores mark the words of a
-- segment.
use Rattle.std.proofs.Common.{◌≡◌, ℕ, zero, suc, ◌+◌, ◌-◌, ◌*◌, ◌/◌, ◌%◌, ◌^◌, ◌<◌, ◌≤◌, ◌==◌, ◌&&◌, ◌⊎◌, Bool, true, false, List, [], ◌∷◌}
use Rattle.std.proofs.Common.{◌++◌, length, refl, ap, sym, ◌∙◌, subst, arith, inl, inr, if◌then◌else◌, nat_le, sum_by, append-nil, append_assoc}
use Rattle.std.proofs.lemmas.Bool.{cases_Bool, and_parts, false≢true, eq-eqb, eqb-true, or_left, or_right}
use Rattle.std.proofs.lemmas.List.{length_push}
use Rattle.std.proofs.lemmas.List.Sums.{sum_by_push}
use Rattle.eb_base.specs.Term.{Term}
use Rattle.eb_base.specs.Setting.{Setting}
use Rattle.eb_place.specs.Layout.{Slot, Region, pool_slot, pool_region}
use Rattle.eb_place.specs.Layout.Slot.{published, slot}
use Rattle.eb_place.specs.Layout.Region.{first_region, converted_region, cell_region, text_place_region, tail_region}
use Rattle.eb_place.specs.Layout.Region.{text_region, id_region, pool_0, pool_1, pool_2, pool_3, directory_region, packed_region}
use Rattle.eb_place.specs.Postings.{count_of, distinct, number_of, posting_of}
use Rattle.eb_place.specs.Room.{text_words}
use Rattle.eb_place.specs.Address.{pool_at, begins, address_of}
use Rattle.eb_place.specs.Placing.{Store, in_row, text_of, cells_of, cell_of_next, enter_stores, append_stores, token_stores, tokens_stores}
use Rattle.eb_place.proofs.TermCounts.{one_if, same_term, count_of_push, count_of-append, distinct_push, with_term_cases, once}
use Rattle.eb_place.proofs.AddressesDiffer.{address_stays}
use Rattle.eb_place.proofs.FreeCells.{is_taken}
use Rattle.eb_place.proofs.FreshPoolWords.{Each, Each-append, address_low, address_here, each_head}
use Rattle.eb_place.proofs.FreshPoolWords.Each.{none, more}
use Rattle.eb_place.proofs.StoresWithinTable.{slices_fit, length-text_of}
use Rattle.eb_place.proofs.WordsOfTokens.{Room, Apart, Each-map, front_apart, linked_positive, le_from}
use Rattle.eb_place.proofs.StoringTokens.{Each-front, Each-back, room_before}
use Rattle.eb_place.proofs.CellsOfTerms.{cells_of_push, next_is_free, taken_push}

-- ---- lists of stores in which no word but the count and the tails comes twice

-- neither the count nor a tail
pub record IsSingle (x : Slot) : Type 0 where
  pub count : x ≡ published → ⊥
  pub tails : (s k : ℕ) → x ≡ slot s tail_region k → ⊥

-- no such word comes twice
pub data Single : List Store → Type 0 where
  alone : Single []
  first : {y : Store} {ys : List Store} → Each (λ z. IsSingle y.0 → y.0 ≡ z.0 → ⊥) ys → Single ys → Single (y ∷ ys)

-- one more, which doesn't come yet
single_push : (xs : List Store) (y : Store) → Single xs → (IsSingle y.0 → Each (λ x. x.0 ≡ y.0 → ⊥) xs) → Single (xs ++ y ∷ [])
single_push [] y alone f = first none alone
single_push (x ∷ xs) y (first e t) f =
    first (Each-append e (more (λ single same. heads (f (subst IsSingle same single)) same) none)) (single_push xs y t (λ single. tails (f single)))
  where
    heads : Each (λ z. z.0 ≡ y.0 → ⊥) (x ∷ xs) → x.0 ≡ y.0 → ⊥
    heads (more h t) = h

    tails : Each (λ z. z.0 ≡ y.0 → ⊥) (x ∷ xs) → Each (λ z. z.0 ≡ y.0 → ⊥) xs
    tails (more h t) = t

-- ---- which words of a segment are stored

-- the store goes to no other word of segment s than these
abbrev pub Named : ℕ → (Region → ℕ → Type 0) → Store → Type 0
Named s M y = (r : Region) (i : ℕ) → y.0 ≡ slot s r i → M r i

-- no word comes twice, and the words of segment s are these
pub record Grown (s : ℕ) (M : Region → ℕ → Type 0) (L : List Store) : Type 0 where
  pub single : Single L
  pub named : Each (Named s M) L

same_slot : (s : ℕ) (r q : Region) (i j : ℕ) (M : Region → ℕ → Type 0) → slot s r i ≡ slot s q j → M r i → M q j
same_slot s r q i j M e h = let a : r ≡ q = cc in let b : i ≡ j = cc in subst (λ (z : Region × ℕ). M z.0 z.1) (λ k. (a k, b k)) h

-- one more store, to a word that isn't among them
pub grow : (s : ℕ) (M N : Region → ℕ → Type 0) (r : Region) (i v : ℕ) (L : List Store) → ((q : Region) (j : ℕ) → M q j → N q j)
    → N r i → (IsSingle (slot s r i) → M r i → ⊥) → Grown s M L → Grown s N (L ++ (slot s r i, v) ∷ [])
grow s M N r i v L up here new h = record {
  single = single_push L (slot s r i, v) h.single (λ single. Each-map (λ y named same. new single (named r i same)) h.named);
  named = Each-append (Each-map (λ y named q j e. up q j (named q j e)) h.named) (more (λ q j e. same_slot s r q i j N e here) none);
}

-- the same stores, with more words marked
pub widen : (s : ℕ) (M N : Region → ℕ → Type 0) (L : List Store) → ((q : Region) (j : ℕ) → M q j → N q j) → Grown s M L → Grown s N L
widen s M N L up h = record { single = h.single; named = Each-map (λ y named q j e. up q j (named q j e)) h.named }

-- how many words of each region are stored, and which cells
pub record Marks : Type 0 where
  pub firsts : ℕ
  pub converts : ℕ
  pub cells : List ℕ
  pub places : ℕ
  pub texts : ℕ
  pub ids : ℕ
  pub directory : ℕ
  pub packs : ℕ

-- the words that are stored, with the addresses of pool words
abbrev pub marked : Marks → (ℕ → Type 0) → Region → ℕ → Type 0
marked k P first_region i = i < k.firsts
marked k P converted_region i = i < k.converts
marked k P cell_region i = is_taken k.cells i ≡ true
marked k P text_place_region i = i < k.places
marked k P tail_region i = Unit {0}
marked k P text_region i = i < k.texts
marked k P id_region i = i < k.ids
marked k P pool_0 i = P i
marked k P pool_1 i = P (2 ^ 30 + i)
marked k P pool_2 i = P (2 * 2 ^ 30 + i)
marked k P pool_3 i = P (3 * 2 ^ 30 + i)
marked k P directory_region i = i < k.directory
marked k P packed_region i = i < k.packs

-- at least these
pub record IsMore (k l : Marks) : Type 0 where
  pub firsts : k.firsts ≤ l.firsts
  pub converts : k.converts ≤ l.converts
  pub cells : (c : ℕ) → is_taken k.cells c ≡ true → is_taken l.cells c ≡ true
  pub places : k.places ≤ l.places
  pub texts : k.texts ≤ l.texts
  pub ids : k.ids ≤ l.ids
  pub directory : k.directory ≤ l.directory
  pub packs : k.packs ≤ l.packs

pub marked_more : (k l : Marks) (P Q : ℕ → Type 0) → IsMore k l → ((a : ℕ) → P a → Q a) → (q : Region) (j : ℕ) → marked k P q j → marked l Q q j
marked_more k l P Q h f first_region j m = omega (arith, h.firsts, m)
marked_more k l P Q h f converted_region j m = omega (arith, h.converts, m)
marked_more k l P Q h f cell_region j m = h.cells j m
marked_more k l P Q h f text_place_region j m = omega (arith, h.places, m)
marked_more k l P Q h f tail_region j m = tt
marked_more k l P Q h f text_region j m = omega (arith, h.texts, m)
marked_more k l P Q h f id_region j m = omega (arith, h.ids, m)
marked_more k l P Q h f pool_0 j m = f j m
marked_more k l P Q h f pool_1 j m = f (2 ^ 30 + j) m
marked_more k l P Q h f pool_2 j m = f (2 * 2 ^ 30 + j) m
marked_more k l P Q h f pool_3 j m = f (3 * 2 ^ 30 + j) m
marked_more k l P Q h f directory_region j m = omega (arith, h.directory, m)
marked_more k l P Q h f packed_region j m = omega (arith, h.packs, m)

-- a word of a pool by its address
pool_in : (k : Marks) (P : ℕ → Type 0) (a : ℕ) → a < 2 ^ 32 → P a → marked k P (pool_region (a / 2 ^ 30)) (a % 2 ^ 30)
pool_in k P a low h = by (a / 2 ^ 30) refl
  where
    by : (p : ℕ) → a / 2 ^ 30 ≡ p → marked k P (pool_region p) (a % 2 ^ 30)
    by zero e = subst P (omega arith) h
    by (suc zero) e = subst P (omega arith) h
    by (suc (suc zero)) e = subst P (omega arith) h
    by (suc (suc (suc zero))) e = subst P (omega arith) h
    by (suc (suc (suc (suc p)))) e = absurd (omega arith)

pool_out : (k : Marks) (P : ℕ → Type 0) (a : ℕ) → a < 2 ^ 32 → marked k P (pool_region (a / 2 ^ 30)) (a % 2 ^ 30) → P a
pool_out k P a low h = by (a / 2 ^ 30) refl h
  where
    by : (p : ℕ) → a / 2 ^ 30 ≡ p → marked k P (pool_region p) (a % 2 ^ 30) → P a
    by zero e m = subst P (omega arith) m
    by (suc zero) e m = subst P (omega arith) m
    by (suc (suc zero)) e m = subst P (omega arith) m
    by (suc (suc (suc zero))) e m = subst P (omega arith) m
    by (suc (suc (suc (suc p)))) e m = absurd (omega arith)

-- ---- one store of each kind

more_self : (k : Marks) → IsMore k k
more_self k = record { firsts = omega arith; converts = omega arith; cells = λ c h. h; places = omega arith; texts = omega arith; ids = omega arith; directory = omega arith; packs = omega arith }

-- the next text words
pub grow_row : (s : ℕ) (k : Marks) (P : ℕ → Type 0) (vs : List ℕ) (L : List Store) → Grown s (marked k P) L
    → Grown s (marked (record k { texts = k.texts + length vs }) P) (L ++ in_row s text_region k.texts vs)
grow_row s k P [] L h = subst (Grown s (marked (record k { texts = k.texts + 0 }) P)) (sym (append-nil L))
    (widen s (marked k P) (marked (record k { texts = k.texts + 0 }) P) L (marked_more k (record k { texts = k.texts + 0 }) P P
    (record { firsts = omega arith; converts = omega arith; cells = λ c m. m; places = omega arith; texts = omega arith; ids = omega arith; directory = omega arith; packs = omega arith }) (λ a p. p))
    h)
grow_row s k P (v ∷ vs) L h =
    let l : Marks = record k { texts = k.texts + 1 } in
    let x : Store = (slot s text_region k.texts, v) in
    let one = grow s (marked k P) (marked l P) text_region k.texts v L
    (marked_more k l P P
    (record { firsts = omega arith; converts = omega arith; cells = λ c m. m; places = omega arith; texts = omega arith; ids = omega arith; directory = omega arith; packs = omega arith })
    (λ a p. p))
    (omega arith) (λ single m. omega arith) h in
    let rest = grow_row s l P vs (L ++ x ∷ []) one in
    subst (λ (t : ℕ). Grown s (marked (record k { texts = t }) P) (L ++ in_row s text_region k.texts (v ∷ vs))) (let e : k.texts + 1 + length vs ≡ k.texts + suc (length vs) = omega arith in e)
    (subst (Grown s (marked (record k { texts = k.texts + 1 + length vs }) P)) (append_assoc L (x ∷ []) (in_row s text_region (k.texts + 1) vs)) rest)

-- the next text place
grow_place : (s : ℕ) (k : Marks) (P : ℕ → Type 0) (v : ℕ) (L : List Store) → Grown s (marked k P) L
    → Grown s (marked (record k { places = k.places + 1 }) P) (L ++ (slot s text_place_region k.places, v) ∷ [])
grow_place s k P v L h = grow s (marked k P) (marked (record k { places = k.places + 1 }) P) text_place_region k.places v L
    (marked_more k (record k { places = k.places + 1 }) P P
    (record { firsts = omega arith; converts = omega arith; cells = λ c m. m; places = omega arith; texts = omega arith; ids = omega arith; directory = omega arith; packs = omega arith })
    (λ a p. p))
    (omega arith) (λ single m. omega arith) h

-- a free cell
grow_cell : (s : ℕ) (k : Marks) (P : ℕ → Type 0) (c v : ℕ) (L : List Store) → is_taken k.cells c ≡ false
    → Grown s (marked k P) L → Grown s (marked (record k { cells = k.cells ++ c ∷ [] }) P) (L ++ (slot s cell_region c, v) ∷ [])
grow_cell s k P c v L free h = grow s (marked k P) (marked (record k { cells = k.cells ++ c ∷ [] }) P) cell_region c v L
    (marked_more k (record k { cells = k.cells ++ c ∷ [] }) P P (record {
      firsts = omega arith;
      converts = omega arith;
      cells = λ j m. taken_push k.cells c j ∙ or_left (is_taken k.cells j) (j == c) m;
      places = omega arith;
      texts = omega arith;
      ids = omega arith;
      directory = omega arith;
      packs = omega arith;
    }) (λ a p. p))
    (taken_push k.cells c c ∙ or_right (is_taken k.cells c) (c == c) (eq-eqb c c refl)) (λ single m. false≢true (sym free ∙ m)) h

-- the next id
pub grow_id : (s : ℕ) (k : Marks) (P : ℕ → Type 0) (v : ℕ) (L : List Store) → Grown s (marked k P) L → Grown s (marked (record k { ids = k.ids + 1 }) P) (L ++ (slot s id_region k.ids, v) ∷ [])
grow_id s k P v L h = grow s (marked k P) (marked (record k { ids = k.ids + 1 }) P) id_region k.ids v L
    (marked_more k (record k { ids = k.ids + 1 }) P P
    (record { firsts = omega arith; converts = omega arith; cells = λ c m. m; places = omega arith; texts = omega arith; ids = omega arith; directory = omega arith; packs = omega arith })
    (λ a p. p))
    (omega arith) (λ single m. omega arith) h

-- the first-document word
pub grow_first : (s : ℕ) (k : Marks) (P : ℕ → Type 0) (v : ℕ) (L : List Store) → k.firsts ≡ 0
    → Grown s (marked k P) L → Grown s (marked (record k { firsts = 1 }) P) (L ++ (slot s first_region 0, v) ∷ [])
grow_first s k P v L z h = grow s (marked k P) (marked (record k { firsts = 1 }) P) first_region 0 v L
    (marked_more k (record k { firsts = 1 }) P P
    (record { firsts = omega arith; converts = omega arith; cells = λ c m. m; places = omega arith; texts = omega arith; ids = omega arith; directory = omega arith; packs = omega arith })
    (λ a p. p))
    (omega arith) (λ single m. omega arith) h

-- a tail changes nothing
grow_tail : (s : ℕ) (k : Marks) (P : ℕ → Type 0) (i v : ℕ) (L : List Store) → Grown s (marked k P) L → Grown s (marked k P) (L ++ (slot s tail_region i, v) ∷ [])
grow_tail s k P i v L h = grow s (marked k P) (marked k P) tail_region i v L (λ q j m. m) tt (λ single m. single.tails s i refl) h

-- a pool word that holds nothing yet
grow_pool : (s : ℕ) (k : Marks) (P Q : ℕ → Type 0) (a v : ℕ) (L : List Store) → a < 2 ^ 32 → ((b : ℕ) → P b → Q b)
    → Q a → (P a → ⊥) → Grown s (marked k P) L → Grown s (marked k Q) (L ++ (pool_slot s a, v) ∷ [])
unfolding pool_slot
grow_pool s k P Q a v L low up here new h = grow s (marked k P) (marked k Q) (pool_region (a / 2 ^ 30)) (a % 2 ^ 30) v L
    (marked_more k k P Q (more_self k) up) (pool_in k Q a low here) (λ single m. new (pool_out k P a low m)) h

-- ---- a token

-- the addresses of the postings and links of these tokens
pub data IsStored (ts : List Term) (a : ℕ) : Type 0 where
  posting : (t : Term) (f : ℕ) → f < count_of t ts → a ≡ address_of t f ts → IsStored ts a
  link : (t : Term) (f : ℕ) → f < count_of t ts → begins f ≡ true → 1 ≤ pool_at f → a ≡ address_of t f ts - 1 → IsStored ts a

-- what these tokens and documents mark
abbrev pub marks_of : Setting → List Term → ℕ → ℕ → Marks
marks_of σ ts f n =
    record { firsts = f; converts = 0; cells = cells_of (2 * σ.terms) (distinct ts); places = length (distinct ts); texts = sum_by text_words (distinct ts); ids = n; directory = 0; packs = 0 }

-- the words of a segment where these are stored
abbrev pub words_of_tokens : Setting → List Term → ℕ → ℕ → Region → ℕ → Type 0
words_of_tokens σ ts f n = marked (marks_of σ ts f n) (IsStored ts)

-- entering its term
enters_grown : (σ : Setting) (s : ℕ) (ts : List Term) (u : Term) (f n : ℕ) (P : ℕ → Type 0) (L : List Store) → length (distinct ts) < 2 * σ.terms → Grown s (marked (marks_of σ ts f n) P) L
    → Grown s (marked (marks_of σ (ts ++ u ∷ []) f n) P) (L ++ (if count_of u ts == 0 then enter_stores σ s (distinct ts) u else []))
unfolding enter_stores
enters_grown σ s ts u f n P L few h = elim (cases_Bool (count_of u ts == 0)) [
  | inl new ↦
      let C = 2 * σ.terms in
      let ds = distinct ts in
      let c = cell_of_next C ds u in
      let k = marks_of σ ts f n in
      let row = in_row s text_region (sum_by text_words ds) (text_of u) in
      let x : Store = (slot s text_place_region (length ds), sum_by text_words ds) in
      let y : Store = (slot s cell_region c, length ds + 1) in
      let a = grow_row s k P (text_of u) L h in
      let b = grow_place s (record k { texts = k.texts + length (text_of u) }) P (sum_by text_words ds) (L ++ row) a in
      let d = grow_cell s (record k { texts = k.texts + length (text_of u); places = k.places + 1 }) P c (length ds + 1) ((L ++ row) ++ x ∷ []) (next_is_free C ds u few) b in
      let e : distinct (ts ++ u ∷ []) ≡ ds ++ u ∷ [] = grown_terms (eqb-true _ _ new) in
      let texts : k.texts + length (text_of u) ≡ sum_by text_words (distinct (ts ++ u ∷ [])) = omega (arith, length-text_of u, ap (sum_by text_words) e, sum_by_push text_words ds u) in
      let places : k.places + 1 ≡ length (distinct (ts ++ u ∷ [])) = omega (arith, ap length e, length_push ds u) in
      let cells : k.cells ++ c ∷ [] ≡ cells_of C (distinct (ts ++ u ∷ [])) = sym (ap (cells_of C) e ∙ cells_of_push C ds u) in
      let same : record k { texts = k.texts + length (text_of u); places = k.places + 1; cells = k.cells ++ c ∷ [] } ≡ marks_of σ (ts ++ u ∷ []) f n =
      λ i. record { firsts = f; converts = 0; cells = cells i; places = places i; texts = texts i; ids = n; directory = 0; packs = 0 } in
      rw new (subst (λ (z : Marks × List Store). Grown s (marked z.0 P) z.1) (λ i. (same i, (let q : ((L ++ row) ++ x ∷ []) ++ y ∷ [] ≡ L ++ (row ++ x ∷ y ∷ []) = simp append_assoc in q) i)) d)
  | inr old ↦
      let e : distinct (ts ++ u ∷ []) ≡ distinct ts = same_terms (λ z. false≢true (sym old ∙ eq-eqb _ _ z)) in
      let same : marks_of σ ts f n ≡ marks_of σ (ts ++ u ∷ []) f n =
      λ i. record { firsts = f; converts = 0; cells = cells_of (2 * σ.terms) (sym e i); places = length (sym e i); texts = sum_by text_words (sym e i); ids = n; directory = 0; packs = 0 } in
      rw old (subst (λ (z : Marks × List Store). Grown s (marked z.0 P) z.1) (λ i. (same i, sym (append-nil L) i)) h)
]
  where
    grown_terms : count_of u ts ≡ 0 → distinct (ts ++ u ∷ []) ≡ distinct ts ++ u ∷ []
    grown_terms z = elim (with_term_cases (distinct ts) u) [
      | inl w ↦ absurd (omega (arith, once u ts, w.0))
      | inr w ↦ distinct_push ts u ∙ w.1
    ]

    same_terms : (count_of u ts ≡ 0 → ⊥) → distinct (ts ++ u ∷ []) ≡ distinct ts
    same_terms z = elim (with_term_cases (distinct ts) u) [
      | inl w ↦ distinct_push ts u ∙ w.1
      | inr w ↦ absurd (z (omega (arith, once u ts, w.0)))
    ]

-- with further tokens
stored_more : (ts us : List Term) (a : ℕ) → IsStored ts a → IsStored (ts ++ us) a
stored_more ts us a (posting t f l e) = posting t f (omega (arith, count_of-append t ts us)) (e ∙ sym (address_stays t f ts us l))
stored_more ts us a (link t f l b o e) = link t f (omega (arith, count_of-append t ts us)) b o (e ∙ ap (λ z. z - 1) (sym (address_stays t f ts us l)))

not_stored : (s : ℕ) (ts : List Term) (a v : ℕ) → Apart s ts (pool_slot s a, v) → IsStored ts a → ⊥
not_stored s ts a v h (posting t f l e) = h.post t f l (ap (pool_slot s) e)
not_stored s ts a v h (link t f l b o e) = h.link t f l b o (ap (pool_slot s) e)

-- appending its posting
append_grown : (σ : Setting) (s : ℕ) (ts : List Term) (u : Term) (p : ℕ) (k : Marks) (L : List Store) → Room σ s (ts ++ u ∷ [])
    → Grown s (marked k (IsStored ts)) L → Grown s (marked k (IsStored (ts ++ u ∷ []))) (L ++ append_stores s ts u (count_of u ts) p)
unfolding append_stores
append_grown σ s ts u p k L room h =
    let c = count_of u ts in
    let a = address_of u c ts in
    let fit = slices_fit σ (ts ++ u ∷ []) room.small room.fits in
    let n = count_of_push u u ts in
    let n1 = ap one_if (same_term u) in
    let hc : c < count_of u (ts ++ u ∷ []) = omega arith in
    let here : address_of u c (ts ++ u ∷ []) ≡ a = address_here u ts [] in
    let low : a < 2 ^ 32 = omega (arith, here, address_low u c (ts ++ u ∷ []) hc fit) in
    let E : List Store = if c == 0 then enter_stores σ s (distinct ts) u else [] in
    let K : List Store = if begins c && nat_le 1 (pool_at c) then ((pool_slot s (a - 1), address_of u (c - 1) ts) ∷ []) else [] in
    let y : Store = (pool_slot s a, p) in
    let z : Store = (slot s tail_region (number_of u ts), a + 1) in
    let back = Each-back E (K ++ y ∷ []) (front_apart σ s ts u p fit) in
    let fresh : IsStored ts a → ⊥ = not_stored s ts a p (each_head y [] (Each-back K (y ∷ []) back)) in
    let mine : IsStored (ts ++ u ∷ []) a = posting u c hc (sym here) in
    elim (cases_Bool (begins c && nat_le 1 (pool_at c))) [
      | inl new ↦
          let b = and_parts _ _ new in
          let o = le_from (pool_at c) b.1 in
          let x : Store = (pool_slot s (a - 1), address_of u (c - 1) ts) in
          let high = linked_positive u c ts o in
          let links : Each (Apart s ts) (x ∷ []) = subst (λ (w : Bool). Each (Apart s ts) (if w then (x ∷ []) else [])) new (Each-front K (y ∷ []) back) in
          let Q : ℕ → Type 0 = λ j. IsStored ts j ⊎ (j ≡ a - 1) in
          let one =
          grow_pool s k (IsStored ts) Q (a - 1) (address_of u (c - 1) ts) L (omega arith) (λ j m. inl m) (inr refl) (not_stored s ts (a - 1) (address_of u (c - 1) ts) (each_head x [] links)) h in
          let two = grow_pool s k Q (IsStored (ts ++ u ∷ [])) a p (L ++ x ∷ []) low (wider b.0 o here) mine (distinct_from fresh high) one in
          let three = grow_tail s k (IsStored (ts ++ u ∷ [])) (number_of u ts) (a + 1) ((L ++ x ∷ []) ++ y ∷ []) two in
          rw new (subst (Grown s (marked k (IsStored (ts ++ u ∷ [])))) (let q : ((L ++ x ∷ []) ++ y ∷ []) ++ z ∷ [] ≡ L ++ ((x ∷ []) ++ y ∷ z ∷ []) = simp append_assoc in q) three)
      | inr old ↦
          let two = grow_pool s k (IsStored ts) (IsStored (ts ++ u ∷ [])) a p L low (λ j m. stored_more ts (u ∷ []) j m) mine fresh h in
          let three = grow_tail s k (IsStored (ts ++ u ∷ [])) (number_of u ts) (a + 1) (L ++ y ∷ []) two in
          rw old (subst (Grown s (marked k (IsStored (ts ++ u ∷ [])))) (let q : (L ++ y ∷ []) ++ z ∷ [] ≡ L ++ ([] ++ y ∷ z ∷ []) = simp append_assoc in q) three)
    ]
  where
    wider : begins (count_of u ts) ≡ true → 1 ≤ pool_at (count_of u ts) → address_of u (count_of u ts) (ts ++ u ∷ []) ≡ address_of u (count_of u ts) ts
        → (j : ℕ) → (IsStored ts j ⊎ (j ≡ address_of u (count_of u ts) ts - 1)) → IsStored (ts ++ u ∷ []) j
    wider b o here j (inl m) = stored_more ts (u ∷ []) j m
    wider b o here j (inr e) = link u (count_of u ts) (let n = count_of_push u u ts in let n1 = ap one_if (same_term u) in omega arith) b o (e ∙ ap (λ q. q - 1) (sym here))

    distinct_from : (IsStored ts (address_of u (count_of u ts) ts) → ⊥) → 1 ≤ address_of u (count_of u ts) ts
        → (IsStored ts (address_of u (count_of u ts) ts) ⊎ (address_of u (count_of u ts) ts ≡ address_of u (count_of u ts) ts - 1)) → ⊥
    distinct_from fresh high (inl m) = fresh m
    distinct_from fresh high (inr e) = omega arith

-- all stores of a token
token_grown : (σ : Setting) (s : ℕ) (ts : List Term) (u : Term) (p f n : ℕ) (L : List Store) → Room σ s (ts ++ u ∷ [])
    → Grown s (words_of_tokens σ ts f n) L → Grown s (words_of_tokens σ (ts ++ u ∷ []) f n) (L ++ token_stores σ s ts u p)
unfolding token_stores
token_grown σ s ts u p f n L room h =
    let E : List Store = if count_of u ts == 0 then enter_stores σ s (distinct ts) u else [] in
    let r = room_before σ s ts (u ∷ []) room in
    let fits = r.fits in
    let few = fits.few in
    let some = r.some in
    let one = enters_grown σ s ts u f n (IsStored ts) L (omega arith) h in
    let two = append_grown σ s ts u p (marks_of σ (ts ++ u ∷ []) f n) (L ++ E) room one in
    subst (Grown s (words_of_tokens σ (ts ++ u ∷ []) f n)) (append_assoc L E (append_stores s ts u (count_of u ts) p)) two

-- all stores of further tokens
pub tokens_grown : (σ : Setting) (s m p f n : ℕ) (ts us : List Term) (L : List Store) → Room σ s (ts ++ us)
    → Grown s (words_of_tokens σ ts f n) L → Grown s (words_of_tokens σ (ts ++ us) f n) (L ++ tokens_stores σ s m p ts us)
unfolding tokens_stores
tokens_grown σ s m p f n ts [] L room h = subst (λ (z : List Term × List Store). Grown s (words_of_tokens σ z.0 f n) z.1) (λ i. (sym (append-nil ts) i, sym (append-nil L) i)) h
tokens_grown σ s m p f n ts (u ∷ us) L room h =
    let e = append_assoc ts (u ∷ []) us in
    let room' : Room σ s ((ts ++ u ∷ []) ++ us) = subst (Room σ s) (sym e) room in
    let T = token_stores σ s ts u (posting_of m p) in
    let one = token_grown σ s ts u (posting_of m p) f n L (room_before σ s (ts ++ u ∷ []) us room') h in
    let rest = tokens_grown σ s m (p + 1) f n (ts ++ u ∷ []) us (L ++ T) room' one in
    subst (λ (z : List Term × List Store). Grown s (words_of_tokens σ z.0 f n) z.1) (λ i. (e i, append_assoc L T (tokens_stores σ s m (p + 1) (ts ++ u ∷ []) us) i)) rest

-- the count is no word of a segment
pub grow_count : (s : ℕ) (M : Region → ℕ → Type 0) (v : ℕ) (L : List Store) → Grown s M L → Grown s M (L ++ (published, v) ∷ [])
grow_count s M v L h = record {
  single = single_push L (published, v) h.single (λ single. absurd (single.count refl));
  named = Each-append h.named (more (λ q j e. absurd cc) none);
}
