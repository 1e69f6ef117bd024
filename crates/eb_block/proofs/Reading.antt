-- Reading a packed list: the next posting, the next header, the next block.
use Rattle.std.proofs.Common.{◌≡◌, ℕ, zero, suc, ◌+◌, ◌-◌, ◌*◌, ◌/◌, ◌%◌, ◌^◌, ◌<◌, ◌≤◌, ◌⊎◌, Bool, true, false, List, [], ◌∷◌, ◌++◌, take, drop, length, get_or, refl, ap, sym, ◌∙◌, subst, arith, inl}
use Rattle.std.proofs.Common.{inr, if◌then◌else◌}
use Rattle.std.proofs.lemmas.Bool.{cases_lt, cases_Bool, lt-ltb, le-ltb, false≢true}
use Rattle.std.proofs.lemmas.List.{length-append, length-drop, length-take, drop_more, drop-drop, take-append-drop, drop_at}
use Rattle.eb_place.specs.Packed.{differences, fields, block, blocks, packed_list}
use Rattle.eb_place.specs.Falling.{IsFalling, AllBelow}
use Rattle.eb_block.specs.Fields.{IsHeld, IsField, HoldsFields}
use Rattle.std.proofs.lemmas.Nat.{mul-le}
use Rattle.eb_block.specs.Blocks.{IsPackable}
use Rattle.eb_block.specs.Reading.{ReadsWords, BoundsNext, loaded, HasPassed}
use Rattle.eb_block.specs.declared.packed_list.PackedList.{PackedList}
use Rattle.eb_place.specs.Postings.{posting_bits, at_most}
use Rattle.eb_place.proofs.BlockFields.{length-lowest_words}
use Rattle.eb_block.proofs.Drawing.{hold_first, hold_over, hold_more, next_of}
use Rattle.eb_block.proofs.Opening.{header_in, body_in, width_in, block_is, header_read, IsHeader, body_holds}

-- ---- falling lists

pub falls_tail : (x : ℕ) (xs : List ℕ) → IsFalling (x ∷ xs) → IsFalling xs
falls_tail x [] h = tt
falls_tail x (y ∷ ys) h = h.1

pub falls_back : (xs ys : List ℕ) → IsFalling (xs ++ ys) → IsFalling ys
falls_back [] ys h = h
falls_back (x ∷ xs) ys h = falls_back xs ys (falls_tail x (xs ++ ys) h)

falls_front : (xs ys : List ℕ) → IsFalling (xs ++ ys) → IsFalling xs
falls_front [] ys h = tt
falls_front (x ∷ []) ys h = tt
falls_front (x ∷ y ∷ xs) ys h = (h.0, falls_front (y ∷ xs) ys h.1)

below_take : (n k : ℕ) (xs : List ℕ) → AllBelow n xs → AllBelow n (take k xs)
below_take n zero xs h = tt
below_take n (suc k) [] h = tt
below_take n (suc k) (x ∷ xs) h = (h.0, below_take n k xs h.1)

below_drop : (n k : ℕ) (xs : List ℕ) → AllBelow n xs → AllBelow n (drop k xs)
below_drop n zero xs h = h
below_drop n (suc k) [] h = tt
below_drop n (suc k) (x ∷ xs) h = below_drop n k xs h.1

-- all before the end of a falling list are above what comes there
at_most_skip : (most : ℕ) (xs : List ℕ) (y : ℕ) (ys : List ℕ) → IsFalling (xs ++ (y ∷ ys)) → most ≤ y → at_most most (xs ++ (y ∷ ys)) ≡ at_most most (y ∷ ys)
at_most_skip most [] y ys h l = refl
at_most_skip most (x ∷ xs) y ys h l =
    let above : most < x = first xs h in
    rw (lt-ltb most x above) (at_most_skip most xs y ys (falls_tail x (xs ++ (y ∷ ys)) h) l)
  where
    over : (xs : List ℕ) (z : ℕ) → IsFalling (z ∷ (xs ++ (y ∷ ys))) → y < z
    over [] z h = h.0
    over (x ∷ xs) z h = let r = over xs x h.1 in omega (arith, h.0)

    first : (xs : List ℕ) → IsFalling (x ∷ (xs ++ (y ∷ ys))) → most < x
    first xs h = let r = over xs x h in omega arith

-- ---- packed lists, block by block

fuel : (n m : ℕ) (xs : List ℕ) → length xs ≤ n → length xs ≤ m → blocks n xs ≡ blocks m xs
fuel zero zero xs l k = refl
fuel zero (suc m) [] l k = refl
fuel zero (suc m) (x ∷ xs) l k = absurd (omega arith)
fuel (suc n) zero [] l k = refl
fuel (suc n) zero (x ∷ xs) l k = absurd (omega arith)
fuel (suc n) (suc m) [] l k = refl
fuel (suc n) (suc m) (x ∷ xs) l k = let d = length-drop 127 xs in ap (λ z. block (x ∷ take 127 xs) ++ z) (fuel n m (drop 127 xs) (omega arith) (omega arith))

pub list_more : (x : ℕ) (xs : List ℕ) → packed_list (x ∷ xs) ≡ header_in (x ∷ take 127 xs) ∷ (body_in (x ∷ take 127 xs) ++ packed_list (drop 127 xs))
unfolding packed_list
list_more x xs =
    let d = length-drop 127 xs in
    ap (λ z. block (x ∷ take 127 xs) ++ z) (fuel (length xs) (length (drop 127 xs)) (drop 127 xs) (omega arith) (omega arith))
    ∙ ap (λ z. z ++ packed_list (drop 127 xs)) (block_is (x ∷ take 127 xs))

pub list_none : packed_list [] ≡ []
unfolding packed_list
list_none = refl

list_some : (xs : List ℕ) → 1 ≤ length xs → 1 ≤ length (packed_list xs)
list_some [] h = absurd (omega arith)
list_some (x ∷ xs) h = omega (arith, ap length (list_more x xs))

-- the first block of a falling list
pub first_packable : (x : ℕ) (xs : List ℕ) → IsFalling (x ∷ xs) → AllBelow (2 ^ posting_bits) (x ∷ xs) → IsPackable (x ∷ take 127 xs)
first_packable x xs f b =
    let l = length-take 127 xs in
    let s = take-append-drop 127 xs in
    record {
      some = omega arith;
      few = omega arith;
      falls = falls_front (x ∷ take 127 xs) (drop 127 xs) (subst (λ zs. IsFalling (x ∷ zs)) (sym s) f);
      small = (b.0, below_take (2 ^ posting_bits) 127 xs b.1);
    }

-- ---- where the reading is

-- the bound of the next block stays
bounds_same : (p q : PackedList) → q.left ≡ p.left → q.header ≡ p.header → q.near ≡ p.near → BoundsNext p → BoundsNext q
bounds_same p q left header near (inl none) = inl (left ∙ none)
bounds_same p q left header near (inr (inl w)) = inr (inl (omega (arith, header, w.0), omega (arith, ap (λ z. z / 2 ^ 16) header, near, w.1)))
bounds_same p q left header near (inr (inr most)) = inr (inr (omega (arith, near, most)))

-- and is not known where a block was entered
after_entry : (q : PackedList) → (q.left ≡ 0) ⊎ (2 ^ 64 ≤ q.near + 1) → BoundsNext q
after_entry q (inl none) = inl none
after_entry q (inr most) = inr (inr most)

module _ (W : List ℕ) (start : ℕ) where
  -- no header is loaded, or there is a block for it
  loaded_room : (p : PackedList) (rest : List ℕ) (b : ℕ) (r : ReadsWords W start p rest b) → loaded p.header ≤ length (packed_list r.later)
  loaded_room p rest b r = at r.header
    where
      at : (p.header ≡ 0) ⊎ ((1 ≤ length r.later) × (p.header ≡ get_or (packed_list r.later) 0 0)) → loaded p.header ≤ length (packed_list r.later)
      at (inl z) = rw z (omega arith)
      at (inr h) = let s = list_some r.later h.0 in elim (cases_lt 0 p.header) [
        | inl low ↦ rw (lt-ltb 0 p.header low) s
        | inr high ↦ rw (le-ltb 0 p.header high) (omega arith)
      ]

  -- the next word of the block
  pub record IsNextWord (p : PackedList) (rest : List ℕ) (b : ℕ) (x : ℕ) : Type 0 where
    pub index : ℕ
    pub inside : index < length W
    pub place : p.at ≡ start + index
    pub is : x ≡ get_or W index 0

  -- what one more difference gives
  pub record HasStepped (p q : PackedList) : Type 0 where
    pub width : q.width ≡ p.width
    pub inside : q.inside + 1 ≡ p.inside
    pub held : q.held ≡ true
    pub next : q.next ≡ p.next
    pub header : q.header ≡ p.header
    pub left : q.left ≡ p.left
    pub near : q.near ≡ p.near

  -- the difference that is next: what is left of the block, by its first
  pub record IsAhead (p : PackedList) (rest : List ℕ) (b : ℕ) (r : ReadsWords W start p rest b) : Type 0 where
    pub n : ℕ
    pub ns : List ℕ
    pub now : r.now ≡ n ∷ ns
    pub low : n < p.last
    pub holds : HoldsFields p.width p.bits r.body ((p.last - n) ∷ differences (n ∷ ns))
    pub block : IsFalling (n ∷ ns)
    pub rest_is : p.held ≡ false → rest ≡ n ∷ (ns ++ r.later)

  pub ahead : (p : PackedList) (rest : List ℕ) (b : ℕ) (r : ReadsWords W start p rest b) → 1 ≤ p.inside → IsAhead p rest b r
  ahead p rest b r h = at r.now refl
    where
      at : (now : List ℕ) → r.now ≡ now → IsAhead p rest b r
      at [] e = absurd (omega (arith, r.inside, ap length e))
      at (n ∷ ns) e =
          let f = subst (λ zs. IsFalling (p.last ∷ zs)) e r.block in
          record {
            n = n;
            ns = ns;
            now = e;
            low = f.0;
            holds = subst (λ zs. HoldsFields p.width p.bits r.body (differences (p.last ∷ zs))) e r.holds;
            block = f.1;
            rest_is = λ z. r.are ∙ ap (λ (c : Bool). if c then (p.last ∷ (r.now ++ r.later)) else (r.now ++ r.later)) z ∙ ap (λ zs. zs ++ r.later) e;
          }

  pub step_first : (p q : PackedList) (rest : List ℕ) (b field : ℕ) (r : ReadsWords W start p rest b) → (h : 1 ≤ p.inside) → p.held ≡ false → HasStepped p q → q.at ≡ p.at → IsHeld q.bits
      → IsField p.width p.bits.low field q.bits.low → q.bits.count + p.width ≡ p.bits.count
      → q.last ≡ p.last - field → (field ≤ p.last) × (field < 2 ^ posting_bits) × ReadsWords W start q rest b
  step_first p q rest b field r h free s at held f e last =
      let a = ahead p rest b r h in
      let k = hold_first p.width p.bits q.bits r.body (p.last - a.n) (differences (a.n ∷ a.ns)) field a.holds held f e in
      let low = a.low in
      let is : q.last ≡ a.n = omega (arith, k.0) in
      let rest_is = a.rest_is free in
      let w = s.width in
      let fs : field < 2 ^ p.width = f.small in
      let pw = Rattle.std.proofs.Math.Pow.pow_mono r.narrow in (
        omega (arith, k.0),
        omega arith,
        record {
          room = r.room;
          now = a.ns;
          later = r.later;
          body = r.body;
          index = r.index;
          at = at ∙ r.at;
          short = omega (arith, at, s.next, r.short);
          words_are = r.words_are;
          near = omega (arith, s.next, r.near);
          next = λ more. s.next ∙ r.next more;
          holds = subst (λ z. HoldsFields z q.bits r.body (differences (q.last ∷ a.ns))) (sym w) (subst (λ z. HoldsFields p.width q.bits r.body (differences (z ∷ a.ns))) (sym is) k.1);
          narrow = subst (λ z. z ≤ posting_bits) (sym w) r.narrow;
          inside = omega (arith, s.inside, r.inside, ap length a.now);
          left = s.left ∙ r.left;
          block = subst (λ z. IsFalling (z ∷ a.ns)) (sym is) a.block;
          falls = r.falls;
          small = r.small;
          are = rest_is ∙ ap (λ z. z ∷ (a.ns ++ r.later)) (sym is) ∙ ap (λ (c : Bool). if c then (q.last ∷ (a.ns ++ r.later)) else (a.ns ++ r.later)) (sym s.held);
          header = subst (λ z. (z ≡ 0) ⊎ ((1 ≤ length r.later) × (z ≡ get_or (packed_list r.later) 0 0))) (sym s.header) r.header;
          bounds = bounds_same p q s.left s.header s.near r.bounds;
          budget_is = ap (λ z. b + loaded z) s.header ∙ r.budget_is;
        },
      )

  -- where the bits are too few: the word, and what it gives
  pub record IsOver (p : PackedList) (rest : List ℕ) (b : ℕ) : Type 0 where
    pub index : ℕ
    pub inside : index < length W
    pub place : p.at ≡ start + index
    pub some : 1 ≤ b
    pub gives : (q : PackedList) (field x : ℕ) → x ≡ get_or W index 0 → HasStepped p q → q.at ≡ p.at + 1 → IsHeld q.bits → IsField p.width (p.bits.low + 2 ^ p.bits.count * x) field q.bits.low
        → q.bits.count + p.width ≡ p.bits.count + 64
        → q.last ≡ p.last - field → (field ≤ p.last) × (field < 2 ^ posting_bits) × ReadsWords W start q rest (b - 1)

  pub step_over : (p : PackedList) (rest : List ℕ) (b : ℕ) (r : ReadsWords W start p rest b) → (h : 1 ≤ p.inside) → p.held ≡ false → p.bits.count < p.width → IsOver p rest b
  step_over p rest b r h free few =
      let a = ahead p rest b r h in
      let m = hold_more p.width p.bits r.body (p.last - a.n) (differences (a.n ∷ a.ns)) a.holds few in
      let more = next_of W r.index m.0 (m.1 ++ packed_list r.later) (r.words_are ∙ ap (λ zs. zs ++ packed_list r.later) m.2) in
      let room = loaded_room p rest b r in
      let bi = r.budget_is in
      let lb = ap length m.2 in
      let some : 1 ≤ b = omega arith in
      record {
        index = r.index;
        inside = more.inside;
        place = r.at;
        some = some;
        gives = λ q field x ex s at held f e last.
            (let g = subst (λ z. IsField p.width (p.bits.low + 2 ^ p.bits.count * z) field q.bits.low) (ex ∙ more.here) f in
            let k = hold_over p.width p.bits q.bits m.0 m.1 (p.last - a.n) (differences (a.n ∷ a.ns)) field
            (subst (λ zs. HoldsFields p.width p.bits zs ((p.last - a.n) ∷ differences (a.n ∷ a.ns))) m.2 a.holds) held g e in
            let low = a.low in
            let is : q.last ≡ a.n = omega (arith, k.0) in
            let rest_is = a.rest_is free in
            let w = s.width in
            let fs : field < 2 ^ p.width = f.small in
            let pw = Rattle.std.proofs.Math.Pow.pow_mono r.narrow in (
              omega (arith, k.0),
              omega arith,
              record {
                room = r.room;
                now = a.ns;
                later = r.later;
                body = m.1;
                index = r.index + 1;
                at = at ∙ omega (arith, r.at);
                short = omega (arith, at, s.next, r.short);
                words_are = more.on;
                near = omega (arith, s.next, r.near, lb);
                next = λ more. omega (arith, s.next, r.next more, lb);
                holds = subst (λ z. HoldsFields z q.bits m.1 (differences (q.last ∷ a.ns))) (sym w) (subst (λ z. HoldsFields p.width q.bits m.1 (differences (z ∷ a.ns))) (sym is) k.1);
                narrow = subst (λ z. z ≤ posting_bits) (sym w) r.narrow;
                inside = omega (arith, s.inside, r.inside, ap length a.now);
                left = s.left ∙ r.left;
                block = subst (λ z. IsFalling (z ∷ a.ns)) (sym is) a.block;
                falls = r.falls;
                small = r.small;
                are = rest_is ∙ ap (λ z. z ∷ (a.ns ++ r.later)) (sym is) ∙ ap (λ (c : Bool). if c then (q.last ∷ (a.ns ++ r.later)) else (a.ns ++ r.later)) (sym s.held);
                header = subst (λ z. (z ≡ 0) ⊎ ((1 ≤ length r.later) × (z ≡ get_or (packed_list r.later) 0 0))) (sym s.header) r.header;
                bounds = bounds_same p q s.left s.header s.near r.bounds;
                budget_is = ap (λ z. (b - 1) + loaded z) s.header ∙ omega (arith, some, bi, lb);
              },
            ));
      }

  -- where the next header is, and what it says
  pub record IsPeek (p : PackedList) (rest : List ℕ) (b : ℕ) : Type 0 where
    pub index : ℕ
    pub inside : index < length W
    pub place : p.next ≡ start + index
    pub some : 1 ≤ b
    pub gives : (x : ℕ) → x ≡ get_or W index 0 → (1 ≤ x) × ReadsWords W start record p { header = x; near = x / 2 ^ 16 } rest (b - 1)

  header_some : (later : List ℕ) → 1 ≤ length later → 1 ≤ get_or (packed_list later) 0 0
  header_some [] h = absurd (omega arith)
  header_some (x ∷ xs) h = omega (arith, ap (λ zs. get_or zs 0 0) (list_more x xs))

  pub peek_at : (p : PackedList) (rest : List ℕ) (b : ℕ) → ReadsWords W start p rest b → p.header ≡ 0 → 1 ≤ p.left → IsPeek p rest b
  peek_at p rest b r z l =
      let i = r.index + length r.body in
      let PL = packed_list r.later in
      let some : 1 ≤ length r.later = omega (arith, r.left) in
      let q = list_some r.later some in
      let d : drop i W ≡ PL = sym (drop-drop (length r.body) r.index W) ∙ ap (drop (length r.body)) r.words_are ∙ drop_at r.body PL (length r.body) refl in
      let e = ap length d in
      let inside : i < length W = omega (arith, length-drop i W) in
      let here : get_or W i 0 ≡ get_or PL 0 0 = sym (ap (λ zs. get_or zs 0 0) (drop_more W i 0 inside)) ∙ ap (λ zs. get_or zs 0 0) d in
      let lz : loaded p.header ≡ 0 = ap loaded z in
      let bi = r.budget_is in
      let one : 1 ≤ b = omega arith in
      let hs = header_some r.later some in
      record {
        index = i;
        inside = inside;
        place = r.next some;
        some = one;
        gives = λ x ex.
            (let big : 1 ≤ x = omega (arith, ex, here) in
            let lx : loaded x ≡ 1 = ap (λ (c : Bool). if c then 1 else 0) (lt-ltb 0 x big) in (
              big,
              record {
                room = r.room;
                now = r.now;
                later = r.later;
                body = r.body;
                index = r.index;
                at = r.at;
                short = r.short;
                words_are = r.words_are;
                near = r.near;
                next = r.next;
                holds = r.holds;
                narrow = r.narrow;
                inside = r.inside;
                left = r.left;
                block = r.block;
                falls = r.falls;
                small = r.small;
                are = r.are;
                header = inr (some, ex ∙ here);
                bounds = inr (inl (big, omega arith));
                budget_is = omega (arith, lx, lz, bi, one);
              },
            ));
      }

  -- the state in the next block
  pub record IsIn (p q : PackedList) : Type 0 where
    pub at : q.at ≡ p.next + 1
    pub held_bits : IsHeld q.bits
    pub low : q.bits.low ≡ 0
    pub count : q.bits.count ≡ 0
    pub width : q.width ≡ p.header / 2 ^ 8 % 2 ^ 8
    pub inside : q.inside ≡ p.header % 2 ^ 8 - 1
    pub last : q.last ≡ p.header / 2 ^ 16
    pub held : q.held ≡ true
    pub next : q.next ≡ p.next + 1 + 2 * (p.header / 2 ^ 8 % 2 ^ 8)
    pub header : q.header ≡ 0
    pub left : q.left ≡ p.left - p.header % 2 ^ 8
    pub near : (q.left ≡ 0) ⊎ (2 ^ 64 ≤ q.near + 1)

  pub record CanEnter (p : PackedList) (rest : List ℕ) (b : ℕ) : Type 0 where
    pub small : p.header < 2 ^ (16 + posting_bits)
    pub some : 1 ≤ p.header % 2 ^ 8
    pub few : p.header % 2 ^ 8 ≤ p.left
    pub narrow : p.header / 2 ^ 8 % 2 ^ 8 ≤ posting_bits
    pub short : p.header % 2 ^ 8 ≤ 128
    pub full : p.header % 2 ^ 8 < p.left → p.header % 2 ^ 8 ≡ 128
    pub room : p.next + 1 + 2 * (p.header / 2 ^ 8 % 2 ^ 8) < 2 ^ 32
    pub gives : (q : PackedList) → IsIn p q → (after : List ℕ) × (c : ℕ) × ReadsWords W start q after c × (c ≤ b) × HasPassed p rest after

  front_of_rest : (p : PackedList) (rest : List ℕ) (b : ℕ) → (r : ReadsWords W start p rest b) → (front : List ℕ) × (rest ≡ front ++ r.later) × (p.held ≡ false → p.inside ≡ 0 → front ≡ [])
  front_of_rest p rest b r = elim (cases_Bool p.held) [
    | inl held ↦ (p.last ∷ r.now, r.are ∙ ap (λ (c : Bool). if c then (p.last ∷ (r.now ++ r.later)) else (r.now ++ r.later)) held, λ f z. absurd (false≢true (sym f ∙ held)))
    | inr free ↦ (
      r.now,
      r.are ∙ ap (λ (c : Bool). if c then (p.last ∷ (r.now ++ r.later)) else (r.now ++ r.later)) free,
      λ f z. Rattle.std.proofs.lemmas.List.nil_from_length r.now (omega (arith, r.inside)),
    )
  ]

  pub can_enter : (p : PackedList) (rest : List ℕ) (b : ℕ) → ReadsWords W start p rest b → 1 ≤ p.header → CanEnter p rest b
  can_enter p rest b r h = at r.later refl r.header
    where
      at : (later : List ℕ) → r.later ≡ later → (p.header ≡ 0) ⊎ ((1 ≤ length r.later) × (p.header ≡ get_or (packed_list r.later) 0 0)) → CanEnter p rest b
      at later e (inl z) = absurd (omega arith)
      at [] e (inr w) = absurd (omega (arith, w.0, ap length e))
      at (x ∷ xs) e (inr w) =
          let blk : List ℕ = x ∷ take 127 xs in
          let back : List ℕ = drop 127 xs in
          let PL = packed_list r.later in
          let f = front_of_rest p rest b r in
          let rest_is : rest ≡ f.0 ++ (x ∷ xs) = f.1 ∙ ap (λ zs. f.0 ++ zs) e in
          let falls : IsFalling (x ∷ xs) = falls_back f.0 (x ∷ xs) (subst IsFalling rest_is r.falls) in
          let small : AllBelow (2 ^ posting_bits) (x ∷ xs) = subst (AllBelow (2 ^ posting_bits)) e r.small in
          let pk = first_packable x xs falls small in
          let pl : PL ≡ header_in blk ∷ (body_in blk ++ packed_list back) = ap packed_list e ∙ list_more x xs in
          let hd : p.header ≡ header_in blk = w.1 ∙ ap (λ zs. get_or zs 0 0) pl in
          let ih : IsHeader p.header blk = subst (λ z. IsHeader z blk) (sym hd) (header_read blk pk) in
          let later_some : 1 ≤ length r.later = w.0 in
          let i = r.index + length r.body in
          let d : drop i W ≡ header_in blk ∷ (body_in blk ++ packed_list back) = sym (drop-drop (length r.body) r.index W) ∙ ap (drop (length r.body)) r.words_are
          ∙ drop_at r.body PL (length r.body) refl ∙ pl in
          let nx = next_of W i (header_in blk) (body_in blk ++ packed_list back) d in
          let lb = length-lowest_words (((length blk - 1) * width_in blk + 63) / 64) (fields (width_in blk) (differences blk)) in
          let ld = length-drop 127 xs in
          let lt = length-take 127 xs in
          let le = ap length e in
          let some = pk.some in
          let few = pk.few in
          let la = length-append (body_in blk) (packed_list back) in
          let ldw = length-drop (i + 1) W in
          let room = r.room in
          let ins = nx.inside in
          let lpl = ap length pl in
          let bi = r.budget_is in
          let w = p.header / 2 ^ 8 % 2 ^ 8 in
          let narrow : w ≤ posting_bits = subst (λ z. z ≤ posting_bits) (sym ih.width) ih.narrow in
          let many : length (body_in blk) ≤ 2 * w = omega (arith, lb, ih.width, mul-le (length blk - 1) (width_in blk) 127 (width_in blk) (omega arith) (omega arith)) in
          let whole : 1 ≤ length back → length (body_in blk) ≡ 2 * w = λ more. (let full : length blk ≡ 128 = omega arith in
          omega (arith, lb, ap (λ z. ((z - 1) * width_in blk + 63) / 64) full, ih.width, ih.narrow)) in
          let from : p.next ≡ start + i = r.next later_some in
          let lone : loaded p.header ≡ 1 = ap (λ (c : Bool). if c then 1 else 0) (lt-ltb 0 p.header h) in
          record {
            small = ih.small;
            some = omega (arith, ih.count);
            few = omega (arith, ih.count, r.left);
            narrow = narrow;
            short = omega (arith, ih.count);
            full = λ more. omega (arith, ih.count, r.left);
            room = omega (arith, from, narrow, ins, room);
            gives = λ q s. (
              x ∷ xs,
              length (body_in blk) + length (packed_list back),
              record {
                room = r.room;
                now = take 127 xs;
                later = back;
                body = body_in blk;
                index = i + 1;
                at = omega (arith, s.at, from);
                short = omega (arith, s.at, s.next, narrow);
                words_are = nx.on;
                near = omega (arith, s.next, from, many);
                next = λ more. omega (arith, s.next, from, whole more);
                holds = subst (λ z. HoldsFields z q.bits (body_in blk) (differences (q.last ∷ take 127 xs))) (sym (s.width
                    ∙ ih.width)) (subst (λ z. HoldsFields (width_in blk) q.bits (body_in blk) (differences (z ∷ take 127 xs))) (sym (s.last
                    ∙ ih.posting)) (body_holds blk q.bits pk s.held_bits s.low s.count));
                narrow = subst (λ z. z ≤ posting_bits) (sym (s.width ∙ ih.width)) ih.narrow;
                inside = s.inside ∙ omega (arith, ih.count);
                left = s.left ∙ omega (arith, ih.count, r.left);
                block = subst (λ z. IsFalling (z ∷ take 127 xs)) (sym (s.last ∙ ih.posting)) pk.falls;
                falls = falls;
                small = below_drop (2 ^ posting_bits) 127 xs small.1;
                are = sym (ap (λ zs. x ∷ zs) (take-append-drop 127 xs)) ∙ ap (λ z. z ∷ (take 127 xs ++ back)) (sym (s.last ∙ ih.posting))
                    ∙ ap (λ (c : Bool). if c then (q.last ∷ (take 127 xs ++ back)) else (take 127 xs ++ back)) (sym s.held);
                header = inl s.header;
                bounds = after_entry q s.near;
                budget_is = omega (arith, ap loaded s.header);
              },
              omega (arith, lone, bi),
              record {
                same = λ free z. sym (rest_is ∙ ap (λ zs. zs ++ (x ∷ xs)) (f.2 free z));
                skips = λ most l. sym (ap (at_most most) rest_is ∙ at_most_skip most f.0 x xs (subst IsFalling rest_is r.falls) (omega (arith, ih.posting)));
              },
            );
          }

  -- the held posting is given
  pub given : (p : PackedList) (rest : List ℕ) (b : ℕ) → ReadsWords W start p rest b → p.held ≡ true → (after : List ℕ) × (rest ≡ p.last ∷ after) × ReadsWords W start record p { held = false } after b
  given p rest b r h =
      let after = r.now ++ r.later in
      let e : rest ≡ p.last ∷ after = r.are ∙ ap (λ (c : Bool). if c then (p.last ∷ (r.now ++ r.later)) else (r.now ++ r.later)) h in (
        after,
        e,
        record {
          room = r.room;
          now = r.now;
          later = r.later;
          body = r.body;
          index = r.index;
          at = r.at;
          short = r.short;
          words_are = r.words_are;
          near = r.near;
          next = r.next;
          holds = r.holds;
          narrow = r.narrow;
          inside = r.inside;
          left = r.left;
          block = r.block;
          falls = falls_tail p.last after (subst IsFalling e r.falls);
          small = r.small;
          are = refl;
          header = r.header;
          bounds = r.bounds;
          budget_is = r.budget_is;
        },
      )

  -- nothing is left
  pub nothing : (p : PackedList) (rest : List ℕ) (b : ℕ) → ReadsWords W start p rest b → p.held ≡ false → p.inside ≡ 0 → p.left ≡ 0 → rest ≡ []
  nothing p rest b r h i l =
      let f = front_of_rest p rest b r in
      f.1 ∙ ap (λ zs. zs ++ r.later) (f.2 h i) ∙ Rattle.std.proofs.lemmas.List.nil_from_length r.later (omega (arith, r.left))

  -- where the block is read to its end: what comes next
  pub next_first : (p : PackedList) (rest : List ℕ) (b : ℕ) → ReadsWords W start p rest b → p.held ≡ false → p.inside ≡ 0
      → (p.left ≡ 0 → rest ≡ []) × (1 ≤ p.header → (x : ℕ) × (xs : List ℕ) × (rest ≡ x ∷ xs) × (x ≡ p.header / 2 ^ 16))
  next_first p rest b r free none = (nothing p rest b r free none, λ h. at r.later refl r.header h)
    where
      at : (later : List ℕ) → r.later ≡ later → (p.header ≡ 0) ⊎ ((1 ≤ length r.later) × (p.header ≡ get_or (packed_list r.later) 0 0)) → 1 ≤ p.header
          → (x : ℕ) × (xs : List ℕ) × (rest ≡ x ∷ xs) × (x ≡ p.header / 2 ^ 16)
      at later e (inl z) h = absurd (omega arith)
      at [] e (inr w) h = absurd (omega (arith, w.0, ap length e))
      at (x ∷ xs) e (inr w) h =
          let blk : List ℕ = x ∷ take 127 xs in
          let f = front_of_rest p rest b r in
          let rest_is : rest ≡ x ∷ xs = f.1 ∙ ap (λ zs. zs ++ r.later) (f.2 free none) ∙ e in
          let falls : IsFalling (x ∷ xs) = subst IsFalling rest_is r.falls in
          let small : AllBelow (2 ^ posting_bits) (x ∷ xs) = subst (AllBelow (2 ^ posting_bits)) e r.small in
          let pk = first_packable x xs falls small in
          let hd : p.header ≡ header_in blk = w.1 ∙ ap (λ zs. get_or zs 0 0) (ap packed_list e ∙ list_more x xs) in
          let ih : IsHeader p.header blk = subst (λ z. IsHeader z blk) (sym hd) (header_read blk pk) in
          (x, xs, rest_is, sym ih.posting)
