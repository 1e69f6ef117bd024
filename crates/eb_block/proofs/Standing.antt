-- A packed list at a moment: what each load of it gives, also where words grew before it.
use Rattle.std.proofs.Common.{◌≡◌, ℕ, suc, ◌+◌, ◌-◌, ◌*◌, ◌/◌, ◌%◌, ◌^◌, ◌<◌, ◌≤◌, true, false, List, [], ◌∷◌, ◌++◌, length, get_or, refl, ap, sym, ◌∙◌, subst, arith}
use Rattle.std.proofs.Common.{inl, inr, Some, None, Bool, leb, if◌then◌else◌}
use Rattle.std.proofs.lemmas.Bool.{cases_Bool, cases_lt, false≢true, lt-ltb, le-ltb, lt-leb, le-leb}
use Rattle.std.proofs.lemmas.List.{length-reverse}
use Rattle.std.proofs.lemmas.Nat.{mul-le}
use Rattle.eb_base.specs.Term.{Term}
use Rattle.eb_base.specs.Document.{Doc}
use Rattle.eb_base.specs.Setting.{Setting, words_of}
use Rattle.eb_place.specs.declared.moment.Moment.{Moment}
use Rattle.eb_place.specs.Layout.{place, start, size, segment_words}
use Rattle.eb_place.specs.Layout.Slot.{slot}
use Rattle.eb_place.specs.Layout.Region.{directory_region, packed_region}
use Rattle.eb_place.specs.Packed.{packed, differences}
use Rattle.eb_place.specs.Postings.{frequency, postings, terms_of, posting_bits, at_most}
use Rattle.eb_place.specs.Moments.{word, IsMoment}
use Rattle.eb_place.specs.Later.{IsNotBefore}
use Rattle.eb_place.specs.Seen.{segment}
use Rattle.eb_place.specs.Walk.{IsTerm}
use Rattle.eb_place.proofs.ReachedLater.{later_term}
use Rattle.eb_place.proofs.TermNumbers.{count_at_most}
use Rattle.eb_place.proofs.EnoughPackedWords.{postings_few, length-postings}
use Rattle.eb_place.proofs.WordsAtMoment.{setting_terms}
use Rattle.eb_block.specs.Fields.{IsHeld, IsField}
use Rattle.eb_place.specs.PackedLists.{IsConverted, list_start, newest_first, packed_words}
use Rattle.eb_block.specs.Reading.{packed_start, IsPackedAt, ReadsWords, ListStands, ListGives, BoundsNext, loaded, HasPassed, IsNear, remaining}
use Rattle.eb_block.specs.declared.packed_list.PackedList.{PackedList}
use Rattle.eb_place.proofs.ConverterWords.{word_packed_list, word_directory, list_fits, later_converted, converted_segment, closed_room, segment_inside}
use Rattle.eb_place.proofs.PlacesOfSlots.{place_in}
use Rattle.eb_place.proofs.PostingsFall.{newest_falls, newest_small}
use Rattle.eb_block.proofs.Reading.{peek_at, ahead, step_over, step_first, HasStepped, can_enter, IsIn, given, next_first}

-- ---- packed words

-- its place stays
start_later : (m n : Moment) (s k : ℕ) → IsMoment m → IsNotBefore n m → IsConverted m s → packed_start m s k ≡ packed_start n s k
start_later m n s k is l c =
    ap (λ (σ : Setting). place σ (slot s packed_region (list_start (segment m s) k))) l.setting
    ∙ ap (λ (seg : List Doc). place n.setting (slot s packed_region (list_start seg k))) (sym (converted_segment m n s is l c))

-- the places of a region follow one another
place_on : (σ : Setting) (s i j : ℕ) → place σ (slot s packed_region (i + j)) ≡ place σ (slot s packed_region i) + j
unfolding place
place_on σ s i j = omega arith

-- and none of them is left after the index
place_room : (σ : Setting) (s i : ℕ) → s < σ.segments → i ≤ 34 * σ.terms → place σ (slot s packed_region i) ≤ words_of σ
unfolding place start
place_room σ s i h l = let a = mul-le (suc s) (segment_words σ) σ.segments (segment_words σ) h (omega arith) in omega (arith, a)

pub packed_later : (m n : Moment) (s at v : ℕ) → IsMoment m → IsNotBefore n m → IsPackedAt m s at v → IsPackedAt n s at v
packed_later m n s at v is l h =
    let e = converted_segment m n s is l h.converted in
    record {
      converted = later_converted m n s l h.converted;
      term = h.term;
      number = h.number;
      is_term = later_term m n s h.term h.number l h.is_term;
      index = h.index;
      inside = subst (λ (seg : List Doc). h.index < length (packed h.term seg)) (sym e) h.inside;
      stands = h.stands ∙ ap (λ z. z + h.index) (start_later m n s h.number is l h.converted);
      is = h.is ∙ ap (λ (seg : List Doc). get_or (packed h.term seg) h.index 0) (sym e);
    }

-- the word there
pub packed_value : (m : Moment) (s at v : ℕ) → IsMoment m → IsPackedAt m s at v → word m at ≡ v
packed_value m s at v is h =
    ap (word m) (h.stands ∙ sym (place_on m.setting s (list_start (segment m s) h.number) h.index))
    ∙ word_packed_list m s h.term h.number h.index is h.converted h.is_term h.inside
    ∙ sym h.is

-- and it is one of the index
pub packed_inside : (m : Moment) (s at v : ℕ) → IsMoment m → IsPackedAt m s at v → at < words_of m.setting
unfolding size
packed_inside m s at v is h =
    let f = list_fits m s h.term h.number is h.converted h.is_term in
    let ins = h.inside in
    let on = place_on m.setting s (list_start (segment m s) h.number) h.index in
    omega (arith, h.stands, on, place_in m.setting (slot s packed_region (list_start (segment m s) h.number + h.index)) (segment_inside m s is h.converted, omega arith))

-- ---- later moments

pub list_stands_later : (m n : Moment) (s : ℕ) (t : Term) (p : PackedList) (rest : List ℕ) (b : ℕ) → IsMoment m → IsNotBefore n m → ListStands m s t p rest b → ListStands n s t p rest b
list_stands_later m n s t p rest b is l h =
    let e = converted_segment m n s is l h.converted in
    record {
      converted = later_converted m n s l h.converted;
      number = h.number;
      is_term = later_term m n s t h.number l h.is_term;
      reads = subst (λ (seg : List Doc). ReadsWords (packed t seg) (packed_start n s h.number) p rest b) (sym e) (subst (λ z. ReadsWords (packed t (segment m s)) z p rest b)
          (start_later m n s h.number is l h.converted) h.reads);
    }

-- the same place in its list, in another state
stands_with : (m : Moment) (s : ℕ) (t : Term) (p q : PackedList) (rest after : List ℕ) (b c : ℕ) → (h : ListStands m s t p rest b)
    → ReadsWords (packed t (segment m s)) (packed_start m s h.number) q after c → ListStands m s t q after c
stands_with m s t p q rest after b c h r = record { converted = h.converted; number = h.number; is_term = h.is_term; reads = r }

packed_of : (m : Moment) (s : ℕ) (t : Term) (p : PackedList) (rest : List ℕ) (b at i : ℕ) → (h : ListStands m s t p rest b) → i < length (packed t (segment m s))
    → at ≡ packed_start m s h.number + i → IsPackedAt m s at (get_or (packed t (segment m s)) i 0)
packed_of m s t p rest b at i h l e = record {
  converted = h.converted;
  term = t;
  number = h.number;
  is_term =
      h.is_term;
  index = i;
  inside = l;
  stands = e;
  is = refl;
}

-- ---- the next header

pub record IsNextHeader (m : Moment) (s : ℕ) (t : Term) (p : PackedList) (rest : List ℕ) (b : ℕ) : Type 0 where
  pub value : ℕ
  pub is_packed : IsPackedAt m s p.next value
  pub some : 1 ≤ b
  pub gives : (n : Moment) (x : ℕ) → IsNotBefore n m → x ≡ value → (1 ≤ x) × ListStands n s t record p { header = x; near = x / 2 ^ 16 } rest (b - 1)

pub next_header : (m : Moment) (s : ℕ) (t : Term) (p : PackedList) (rest : List ℕ) (b : ℕ) → IsMoment m → ListStands m s t p rest b → p.header ≡ 0 → 1 ≤ p.left → IsNextHeader m s t p rest b
next_header m s t p rest b is h z l =
    let W = packed t (segment m s) in
    let k = peek_at W (packed_start m s h.number) p rest b h.reads z l in
    record {
      value = get_or W k.index 0;
      is_packed = packed_of m s t p rest b p.next k.index h k.inside k.place;
      some = k.some;
      gives = λ n x later e. (let r = k.gives x e in (
        r.0,
        list_stands_later m n s t record p { header = x; near = x / 2 ^ 16 } rest (b - 1) is later (stands_with m s t p record p { header = x; near = x / 2 ^ 16 } rest rest b (b - 1) h r.1),
      ));
    }

-- its posting fits
pub header_small : (m : Moment) (s : ℕ) (t : Term) (p : PackedList) (rest : List ℕ) (b : ℕ) → ListStands m s t p rest b → 1 ≤ p.header → p.header < 2 ^ (16 + posting_bits)
header_small m s t p rest b h l = (can_enter (packed t (segment m s)) (packed_start m s h.number) p rest b h.reads l).small

-- and bounds the next block
pub with_near : (m : Moment) (s : ℕ) (t : Term) (p : PackedList) (rest : List ℕ) (b x y : ℕ) → y ≡ x / 2 ^ 16
    → ListStands m s t record p { header = x; near = x / 2 ^ 16 } rest b → ListStands m s t record p { header = x; near = y } rest b
with_near m s t p rest b x y e h = subst (λ z. ListStands m s t record p { header = x; near = z } rest b) (sym e) h

-- ---- the next word of the block

pub record IsNextWord (m : Moment) (s : ℕ) (t : Term) (p : PackedList) (rest : List ℕ) (b : ℕ) : Type 0 where
  pub value : ℕ
  pub is_packed : IsPackedAt m s p.at value
  pub some : 1 ≤ b
  pub room : p.at + 1 < 2 ^ 32
  pub gives : (n : Moment) (q : PackedList) (field x : ℕ) → IsNotBefore n m → x ≡ value → HasStepped (packed t (segment m s)) 0 p q → q.at ≡ p.at + 1 → IsHeld q.bits
      → IsField p.width (p.bits.low + 2 ^ p.bits.count * x) field q.bits.low → q.bits.count + p.width ≡ p.bits.count + 64 → q.last ≡ p.last - field
      → (field ≤ p.last) × (field < 2 ^ posting_bits) × ListStands n s t q rest (b - 1)

restep : (W V : List ℕ) (a c : ℕ) (p q : PackedList) → HasStepped W a p q → HasStepped V c p q
restep W V a c p q h = record { width = h.width; inside = h.inside; held = h.held; next = h.next; header = h.header; left = h.left; near = h.near }

pub next_word : (m : Moment) (s : ℕ) (t : Term) (p : PackedList) (rest : List ℕ) (b : ℕ) → IsMoment m → ListStands m s t p rest b → 1 ≤ p.inside → p.held ≡ false → p.bits.count < p.width
    → IsNextWord m s t p rest b
next_word m s t p rest b is h i free few =
    let W = packed t (segment m s) in
    let S = packed_start m s h.number in
    let k = step_over W S p rest b h.reads i free few in
    let room = h.reads.room in
    let ins = k.inside in
    record {
      value = get_or W k.index 0;
      is_packed = packed_of m s t p rest b p.at k.index h k.inside k.place;
      some = k.some;
      room = omega (arith, k.place, room, ins);
      gives = λ n q field x later e st at held f c last.
          (let r = k.gives q field x e (restep W W 0 S p q st) at held f c last in
          (r.0, r.1, list_stands_later m n s t q rest (b - 1) is later (stands_with m s t p q rest rest b (b - 1) h r.2)));
    }

-- the difference in the bits
pub next_bits : (m : Moment) (s : ℕ) (t : Term) (p q : PackedList) (rest : List ℕ) (b field : ℕ) → ListStands m s t p rest b → 1 ≤ p.inside → p.held ≡ false
    → HasStepped (packed t (segment m s)) 0 p q → q.at ≡ p.at → IsHeld q.bits
    → IsField p.width p.bits.low field q.bits.low → q.bits.count + p.width ≡ p.bits.count → q.last ≡ p.last - field → (field ≤ p.last) × (field < 2 ^ posting_bits) × ListStands m s t q rest b
next_bits m s t p q rest b field h i free st at held f c last =
    let W = packed t (segment m s) in
    let S = packed_start m s h.number in
    let r = step_first W S p q rest b field h.reads i free (restep W W 0 S p q st) at held f c last in
    (r.0, r.1, stands_with m s t p q rest rest b b h r.2)

-- ---- the opening

empty_holds : (p : PackedList) → IsHeld p.bits → p.bits.low ≡ 0 → p.bits.count ≡ 0 → Rattle.eb_block.specs.Fields.HoldsFields p.width p.bits [] (differences (p.last ∷ []))
empty_holds p held low count =
    let o = ap (λ k. 2 ^ k) count in
    record { held = held; small = tt; enough = omega arith; sum = ap (λ k. k + 2 ^ p.bits.count * 0) low ∙ (omega arith) }

-- what an opened list is
pub record IsOpen (p : PackedList) (base word : ℕ) : Type 0 where
  pub at : p.at ≡ base + word / 2 ^ 32
  pub held_bits : IsHeld p.bits
  pub low : p.bits.low ≡ 0
  pub count : p.bits.count ≡ 0
  pub width : p.width ≡ 0
  pub inside : p.inside ≡ 0
  pub held : p.held ≡ false
  pub next : p.next ≡ base + word / 2 ^ 32
  pub header : p.header ≡ 0
  pub left : p.left ≡ word % 2 ^ 32
  pub near : 2 ^ 64 ≤ p.near + 1

pub start_small : (m : Moment) (s : ℕ) (t : Term) (k : ℕ) → IsMoment m → IsConverted m s → IsTerm m s t k
    → (packed_start m s k + length (packed t (segment m s)) ≤ 2 ^ 27) × (frequency t (segment m s) < 2 ^ 32) × (list_start (segment m s) k ≤ 34 * m.setting.terms)
start_small m s t k is c h =
    let f = list_fits m s t k is c h in
    let terms = setting_terms m.setting is.setting in
    let room = closed_room m s is (is.closed s c) in
    let few = postings_few m.setting (terms_of (segment m s)) room.fits in
    let n = length-postings t (segment m s) in
    let cl = count_at_most t (terms_of (segment m s)) in
    let len = length (packed t (segment m s)) in
    let on = place_on m.setting s (list_start (segment m s) k) len in
    let low = place_room m.setting s (list_start (segment m s) k + len) (segment_inside m s is c) f in
    (omega (arith, on, low, is.setting.words), omega (arith, terms.1), omega (arith, f))

-- where it begins is a place of the index
pub open_room : (m : Moment) (s : ℕ) (t : Term) (k word' : ℕ) → IsMoment m → IsConverted m s → IsTerm m s t k → word' ≡ word m (place m.setting (slot s directory_region k))
    → place m.setting (slot s packed_region 0) + word' / 2 ^ 32 ≤ 2 ^ 27
open_room m s t k word' is c h e =
    let S = list_start (segment m s) k in
    let small = start_small m s t k is c h in
    let w : word' ≡ S * 2 ^ 32 + frequency t (segment m s) = e ∙ word_directory m s t k is c h in
    let zero : S ≡ 0 + S = omega arith in
    let on : packed_start m s k ≡ place m.setting (slot s packed_region 0) + S = ap (λ i. place m.setting (slot s packed_region i)) zero ∙ place_on m.setting s 0 S in
    omega (arith, small.0, small.1, on, w)

pub opens : (m : Moment) (s : ℕ) (t : Term) (k word' : ℕ) (p : PackedList) → IsMoment m → IsConverted m s → IsTerm m s t k → word' ≡ word m (place m.setting (slot s directory_region k))
    → IsOpen p (place m.setting (slot s packed_region 0)) word' → ListStands m s t p (newest_first m s t) (length (packed_words m s t))
opens m s t k word' p is c h e o =
    let seg = segment m s in
    let W = packed t seg in
    let S = list_start seg k in
    let f = frequency t seg in
    let small = start_small m s t k is c h in
    let w : word' ≡ S * 2 ^ 32 + f = e ∙ word_directory m s t k is c h in
    let a : word' / 2 ^ 32 ≡ S = omega (arith, small.1) in
    let r : word' % 2 ^ 32 ≡ f = omega (arith, small.1) in
    let zero : S ≡ 0 + S = omega arith in
    let on : packed_start m s k ≡ place m.setting (slot s packed_region 0) + S = ap (λ i. place m.setting (slot s packed_region i)) zero ∙ place_on m.setting s 0 S in
    record {
      converted = c;
      number = k;
      is_term = h;
      reads = record {
        room = small.0;
        now = [];
        later = newest_first m s t;
        body = [];
        index = 0;
        at = omega (arith, o.at, a, on);
        short = omega (arith, o.at, o.next);
        words_are = refl;
        near = omega (arith, o.next, a, on);
        next = λ some. omega (arith, o.next, a, on);
        holds = empty_holds p o.held_bits o.low o.count;
        narrow = omega (arith, o.width);
        inside = o.inside;
        left = o.left ∙ r ∙ sym (length-reverse (postings t seg));
        block = tt;
        falls = newest_falls m s t is;
        small = newest_small m s t is;
        are = ap (λ (c : Bool). if c then (p.last ∷ newest_first m s t) else (newest_first m s t)) (sym o.held);
        header = inl o.header;
        bounds = inr (inr o.near);
        budget_is = omega (arith, ap loaded o.header);
      };
    }

pub stepped : (W : List ℕ) (a : ℕ) (p : PackedList) (at last : ℕ) (b : Rattle.eb_block.specs.declared.bits.Bits.Bits) → 1 ≤ p.inside
    → HasStepped W a p record p { at = at; bits = b; inside = p.inside - 1; last = last; held = true }
stepped W a p at last b h = record { width = refl; inside = omega arith; held = refl; next = refl; header = refl; left = refl; near = refl }

-- ---- what a call of `next` gives

pub gives_none : (m : Moment) (s : ℕ) (t : Term) (p : PackedList) (rest : List ℕ) (b : ℕ) → ListStands m s t p rest b → rest ≡ [] → ListGives m s t p rest b None
gives_none m s t p [] b h e = (refl, h)
gives_none m s t p (x ∷ xs) b h e = absurd cc

pub gives_some : (m : Moment) (s : ℕ) (t : Term) (p : PackedList) (rest : List ℕ) (b : ℕ) → ListStands m s t p rest b → p.held ≡ true → ListGives m s t record p { held = false } rest b (Some p.last)
gives_some m s t p rest b h held = at rest (given (packed t (segment m s)) (packed_start m s h.number) p rest b h.reads held)
  where
    at : (rest : List ℕ) → (after : List ℕ) × (rest ≡ p.last ∷ after) × ReadsWords (packed t (segment m s)) (packed_start m s h.number) record p { held = false } after b
        → ListGives m s t record p { held = false } rest b (Some p.last)
    at [] w = absurd cc
    at (x ∷ xs) w =
        let e : x ≡ p.last = cc in
        let f : xs ≡ w.0 = cc in (
          ap Some (sym e),
          record {
            converted = h.converted;
            number = h.number;
            is_term = h.is_term;
            reads =
                subst (λ zs. ReadsWords (packed t (segment m s)) (packed_start m s h.number) record p { held = false } zs b) (sym f) w.2;
          },
        )

-- ---- the next block

pub stands_in : (m : Moment) (s : ℕ) (t : Term) (p q : PackedList) (rest : List ℕ) (b : ℕ) → (h : ListStands m s t p rest b) → 1 ≤ p.header
    → IsIn (packed t (segment m s)) (packed_start m s h.number) p q → (after : List ℕ) × (c : ℕ) × ListStands m s t q after c × (c ≤ b) × HasPassed p rest after
stands_in m s t p q rest b h l i =
    let k = (can_enter (packed t (segment m s)) (packed_start m s h.number) p rest b h.reads l).gives q i in
    (k.0, k.1, record { converted = h.converted; number = h.number; is_term = h.is_term; reads = k.2 }, k.3, k.4)

-- ---- skipping postings

-- the held posting, if there is one, is above
pub drop_held : (m : Moment) (s : ℕ) (t : Term) (p : PackedList) (rest : List ℕ) (b most : ℕ) → ListStands m s t p rest b → (p.held ≡ true → most < p.last)
    → (after : List ℕ) × ListStands m s t record p { held = false } after b × (at_most most after ≡ at_most most rest)
drop_held m s t p rest b most h o = elim (cases_Bool p.held) [
  | inl held ↦
      let g = given (packed t (segment m s)) (packed_start m s h.number) p rest b h.reads held in
      let above : most < p.last = o held in (
        g.0,
        stands_with m s t p record p { held = false } rest g.0 b b h g.2,
        sym (ap (at_most most) g.1 ∙ ap (λ (c : Bool). if c then at_most most g.0 else (p.last ∷ g.0)) (lt-ltb most p.last above)),
      )
  | inr free ↦ (rest, subst (λ (q : PackedList). ListStands m s t q rest b) (ap (λ (c : Bool). record p { held = c }) free) h, refl)
]

-- at a posting that isn't above, nothing is skipped
pub at_it : (m : Moment) (s : ℕ) (t : Term) (p : PackedList) (rest : List ℕ) (b most : ℕ) → ListStands m s t p rest b → p.held ≡ true → p.last ≤ most → at_most most rest ≡ rest
at_it m s t p rest b most h held l =
    let g = given (packed t (segment m s)) (packed_start m s h.number) p rest b h.reads held in
    ap (at_most most) g.1 ∙ ap (λ (c : Bool). if c then at_most most g.0 else (p.last ∷ g.0)) (le-ltb most p.last l) ∙ sym g.1

-- no block after it is skipped for a bound above `near`
pub near_below : (p : PackedList) (most : ℕ) → BoundsNext p → p.near < most → most < 2 ^ 64 → IsNear most p
near_below p most (inl none) l fits = inl none
near_below p most (inr (inl w)) l fits = inr (inl (w.0, omega (arith, w.1)))
near_below p most (inr (inr top)) l fits = absurd (omega (arith, top))

-- nor where the block is read to its end and the next one begins below
pub at_end : (m : Moment) (s : ℕ) (t : Term) (p q : PackedList) (rest : List ℕ) (b most : ℕ) → (h : ListStands m s t q rest b) → q.held ≡ false → q.inside ≡ 0 → q.left ≡ p.left
    → q.header ≡ p.header → (p.held ≡ true → most < p.last) → IsNear most p → at_most most rest ≡ rest
at_end m s t p q rest b most h free none left header o near =
    let r = next_first (packed t (segment m s)) (packed_start m s h.number) q rest b h.reads free none in
    at near r
  where
    at : IsNear most p → (q.left ≡ 0 → rest ≡ []) × (1 ≤ q.header → (x : ℕ) × (xs : List ℕ) × (rest ≡ x ∷ xs) × (x ≡ q.header / 2 ^ 16)) → at_most most rest ≡ rest
    at (inl z) r = let e = r.0 (left ∙ z) in ap (at_most most) e ∙ sym e
    at (inr (inl w)) r =
        let k = r.1 (omega (arith, header, w.0)) in
        let low : k.0 ≤ most = omega (arith, k.3, header, ap (λ z. z / 2 ^ 16) header, w.1) in
        ap (at_most most) k.2 ∙ ap (λ (c : Bool). if c then at_most most k.1 else (k.0 ∷ k.1)) (le-ltb most k.0 low) ∙ sym k.2
    at (inr (inr w)) r = let above = o w.0 in absurd (omega (arith, w.1))

-- nor where the last posting that was read isn't above and no block after it is skipped
pub at_low : (m : Moment) (s : ℕ) (t : Term) (p : PackedList) (rest : List ℕ) (b most : ℕ) → ListStands m s t p rest b → p.last ≤ most → IsNear most p → at_most most rest ≡ rest
at_low m s t p rest b most h low near = elim (cases_Bool p.held) [
  | inl held ↦ at_it m s t p rest b most h held low
  | inr free ↦ elim (cases_lt 0 p.inside) [
    | inl some ↦
        let a = ahead (packed t (segment m s)) (packed_start m s h.number) p rest b h.reads some in
        let below = a.low in
        let after = a.ns ++ h.reads.later in
        ap (at_most most) (a.rest_is free) ∙ ap (λ (c : Bool). if c then at_most most after else (a.n ∷ after)) (le-ltb most a.n (omega (arith, below, low))) ∙ sym (a.rest_is free)
    | inr none ↦ at_end m s t p p rest b most h free (omega arith) refl refl (λ held. absurd (false≢true (sym free ∙ held))) near
  ]
]

-- a walk over a block that passed only what is above stops at a posting that isn't, or where the
-- block is read to its end
pub stopped : (m : Moment) (s : ℕ) (t : Term) (p q : PackedList) (rest after : List ℕ) (b most : ℕ) → ListStands m s t q after b → at_most most after ≡ at_most most rest → q.held ≡ true
    → (most < q.last → q.inside ≡ 0) → q.left ≡ p.left → q.header ≡ p.header → most < p.last → IsNear most p
    → ListStands m s t record q { held = leb q.last most } (at_most most rest) b
stopped m s t p q rest after b most h same held ends left header above near = elim (cases_lt most q.last) [
  | inl over ↦
      let d = drop_held m s t q after b most h (λ z. over) in
      let end = at_end m s t p record q { held = false } d.0 b most d.1 refl (ends over) left header (λ z. above) near in
      let none = subst (λ zs. ListStands m s t record q { held = false } zs b) (sym end ∙ d.2 ∙ same) d.1 in
      subst (λ (c : Bool). ListStands m s t record q { held = c } (at_most most rest) b) (sym (lt-leb q.last most over)) none
  | inr on ↦
      let it = at_it m s t q after b most h held on in
      subst (λ (c : Bool). ListStands m s t record q { held = c } (at_most most rest) b) (held ∙ sym (le-leb q.last most on)) (subst (λ zs. ListStands m s t q zs b) (sym it ∙ same) h)
]

-- and then less is left
pub stopped_fewer : (p q : PackedList) (c : Bool) → q.inside + 1 ≤ p.inside → q.left ≡ p.left → remaining record q { held = c } ≤ remaining p
stopped_fewer p q true less left = omega (arith, less, left)
stopped_fewer p q false less left = omega (arith, less, left)
