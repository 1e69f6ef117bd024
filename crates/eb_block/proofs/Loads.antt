-- How many words the calls of a packed list load.
use Rattle.std.proofs.Common.{◌≡◌, ℕ, ◌+◌, ◌-◌, ◌*◌, ◌<◌, ◌≤◌, Bool, true, false, List, ◌∷◌, ◌++◌, length, ap, ◌∙◌, arith, inl, inr, if◌then◌else◌}
use Rattle.std.proofs.lemmas.Bool.{cases_Bool, cases_lt, lt-ltb}
use Rattle.std.proofs.lemmas.List.{length-append}
use Rattle.eb_base.specs.Term.{Term}
use Rattle.eb_place.specs.declared.moment.Moment.{Moment}
use Rattle.eb_place.specs.Packed.{packed}
use Rattle.eb_place.specs.Seen.{segment}
use Rattle.eb_block.specs.Blocks.{most_words}
use Rattle.eb_place.specs.Postings.{at_most}
use Rattle.eb_block.specs.Reading.{packed_start, ReadsWords, ListStands, loaded, remaining, seek_loads}
use Rattle.eb_block.specs.declared.packed_list.PackedList.{PackedList}

-- the list's own numbers count what it has still to give
pub count_left : (W : List ℕ) (start : ℕ) (p : PackedList) (rest : List ℕ) (b : ℕ) → ReadsWords W start p rest b → length rest ≡ remaining p
count_left W start p rest b r = elim (cases_Bool p.held) [
  | inl held ↦ rw held (omega (arith, ap length (at held), length-append r.now r.later, r.inside, r.left))
  | inr free ↦ rw free (omega (arith, ap length (off free), length-append r.now r.later, r.inside, r.left))
]
  where
    at : p.held ≡ true → rest ≡ p.last ∷ (r.now ++ r.later)
    at held = r.are ∙ ap (λ (c : Bool). if c then (p.last ∷ (r.now ++ r.later)) else (r.now ++ r.later)) held

    off : p.held ≡ false → rest ≡ r.now ++ r.later
    off free = r.are ∙ ap (λ (c : Bool). if c then (p.last ∷ (r.now ++ r.later)) else (r.now ++ r.later)) free

-- one where a header is loaded
pub loaded_some : (h : ℕ) → 1 ≤ h → loaded h ≡ 1
loaded_some h l = ap (λ (c : Bool). if c then 1 else 0) (lt-ltb 0 h l)

pub loaded_none : (h : ℕ) → h ≡ 0 → loaded h ≡ 0
loaded_none h e = ap loaded e

pub loaded_few : (h : ℕ) → loaded h ≤ 1
loaded_few h = elim (cases_lt 0 h) [ inl some ↦ omega (arith, loaded_some h some) | inr none ↦ omega (arith, loaded_none h (omega arith)) ]

-- what is left where a posting is held
pub remaining_held : (p : PackedList) → p.held ≡ true → remaining p ≡ 1 + p.inside + p.left
remaining_held p h = ap (λ (c : Bool). (if c then 1 else 0) + p.inside + p.left) h

pub remaining_most : (p : PackedList) → p.left ≤ remaining p
remaining_most p = omega arith

-- the words of the block that aren't loaded yet
pub gap : (W : List ℕ) (start : ℕ) (p : PackedList) (rest : List ℕ) (b : ℕ) → ReadsWords W start p rest b → (p.at ≤ p.next) × (p.next < p.at + most_words)
gap W start p rest b r = (omega (arith, r.at, r.near), r.short)

pub seek_few : (m n k : Moment) (s : ℕ) (t : Term) (p q r : PackedList) (rest after : List ℕ) (most b c d i j e : ℕ)
    → ListStands m s t p rest b → ListStands n s t q after c → ListStands k s t r (at_most most rest) d
    → 128 * j + remaining q ≤ 128 * i + remaining p + 256 → r.next ≡ q.next → e + q.at ≡ j + r.at → remaining r ≤ remaining q
    → e ≤ i + seek_loads (length rest - length (at_most most rest))
seek_few m n k s t p q r rest after most b c d i j e hp hq hr blocks next words fewer =
    let cp = count_left (packed t (segment m s)) (packed_start m s hp.number) p rest b hp.reads in
    let cr = count_left (packed t (segment k s)) (packed_start k s hr.number) r (at_most most rest) d hr.reads in
    let gq = gap (packed t (segment n s)) (packed_start n s hq.number) q after c hq.reads in
    let gr = gap (packed t (segment k s)) (packed_start k s hr.number) r (at_most most rest) d hr.reads in
    omega (arith, cp, cr, gq, gr)

-- and at most three more than the postings that are skipped
pub seek_near : (m k : Moment) (s : ℕ) (t : Term) (p q r : PackedList) (rest : List ℕ) (most b d i j e : ℕ)
    → ListStands m s t p rest b → ListStands k s t r (at_most most rest) d
    → 128 * j + remaining q ≤ 128 * i + remaining p + 256 → remaining q ≤ remaining p → e + r.inside + r.left ≤ j + q.inside + q.left → remaining r ≤ remaining q
    → e ≤ i + (length rest - length (at_most most rest)) + 3
seek_near m k s t p q r rest most b d i j e hp hr blocks less words fewer =
    let cp = count_left (packed t (segment m s)) (packed_start m s hp.number) p rest b hp.reads in
    let cr = count_left (packed t (segment k s)) (packed_start k s hr.number) r (at_most most rest) d hr.reads in
    omega (arith, cp, cr, few p, few q, few r)
  where
    few : (p : PackedList) → (p.inside + p.left ≤ remaining p) × (remaining p ≤ p.inside + p.left + 1)
    few p = elim (cases_Bool p.held) [ inl held ↦ rw held (omega arith, omega arith) | inr free ↦ rw free (omega arith, omega arith) ]
