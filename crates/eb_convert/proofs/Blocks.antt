-- One block after the other: what is packed, and where its words go.
use Rattle.std.proofs.Common.{◌≡◌, ℕ, zero, suc, ◌+◌, ◌*◌, ◌^◌, ◌≤◌, List, [], ◌∷◌, ◌++◌, length, take, drop, refl, ap, sym, ◌∙◌, subst, arith, append_assoc}
use Rattle.std.proofs.lemmas.List.{length-take, length-drop, length-append, take-append-drop, nil_from_length, drop_all, drop-drop}
use Rattle.eb_base.specs.Term.{Term}
use Rattle.eb_place.specs.declared.moment.Moment.{Moment}
use Rattle.eb_place.specs.Layout.{size}
use Rattle.eb_place.specs.Layout.Region.{packed_region}
use Rattle.eb_place.specs.Packed.{block, packed_list}
use Rattle.eb_place.specs.Placing.{Store, in_row}
use Rattle.eb_place.specs.Conversion.{segment_stores}
use Rattle.eb_place.specs.Moments.{with_current, IsMoment}
use Rattle.eb_place.specs.Later.{IsNotBefore}
use Rattle.eb_place.proofs.FreshPoolWords.{Each, Each-drop}
use Rattle.eb_place.proofs.FreshPoolWords.Each.{more}
use Rattle.eb_place.proofs.WordsOfTokens.{Each-map}
use Rattle.eb_place.proofs.StoresWithinTable.{IsWithin}
use Rattle.eb_place.proofs.StoringTokens.{Each-front}
use Rattle.eb_place.proofs.PackedStores.{segment_packs}
use Rattle.eb_chain.specs.Chains.{Stands}
use Rattle.eb_chain.specs.declared.chain.Chain.{Chain}
use Rattle.eb_chain.proofs.Walks.{stands_later}
use Rattle.eb_place.specs.Postings.{posting_bits}
use Rattle.eb_place.specs.Falling.{IsFalling, AllBelow}
use Rattle.eb_block.specs.Blocks.{IsPackable}
use Rattle.eb_block.proofs.Opening.{block_is}
use Rattle.eb_block.proofs.Reading.{first_packable, list_more, list_none, falls_back}
use Rattle.eb_place.proofs.ConverterWords.{closed_room}
use Rattle.eb_convert.specs.Progress.{HasLeft, IsBlockNext, IsBlockDone, AreBlocksDone}
use Rattle.eb_convert.proofs.Putting.{row-append, left_later}

-- ---- lists

falls_drop : (k : ℕ) (xs : List ℕ) → IsFalling xs → IsFalling (drop k xs)
falls_drop k xs h = falls_back (take k xs) (drop k xs) (subst IsFalling (sym (take-append-drop k xs)) h)

below_drop : (n k : ℕ) (xs : List ℕ) → AllBelow n xs → AllBelow n (drop k xs)
below_drop n zero xs h = h
below_drop n (suc k) [] h = tt
below_drop n (suc k) (x ∷ xs) h = below_drop n k xs h.1

-- the first block of a list that isn't empty
pub record IsFirstBlock (rest : List ℕ) : Type 0 where
  pub packable : IsPackable (take 128 rest)
  pub is : packed_list rest ≡ block (take 128 rest) ++ packed_list (drop 128 rest)
  pub some : 1 ≤ length (block (take 128 rest))

pub first_block : (rest : List ℕ) → IsFalling rest → AllBelow (2 ^ posting_bits) rest → 1 ≤ length rest → IsFirstBlock rest
first_block [] f b l = absurd (omega arith)
first_block (x ∷ xs) f b l =
    let B = block_is (x ∷ take 127 xs) in
    record {
      packable = first_packable x xs f b;
      is = list_more x xs ∙ ap (λ zs. zs ++ packed_list (drop 127 xs)) (sym B);
      some = omega (arith, ap length B);
    }

-- ---- where the words go

row_fits : (m : Moment) (s at : ℕ) (vs : List ℕ) → Each (IsWithin m.setting) (in_row s packed_region at vs) → 1 ≤ length vs → at + length vs ≤ 34 * m.setting.terms
unfolding size
row_fits m s at [] h l = absurd (omega arith)
row_fits m s at (v ∷ []) (more h t) l = let b = h.1 in omega arith
row_fits m s at (v ∷ w ∷ vs) (more h t) l = omega (arith, row_fits m s (at + 1) (w ∷ vs) t (omega arith))

-- the packed words that are left find room
pub row_room : (m : Moment) (s at : ℕ) (vs : List ℕ) (others : List Store) → IsMoment m → HasLeft m s (in_row s packed_region at vs ++ others) → 1 ≤ length vs → at + length vs ≤ 34 * m.setting.terms
row_room m s at vs others is h l =
    let X = segment_stores m.setting (with_current m.documents) s in
    let all : Each (IsWithin m.setting) X = Each-map (λ y q. q.within) (segment_packs m.setting (with_current m.documents) s (closed_room m s is h.closed)) in
    row_fits m s at vs (Each-front (in_row s packed_region at vs) others (subst (Each (IsWithin m.setting)) h.are (Each-drop m.conversions.packed all))) l

-- ---- the step

-- the first postings were read, and the words grew
pub next_later : (m n : Moment) (s : ℕ) (t : Term) (c : Chain) (opened at : ℕ) (rest : List ℕ) (others : List Store) → IsNotBefore n m → n.conversions ≡ m.conversions
    → IsBlockNext m s t c opened at rest others → HasLeft n s (in_row s packed_region at (packed_list rest) ++ others)
next_later m n s t c opened at rest others l e h = left_later m n s (in_row s packed_region at (packed_list rest) ++ others) l e h.left

-- nothing was left
pub none_done : (m n : Moment) (s : ℕ) (t : Term) (c d : Chain) (opened at : ℕ) (rest : List ℕ) (others : List Store) → IsBlockNext m s t c opened at rest others → IsNotBefore n m
    → n.conversions ≡ m.conversions → Stands n s t d opened (drop 128 rest) → [] ≡ take 128 rest → IsBlockDone n s t d opened at rest others 0 at
none_done m n s t c d opened at rest others h l e st z =
    let lt = length-take 128 rest in
    let zero' : length rest ≡ 0 = omega (arith, ap length z) in
    let r : rest ≡ [] = nil_from_length rest zero' in
    let g : drop 128 rest ≡ rest = ap (drop 128) r ∙ sym r in
    record {
      after = record {
        chain = st;
        left = subst (λ zs. HasLeft n s (in_row s packed_region at (packed_list zs) ++ others)) (sym g) (next_later m n s t c opened at rest others l e h);
        others = h.others;
        falls = falls_drop 128 rest h.falls;
        small = below_drop (2 ^ posting_bits) 128 rest h.small;
      };
      many = ap length z;
      place = ap (λ zs. at + length (packed_list zs)) g;
    }

-- the stores of the first block, and the others
pub block_left : (n : Moment) (s at : ℕ) (rest : List ℕ) (others : List Store) → IsFirstBlock rest → HasLeft n s (in_row s packed_region at (packed_list rest) ++ others)
    → HasLeft n s (in_row s packed_region at (block (take 128 rest)) ++ (in_row s packed_region (at + length (block (take 128 rest))) (packed_list (drop 128 rest)) ++ others))
block_left n s at rest others f h =
    let B = block (take 128 rest) in
    let R = packed_list (drop 128 rest) in
    subst (HasLeft n s) (ap (λ zs. in_row s packed_region at zs ++ others) f.is ∙ ap (λ zs. zs ++ others) (row-append s at B R)
    ∙ append_assoc (in_row s packed_region at B) (in_row s packed_region (at + length B) R) others) h

-- the block was put
pub block_done : (m k n : Moment) (s : ℕ) (t : Term) (c d : Chain) (opened at : ℕ) (rest : List ℕ) (others : List Store) (count words : ℕ) → IsBlockNext m s t c opened at rest others
    → IsFirstBlock rest → IsMoment k → IsNotBefore n k → Stands k s t d opened (drop 128 rest) → count ≡ length (take 128 rest)
    → words ≡ length (block (take 128 rest)) → HasLeft n s (in_row s packed_region (at + length (block (take 128 rest))) (packed_list (drop 128 rest)) ++ others) → IsBlockDone n s t d opened at rest
    others count (at + words)
block_done m k n s t c d opened at rest others count words h f ks l st many w left = record {
  after = record {
    chain = stands_later k n s t d opened (drop 128 rest) ks l st;
    left = subst (λ j. HasLeft n s (in_row s packed_region (at + j) (packed_list (drop 128 rest)) ++ others)) (sym w) left;
    others = h.others;
    falls = falls_drop 128 rest h.falls;
    small = below_drop (2 ^ posting_bits) 128 rest h.small;
  };
  many = many;
  place = omega (arith, w, ap length f.is, length-append (block (take 128 rest)) (packed_list (drop 128 rest)));
}

-- ---- all blocks

-- what is left of the list after some of its blocks
pub record IsAfter (n : Moment) (s : ℕ) (t : Term) (c : Chain) (opened at i : ℕ) (rest : List ℕ) (others : List Store) (total next : ℕ) : Type 0 where
  pub ahead : IsBlockNext n s t c opened next (drop (128 * i) rest) others
  pub place : next + length (packed_list (drop (128 * i) rest)) ≡ at + length (packed_list rest)
  pub many : total + length (drop (128 * i) rest) ≡ length rest

pub after_none : (m : Moment) (s : ℕ) (t : Term) (c : Chain) (opened at : ℕ) (rest : List ℕ) (others : List Store) → IsBlockNext m s t c opened at rest others
    → IsAfter m s t c opened at 0 rest others 0 at
after_none m s t c opened at rest others h = record { ahead = h; place = refl; many = omega arith }

pub after_more : (m n : Moment) (s : ℕ) (t : Term) (c d : Chain) (opened at i : ℕ) (rest : List ℕ) (others : List Store) (total next count after : ℕ)
    → IsAfter m s t c opened at i rest others total next → IsBlockDone n s t d opened next (drop (128 * i) rest) others count after
    → IsAfter n s t d opened at (i + 1) rest others (total + count) after
after_more m n s t c d opened at i rest others total next count after h b =
    let L = drop (128 * i) rest in
    let e : drop 128 L ≡ drop (128 * (i + 1)) rest = drop-drop 128 (128 * i) rest ∙ ap (λ k. drop k rest) (let q : 128 * i + 128 ≡ 128 * (i + 1) = omega arith in q) in
    let many = h.many in
    let place = h.place in
    record {
      ahead = subst (λ zs. IsBlockNext n s t d opened after zs others) e b.after;
      place = ap (λ zs. after + length (packed_list zs)) (sym e) ∙ b.place ∙ place;
      many = omega (arith, ap length e, length-drop 128 L, length-take 128 L, b.many);
    }

-- the end: nothing is left
pub all_done : (m n : Moment) (s : ℕ) (t : Term) (c d : Chain) (opened at i : ℕ) (rest : List ℕ) (others : List Store) (total next after : ℕ) → IsAfter m s t c opened at i rest others total next
    → IsBlockDone n s t d opened next (drop (128 * i) rest) others 0 after → AreBlocksDone n s at rest others total next
all_done m n s t c d opened at i rest others total next after h b =
    let L = drop (128 * i) rest in
    let none : L ≡ [] = nil_from_length L (omega (arith, b.many, length-take 128 L)) in
    let z : packed_list (drop 128 L) ≡ [] = ap (λ zs. packed_list (drop 128 zs)) none ∙ list_none in
    let y = ap length (ap packed_list none ∙ list_none) in
    let place = h.place in
    let many = h.many in
    record {
      left = subst (λ zs. HasLeft n s (in_row s packed_region after zs ++ others)) z b.after.left;
      many = omega (arith, ap length none);
      place = omega arith;
    }

pub all_passed : (m : Moment) (s : ℕ) (t : Term) (c : Chain) (opened at i : ℕ) (rest : List ℕ) (others : List Store) (total next : ℕ) → IsAfter m s t c opened at i rest others total next
    → length rest ≤ 128 * i → AreBlocksDone m s at rest others total next
all_passed m s t c opened at i rest others total next h l =
    let none = drop_all (128 * i) rest l in
    let z = ap packed_list none ∙ list_none in
    let y = ap length z in
    let place = h.place in
    let many = h.many in
    record {
      left = subst (λ zs. HasLeft m s (in_row s packed_region next zs ++ others)) z h.ahead.left;
      many = omega (arith, ap length none);
      place = omega arith;
    }
