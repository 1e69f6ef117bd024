-- Two packed lists that are walked together.
use Rattle.std.proofs.Common.{◌≡◌, ℕ, suc, ◌+◌, ◌*◌, ◌/◌, ◌<◌, ◌≤◌, Bool, true, List, [], ◌∷◌, length, Option, None, Some, refl, sym, ap, ◌∙◌, subst, arith}
use Rattle.std.proofs.lemmas.Bool.{and_parts}
use Rattle.eb_base.specs.Document.{Doc}
use Rattle.eb_base.specs.Query.{word, no_trees}
use Rattle.eb_base.specs.Term.{Term}
use Rattle.eb_place.specs.declared.moment.Moment.{Moment}
use Rattle.eb_place.specs.Packed.{packed_list}
use Rattle.eb_place.specs.Postings.{places}
use Rattle.eb_place.specs.Told.{Told}
use Rattle.eb_place.proofs.LaterMoments.{later_on}
use Rattle.eb_block.specs.Blocks.{most_words}
use Rattle.eb_block.specs.Reading.{ListStands, ListGives}
use Rattle.eb_block.specs.declared.packed_list.PackedList.{PackedList}
use Rattle.eb_block.proofs.Standing.{list_stands_later}
use Rattle.eb_cursor.specs.AndCosts.{word_parts}
use Rattle.eb_cursor.specs.Asked.{CanAskAll}
use Rattle.eb_cursor.specs.Costs.{AllSpan, PaysSpans, Spans, round_loads}
use Rattle.eb_cursor.specs.Finds.{FindsAll}
use Rattle.eb_cursor.specs.Lists.{Gives, from_below, gives}
use Rattle.eb_cursor.specs.Loads.{ahead, loads_left}
use Rattle.eb_cursor.specs.Pairs.{packed_leaf, AreTogether, IsAbreast, IsPast, CanPass, GoesPast, PaysPair, both_ahead, meeting_end, IsPairOf}
use Rattle.eb_cursor.specs.Posted.{is_posting, match_at, each_at, document_end, Narrow}
use Rattle.eb_cursor.specs.Ready.{AllReady, AreStillGiven, IsLeaf}
use Rattle.eb_cursor.specs.Tops.{top}
use Rattle.eb_cursor.specs.declared.cursor.Cursor.{Cursor}
use Rattle.eb_cursor.specs.declared.pair.Pair.{Pair}
use Rattle.eb_cursor.specs.declared.posting_list.PostingList.TheVariants.{Packed}
use Rattle.eb_cursor.proofs.Documents.{word_top}
use Rattle.eb_cursor.proofs.Leaves.{Given, leaf_ahead, leaf_found, leaf_later, leaf_left, leaf_lower, leaf_next, leaf_none}
use Rattle.eb_cursor.proofs.Owing.{gave_packed}
use Rattle.eb_cursor.proofs.Steps.{top_all}
use Rattle.eb_cursor.proofs.Tellings.{IsLater, IsLawfulPort, KeepsItself, KeepsOn, Later, gives_later, told_as, told_itself}
use Rattle.eb_cursor.proofs.Tops.{from_below-below, from_below_twice, top_and, top_implied, top_le, top_skips}

-- ---- the documents that have both words

abbrev both : List Doc → Term → Term → ℕ → Bool
both docs u v = each_at docs (word_parts (u ∷ v ∷ []))

both_first : (docs : List Doc) (u v : Term) (n : ℕ) → both docs u v n ≡ true → match_at docs (word u) n ≡ true
both_first docs u v n p = (and_parts (match_at docs (word u) n) (each_at docs (word_parts (v ∷ [])) n) p).0

both_second : (docs : List Doc) (u v : Term) (n : ℕ) → both docs u v n ≡ true → match_at docs (word v) n ≡ true
both_second docs u v n p =
    let more = (and_parts (match_at docs (word u) n) (each_at docs (word_parts (v ∷ [])) n) p).1 in
    (and_parts (match_at docs (word v) n) (each_at docs no_trees n) more).0

-- the last document of a word is that of its leaf's posting
word_end : (g : Gives) (docs : List Doc) → Narrow docs → (t : Term) (s : Cursor) (y e : ℕ) → s.current ≡ Some y → y < places * e
    → IsLeaf g (is_posting docs t) s (places * e) → top (match_at docs (word t)) e ≡ suc (y / places)
word_end g docs w t s y e is h leaf = word_top docs w t e ∙ ap document_end (sym (leaf_found g (is_posting docs t) s y (places * e) is h leaf))

word_none : (g : Gives) (docs : List Doc) → Narrow docs → (t : Term) (s : Cursor) (e : ℕ) → s.current ≡ None
    → IsLeaf g (is_posting docs t) s (places * e) → top (match_at docs (word t)) e ≡ 0
word_none g docs w t s e is leaf = word_top docs w t e ∙ ap document_end (sym (leaf_none g (is_posting docs t) s (places * e) is leaf))

-- ---- a posting is passed

-- the other word's last document is before that of the posting
passed_over : (g g' : Gives) → Later g g' → (docs : List Doc) → Narrow docs → (t w : Term) (all : ℕ → Bool) → ((n : ℕ) → all n ≡ true → match_at docs (word w) n ≡ true)
    → (s s' o : Cursor) (x y e : ℕ) (ys : List ℕ) → s.current ≡ Some x → o.current ≡ Some y → y / places < x / places → y < places * e
    → (leaf : IsLeaf g (is_posting docs t) s (places * e)) → leaf.left ≡ x ∷ ys → Given g' s'.list ys s'.current → IsLeaf g (is_posting docs w) o (places * e)
    → (suc (y / places) ≤ e) × (top all e ≡ top all (suc (y / places))) × IsLeaf g' (is_posting docs t) s' (places * suc (y / places))
    × IsLeaf g' (is_posting docs w) o (places * suc (y / places)) × (y < places * suc (y / places))
passed_over g g' later docs narrow t w all implied s s' o x y e ys isx isy less low leaf same gave other =
    let last : top (match_at docs (word w)) e ≡ suc (y / places) = word_end g docs narrow w o y e isy low other in
    let falls : suc (y / places) ≤ e = omega (arith, last, top_le (match_at docs (word w)) e) in
    let under : places * suc (y / places) ≤ places * e = omega (arith, falls) in
    let above : places * suc (y / places) ≤ x = omega (arith, less) in
    let down : IsLeaf g (is_posting docs t) s (places * suc (y / places)) = record {
      left = leaf.left;
      told = leaf.told;
      falls = leaf.falls;
      rest = sym (from_below_twice (places * suc (y / places)) (places * e) leaf.left under) ∙ ap (from_below (places * suc (y / places))) leaf.rest
          ∙ from_below-below (is_posting docs t) (places * suc (y / places)) (places * e) under;
    } in
    let next = leaf_next g g' (is_posting docs t) s s' x (places * suc (y / places)) ys above down same gave in
    let stays = leaf_later g g' later (is_posting docs w) o (places * suc (y / places)) (leaf_lower g (is_posting docs w) o (places * suc (y / places)) (places * e) under other) in
    (falls, top_skips (match_at docs (word w)) all implied e ∙ ap (top all) last, next, stays, omega arith)

pass_left : (g g' : Gives) → Later g g' → (docs : List Doc) (u v : Term) (p : Pair) (list : PackedList) (o : Option ℕ) (x y e : ℕ) (ys : List ℕ)
    → p.left ≡ Some x → p.right ≡ Some y → y / places < x / places → (h : IsAbreast g docs u v p e) → h.first.left ≡ x ∷ ys → Given g' (Packed list) ys o
    → IsPast g' docs u v (record { left = o; right = p.right; one = list; two = p.two }) e
pass_left g g' later docs u v p list o x y e ys isx isy less h same gave =
    let low : y < places * e = omega (arith, h.low x y isx isy, less) in
    let k = passed_over g g' later docs h.narrow u v (both docs u v) (both_second docs u v) (packed_leaf p.left p.one) (packed_leaf o list) (packed_leaf p.right p.two)
    x y e ys isx isy less low h.first same gave h.second in
    record {
      lower = suc (y / places);
      falls = k.0;
      same = k.1;
      abreast = record { narrow = h.narrow; first = k.2; second = k.3; low = λ a b i j. let q : y ≡ b = cc (sym isy ∙ j) in omega (arith, q, k.4) };
    }

pass_right : (g g' : Gives) → Later g g' → (docs : List Doc) (u v : Term) (p : Pair) (list : PackedList) (o : Option ℕ) (x y e : ℕ) (ys : List ℕ)
    → p.left ≡ Some x → p.right ≡ Some y → x / places < y / places → (h : IsAbreast g docs u v p e) → h.second.left ≡ y ∷ ys → Given g' (Packed list) ys o
    → IsPast g' docs u v (record { left = p.left; right = o; one = p.one; two = list }) e
pass_right g g' later docs u v p list o x y e ys isx isy less h same gave =
    let low : x < places * e = omega (arith, h.low x y isx isy, less) in
    let k = passed_over g g' later docs h.narrow v u (both docs u v) (both_first docs u v) (packed_leaf p.right p.two) (packed_leaf o list) (packed_leaf p.left p.one)
    y x e ys isy isx less low h.second same gave h.first in
    record {
      lower = suc (x / places);
      falls = k.0;
      same = k.1;
      abreast = record { narrow = h.narrow; first = k.3; second = k.2; low = λ a b i j. let q : x ≡ a = cc (sym isx ∙ i) in omega (arith, q, k.4) };
    }

-- what a call of next promises
abbrev pub NextTold : {S : Type 0} → (S → Moment → Type 0) → (S → Moment → S → Moment → Type 0) → S → S → PackedList → PackedList → Option ℕ → ℕ → ℕ → Type 0
NextTold stands keeps p q old new r before after = (s : ℕ) (t : Term) (rest : List ℕ) (budget : ℕ)
    → Told stands keeps p q (λ m. ListStands m s t old rest budget) (λ n. (b : ℕ) × ListGives n s t new rest b r × (after + b ≤ before + budget))

pub goes_left : {S : Type 0} {stands : S → Moment → Type 0} {keeps : S → Moment → S → Moment → Type 0} {s t : S} (p : Pair) (list : PackedList) (o : Option ℕ) (x y before after : ℕ)
    → IsLawfulPort stands → p.left ≡ Some x → p.right ≡ Some y → y / places < x / places → NextTold stands keeps s t p.one list o before after
    → GoesPast stands keeps s t p (record { left = o; right = p.right; one = list; two = p.two })
goes_left p list o x y before after lawful isx isy less next docs u v e = record {
  told = λ m st h.
      let k = leaf_left (gives m) (is_posting docs u) (packed_leaf p.left p.one) x (places * e) isx h.first in
      let l = k.2 in
      let n = (next l.0 l.1 k.0 l.2).told m st l.3 in
      let w : IsLater m n.0 = record { is = lawful _ m st; later = n.2 } in
      (n.0, n.1, n.2, n.3, pass_left (gives m) (gives n.0) (gives_later m n.0 w) docs u v p list o x y e k.0 isx isy less h k.1 (gave_packed n.0 l.0 l.1 list k.0 n.4.0 o n.4.1));
}

pub goes_right : {S : Type 0} {stands : S → Moment → Type 0} {keeps : S → Moment → S → Moment → Type 0} {s t : S} (p : Pair) (list : PackedList) (o : Option ℕ) (x y before after : ℕ)
    → IsLawfulPort stands → p.left ≡ Some x → p.right ≡ Some y → x / places < y / places → NextTold stands keeps s t p.two list o before after
    → GoesPast stands keeps s t p (record { left = p.left; right = o; one = p.one; two = list })
goes_right p list o x y before after lawful isx isy less next docs u v e = record {
  told = λ m st h.
      let k = leaf_left (gives m) (is_posting docs v) (packed_leaf p.right p.two) y (places * e) isy h.second in
      let l = k.2 in
      let n = (next l.0 l.1 k.0 l.2).told m st l.3 in
      let w : IsLater m n.0 = record { is = lawful _ m st; later = n.2 } in
      (n.0, n.1, n.2, n.3, pass_right (gives m) (gives n.0) (gives_later m n.0 w) docs u v p list o x y e k.0 isx isy less h k.1 (gave_packed n.0 l.0 l.1 list k.0 n.4.0 o n.4.1));
}

-- ---- it falls

pub falls_left : {S : Type 0} (stands : S → Moment → Type 0) (keeps : S → Moment → S → Moment → Type 0) (s t : S) (p : Pair) (list : PackedList) (o : Option ℕ) (x before after : ℕ)
    → p.left ≡ Some x → CanPass stands s p → NextTold stands keeps s t p.one list o before after → ahead o < ahead p.left
falls_left stands keeps s t p list o x before after isx r next =
    let k = leaf_left (gives r.0) (is_posting r.1 r.2) (packed_leaf p.left p.one) x (places * r.4) isx r.6.first in
    let l = k.2 in
    let n = (next l.0 l.1 k.0 l.2).told r.0 r.5 l.3 in
    leaf_ahead (gives r.0) (gives n.0) (is_posting r.1 r.2) (packed_leaf p.left p.one) (packed_leaf o list) x (places * r.4) k.0 isx r.6.first k.1
    (gave_packed n.0 l.0 l.1 list k.0 n.4.0 o n.4.1)

pub falls_right : {S : Type 0} (stands : S → Moment → Type 0) (keeps : S → Moment → S → Moment → Type 0) (s t : S) (p : Pair) (list : PackedList) (o : Option ℕ) (y before after : ℕ)
    → p.right ≡ Some y → CanPass stands s p → NextTold stands keeps s t p.two list o before after → ahead o < ahead p.right
falls_right stands keeps s t p list o y before after isy r next =
    let k = leaf_left (gives r.0) (is_posting r.1 r.3) (packed_leaf p.right p.two) y (places * r.4) isy r.6.second in
    let l = k.2 in
    let n = (next l.0 l.1 k.0 l.2).told r.0 r.5 l.3 in
    leaf_ahead (gives r.0) (gives n.0) (is_posting r.1 r.3) (packed_leaf p.right p.two) (packed_leaf o list) y (places * r.4) k.0 isy r.6.second k.1
    (gave_packed n.0 l.0 l.1 list k.0 n.4.0 o n.4.1)

-- ---- what it costs

given_rest : (n : Moment) (s : ℕ) (t : Term) (p : PackedList) (xs : List ℕ) (b : ℕ) (r : Option ℕ) → ListGives n s t p xs b r
    → (ys : List ℕ) × ListStands n s t p ys b × (length ys ≤ length xs)
given_rest n s t p [] b r h = ([], h.1, omega arith)
given_rest n s t p (x ∷ xs) b r h = (xs, h.1, omega arith)

pub pays_left : {S : Type 0} {stands : S → Moment → Type 0} {keeps : S → Moment → S → Moment → Type 0} {s t : S} (p : Pair) (list : PackedList) (o : Option ℕ) (before after : ℕ)
    → IsLawfulPort stands → NextTold stands keeps s t p.one list o before after
    → PaysPair stands keeps s t p (record { left = o; right = p.right; one = list; two = p.two }) before after
pays_left p list o before after lawful next k t w i j most = record {
  told = λ m st h.
      let n = (next k t h.0 h.2).told m st h.4 in
      let z = given_rest n.0 k t list h.0 n.4.0 o n.4.1 in
      let stays = list_stands_later m n.0 k w p.two h.1 h.3 (lawful _ m st) n.2 h.5 in (
        n.0,
        n.1,
        n.2,
        n.3,
        (n.4.0 + h.3, (z.0, h.1, n.4.0, h.3, z.1, stays, omega (arith, z.2, h.6), h.7, omega arith), omega (arith, n.4.2, h.8)),
      );
}

pub pays_right : {S : Type 0} {stands : S → Moment → Type 0} {keeps : S → Moment → S → Moment → Type 0} {s t : S} (p : Pair) (list : PackedList) (o : Option ℕ) (before after : ℕ)
    → IsLawfulPort stands → NextTold stands keeps s t p.two list o before after
    → PaysPair stands keeps s t p (record { left = p.left; right = o; one = p.one; two = list }) before after
pays_right p list o before after lawful next k t w i j most = record {
  told = λ m st h.
      let n = (next k w h.1 h.3).told m st h.5 in
      let z = given_rest n.0 k w list h.1 n.4.0 o n.4.1 in
      let stays = list_stands_later m n.0 k t p.one h.0 h.2 (lawful _ m st) n.2 h.4 in (
        n.0,
        n.1,
        n.2,
        n.3,
        (h.2 + n.4.0, (h.0, z.0, h.2, n.4.0, stays, z.1, h.6, omega (arith, z.2, h.7), omega arith), omega (arith, n.4.2, h.8)),
      );
}

pub pays_none : {S : Type 0} {stands : S → Moment → Type 0} {keeps : S → Moment → S → Moment → Type 0} {s : S} (p : Pair) (before : ℕ)
    → KeepsItself stands keeps → PaysPair stands keeps s s p p before before
pays_none p before itself k t w i j most = told_itself itself (λ m h. (most, h, omega arith))

pub goes_nowhere : {S : Type 0} {stands : S → Moment → Type 0} {keeps : S → Moment → S → Moment → Type 0} {s : S} (p : Pair)
    → KeepsItself stands keeps → GoesPast stands keeps s s p p
goes_nowhere p itself docs u v e = told_itself itself (λ m h. record { lower = e; falls = omega arith; same = refl; abreast = h })

-- ---- one after the other

pub goes_on : {S : Type 0} {stands : S → Moment → Type 0} {keeps : S → Moment → S → Moment → Type 0} {s t r : S} (a b c : Pair)
    → KeepsOn keeps → GoesPast stands keeps s t a b → GoesPast stands keeps t r b c → GoesPast stands keeps s r a c
goes_on a b c on first second docs u v e = record {
  told = λ m st h.
      let x = (first docs u v e).told m st h in
      let y = (second docs u v x.4.lower).told x.0 x.1 x.4.abreast in (
        y.0,
        y.1,
        later_on m x.0 y.0 x.2 y.2,
        on _ _ _ m x.0 y.0 x.3 y.3,
        record { lower = y.4.lower; falls = omega (arith, x.4.falls, y.4.falls); same = x.4.same ∙ y.4.same; abreast = y.4.abreast },
      );
}

pub pays_on : {S : Type 0} {stands : S → Moment → Type 0} {keeps : S → Moment → S → Moment → Type 0} {s t r : S} (a b c : Pair) (before between after : ℕ)
    → KeepsOn keeps → PaysPair stands keeps s t a b before between → PaysPair stands keeps t r b c between after → PaysPair stands keeps s r a c before after
pays_on a b c before between after on first second k t w i j most = record {
  told = λ m st h.
      let x = (first k t w i j most).told m st h in
      let y = (second k t w i j x.4.0).told x.0 x.1 x.4.1 in
      (y.0, y.1, later_on m x.0 y.0 x.2 y.2, on _ _ _ m x.0 y.0 x.3 y.3, (y.4.0, y.4.1, omega (arith, x.4.2, y.4.2)));
}

pub can_on : {S : Type 0} (stands : S → Moment → Type 0) (keeps : S → Moment → S → Moment → Type 0) (s t : S) (a b : Pair)
    → CanPass stands s a → GoesPast stands keeps s t a b → CanPass stands t b
can_on stands keeps s t a b r goes = let n = (goes r.1 r.2 r.3 r.4).told r.0 r.5 r.6 in (n.0, r.1, r.2, r.3, n.4.lower, n.1, n.4.abreast)

-- ---- two cursors

-- what the cursors of two words hold
two_ask : (g : Gives) (docs : List Doc) (u v : Term) (cursors : List Cursor) (own : Cursor) (rest : List Cursor) (other : Cursor) (more : List Cursor) (last : ℕ)
    → cursors ≡ own ∷ rest → rest ≡ other ∷ more → AllReady g docs (word_parts (u ∷ v ∷ [])) cursors last
    → Narrow docs × IsLeaf g (is_posting docs u) own (places * last) × IsLeaf g (is_posting docs v) other (places * last) × (more ≡ [])
two_ask g docs u v cursors own rest other more last e i r =
    let k = subst (λ z. AllReady g docs (word_parts (u ∷ v ∷ [])) z last) (e ∙ ap (λ z. own ∷ z) i) r in
    (k.0.1, k.0.2, k.1.0.2, k.1.1)

leaf_as : (g : Gives) (f : ℕ → Bool) (s s' : Cursor) (last : ℕ) → s.current ≡ s'.current → s.list ≡ s'.list → IsLeaf g f s last → IsLeaf g f s' last
leaf_as g f s s' last e i leaf = record {
  left = leaf.left;
  told = subst (λ o. AreStillGiven g o s'.list leaf.left) e (subst (λ l. AreStillGiven g s.current l leaf.left) i leaf.told);
  falls = leaf.falls;
  rest = leaf.rest;
}

abreast_of : (g : Gives) (docs : List Doc) (u v : Term) (cursors : List Cursor) (own : Cursor) (rest : List Cursor) (other : Cursor) (more : List Cursor) (p : Pair) (end last : ℕ)
    → cursors ≡ own ∷ rest → rest ≡ other ∷ more → IsPairOf own other end p → end ≤ last → AllReady g docs (word_parts (u ∷ v ∷ [])) cursors last → IsAbreast g docs u v p end
abreast_of g docs u v cursors own rest other more p end last e i is h r =
    let k = two_ask g docs u v cursors own rest other more last e i r in
    let under : places * end ≤ places * last = omega (arith, h) in
    let first = leaf_as g (is_posting docs u) own (packed_leaf p.left p.one) (places * last) is.left is.one k.1 in
    let second = leaf_as g (is_posting docs v) other (packed_leaf p.right p.two) (places * last) is.right is.two k.2 in
    record {
      narrow = k.0;
      first = leaf_lower g (is_posting docs u) (packed_leaf p.left p.one) (places * end) (places * last) under first;
      second = leaf_lower g (is_posting docs v) (packed_leaf p.right p.two) (places * end) (places * last) under second;
      low = is.low;
    }

-- the pair of two cursors can pass
pub two_can : {S : Type 0} (stands : S → Moment → Type 0) (s : S) (u v : Term) (cursors : List Cursor) (own : Cursor) (rest : List Cursor) (other : Cursor) (more : List Cursor) (p : Pair) (end : ℕ)
    → cursors ≡ own ∷ rest → rest ≡ other ∷ more → IsPairOf own other end p → CanAskAll stands s (word_parts (u ∷ v ∷ [])) cursors end → CanPass stands s p
two_can stands s u v cursors own rest other more p end e i is r =
    (r.0, r.1, u, v, end, r.3, abreast_of (gives r.0) r.1 u v cursors own rest other more p end r.2 e i is r.4 r.5)

-- the greatest document that has both words, below which the cursors are ready
abbrev FoundOf : Gives → List Doc → Term → Term → List Cursor → ℕ → ℕ → Type 0
FoundOf g docs u v cursors end found = (found ≡ top (both docs u v) end) × AllReady g docs (word_parts (u ∷ v ∷ [])) cursors found

-- both leaves are ready for each lower end
ready_at : (g : Gives) (docs : List Doc) (u v : Term) (c d : Cursor) (low found : ℕ) → found ≤ low → Narrow docs
    → IsLeaf g (is_posting docs u) c (places * low) → IsLeaf g (is_posting docs v) d (places * low) → AllReady g docs (word_parts (u ∷ v ∷ [])) (c ∷ d ∷ []) found
ready_at g docs u v c d low found falls narrow first second =
    let under : places * found ≤ places * low = omega (arith, falls) in (
      (refl, narrow, leaf_lower g (is_posting docs u) c (places * found) (places * low) under first),
      ((refl, narrow, leaf_lower g (is_posting docs v) d (places * found) (places * low) under second), refl),
    )

-- a document that is the last one of both words is the last that has both
last_of_both : (docs : List Doc) (u v : Term) (low found : ℕ) → top (match_at docs (word u)) low ≡ found → top (match_at docs (word v)) low ≡ found
    → top (both docs u v) low ≡ found
last_of_both docs u v low found a b =
    let f : ℕ → Bool = match_at docs (word u) in
    let k : ℕ → Bool = match_at docs (word v) in
    let p : top f found ≡ found = ap (top f) (sym a) ∙ sym (top_skips f f (λ n q. q) low) ∙ a in
    let q : top k found ≡ found = ap (top k) (sym b) ∙ sym (top_skips k k (λ n r. r) low) ∙ b in
    let q1 = top_and k (each_at docs no_trees) found q (top_all (each_at docs no_trees) (λ n. refl) found) in
    top_skips f (both docs u v) (both_first docs u v) low ∙ ap (top (both docs u v)) a ∙ top_and f (each_at docs (word_parts (v ∷ []))) found p q1

-- where one has no document left
found_none : (g : Gives) (docs : List Doc) (u v : Term) (c d : Cursor) (end low : ℕ) → top (both docs u v) end ≡ top (both docs u v) low → Narrow docs
    → IsLeaf g (is_posting docs u) c (places * low) → IsLeaf g (is_posting docs v) d (places * low) → (f : ℕ → Bool) → ((n : ℕ) → both docs u v n ≡ true → f n ≡ true)
    → top f low ≡ 0 → FoundOf g docs u v (c ∷ d ∷ []) end 0
found_none g docs u v c d end low same narrow first second f implied none = (
  omega (arith, same, none, top_implied f (both docs u v) implied low),
  ready_at g docs u v c d low 0 (omega arith) narrow first second,
)

pair_found : (g : Gives) (docs : List Doc) (u v : Term) (p : Pair) (c d : Cursor) (end : ℕ) → c.current ≡ p.left → c.list ≡ Packed p.one → d.current ≡ p.right → d.list ≡ Packed p.two
    → IsPast g docs u v p end → AreTogether p → FoundOf g docs u v (c ∷ d ∷ []) end (meeting_end p.left p.right)
pair_found g docs u v p c d end cl cp dl dp past met = go p.left p.right refl refl
  where
    first : IsLeaf g (is_posting docs u) c (places * past.lower)
    first = leaf_as g (is_posting docs u) (packed_leaf p.left p.one) c (places * past.lower) (sym cl) (sym cp) past.abreast.first

    second : IsLeaf g (is_posting docs v) d (places * past.lower)
    second = leaf_as g (is_posting docs v) (packed_leaf p.right p.two) d (places * past.lower) (sym dl) (sym dp) past.abreast.second

    go : (l r : Option ℕ) → p.left ≡ l → p.right ≡ r → FoundOf g docs u v (c ∷ d ∷ []) end (meeting_end l r)
    go None r i j = found_none g docs u v c d end past.lower past.same past.abreast.narrow first second (match_at docs (word u)) (both_first docs u v)
        (word_none g docs past.abreast.narrow u c past.lower (cl ∙ i) first)
    go (Some x) None i j = found_none g docs u v c d end past.lower past.same past.abreast.narrow first second (match_at docs (word v)) (both_second docs u v)
        (word_none g docs past.abreast.narrow v d past.lower (dl ∙ j) second)
    go (Some x) (Some y) i j =
        let one : x / places ≡ y / places = met x y i j in
        let least = past.abreast.low x y i j in
        let lowx : x < places * past.lower = omega (arith, one, least) in
        let lowy : y < places * past.lower = omega (arith, one, least) in
        let a : top (match_at docs (word u)) past.lower ≡ suc (x / places) = word_end g docs past.abreast.narrow u c x past.lower (cl ∙ i) lowx first in
        let b : top (match_at docs (word v)) past.lower ≡ suc (y / places) = word_end g docs past.abreast.narrow v d y past.lower (dl ∙ j) lowy second in (
          sym (past.same ∙ last_of_both docs u v past.lower (suc (x / places)) a (omega (arith, b, one))),
          ready_at g docs u v c d past.lower (suc (x / places)) (omega (arith, a, top_le (match_at docs (word u)) past.lower)) past.abreast.narrow first second,
        )

pub pair_finds : {S : Type 0} {stands : S → Moment → Type 0} {keeps : S → Moment → S → Moment → Type 0} {s t : S} (u v : Term)
    (cursors : List Cursor) (own : Cursor) (rest : List Cursor) (other : Cursor) (more : List Cursor) (c d : Cursor) (p q : Pair) (end found : ℕ)
    → IsLawfulPort stands → cursors ≡ own ∷ rest → rest ≡ other ∷ more → IsPairOf own other end p → GoesPast stands keeps s t p q → AreTogether q
    → c.current ≡ q.left → c.list ≡ Packed q.one → d.current ≡ q.right → d.list ≡ Packed q.two → found ≡ meeting_end q.left q.right
    → FindsAll stands keeps s t (word_parts (u ∷ v ∷ [])) cursors (c ∷ d ∷ more) end found
pair_finds u v cursors own rest other more c d p q end found lawful e i is goes met cl cp dl dp at docs last h = told_as lawful (goes docs u v end)
    (λ m r. abreast_of (gives m) docs u v cursors own rest other more p end last e i is h r)
    (λ m n later r past.
    let none : more ≡ [] = (two_ask (gives m) docs u v cursors own rest other more last e i r).3 in
    let found_both = pair_found (gives n) docs u v q c d end cl cp dl dp past met in
    subst (λ z. FoundOf (gives n) docs u v (c ∷ d ∷ z) end found) (sym none)
    (subst (λ z. FoundOf (gives n) docs u v (c ∷ d ∷ []) end z) (sym at) found_both))

-- ---- what two cursors owe

nil_of : (xs : List ℕ) → length xs ≡ 0 → xs ≡ []
nil_of [] e = refl
nil_of (x ∷ xs) e = absurd (omega (arith, e))

none_packed : length (packed_list []) ≡ 0
unfolding packed_list
none_packed = refl

-- a list in its last block loads fewer words than a block has
few_words : (m : Moment) (s : ℕ) (t : Term) (p : PackedList) (rest : List ℕ) (b : ℕ) → p.left ≡ 0 → ListStands m s t p rest b → b < most_words
few_words m s t p rest b e h =
    let nil = nil_of h.reads.later (omega (arith, h.reads.left, e)) in
    let none : length (packed_list h.reads.later) ≡ 0 = ap (λ z. length (packed_list z)) nil ∙ none_packed in
    omega (arith, h.reads.budget_is, none, h.reads.near, h.reads.short, h.reads.at)

pub pair_pays : {S : Type 0} {stands : S → Moment → Type 0} {keeps : S → Moment → S → Moment → Type 0} {s t : S} (u v : Term)
    (cursors : List Cursor) (own : Cursor) (rest : List Cursor) (other : Cursor) (more : List Cursor) (c d : Cursor) (p q : Pair) (end before after : ℕ)
    → cursors ≡ own ∷ rest → rest ≡ other ∷ more → IsPairOf own other end p → PaysPair stands keeps s t p q before after
    → c.list ≡ Packed q.one → d.list ≡ Packed q.two → PaysSpans stands keeps s t (u ∷ v ∷ []) cursors (c ∷ d ∷ more) (round_loads (u ∷ v ∷ [])) before after
pair_pays u v cursors own rest other more c d p q end before after e i is pays cp dp k most = record {
  told = λ m st h.
      let a = subst (λ z. AllSpan m k (u ∷ v ∷ []) z most) (e ∙ ap (λ z. own ∷ z) i) h in
      let one = subst (λ l. Spans m k u l a.0) is.one a.2 in
      let two = subst (λ l. Spans m k v l a.3.0) is.two a.3.2 in
      let few = few_words m k u p.one one.0 one.1 is.first_last one.2 in
      let fewer = few_words m k v p.two two.0 two.1 is.second_last two.2 in
      let x = (pays k u v (length one.0) (length two.0) (one.1 + two.1)).told m st (one.0, two.0, one.1, two.1, one.2, two.2, omega arith, omega arith, omega arith) in
      let o = x.4.1 in
      let c1 = subst (λ l. Spans x.0 k u l a.0) (sym cp) (o.0, o.2, o.4, omega (arith, one.3, o.6)) in
      let d1 = subst (λ l. Spans x.0 k v l a.3.0) (sym dp) (o.1, o.3, o.5, omega (arith, two.3, o.7)) in
      (x.0, x.1, x.2, x.3, (a.0 + a.3.0, (a.0, a.3.0, c1, (a.3.0, 0, d1, a.3.3, omega arith), omega arith), omega (arith, x.4.2, few, fewer, a.3.4, a.4)));
}

pub pair_loads : (cursors : List Cursor) (own : Cursor) (rest : List Cursor) (other : Cursor) (more : List Cursor) (c d : Cursor) (p q : Pair) (end before after : ℕ)
    → cursors ≡ own ∷ rest → rest ≡ other ∷ more → IsPairOf own other end p → c.current ≡ q.left → d.current ≡ q.right
    → after + 4 * both_ahead q ≤ before + 4 * both_ahead p → after + loads_left (c ∷ d ∷ more) ≤ before + loads_left cursors
pair_loads cursors own rest other more c d p q end before after e i is cl dl h =
    omega (arith, h, ap loads_left e, ap loads_left i, ap ahead is.left, ap ahead is.right, ap ahead cl, ap ahead dl)

pub two_words : (ts : List Term) (u v : Term) → word_parts ts ≡ word_parts (u ∷ v ∷ []) → ts ≡ u ∷ v ∷ []
two_words [] u v e = absurd (cc e)
two_words (t ∷ []) u v e = absurd (cc e)
two_words (t ∷ (w ∷ [])) u v e = cc e
two_words (t ∷ (w ∷ (x ∷ xs))) u v e = absurd (cc e)
