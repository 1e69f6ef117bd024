-- A growing port from store to store.
use Rattle.std.proofs.Common.{◌≡◌, ℕ, zero, suc, ◌+◌, ◌<◌, Bool, true, false, ltb, List, [], ◌∷◌, length, drop, get_or, refl, ap, sym, ◌∙◌, arith, Some, slice_get, add-one}
use Rattle.std.proofs.lemmas.Bool.{ltb-false}
use Rattle.std.proofs.lemmas.List.{length-drop, length-map}
use Rattle.eb_base.specs.Document.{Doc}
use Rattle.eb_place.specs.declared.moment.Moment.{Moment}
use Rattle.eb_place.specs.Placing.{placing, pairs_of, doc_stores}
use Rattle.eb_place.specs.NextStores.{stores_done, IsNext, after_store, documents_after}
use Rattle.eb_place.proofs.LaterMoments.{later_self, later_on}
use Rattle.eb_trials.specs.Grown.{AreLeft, Grows, HasGrown}
use Rattle.eb_trials.specs.declared.growing.GrowingPort.{GrowingPort}

-- the first of what is left is the element there
first_left : {A : Type 0} (xs : List A) (n : ℕ) → slice_get (drop n xs) 0 ≡ slice_get xs n
first_left [] zero = refl
first_left [] (suc n) = refl
first_left (x ∷ xs) zero = refl
first_left (x ∷ xs) (suc n) = first_left xs n

-- an element that is read is there
pub there : {A : Type 0} (xs : List A) (n : ℕ) (x : A) → n < length xs → x ≡ get_or xs n x → slice_get xs n ≡ Some x
there [] n x l e = absurd (omega arith)
there (y ∷ xs) zero x l e = ap Some (sym e)
there (y ∷ xs) (suc n) x l e = there xs n x (omega arith) e

-- one element less is left
one_less : {A : Type 0} (xs : List A) (n : ℕ) → drop (suc n) xs ≡ drop 1 (drop n xs)
one_less [] zero = refl
one_less [] (suc n) = refl
one_less (x ∷ xs) zero = refl
one_less (x ∷ xs) (suc n) = one_less xs n

-- the first of the stores that are left is the next one
pub next_left : (m : Moment) (d : Doc) (xs : List (ℕ × ℕ)) (n at value : ℕ) → AreLeft m d (drop n xs) → slice_get xs n ≡ Some (at, value) → IsNext m d at value
next_left m d xs n at value h e = record {
  limits = h.limits;
  room = h.room;
  current = h.current;
  pair = sym (first_left (placing m.setting m.documents.accepted d) (stores_done m.documents.current))
      ∙ ap (λ (l : List (ℕ × ℕ)). slice_get l 0) (sym h.stores)
      ∙ first_left xs n
      ∙ e;
}

left_if : (m : Moment) (d : Doc) (xs : List (ℕ × ℕ)) (n : ℕ) (b : Bool)
    → ltb (suc (stores_done m.documents.current)) (length (doc_stores m.setting m.documents.accepted d)) ≡ b → AreLeft m d (drop n xs) → suc n < length xs
    → AreLeft record { setting = m.setting; documents = documents_after b m.documents.accepted d (suc (stores_done m.documents.current)); conversions = m.conversions } d (drop (suc n) xs)
left_if m d xs n true e h l = record {
  limits = h.limits;
  room = h.room;
  current = refl;
  stores = one_less xs n ∙ ap (drop 1) h.stores ∙ sym (one_less (placing m.setting m.documents.accepted d) (stores_done m.documents.current));
}
left_if m d xs n false e h l =
    let all = doc_stores m.setting m.documents.accepted d in
    let k = stores_done m.documents.current in
    let few = ltb-false (suc k) (length all) e in
    let same = ap length h.stores in
    let pairs : length (pairs_of m.setting all) ≡ length all = length-map all _ in
    absurd (omega (arith, few, same, length-drop n xs, length-drop k (pairs_of m.setting all), pairs))

-- after it the others are left
left_stored : (m : Moment) (d : Doc) (xs : List (ℕ × ℕ)) (n : ℕ) → AreLeft m d (drop n xs) → suc n < length xs → AreLeft (after_store m d) d (drop (suc n) xs)
unfolding after_store
left_stored m d xs n h l = left_if m d xs n _ refl h l

-- the same, as the port counts
pub left_grown : (m : Moment) (d : Doc) (xs : List (ℕ × ℕ)) (n : ℕ) → AreLeft m d (drop n xs) → n + 1 < length xs → AreLeft (after_store m d) d (drop (n + 1) xs)
left_grown m d xs n h l = rw add-one (left_stored m d xs n h (omega arith))

-- a port that is the same
pub same_grown : (g : GrowingPort) (m : Moment) → Grows g m → HasGrown g g m
same_grown g m h = record { moment = m; stands = h; later = later_self m; setting = refl }

-- what grew twice has grown
pub grown_on : (g h i : GrowingPort) (m : Moment) → (a : HasGrown g h m) → HasGrown h i a.moment → HasGrown g i m
grown_on g h i m a b = record { moment = b.moment; stands = b.stands; later = later_on m a.moment b.moment a.later b.later; setting = b.setting ∙ a.setting }
