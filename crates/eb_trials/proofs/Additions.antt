-- Documents that are added one after the other.
use Rattle.std.proofs.Common.{◌≡◌, ℕ, zero, suc, ◌+◌, ◌<◌, List, [], ◌∷◌, ◌++◌, length, take, drop, get_or, refl, ap, sym, ◌∙◌, subst, arith, append-nil, append_assoc, None, false, add-one}
use Rattle.std.proofs.lemmas.List.{map-append}
use Rattle.eb_base.specs.Document.{Doc, IsDocument}
use Rattle.eb_base.specs.Setting.{Setting}
use Rattle.eb_place.specs.declared.moment.Moment.{Moment}
use Rattle.eb_place.specs.declared.moment.Documents.{Documents}
use Rattle.eb_place.specs.Layout.{place}
use Rattle.eb_place.specs.Room.{HasRoom}
use Rattle.eb_place.specs.Placing.{Store, pairs_of, placing, doc_stores}
use Rattle.eb_place.specs.Moments.{placings, document_stores, empty_moment}
use Rattle.eb_place.specs.NextStores.{stores_done, IsCurrent}
use Rattle.eb_place.proofs.WordsAtMoment.{placings_push}
use Rattle.eb_writer.specs.Progress.{PlacerProgress, PlacerStands}
use Rattle.eb_writer.specs.Storing.{IsAccepted}
use Rattle.eb_trials.specs.Added.{HasAdded, Holds}
use Rattle.eb_trials.specs.Grown.{AreLeft}
use Rattle.eb_trials.specs.Recorded.{IsRecord}
use Rattle.eb_trials.specs.declared.recording.RecordingPen.{RecordingPen}

-- none is added yet
pub none_added : {S : Type 0} (stands : S → Moment → Type 0) (s : S) (p : PlacerProgress) (m : Moment) → stands s m → PlacerStands p m → HasAdded stands s p m []
none_added stands s p m h k = record { moment = m; port = h; placer = k; setting = refl; accepted = sym (append-nil m.documents.accepted) }

-- one more is
pub one_added : {S : Type 0} (stands : S → Moment → Type 0) (s t : S) (p q : PlacerProgress) (m n : Moment) (docs : List Doc) (d : Doc)
    → (a : HasAdded stands s p m docs) → stands t n → IsAccepted a.moment n d → PlacerStands q n → HasAdded stands t q m (docs ++ d ∷ [])
one_added stands s t p q m n docs d a h is k = record {
  moment = n;
  port = h;
  placer = k;
  setting = a.setting ∙ is.later.setting;
  accepted = ap (λ (x : Documents). x.accepted) is.documents ∙ ap (λ (l : List Doc). l ++ d ∷ []) a.accepted ∙ append_assoc m.documents.accepted docs (d ∷ []);
}

take_more : {A : Type 0} (xs : List A) (i : ℕ) (x : A) → i < length xs → x ≡ get_or xs i x → take (suc i) xs ≡ take i xs ++ x ∷ []
take_more [] i x l e = absurd (omega arith)
take_more (y ∷ xs) zero x l e = ap (λ z. z ∷ []) (sym e)
take_more (y ∷ xs) (suc i) x l e = ap (λ z. y ∷ z) (take_more xs i x (omega arith) e)

-- so far and one more
pub take_there : {A : Type 0} (xs : List A) (i : ℕ) (x : A) → i < length xs → x ≡ get_or xs i x → take (i + 1) xs ≡ take i xs ++ x ∷ []
take_there xs i x l e = rw add-one (take_more xs i x l e)

drop_front : {A : Type 0} (xs ys : List A) → drop (length xs) (xs ++ ys) ≡ ys
drop_front [] ys = refl
drop_front (x ∷ xs) ys = drop_front xs ys

-- the record of a history with one more document, without that of the history, is the placing of
-- the document
pub placing_recorded : (σ : Setting) (docs : List Doc) (d : Doc) (xs ys : List (ℕ × ℕ)) (n : ℕ) → n ≡ length xs
    → xs ≡ pairs_of σ (document_stores σ record { accepted = docs; current = None })
    → ys ≡ pairs_of σ (document_stores σ record { accepted = docs ++ d ∷ []; current = None })
    → drop n ys ≡ placing σ docs d
unfolding document_stores
placing_recorded σ docs d xs ys n e f g =
    let before = placings σ docs in
    let next = doc_stores σ docs d in
    let front : xs ≡ pairs_of σ before = f ∙ ap (pairs_of σ) (append-nil before) in
    let all : ys ≡ pairs_of σ before ++ pairs_of σ next = g ∙ ap (pairs_of σ) (append-nil (placings σ (docs ++ d ∷ [])) ∙ placings_push σ docs d)
    ∙ map-append (λ (x : Store). (place σ x.0, x.1)) before next in
    ap (λ (k : ℕ). drop k ys) (e ∙ ap length front) ∙ ap (drop (length (pairs_of σ before))) all ∙ drop_front (pairs_of σ before) (pairs_of σ next)

-- where these documents are accepted and none is being placed, the placing of one more is left
pub left_behind : (m : Moment) (σ : Setting) (docs : List Doc) (d : Doc) (left : List (ℕ × ℕ)) → Holds m σ docs → IsDocument d → HasRoom σ docs d → left ≡ placing σ docs d → AreLeft m d left
left_behind m σ docs d left h is room e = record {
  limits = is;
  room = subst (λ (τ : Setting). HasRoom τ m.documents.accepted d) (sym h.setting) (subst (λ (z : List Doc). HasRoom σ z d) (sym h.accepted) room);
  current = subst (λ c. IsCurrent c d) (sym h.idle) tt;
  stores = e ∙ (λ i. drop (stores_done (sym h.idle i)) (placing (sym h.setting i) (sym h.accepted i) d));
}

-- what a pen recorded of a history with one more document is left of its placing, where words hold
-- the history
pub left_for : (m : Moment) (σ : Setting) (docs : List Doc) (d : Doc) (x y : RecordingPen) (p : PlacerProgress) (n : ℕ) (stores : List (ℕ × ℕ)) (after : Moment)
    → (a : HasAdded IsRecord x p (empty_moment σ) docs) → HasRoom a.moment.setting a.moment.documents.accepted d → IsAccepted a.moment after d → IsRecord y after
    → x.has_lost ≡ false → y.has_lost ≡ false → n ≡ length x.stores.items → stores ≡ y.stores.items → IsDocument d → Holds m σ docs → AreLeft m d (drop n stores)
left_for m σ docs d x y p n stores after a room is r none still e f k h =
    let was : a.moment.documents ≡ record { accepted = docs; current = None } = λ i. record { accepted = a.accepted i; current = a.placer.idle i } in
    let now : after.documents ≡ record { accepted = docs ++ d ∷ []; current = None } = is.documents ∙ ap (λ (z : List Doc). record { accepted = z ++ d ∷ []; current = None }) a.accepted in
    let first = a.port.stores none ∙ (λ i. pairs_of (sym a.setting i) (document_stores (sym a.setting i) (was i))) in
    let same : after.setting ≡ σ = sym (a.setting ∙ is.later.setting) in
    let all = f ∙ r.stores still ∙ (λ i. pairs_of (same i) (document_stores (same i) (now i))) in
    let there = subst (λ (τ : Setting). HasRoom τ docs d) (sym a.setting) (subst (λ (z : List Doc). HasRoom a.moment.setting z d) a.accepted room) in
    left_behind m σ docs d (drop n stores) h k there (placing_recorded σ docs d x.stores.items stores n e first all)
