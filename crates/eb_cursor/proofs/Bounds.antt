-- Bounds on ids: documents whose id is greater.
use Rattle.std.proofs.Common.{◌≡◌, ℕ, zero, suc, ◌-◌, ◌<◌, ◌≤◌, min, List, [], ◌∷◌, length, get_or, set, slice_get, Some, refl, sym, ap, ◌∙◌, subst, arith}
use Rattle.std.proofs.lemmas.Bool.{lt-ltb, le-ltb}
use Rattle.std.proofs.lemmas.List.{get_or-map}
use Rattle.std.proofs.lemmas.Option.{get_or_from_slice_get}
use mathlib.Core.List.{IsPrefix}
use Rattle.eb_place.proofs.NextStore.{accepted_lawful}
use Rattle.eb_base.specs.Document.{Doc}
use Rattle.eb_base.specs.Query.{since}
use Rattle.eb_place.specs.declared.moment.Moment.{Moment}
use Rattle.eb_place.specs.Layout.{place}
use Rattle.eb_place.specs.Layout.Slot.{slot}
use Rattle.eb_place.specs.Layout.Region.{id_region}
use Rattle.eb_place.specs.Moments.{IsMoment, word}
use Rattle.eb_place.proofs.IdWords.{word_id}
use Rattle.eb_place.proofs.WordsAtMoment.{placed_all}
use Rattle.eb_place.proofs.Prefixes.{prefix_get, prefix_length}
use Rattle.eb_cursor.specs.Accepted.{accepted_in, AreFirst}
use Rattle.eb_cursor.specs.Lists.{Gives}
use Rattle.eb_cursor.specs.Loads.{ahead}
use Rattle.eb_cursor.specs.Posted.{doc_at, match_at}
use Rattle.eb_cursor.specs.Ready.{IsPassed, IsBound, IsOnlyBound}
use Rattle.eb_cursor.specs.Tops.{top}
use Rattle.eb_cursor.specs.declared.cursor.Cursor.{Cursor}
use Rattle.eb_cursor.proofs.Steps.{passed_min, passed_again}
use Rattle.eb_cursor.proofs.Tops.{top_le, top_here, top_past, top_twice}

-- ---- ids

-- a document of a segment lies in the table
pub record IsLow (m : Moment) (s i : ℕ) : Type 0 where
  pub segment : s < m.setting.segments
  pub document : i < m.setting.docs

pub first_prefix : (m : Moment) (s : ℕ) (docs : List Doc) → AreFirst m s docs → IsPrefix docs (accepted_in m s)
first_prefix m s docs a = (a.rest, sym a.are)

pub first_is_low : (m : Moment) (s i : ℕ) (docs : List Doc) → IsMoment m → i < length docs → AreFirst m s docs → IsLow m s i
first_is_low m s i docs is h a =
    let placed = placed_all m.setting m.documents.accepted is.setting (accepted_lawful m is) in
    record { segment = a.inside; document = omega (arith, placed.few s, prefix_length docs (accepted_in m s) (first_prefix m s docs a)) }

-- the id word of one of the first accepted documents of a segment
pub loaded_first : (m : Moment) (s i w : ℕ) (docs : List Doc) (d : Doc) → IsMoment m → AreFirst m s docs → slice_get docs i ≡ Some d → i < length docs
    → w ≡ word m (place m.setting (slot s id_region i)) → w ≡ d.id
loaded_first m s i w docs d is a there h e =
    let p = first_prefix m s docs a in
    let long = prefix_length docs (accepted_in m s) p in
    e ∙ word_id m s i is a.inside (omega arith) ∙ get_or-map {X = Doc} (λ x. x.id) (accepted_in m s) i d 0 (omega arith)
    ∙ ap (λ (x : Doc). x.id) (get_or_from_slice_get (accepted_in m s) i d d (prefix_get docs (accepted_in m s) i d p there))

there_at : (docs : List Doc) (i : ℕ) → i < length docs → slice_get docs i ≡ Some (doc_at docs i)
there_at [] i h = absurd (omega arith)
there_at (d ∷ ds) zero h = refl
there_at (d ∷ ds) (suc i) h = there_at ds i (omega arith)

pub loaded_at : (m : Moment) (s i w : ℕ) (docs : List Doc) → IsMoment m → AreFirst m s docs → i < length docs → w ≡ word m (place m.setting (slot s id_region i)) → w ≡ (doc_at docs i).id
loaded_at m s i w docs is a h e = loaded_first m s i w docs (doc_at docs i) is a (there_at docs i h) h e

-- ---- the greatest document whose id is greater

pub since_here : (docs : List Doc) (x place id : ℕ) → 0 < place → id ≡ (doc_at docs (place - 1)).id → x < id → place ≡ top (match_at docs (since x)) place
since_here docs x zero id h e more = absurd (omega arith)
since_here docs x (suc n) id h e more =
    let m : suc n - 1 ≡ n = omega arith in
    let at : id ≡ (doc_at docs n).id = e ∙ ap (λ (k : ℕ). (doc_at docs k).id) m in
    sym (top_here (match_at docs (since x)) n (lt-ltb x (doc_at docs n).id (omega (arith, at, more))))

pub since_past : (docs : List Doc) (x place id : ℕ) → 0 < place → id ≡ (doc_at docs (place - 1)).id → id ≤ x → top (match_at docs (since x)) place ≡ top (match_at docs (since x)) (place - 1)
since_past docs x zero id h e less = absurd (omega arith)
since_past docs x (suc n) id h e less =
    let m : suc n - 1 ≡ n = omega arith in
    let at : id ≡ (doc_at docs n).id = e ∙ ap (λ (k : ℕ). (doc_at docs k).id) m in
    top_past (match_at docs (since x)) n (le-ltb x (doc_at docs n).id (omega (arith, at, less))) ∙ ap (top (match_at docs (since x))) (sym m)

-- ---- the cursor

-- nothing is left to pass, or the last document is known to match
pub bound_known : (g : Gives) (docs : List Doc) (x : ℕ) (s : Cursor) (start end last : ℕ) → start ≡ min end s.upto → end ≤ last → (0 < start → ahead s.current < start)
    → IsBound g docs x s last → start ≡ top (match_at docs (since x)) end
bound_known g docs x s start end last m h low r =
    go start m low
  where
    go : (n : ℕ) → n ≡ min end s.upto → (0 < n → ahead s.current < n) → n ≡ top (match_at docs (since x)) end
    go zero i k = ap (top (match_at docs (since x))) i ∙ passed_min (match_at docs (since x)) s.upto end last h r.passed
    go (suc n) i k =
        let under : ahead s.current < suc n = k (omega arith) in
        let near : s.upto ≤ suc (ahead s.current) = r.near in
        let at : suc n ≡ s.upto = omega (arith, under, near, i) in
        let known : ahead s.current < s.upto = omega (arith, under, at) in
        at ∙ sym (r.known known) ∙ ap (top (match_at docs (since x))) (sym at ∙ i) ∙ passed_min (match_at docs (since x)) s.upto end last h r.passed

-- what was found below the start
pub bound_found : (g g' : Gives) (docs : List Doc) (x : ℕ) (s s' : Cursor) (start end last found : ℕ)
    → start ≡ min end s.upto → end ≤ last → found ≡ top (match_at docs (since x)) start → s'.upto ≡ found → s'.segment ≡ s.segment → ahead s'.current ≡ found - 1
    → g'.firsts s.segment docs → IsBound g docs x s last
    → (found ≡ top (match_at docs (since x)) end) × IsBound g' docs x s' end
bound_found g g' docs x s s' start end last found m h told upto segment ahead_is first r =
    let top_is : found ≡ top (match_at docs (since x)) end = told ∙ ap (top (match_at docs (since x))) m ∙ passed_min (match_at docs (since x)) s.upto end last h r.passed in
    let twice : top (match_at docs (since x)) found ≡ found = ap (top (match_at docs (since x))) top_is ∙ top_twice (match_at docs (since x)) end ∙ sym top_is in (
      top_is,
      record {
        passed = subst (λ y. IsPassed (match_at docs (since x)) y end) (sym upto) (passed_again (match_at docs (since x)) found end top_is);
        firsts = λ some. subst (λ y. g'.firsts y docs) (sym segment) first;
        within = omega (arith, upto, told, top_le (match_at docs (since x)) start, m, r.within);
        near = omega (arith, upto, ahead_is);
        low = omega (arith, upto, ahead_is);
        known = λ low. subst (λ y. top (match_at docs (since x)) y ≡ y) (sym upto) twice;
      },
    )

pub since_asks : (g : Gives) (docs : List Doc) (x : ℕ) (cursors : List Cursor) (d : Cursor) (last : ℕ) → IsOnlyBound g docs x cursors last → IsBound g docs x (get_or cursors 0 d) last
since_asks g docs x [] d last r = absurd r
since_asks g docs x (s ∷ ss) d last r = r.1

pub since_told : (g g' : Gives) (docs : List Doc) (x : ℕ) (cursors : List Cursor) (s' : Cursor) (end last : ℕ) → IsBound g' docs x s' end → IsOnlyBound g docs x cursors last
    → IsOnlyBound g' docs x (set cursors 0 s') end
since_told g g' docs x [] s' end last b r = absurd r
since_told g g' docs x (s ∷ ss) s' end last b r = (r.0, b)

pub since_some : (g : Gives) (docs : List Doc) (x : ℕ) (cursors : List Cursor) (last : ℕ) → IsOnlyBound g docs x cursors last → 0 < length cursors
since_some g docs x [] last r = absurd r
since_some g docs x (s ∷ ss) last r = omega arith
