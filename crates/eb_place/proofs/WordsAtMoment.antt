-- The words of each segment at a moment.
use Rattle.std.proofs.Common.{◌≡◌, ◌≢◌, ℕ, zero, suc, ◌-◌, ◌^◌, ◌<◌, ◌≤◌, ◌||◌, Bool, true, false, List, [], ◌∷◌, ◌++◌, length, take, get_or}
use Rattle.std.proofs.Common.{refl, ap, sym, ◌∙◌, subst, arith, inl, inr, nat_lt, append-nil, append_assoc, lit<, Option, Some, None}
use Rattle.std.proofs.lemmas.Bool.{ltb-true}
use Rattle.std.proofs.lemmas.List.{length_push, length-append, take_at, take-append-le, get_or_append_left}
use Rattle.std.proofs.Math.Seq.{get_or-append_seam}
use Rattle.std.proofs.Math.Nat.{pow-le-pow_right}
use native.Mathlib.Decide.{ℕ_discrete}
use Rattle.eb_base.specs.Term.{Term}
use Rattle.eb_base.specs.Document.{Doc, IsDocument}
use Rattle.eb_base.specs.Setting.{Setting, IsSetting, least_power, greatest_power}
use Rattle.eb_place.specs.declared.moment.Documents.{Documents}
use Rattle.eb_place.specs.Postings.{count_of, distinct, terms_of}
use Rattle.eb_place.specs.Room.{fits, with_doc, cut, last_of, has_room, IsLawful}
use Rattle.eb_place.specs.Layout.{pool_slices}
use Rattle.eb_place.specs.Address.{begun_after}
use Rattle.eb_place.specs.Placing.{Store, stores_in, doc_stores}
use Rattle.eb_place.specs.Moments.{placings, placings_after, value_after, with_current, current_of, document_stores}
use Rattle.eb_place.proofs.LawfulHistories.{rooms_at, rooms_by}
use Rattle.eb_place.proofs.TermCounts.{count_of-nil}
use Rattle.eb_place.proofs.CutSegments.{cut_push, with_doc_last}
use Rattle.eb_place.proofs.FreshPoolWords.{Each, Each-append}
use Rattle.eb_place.proofs.FreshPoolWords.Each.{none, more}
use Rattle.eb_place.proofs.StoresWithinTable.{SegmentFits}
use Rattle.eb_place.proofs.WordsOfTokens.{Reached, Room, reached_keeps, Each-take}
use Rattle.eb_place.proofs.WordsOfHistories.{goes, before_in, holds_fits, holds_here, terms_push, posting_numbers, agrees_doc, posting_front}
use Rattle.eb_place.proofs.StoresOfDocuments.{doc_apart, doc_within, doc_done, doc_begun}

-- the closed form goes by the postings that are stored alone
pub reached_same : (σ : Setting) (s : ℕ) (ts : List Term) (P Q : Term → ℕ → ℕ) (L : List Store) → ((t : Term) (f : ℕ) → f < count_of t ts → P t f ≡ Q t f) → Reached σ s ts P L → Reached σ s ts Q L
reached_same σ s ts P Q L e h = record { post = λ t f l. h.post t f l ∙ e t f l; link = h.link; tail = h.tail; bare = h.bare; done = h.done; idle = h.idle }

-- the setting is large enough and not too large
pub setting_terms : (σ : Setting) → IsSetting σ → (1 ≤ σ.terms) × (σ.terms ≤ 2 ^ 20)
setting_terms σ k =
    let n = k.terms.0 in
    let low : 2 ^ least_power ≤ 2 ^ n = pow-le-pow_right (lit< tt) k.terms.1 in
    let high : 2 ^ n ≤ 2 ^ greatest_power = pow-le-pow_right (lit< tt) k.terms.2 in
    (omega (arith, low, k.terms.3), omega (arith, high, k.terms.3))

placings_after-append : (σ : Setting) (before xs ys : List Doc) → placings_after σ before (xs ++ ys) ≡ placings_after σ before xs ++ placings_after σ (before ++ xs) ys
unfolding placings_after
placings_after-append σ before [] ys = ap (λ (b : List Doc). placings_after σ b ys) (sym (append-nil before))
placings_after-append σ before (x ∷ xs) ys =
    let a : (before ++ x ∷ []) ++ xs ≡ before ++ (x ∷ xs) = append_assoc before (x ∷ []) xs in
    ap (λ (z : List Store). doc_stores σ before x ++ z) (placings_after-append σ (before ++ x ∷ []) xs ys ∙ ap (λ (b : List Doc). placings_after σ (before ++ x ∷ []) xs ++ placings_after σ b ys) a)
    ∙ sym (append_assoc (doc_stores σ before x) (placings_after σ (before ++ x ∷ []) xs) (placings_after σ (before ++ (x ∷ xs)) ys))

-- the placings of two lists follow each other
pub placings-append : (σ : Setting) (xs ys : List Doc) → placings σ (xs ++ ys) ≡ placings σ xs ++ placings_after σ xs ys
placings-append σ xs ys = placings_after-append σ [] xs ys

-- the stores of one more document come after
pub placings_push : (σ : Setting) (docs : List Doc) (d : Doc) → placings σ (docs ++ d ∷ []) ≡ placings σ docs ++ doc_stores σ docs d
unfolding placings_after
placings_push σ docs d = placings_after-append σ [] docs (d ∷ []) ∙ ap (λ (z : List Store). placings σ docs ++ z) (append-nil (doc_stores σ docs d))

-- the words after a history
pub record Placed (σ : Setting) (docs : List Doc) : Type 0 where
  pub short : length (cut σ docs) ≤ σ.segments
  pub room : (s : ℕ) → s < σ.segments → Room σ s (terms_of (get_or (cut σ docs) s []))
  pub reached : (s : ℕ) → s < σ.segments → Reached σ s (terms_of (get_or (cut σ docs) s [])) (posting_numbers (get_or (cut σ docs) s [])) (placings σ docs)
  pub limits : (s : ℕ) → Each IsDocument (get_or (cut σ docs) s [])
  pub few : (s : ℕ) → length (get_or (cut σ docs) s []) ≤ σ.docs

pub get_none : (s : ℕ) → get_or {A = List Doc} [] s [] ≡ []
get_none zero = refl
get_none (suc s) = refl

-- the closed form without a document
pub placed_nothing : (σ : Setting) → IsSetting σ → Placed σ []
unfolding cut placings_after terms_of distinct value_after begun_after
placed_nothing σ k =
    let b = setting_terms σ k in
    record {
      short = omega arith;
      room = λ s h. subst (λ (z : List Doc). Room σ s (terms_of z)) (sym (get_none s))
          (record { inside = h; small = b.1; some = b.0; fits = record { few = omega arith; texts = omega arith; slices = λ p l. nothing_begun p } });
      reached = λ s h. subst (λ (z : List Doc). Reached σ s (terms_of z) (posting_numbers z) []) (sym (get_none s)) (record {
        post = λ t f l. absurd (omega (arith, count_of-nil t));
        link = λ t f l b o. absurd (omega (arith, count_of-nil t));
        tail = λ t l. absurd (omega (arith, count_of-nil t));
        bare = λ k l o. refl;
        done = λ t l. absurd (omega (arith, count_of-nil t));
        idle = λ k l o. refl;
      });
      limits = λ s. subst (Each IsDocument) (sym (get_none s)) none;
      few = λ s. omega (arith, ap length (get_none s));
    }
  where
    nothing_begun : (p : ℕ) → Rattle.eb_place.specs.Address.slices_begun p [] ≤ pool_slices σ p
    nothing_begun p = omega arith

-- what one more document needs
pub record Fitting (σ : Setting) (docs : List Doc) (d : Doc) : Type 0 where
  pub limits : IsDocument d
  pub there : has_room σ docs d ≡ true

most_segments : (σ : Setting) (segs : List (List Doc)) (d : Doc) → IsSetting σ → length segs ≤ σ.segments
    → (nat_lt (length segs) σ.segments || fits σ (last_of segs) d) ≡ true → length (with_doc σ segs d) ≤ σ.segments
most_segments σ [] d k short r = k.segments.0
most_segments σ (x ∷ segs) d k short r = elim (with_doc_last σ x segs d) [
  | inl w ↦ omega (arith, w.1)
  | inr w ↦ let r' : (nat_lt (length (x ∷ segs)) σ.segments || false) ≡ true = rw w.0 at r in omega (arith, w.1, ltb-true _ _ (one_side (nat_lt (length (x ∷ segs)) σ.segments) r'))
]
  where
    one_side : (b : Bool) → (b || false) ≡ true → b ≡ true
    one_side true e = refl
    one_side false e = e

-- the segment of one more document
pub record Joins (σ : Setting) (docs : List Doc) (d : Doc) (s : ℕ) (before : List Doc) : Type 0 where
  pub inside : s < σ.segments
  pub short : length (cut σ (docs ++ d ∷ [])) ≤ σ.segments
  pub here : get_or (cut σ (docs ++ d ∷ [])) s [] ≡ before ++ d ∷ []
  pub old : get_or (cut σ docs) s [] ≡ before
  pub other : (v : ℕ) → v ≢ s → get_or (cut σ (docs ++ d ∷ [])) v [] ≡ get_or (cut σ docs) v []
  pub stores : doc_stores σ docs d ≡ stores_in σ s before (length docs) d
  pub room : Room σ s (terms_of before ++ d.terms)
  pub few : length before < σ.docs

-- which segment a document that has room joins, and what is known of it
pub joins : (σ : Setting) (docs : List Doc) (d : Doc) → IsSetting σ → length (cut σ docs) ≤ σ.segments
    → Fitting σ docs d → Joins σ docs d (length (with_doc σ (cut σ docs) d) - 1) (before_in σ (cut σ docs) d)
unfolding has_room doc_stores
joins σ docs d k short f =
    let segs = cut σ docs in
    let g = goes σ segs d in
    let e = cut_push σ docs d in
    let most = most_segments σ segs d k short f.there in
    let m = g.most in
    let low : length (with_doc σ segs d) - 1 < σ.segments = omega arith in
    let h = holds_fits σ (before_in σ segs d ++ d ∷ []) (holds_here σ segs d k f.limits) in
    let b = setting_terms σ k in
    record {
      inside = low;
      short = omega (arith, ap length e);
      here = ap (λ z. get_or z (length (with_doc σ segs d) - 1) []) e ∙ g.here;
      old = g.old;
      other = λ v o. ap (λ z. get_or z v []) e ∙ g.other v o;
      stores = refl;
      room = record { inside = low; small = b.1; some = b.0; fits = subst (SegmentFits σ) (terms_push (before_in σ segs d) d) h.0 };
      few = omega (arith, h.1, length_push (before_in σ segs d) d);
    }

-- the closed form with one more document
pub placed_push : (σ : Setting) (docs : List Doc) (d : Doc) → IsSetting σ → Fitting σ docs d → Placed σ docs → Placed σ (docs ++ d ∷ [])
placed_push σ docs d k f h = by (length (with_doc σ (cut σ docs) d) - 1) (before_in σ (cut σ docs) d) (joins σ docs d k h.short f)
  where
    by : (s : ℕ) (before : List Doc) → Joins σ docs d s before → Placed σ (docs ++ d ∷ [])
    by s before j =
        let new = docs ++ d ∷ [] in
        let e = placings_push σ docs d ∙ ap (λ z. placings σ docs ++ z) j.stores in
        let t : terms_of (get_or (cut σ new) s []) ≡ terms_of before ++ d.terms = ap terms_of j.here ∙ terms_push before d in
        record {
          short = j.short;
          room = λ v l. elim (ℕ_discrete v s) [
            | yes q ↦ subst (λ z. Room σ z (terms_of (get_or (cut σ new) z []))) (sym q) (subst (Room σ s) (sym t) j.room)
            | no q ↦ subst (λ z. Room σ v (terms_of z)) (sym (j.other v q)) (h.room v l)
          ];
          reached = λ v l. elim (ℕ_discrete v s) [
            | yes q ↦ subst (λ z. Reached σ z (terms_of (get_or (cut σ new) z [])) (posting_numbers (get_or (cut σ new) z [])) (placings σ new)) (sym q)
                (subst (λ z. Reached σ s (terms_of z) (posting_numbers z) (placings σ new)) (sym j.here)
                (subst (λ z. Reached σ s z (posting_numbers (before ++ d ∷ [])) (placings σ new)) (sym (terms_push before d))
                (subst (Reached σ s (terms_of before ++ d.terms) (posting_numbers (before ++ d ∷ []))) (sym e)
                (doc_done σ s before (length docs) d (posting_numbers (before ++ d ∷ [])) (placings σ docs) j.room j.few (agrees_doc before d)
                (here_before s before j)))))
            | no q ↦ subst (λ z. Reached σ v (terms_of z) (posting_numbers z) (placings σ new)) (sym (j.other v q))
                (subst (Reached σ v (terms_of (get_or (cut σ docs) v [])) (posting_numbers (get_or (cut σ docs) v []))) (sym e)
                (reached_keeps σ v (terms_of (get_or (cut σ docs) v [])) (posting_numbers (get_or (cut σ docs) v [])) (placings σ docs) (stores_in σ s before (length docs) d) (h.room v l)
                (doc_within σ s before (length docs) d j.room j.few) (doc_apart σ s v before (length docs) d (terms_of (get_or (cut σ docs) v [])) (λ w. q (sym w))) (h.reached v l)))
          ];
          limits = λ v. elim (ℕ_discrete v s) [
            | yes q ↦
                subst (λ z. Each IsDocument (get_or (cut σ new) z [])) (sym q) (subst (Each IsDocument) (sym j.here) (Each-append (subst (Each IsDocument) j.old (h.limits s)) (more f.limits none)))
            | no q ↦ subst (Each IsDocument) (sym (j.other v q)) (h.limits v)
          ];
          few = λ v. elim (ℕ_discrete v s) [
            | yes q ↦ subst (λ z. length (get_or (cut σ new) z []) ≤ σ.docs) (sym q) (omega (arith, ap length j.here, length_push before d, j.few))
            | no q ↦ subst (λ z. length z ≤ σ.docs) (sym (j.other v q)) (h.few v)
          ];
        }
      where
        here_before : (s : ℕ) (before : List Doc) → Joins σ docs d s before → Reached σ s (terms_of before) (posting_numbers (before ++ d ∷ [])) (placings σ docs)
        here_before s before j = reached_same σ s (terms_of before) (posting_numbers before) (posting_numbers (before ++ d ∷ [])) (placings σ docs) (λ t f l. sym (posting_front before (d ∷ []) t f l))
            (subst (λ z. Reached σ s (terms_of z) (posting_numbers z) (placings σ docs)) j.old (h.reached s j.inside))

-- ---- a lawful history

-- and with further ones
pub placed_after : (σ : Setting) (ys zs : List Doc) → IsSetting σ → IsLawful σ (ys ++ zs) → Placed σ ys → Placed σ (ys ++ zs)
placed_after σ ys [] k h p = subst (Placed σ) (sym (append-nil ys)) p
placed_after σ ys (z ∷ zs) k h p =
    let e : (ys ++ z ∷ []) ++ zs ≡ ys ++ (z ∷ zs) = append_assoc ys (z ∷ []) zs in
    let n = length-append ys (z ∷ zs) in
    let here : length ys < length (ys ++ (z ∷ zs)) = omega arith in
    let at : get_or (ys ++ (z ∷ zs)) (length ys) z ≡ z = get_or-append_seam ys z zs z in
    let limits : IsDocument z = subst IsDocument at (h.documents (length ys) z here) in
    let there : has_room σ ys z ≡ true = subst (λ (w : List Doc). has_room σ w z ≡ true) (take_at ys (z ∷ zs) (length ys) refl)
    (subst (λ (w : Doc). has_room σ (take (length ys) (ys ++ (z ∷ zs))) w ≡ true) at (rooms_at σ (ys ++ (z ∷ zs)) h (length ys) z here)) in
    subst (Placed σ) e (placed_after σ (ys ++ z ∷ []) zs k (subst (IsLawful σ) (sym e) h) (placed_push σ ys z k (record { limits = limits; there = there }) p))

-- the closed form of a lawful history
pub placed_all : (σ : Setting) (docs : List Doc) → IsSetting σ → IsLawful σ docs → Placed σ docs
placed_all σ docs k h = placed_after σ [] docs k h (placed_nothing σ k)

-- a prefix of a lawful history is lawful
pub lawful_front : (σ : Setting) (xs ys : List Doc) → IsLawful σ (xs ++ ys) → IsLawful σ xs
lawful_front σ xs ys h = record {
  documents = λ i d l. subst IsDocument (get_or_append_left xs ys d i l) (h.documents i d (omega (arith, length-append xs ys)));
  rooms = rooms_by σ xs (λ i d l. subst (λ (w : List Doc). has_room σ w (get_or xs i d) ≡ true) (take-append-le i xs ys (omega arith))
      (subst (λ (w : Doc). has_room σ (take i (xs ++ ys)) w ≡ true) (get_or_append_left xs ys d i l) (rooms_at σ (xs ++ ys) h i d (omega (arith, length-append xs ys)))));
}

-- its last document is within the limits and has room
pub lawful_last : (σ : Setting) (xs : List Doc) (d : Doc) → IsLawful σ (xs ++ d ∷ []) → Fitting σ xs d
lawful_last σ xs d h =
    let here : length xs < length (xs ++ d ∷ []) = omega (arith, length_push xs d) in
    let at : get_or (xs ++ d ∷ []) (length xs) d ≡ d = get_or-append_seam xs d [] d in
    record {
      limits = subst IsDocument at (h.documents (length xs) d here);
      there = subst (λ (w : List Doc). has_room σ w d ≡ true) (take_at xs (d ∷ []) (length xs) refl)
          (subst (λ (w : Doc). has_room σ (take (length xs) (xs ++ d ∷ [])) w ≡ true) at (rooms_at σ (xs ++ d ∷ []) h (length xs) d here));
    }

-- ---- a moment

-- the words of a segment where some of its tokens are stored
pub record Words (σ : Setting) (x : Documents) (s : ℕ) : Type 0 where
  pub stored : List Term
  pub left : List Term
  pub all : terms_of (get_or (cut σ (with_current x)) s []) ≡ stored ++ left
  pub room : Room σ s (terms_of (get_or (cut σ (with_current x)) s []))
  pub reached : Reached σ s stored (posting_numbers (get_or (cut σ (with_current x)) s [])) (document_stores σ x)

-- the closed form with a document that is being placed
pub words : (σ : Setting) (docs : List Doc) (c : Option (Doc × ℕ)) (s : ℕ) → IsSetting σ → IsLawful σ (docs ++ current_of c) → s < σ.segments → Words σ record { accepted = docs; current = c } s
unfolding document_stores
words σ docs None s k h l =
    let e : docs ++ [] ≡ docs = append-nil docs in
    let p = placed_all σ (docs ++ []) k h in
    record {
      stored = terms_of (get_or (cut σ (docs ++ [])) s []);
      left = [];
      all = sym (append-nil (terms_of (get_or (cut σ (docs ++ [])) s [])));
      room = p.room s l;
      reached = subst (Reached σ s (terms_of (get_or (cut σ (docs ++ [])) s [])) (posting_numbers (get_or (cut σ (docs ++ [])) s []))) (ap (placings σ) e
          ∙ sym (append-nil (placings σ docs))) (p.reached s l);
    }
words σ docs (Some c) s k h l =
    let p = placed_all σ docs k (lawful_front σ docs (c.0 ∷ []) h) in
    let q = placed_all σ (docs ++ c.0 ∷ []) k h in
    by (length (with_doc σ (cut σ docs) c.0) - 1) (before_in σ (cut σ docs) c.0) p q (joins σ docs c.0 k p.short (lawful_last σ docs c.0 h))
  where
    by : (v : ℕ) (before : List Doc) → Placed σ docs → Placed σ (docs ++ c.0 ∷ []) → Joins σ docs c.0 v before → Words σ record { accepted = docs; current = Some c } s
    by v before p q j = elim (ℕ_discrete s v) [
      | yes same ↦
          let P = posting_numbers (before ++ c.0 ∷ []) in
          let h0 = reached_same σ v (terms_of before) (posting_numbers before) P (placings σ docs) (λ t f o. sym (posting_front before (c.0 ∷ []) t f o))
          (subst (λ z. Reached σ v (terms_of z) (posting_numbers z) (placings σ docs)) j.old (p.reached v j.inside)) in
          let b = doc_begun σ v before (length docs) c.0 P (placings σ docs) c.1 j.room j.few (agrees_doc before c.0) h0 in
          subst (Words σ record { accepted = docs; current = Some c }) (sym same) (record {
            stored = terms_of before ++ b.stored;
            left = b.left;
            all = ap terms_of j.here ∙ terms_push before c.0 ∙ ap (λ z. terms_of before ++ z) b.all ∙ sym (append_assoc (terms_of before) b.stored b.left);
            room = q.room v j.inside;
            reached = subst (λ z. Reached σ v (terms_of before ++ b.stored) (posting_numbers z) (placings σ docs ++ take c.1 (doc_stores σ docs c.0))) (sym j.here)
                (subst (λ z. Reached σ v (terms_of before ++ b.stored) P (placings σ docs ++ take c.1 z)) (sym j.stores) b.reached);
          })
      | no other ↦
          let seg = get_or (cut σ docs) s [] in
          let o = j.other s other in
          record {
            stored = terms_of seg;
            left = [];
            all = ap terms_of o ∙ sym (append-nil (terms_of seg));
            room = q.room s l;
            reached = subst (λ z. Reached σ s (terms_of seg) (posting_numbers z) (placings σ docs ++ take c.1 (doc_stores σ docs c.0))) (sym o)
                (subst (λ z. Reached σ s (terms_of seg) (posting_numbers seg) (placings σ docs ++ take c.1 z)) (sym j.stores)
                (reached_keeps σ s (terms_of seg) (posting_numbers seg) (placings σ docs) (take c.1 (stores_in σ v before (length docs) c.0)) (p.room s l)
                (Each-take c.1 (doc_within σ v before (length docs) c.0 j.room j.few)) (Each-take c.1 (doc_apart σ v s before (length docs) c.0 (terms_of seg) (λ w. other (sym w)))) (p.reached s l)));
          }
    ]
