-- The stores that pass a test, among all stores of a history: those of the tokens of one segment.
use Rattle.std.proofs.Common.{◌≡◌, ℕ, zero, suc, ◌+◌, ◌-◌, ◌==◌, Bool, true, false, List, [], ◌∷◌, ◌++◌, length, take, drop}
use Rattle.std.proofs.Common.{filter, count_by, cond, get_or, refl, ap, sym, ◌∙◌, subst, inl, inr, append-nil, append_assoc, Option, Some, None}
use Rattle.std.proofs.lemmas.Bool.{cases_Bool}
use Rattle.std.proofs.lemmas.List.{take-append-drop}
use Rattle.std.proofs.lemmas.List.Elements.{filter-append}
use Rattle.std.proofs.lemmas.List.Sums.{sum_by-append, length-filter}
use mathlib.Core.List.{IsPrefix}
use native.Mathlib.Decide.{ℕ_discrete}
use Rattle.eb_base.specs.Term.{Term}
use Rattle.eb_base.specs.Document.{Doc}
use Rattle.eb_base.specs.Setting.{Setting, IsSetting}
use Rattle.eb_place.specs.declared.moment.Moment.{Moment}
use Rattle.eb_place.specs.Layout.Slot.{published, slot}
use Rattle.eb_place.specs.Layout.Region.{first_region, id_region}
use Rattle.eb_place.specs.Postings.{posting_of, terms_of}
use Rattle.eb_place.specs.Room.{cut, with_doc, IsLawful}
use Rattle.eb_place.specs.Placing.{Store, token_stores, tokens_stores, stores_in, doc_stores}
use Rattle.eb_place.specs.Moments.{placings, placings_after, with_current, current_of, current_stores, document_stores, IsMoment}
use Rattle.eb_place.specs.Seen.{segment}
use Rattle.eb_place.proofs.TermCounts.{by_push}
use Rattle.eb_place.proofs.CutSegments.{cut_push}
use Rattle.eb_place.proofs.FreshPoolWords.{Each, Each-append}
use Rattle.eb_place.proofs.FreshPoolWords.Each.{none, more}
use Rattle.eb_place.proofs.StoresWithinTable.{IsWithin}
use Rattle.eb_place.proofs.WordsOfTokens.{Each-map}
use Rattle.eb_place.proofs.StoringTokens.{Each-front}
use Rattle.eb_place.proofs.WordsOfHistories.{goes, before_in, terms_push}
use Rattle.eb_place.proofs.StoresOfDocuments.{Elsewhere, doc_elsewhere, doc_within, first_stores, stores_split}
use Rattle.eb_place.proofs.WordsAtMoment.{placed_all, joins, placings_push, lawful_front, lawful_last}

-- where no element passes, none is kept
pub filter_none : {X : Type 0} (p : X → Bool) (xs : List X) → Each (λ y. p y ≡ false) xs → filter p xs ≡ []
filter_none p [] none = refl
filter_none p (x ∷ xs) (more h t) = rw h (filter_none p xs t)

-- where each passes, all are kept
pub filter_whole : {X : Type 0} (p : X → Bool) (xs : List X) → Each (λ y. p y ≡ true) xs → filter p xs ≡ xs
filter_whole p [] none = refl
filter_whole p (x ∷ xs) (more h t) = rw h (ap (λ z. x ∷ z) (filter_whole p xs t))

-- the counts of two lists add up
pub count_by-append : {X : Type 0} (p : X → Bool) (xs ys : List X) → count_by p (xs ++ ys) ≡ count_by p xs + count_by p ys
count_by-append p xs ys = sum_by-append (λ y. cond (p y) 1 0) xs ys

-- where no element passes the count is 0
pub count_none : {X : Type 0} (p : X → Bool) (xs : List X) → Each (λ y. p y ≡ false) xs → count_by p xs ≡ 0
count_none p xs h = sym (length-filter p xs) ∙ ap length (filter_none p xs h)

-- of the tokens of segment s exactly these stores pass the test, and of all other stores of a
-- history none
pub record Picks (σ : Setting) (s : ℕ) (p : Store → Bool) (of : List Term → List Store) : Type 0 where
  pub nothing : of [] ≡ []
  pub token : (ts : List Term) (u : Term) (x : ℕ) → of (ts ++ u ∷ []) ≡ of ts ++ filter p (token_stores σ s ts u x)
  pub first : (v : ℕ) → p (slot s first_region 0, v) ≡ false
  pub id : (i v : ℕ) → p (slot s id_region i, v) ≡ false
  pub count : (v : ℕ) → p (published, v) ≡ false
  pub elsewhere : (y : Store) → Elsewhere s y → p y ≡ false

-- further tokens
pub picks_tokens : (σ : Setting) (s : ℕ) (p : Store → Bool) (of : List Term → List Store) → Picks σ s p of
    → (n q : ℕ) (ts us : List Term) → of (ts ++ us) ≡ of ts ++ filter p (tokens_stores σ s n q ts us)
unfolding tokens_stores
picks_tokens σ s p of k n q ts [] = ap of (append-nil ts) ∙ sym (append-nil (of ts))
picks_tokens σ s p of k n q ts (u ∷ us) =
    let now : List Store = token_stores σ s ts u (posting_of n q) in
    let rest : List Store = tokens_stores σ s n (q + 1) (ts ++ u ∷ []) us in
    ap of (sym (append_assoc ts (u ∷ []) us)) ∙ picks_tokens σ s p of k n (q + 1) (ts ++ u ∷ []) us
    ∙ ap (λ z. z ++ filter p rest) (k.token ts u (posting_of n q))
    ∙ append_assoc (of ts) (filter p now) (filter p rest)
    ∙ ap (λ z. of ts ++ z) (sym (filter-append p now rest))

first_none : (p : Store → Bool) (s : ℕ) (seg : List Doc) (count : ℕ) → ((v : ℕ) → p (slot s first_region 0, v) ≡ false) → filter p (first_stores s seg count) ≡ []
unfolding first_stores
first_none p s seg count h = elim (cases_Bool (length seg == 0)) [
  | inl new ↦ rw new (filter_none p ((slot s first_region 0, count + 1) ∷ []) (more (h (count + 1)) none))
  | inr old ↦ rw old refl
]

-- one more document of the segment
pub picks_doc : (σ : Setting) (s : ℕ) (p : Store → Bool) (of : List Term → List Store) → Picks σ s p of
    → (seg : List Doc) (count : ℕ) (d : Doc) → of (terms_of seg ++ d.terms) ≡ of (terms_of seg) ++ filter p (stores_in σ s seg count d)
picks_doc σ s p of k seg count d =
    let F : List Store = first_stores s seg count in
    let T : List Store = tokens_stores σ s (length seg) 0 (terms_of seg) d.terms in
    let Z : List Store = (slot s id_region (length seg), d.id) ∷ (published, count + 1) ∷ [] in
    let e : filter p (stores_in σ s seg count d) ≡ filter p T =
    ap (filter p) (stores_split σ s seg count d) ∙ filter-append p F (T ++ Z) ∙ ap (λ z. z ++ filter p (T ++ Z)) (first_none p s seg count k.first)
    ∙ filter-append p T Z ∙ ap (λ z. filter p T ++ z) (filter_none p Z (more (k.id (length seg) d.id) (more (k.count (count + 1)) none))) ∙ append-nil (filter p T) in
    picks_tokens σ s p of k (length seg) 0 (terms_of seg) d.terms ∙ ap (λ z. of (terms_of seg) ++ z) (sym e)

terms_none : (s : ℕ) → terms_of (get_or {A = List Doc} [] s []) ≡ []
unfolding terms_of
terms_none zero = refl
terms_none (suc s) = refl

-- all stores of a history
pub picks_all : (σ : Setting) (s : ℕ) (p : Store → Bool) (of : List Term → List Store) → Picks σ s p of → (docs : List Doc) → filter p (placings σ docs) ≡ of (terms_of (get_or (cut σ docs) s []))
unfolding placings_after cut doc_stores
picks_all σ s p of k = by_push (λ docs. filter p (placings σ docs) ≡ of (terms_of (get_or (cut σ docs) s []))) (sym (ap of (terms_none s) ∙ k.nothing)) step
  where
    step : (docs : List Doc) (d : Doc) → filter p (placings σ docs) ≡ of (terms_of (get_or (cut σ docs) s []))
        → filter p (placings σ (docs ++ d ∷ [])) ≡ of (terms_of (get_or (cut σ (docs ++ d ∷ [])) s []))
    step docs d ih =
        let v = length (with_doc σ (cut σ docs) d) - 1 in
        let before = before_in σ (cut σ docs) d in
        let g = goes σ (cut σ docs) d in
        let c = cut_push σ docs d in
        let e : filter p (placings σ (docs ++ d ∷ [])) ≡ of (terms_of (get_or (cut σ docs) s [])) ++ filter p (stores_in σ v before (length docs) d) =
        ap (filter p) (placings_push σ docs d) ∙ filter-append p (placings σ docs) (doc_stores σ docs d) ∙ ap (λ z. z ++ filter p (stores_in σ v before (length docs) d)) ih in
        elim (ℕ_discrete s v) [
          | yes same ↦
              let old : get_or (cut σ docs) s [] ≡ before = ap (λ z. get_or (cut σ docs) z []) same ∙ g.old in
              let new : get_or (cut σ (docs ++ d ∷ [])) s [] ≡ before ++ d ∷ [] = ap (λ z. get_or z s []) c ∙ ap (λ z. get_or (with_doc σ (cut σ docs) d) z []) same ∙ g.here in
              e
              ∙ ap (λ z. of (terms_of z) ++ filter p (stores_in σ v before (length docs) d)) old
              ∙ ap (λ z. of (terms_of before) ++ filter p (stores_in σ z before (length docs) d)) (sym same)
              ∙ sym (picks_doc σ s p of k before (length docs) d)
              ∙ ap of (sym (terms_push before d))
              ∙ ap (λ z. of (terms_of z)) (sym new)
          | no other ↦
              e
              ∙ ap (λ z. of (terms_of (get_or (cut σ docs) s [])) ++ z)
              (filter_none p (stores_in σ v before (length docs) d) (Each-map k.elsewhere (doc_elsewhere σ v s before (length docs) d (λ w. other (sym w)))))
              ∙ append-nil (of (terms_of (get_or (cut σ docs) s [])))
              ∙ ap (λ z. of (terms_of z)) (sym (g.other s other))
              ∙ ap (λ z. of (terms_of (get_or z s []))) (sym c)
        ]

-- ---- at a moment

-- what is done is a prefix of the stores of the whole history
pub started_stores : (σ : Setting) (docs : List Doc) (c : Option (Doc × ℕ)) → IsPrefix (placings σ docs ++ current_stores σ docs c) (placings σ (docs ++ current_of c))
started_stores σ docs None = ([], append-nil (placings σ docs ++ []) ∙ append-nil (placings σ docs) ∙ ap (placings σ) (sym (append-nil docs)))
started_stores σ docs (Some c) = (
  drop c.1 (doc_stores σ docs c.0),
  append_assoc (placings σ docs) (take c.1 (doc_stores σ docs c.0)) (drop c.1 (doc_stores σ docs c.0))
      ∙ ap (λ z. placings σ docs ++ z) (take-append-drop c.1 (doc_stores σ docs c.0)) ∙ sym (placings_push σ docs c.0),
)

-- of a prefix, the kept ones are a prefix
pub filter_prefix : {X : Type 0} (p : X → Bool) (xs ys : List X) → IsPrefix xs ys → IsPrefix (filter p xs) (filter p ys)
filter_prefix p xs ys h = (filter p h.0, sym (filter-append p xs h.0) ∙ ap (filter p) h.1)

-- those that are done of the stores that pass
pub picks_done : (m : Moment) (s : ℕ) (p : Store → Bool) (of : List Term → List Store) → Picks m.setting s p of
    → IsPrefix (filter p (document_stores m.setting m.documents)) (of (terms_of (segment m s)))
unfolding document_stores
picks_done m s p of k = subst (IsPrefix (filter p (document_stores m.setting m.documents))) (picks_all m.setting s p of k (with_current m.documents))
    (filter_prefix p (document_stores m.setting m.documents) (placings m.setting (with_current m.documents)) (started_stores m.setting m.documents.accepted m.documents.current))

-- ---- within the table

within_after : (σ : Setting) (ys zs : List Doc) → IsSetting σ → IsLawful σ (ys ++ zs) → Each (IsWithin σ) (placings_after σ ys zs)
unfolding placings_after
within_after σ ys [] k h = none
within_after σ ys (z ∷ zs) k h =
    let e : (ys ++ z ∷ []) ++ zs ≡ ys ++ (z ∷ zs) = append_assoc ys (z ∷ []) zs in
    let h' : IsLawful σ ((ys ++ z ∷ []) ++ zs) = subst (IsLawful σ) (sym e) h in
    let one = lawful_front σ (ys ++ z ∷ []) zs h' in
    let j = joins σ ys z k (placed_all σ ys k (lawful_front σ ys (z ∷ []) one)).short (lawful_last σ ys z one) in
    Each-append (subst (Each (IsWithin σ)) (sym j.stores) (doc_within σ _ _ (length ys) z j.room j.few)) (within_after σ (ys ++ z ∷ []) zs k h')

-- the stores of a lawful history are within the index
pub placings_within : (σ : Setting) (docs : List Doc) → IsSetting σ → IsLawful σ docs → Each (IsWithin σ) (placings σ docs)
placings_within σ docs k h = within_after σ [] docs k h

-- and so are those that are done at a moment
pub moment_within : (m : Moment) → IsMoment m → Each (IsWithin m.setting) (document_stores m.setting m.documents)
unfolding document_stores
moment_within m is =
    let p = started_stores m.setting m.documents.accepted m.documents.current in
    Each-front (document_stores m.setting m.documents) p.0 (subst (Each (IsWithin m.setting)) (sym p.1) (placings_within m.setting (with_current m.documents) is.setting is.lawful))
