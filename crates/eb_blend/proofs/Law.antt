-- The law of a blend.
use Rattle.std.proofs.Common.{◌≡◌, ◌≢◌, ℕ, zero, suc, ◌+◌, ◌-◌, ◌%◌, ◌<◌, ◌≤◌, ◌==◌, inl, inr, Bool, cond, true}
use Rattle.std.proofs.Common.{false, List, [], ◌∷◌, ◌++◌, length, take, map, refl, ap, sym, ◌∙◌, subst, arith, append-nil, append_assoc}
use Rattle.std.proofs.lemmas.Bool.{cases_Bool, cases_eq, eq-eqb}
use Rattle.std.proofs.lemmas.Bool.Decides.{eqb_tells}
use Rattle.std.proofs.Math.Nat.{mod-lt}
use Rattle.std.proofs.lemmas.List.Elements.{filter-append}
use Rattle.std.proofs.Math.Seq.{take-length}
use Rattle.std.specs.List.{All, range_with_len, filter}
use Rattle.std.proofs.lemmas.List.Elements.{All-nil, All-cons, All-head, All-tail}
use Rattle.eb_base.specs.Document.{Doc}
use Rattle.eb_base.specs.Query.{Tree}
use Rattle.eb_base.specs.Match.{answer, is_match}
use Rattle.eb_base.proofs.Answering.{answer-append}
use Rattle.eb_place.proofs.TermCounts.{by_push}
use Rattle.eb_blend.specs.Blended.{answers, blended, falling}
use Rattle.eb_blend.specs.Laws.{part, HasRisingIds, BlendIsAnswer}
use Rattle.eb_blend.proofs.Sorting.{Below, below-append, falling_greatest}

eqb_self : (a : ℕ) → (a == a) ≡ true
eqb_self a = eq-eqb a a refl

eqb_other : (a b : ℕ) → a ≢ b → (a == b) ≡ false
eqb_other a b ne = elim (eqb_tells a b) [ inl t ↦ absurd (ne t.1) | inr t ↦ t.0 ]

mod_below : (a b : ℕ) → 1 ≤ b → a % b < b
mod_below a b h = mod-lt a (omega arith)

-- the answers of parts, each for as many ids as it says
abbrev each_answer : Tree → (ℕ → ℕ) → (ℕ → List Doc) → List ℕ → List ℕ
each_answer q ks hs [] = []
each_answer q ks hs (p ∷ ps) = answer q (ks p) (hs p) ++ each_answer q ks hs ps

answers_are : (q : Tree) (k : ℕ) (hs : ℕ → List Doc) (ps : List ℕ) → answers q k (map hs ps) (map length (map hs ps)) ≡ each_answer q (λ _. k) hs ps
answers_are q k hs [] = refl
answers_are q k hs (p ∷ ps) = λ i. answer q k (take-length (hs p) i) ++ answers_are q k hs ps i

each-append : (q : Tree) (ks : ℕ → ℕ) (hs : ℕ → List Doc) (ps rs : List ℕ) → each_answer q ks hs (ps ++ rs) ≡ each_answer q ks hs ps ++ each_answer q ks hs rs
each-append q ks hs [] rs = refl
each-append q ks hs (p ∷ ps) rs = ap (λ (z : List ℕ). answer q (ks p) (hs p) ++ z) (each-append q ks hs ps rs)
    ∙ sym (append_assoc (answer q (ks p) (hs p)) (each_answer q ks hs ps) (each_answer q ks hs rs))

-- the part isn't one of these
abbrev IsAbsent : ℕ → List ℕ → Type 0
IsAbsent m [] = Unit {0}
IsAbsent m (p ∷ ps) = (p ≢ m) × IsAbsent m ps

-- what is the same at all other parts
each_same : (q : Tree) (ks ls : ℕ → ℕ) (hs gs : ℕ → List Doc) (m : ℕ) (ps : List ℕ) → IsAbsent m ps → ((p : ℕ) → p ≢ m → ks p ≡ ls p) → ((p : ℕ) → p ≢ m → hs p ≡ gs p)
    → each_answer q ks hs ps ≡ each_answer q ls gs ps
each_same q ks ls hs gs m [] a k h = refl
each_same q ks ls hs gs m (p ∷ ps) a k h = λ i. answer q (k p a.0 i) (h p a.0 i) ++ each_same q ks ls hs gs m ps a.1 k h i

-- the part is one of these, once
record Once (m : ℕ) (ps : List ℕ) : Type 0 where
  before : List ℕ
  after : List ℕ
  is : ps ≡ before ++ m ∷ after
  absent_before : IsAbsent m before
  absent_after : IsAbsent m after

above_absent : (m a n : ℕ) → m < a → IsAbsent m (range_with_len a n)
above_absent m a zero lt = tt
above_absent m a (suc n) lt = ((λ e. omega (arith, lt, e)), above_absent m (a + 1) n (omega (arith, lt)))

once : (m a n : ℕ) → a ≤ m → m < a + n → Once m (range_with_len a n)
once m a zero le lt = absurd (omega (arith, le, lt))
once m a (suc n) le lt = elim (cases_eq a m) [
  | inl e ↦ record { before = []; after = range_with_len (a + 1) n; is = ap (λ x. x ∷ range_with_len (a + 1) n) e; absent_before = tt; absent_after = above_absent m (a + 1) n (omega (arith, e)) }
  | inr ne ↦ let o = once m (a + 1) n (omega (arith, le, ne)) (omega (arith, lt)) in
      record { before = a ∷ o.before; after = o.after; is = ap (λ (z : List ℕ). a ∷ z) o.is; absent_before = (ne, o.absent_before); absent_after = o.absent_after }
]

-- ---- ids are below that of a later document

abbrev AllBelow : ℕ → List Doc → Type 0
AllBelow x [] = Unit {0}
AllBelow x (d ∷ ds) = (d.id < x) × AllBelow x ds

rising_front : (docs : List Doc) (d : Doc) → HasRisingIds (docs ++ d ∷ []) → HasRisingIds docs × AllBelow d.id docs
rising_front [] d r = (tt, tt)
rising_front (e ∷ docs) d r =
    let rest = rising_front docs d r.1 in
    ((front docs r.0, rest.0), (last docs r.0, rest.1))
  where
    front : (xs : List Doc) → All (λ f. e.id < f.id) (xs ++ d ∷ []) → All (λ f. e.id < f.id) xs
    front [] a = All-nil (λ (f : Doc). e.id < f.id)
    front (x ∷ xs) a = All-cons (λ (f : Doc). e.id < f.id) x xs (All-head (λ (f : Doc). e.id < f.id) x (xs ++ d ∷ []) a) (front xs (All-tail (λ (f : Doc). e.id < f.id) x (xs ++ d ∷ []) a))

    last : (xs : List Doc) → All (λ f. e.id < f.id) (xs ++ d ∷ []) → e.id < d.id
    last [] a = All-head (λ (f : Doc). e.id < f.id) d [] a
    last (x ∷ xs) a = last xs (All-tail (λ (f : Doc). e.id < f.id) x (xs ++ d ∷ []) a)

filter_below : (x : ℕ) (f : Doc → Bool) (docs : List Doc) → AllBelow x docs → AllBelow x (filter f docs)
filter_below x f [] b = tt
filter_below x f (d ∷ docs) b = elim (cases_Bool (f d)) [ inl e ↦ rw e (b.0, filter_below x f docs b.1) | inr e ↦ rw e (filter_below x f docs b.1) ]

-- ---- one more document

answer_none : (q : Tree) (docs : List Doc) → answer q 0 docs ≡ []
unfolding answer
answer_none q docs = refl

one_match : (q : Tree) (k : ℕ) (d : Doc) → is_match q d ≡ true → answer q (suc k) (d ∷ []) ≡ d.id ∷ []
unfolding answer
one_match q k d e = rw e (ap (λ (z : List Doc). d.id ∷ map (λ (x : Doc). x.id) z) (take_none k))
  where
    take_none : (k : ℕ) → take {A = Doc} k [] ≡ []
    take_none zero = refl
    take_none (suc k) = refl

one_other : (q : Tree) (k : ℕ) (d : Doc) → is_match q d ≡ false → answer q k (d ∷ []) ≡ []
unfolding answer
one_other q zero d e = refl
one_other q (suc k) d e = rw e refl

push_match : (q : Tree) (k : ℕ) (docs : List Doc) (d : Doc) → is_match q d ≡ true → answer q (suc k) (docs ++ d ∷ []) ≡ d.id ∷ answer q k docs
push_match q k docs d e =
    let one = one_match q k d e in
    let left : suc k - 1 ≡ k = omega arith in
    answer-append q (suc k) docs (d ∷ []) ∙ ap (λ (z : List ℕ). z ++ answer q (suc k - length z) docs) one ∙ ap (λ n. d.id ∷ answer q n docs) left

push_other : (q : Tree) (k : ℕ) (docs : List Doc) (d : Doc) → is_match q d ≡ false → answer q k (docs ++ d ∷ []) ≡ answer q k docs
push_other q k docs d e =
    let left : k - 0 ≡ k = omega arith in
    answer-append q k docs (d ∷ []) ∙ ap (λ (z : List ℕ). z ++ answer q (k - length z) docs) (one_other q k d e) ∙ ap (λ n. answer q n docs) left

nothing_found : (q : Tree) (k : ℕ) → answer q k [] ≡ []
unfolding answer
nothing_found q zero = refl
nothing_found q (suc k) = refl

answer_below : (x : ℕ) (q : Tree) (docs : List Doc) → AllBelow x docs → (k : ℕ) → Below x (answer q k docs)
answer_below x q = by_push (λ docs. AllBelow x docs → (k : ℕ) → Below x (answer q k docs)) (λ b k. none k) more
  where
    none : (k : ℕ) → Below x (answer q k [])
    none k = subst (Below x) (sym (nothing_found q k)) tt

    split : (docs : List Doc) (d : Doc) → AllBelow x (docs ++ d ∷ []) → AllBelow x docs × (d.id < x)
    split [] d b = (tt, b.0)
    split (e ∷ docs) d b = let r = split docs d b.1 in ((b.0, r.0), r.1)

    more : (docs : List Doc) (d : Doc) → (AllBelow x docs → (k : ℕ) → Below x (answer q k docs)) → AllBelow x (docs ++ d ∷ []) → (k : ℕ) → Below x (answer q k (docs ++ d ∷ []))
    more docs d ih b zero = subst (Below x) (sym (answer_none q (docs ++ d ∷ []))) tt
    more docs d ih b (suc k) =
        let s = split docs d b in
        elim (cases_Bool (is_match q d)) [
          | inl e ↦ subst (Below x) (sym (push_match q k docs d e)) (s.1, ih s.0 k)
          | inr e ↦ subst (Below x) (sym (push_other q (suc k) docs d e)) (ih s.0 (suc k))
        ]

each_below : (x : ℕ) (q : Tree) (ks : ℕ → ℕ) (hs : ℕ → List Doc) (ps : List ℕ) → ((p : ℕ) → AllBelow x (hs p)) → Below x (each_answer q ks hs ps)
each_below x q ks hs [] b = tt
each_below x q ks hs (p ∷ ps) b = below-append x (answer q (ks p) (hs p)) (each_answer q ks hs ps) (answer_below x q (hs p) (b p) (ks p)) (each_below x q ks hs ps b)

-- ---- the parts of a history with one more document

pub own_part : (parts : ℕ) (docs : List Doc) (d : Doc) → part parts (docs ++ d ∷ []) (d.id % parts) ≡ part parts docs (d.id % parts) ++ d ∷ []
own_part parts docs d =
    let e : (d.id % parts == d.id % parts) ≡ true = eqb_self (d.id % parts) in
    filter-append (λ (x : Doc). x.id % parts == d.id % parts) docs (d ∷ []) ∙ ap (λ (z : List Doc). part parts docs (d.id % parts) ++ z) (rw e refl)

pub other_part : (parts : ℕ) (docs : List Doc) (d : Doc) (p : ℕ) → p ≢ d.id % parts → part parts (docs ++ d ∷ []) p ≡ part parts docs p
other_part parts docs d p ne =
    let e : (d.id % parts == p) ≡ false = eqb_other (d.id % parts) p (λ q. ne (sym q)) in
    filter-append (λ (x : Doc). x.id % parts == p) docs (d ∷ []) ∙ ap (λ (z : List Doc). part parts docs p ++ z) (rw e refl) ∙ append-nil (part parts docs p)

each_none : (q : Tree) (ks : ℕ → ℕ) (parts : ℕ) (ps : List ℕ) → each_answer q ks (part parts []) ps ≡ []
each_none q ks parts [] = refl
each_none q ks parts (p ∷ ps) = ap (λ (z : List ℕ). z ++ each_answer q ks (part parts []) ps) (nothing_found q (ks p)) ∙ each_none q ks parts ps

take_nothing : (k : ℕ) → take {A = ℕ} k [] ≡ []
take_nothing zero = refl
take_nothing (suc k) = refl

-- one fewer at a part
abbrev lowered : ℕ → (ℕ → ℕ) → ℕ → ℕ
lowered m ks p = cond (p == m) (ks p - 1) (ks p)

lowered_own : (m : ℕ) (ks : ℕ → ℕ) → lowered m ks m ≡ ks m - 1
lowered_own m ks = let e : (m == m) ≡ true = eqb_self m in rw e refl

lowered_other : (m : ℕ) (ks : ℕ → ℕ) (p : ℕ) → p ≢ m → ks p ≡ lowered m ks p
lowered_other m ks p ne = let e : (p == m) ≡ false = eqb_other p m ne in rw e refl

lowered_enough : (m j : ℕ) (ks : ℕ → ℕ) → ((p : ℕ) → suc j ≤ ks p) → (p : ℕ) → j ≤ lowered m ks p
lowered_enough m j ks le p = elim (cases_Bool (p == m)) [ inl e ↦ rw e (omega (arith, le p)) | inr e ↦ rw e (omega (arith, le p)) ]

-- the answers of parts, of which one is between the others
each_at : (q : Tree) (ks : ℕ → ℕ) (hs : ℕ → List Doc) (m : ℕ) (ps : List ℕ) (o : Once m ps)
    → each_answer q ks hs ps ≡ each_answer q ks hs o.before ++ (answer q (ks m) (hs m) ++ each_answer q ks hs o.after)
each_at q ks hs m ps o = ap (each_answer q ks hs) o.is ∙ each-append q ks hs o.before (m ∷ o.after)

-- what the answer of one part is in place of
changed_at : (q : Tree) (ks ls : ℕ → ℕ) (hs gs : ℕ → List Doc) (m : ℕ) (ps : List ℕ) (o : Once m ps) → ((p : ℕ) → p ≢ m → ks p ≡ ls p) → ((p : ℕ) → p ≢ m → hs p ≡ gs p)
    → each_answer q ks hs ps ≡ each_answer q ls gs o.before ++ (answer q (ks m) (hs m) ++ each_answer q ls gs o.after)
changed_at q ks ls hs gs m ps o k h =
    each_at q ks hs m ps o ∙ (λ i. each_same q ks ls hs gs m o.before o.absent_before k h i ++ (answer q (ks m) (hs m) ++ each_same q ks ls hs gs m o.after o.absent_after k h i))

law : (q : Tree) (parts : ℕ) → 1 ≤ parts → (docs : List Doc) → HasRisingIds docs → (k : ℕ) (ks : ℕ → ℕ) → ((p : ℕ) → k ≤ ks p)
    → take k (falling (each_answer q ks (part parts docs) (range_with_len 0 parts))) ≡ answer q k docs
law q parts some = by_push (λ docs. HasRisingIds docs → (k : ℕ) (ks : ℕ → ℕ) → ((p : ℕ) → k ≤ ks p) → take k (falling (each_answer q ks (part parts docs) (range_with_len 0 parts))) ≡ answer q k docs)
    (λ r k ks le. ap (λ (z : List ℕ). take k (falling z)) (each_none q ks parts (range_with_len 0 parts)) ∙ take_nothing k ∙ sym (nothing_found q k)) more
  where
    more : (docs : List Doc) (d : Doc)
        → (HasRisingIds docs → (k : ℕ) (ks : ℕ → ℕ) → ((p : ℕ) → k ≤ ks p) → take k (falling (each_answer q ks (part parts docs) (range_with_len 0 parts))) ≡ answer q k docs)
        → HasRisingIds (docs ++ d ∷ []) → (k : ℕ) (ks : ℕ → ℕ) → ((p : ℕ) → k ≤ ks p)
        → take k (falling (each_answer q ks (part parts (docs ++ d ∷ [])) (range_with_len 0 parts))) ≡ answer q k (docs ++ d ∷ [])
    more docs d ih r zero ks le = sym (answer_none q (docs ++ d ∷ []))
    more docs d ih r (suc j) ks le =
        let f = rising_front docs d r in
        let m = d.id % parts in
        let ps = range_with_len 0 parts in
        let o = once m 0 parts (omega arith) (omega (arith, mod_below d.id parts some)) in
        let hs = part parts docs in
        let gs = part parts (docs ++ d ∷ []) in
        let other : (p : ℕ) → p ≢ d.id % parts → part parts (docs ++ d ∷ []) p ≡ part parts docs p = λ p ne. other_part parts docs d p ne in
        elim (cases_Bool (is_match q d)) [
          | inl e ↦
              let ls = lowered m ks in
              let n = ks m - 1 in
              let full : ks m ≡ suc n = omega (arith, le m) in
              let front : List ℕ = each_answer q ls hs o.before in
              let back : List ℕ = answer q n (hs m) ++ each_answer q ls hs o.after in
              let own : answer q (ks m) (gs m) ≡ d.id ∷ answer q n (hs m) = (λ i. answer q (full i) (own_part parts docs d i)) ∙ push_match q n (hs m) d e in
              let all : each_answer q ks gs ps ≡ front ++ d.id ∷ back = changed_at q ks ls gs hs m ps o (lowered_other m ks) other
              ∙ ap (λ (z : List ℕ). front ++ (z ++ each_answer q ls hs o.after)) own in
              let less : each_answer q ls hs ps ≡ front ++ back = each_at q ls hs m ps o ∙ ap (λ x. front ++ (answer q x (hs m) ++ each_answer q ls hs o.after)) (lowered_own m ks) in
              let low : (p : ℕ) → AllBelow d.id (part parts docs p) = λ p. filter_below d.id (λ (x : Doc). x.id % parts == p) docs f.1 in
              let top = falling_greatest front back d.id (each_below d.id q ls hs o.before low)
              (below-append d.id (answer q n (hs m)) (each_answer q ls hs o.after) (answer_below d.id q (hs m) (low m) n) (each_below d.id q ls hs o.after low)) in
              ap (λ (z : List ℕ). take (suc j) (falling z)) all ∙ ap (take (suc j)) top ∙ ap (λ (z : List ℕ). d.id ∷ take j (falling z)) (sym less)
              ∙ ap (λ (z : List ℕ). d.id ∷ z) (ih f.0 j ls (lowered_enough m j ks le)) ∙ sym (push_match q j docs d e)
          | inr e ↦
              let own : answer q (ks m) (gs m) ≡ answer q (ks m) (hs m) = ap (answer q (ks m)) (own_part parts docs d) ∙ push_other q (ks m) (hs m) d e in
              let all : each_answer q ks gs ps ≡ each_answer q ks hs ps = changed_at q ks ks gs hs m ps o (λ p ne. refl) other
              ∙ ap (λ (z : List ℕ). each_answer q ks hs o.before ++ (z ++ each_answer q ks hs o.after)) own ∙ sym (each_at q ks hs m ps o) in
              ap (λ (z : List ℕ). take (suc j) (falling z)) all ∙ ih f.0 (suc j) ks le ∙ sym (push_other q (suc j) docs d e)
        ]

pub is_answer : BlendIsAnswer
unfolding blended
is_answer q k parts docs some are =
    ap (λ (z : List ℕ). take k (falling z)) (answers_are q k (part parts docs) (range_with_len 0 parts)) ∙ law q parts some docs are k (λ _. k) (λ p. omega arith)
