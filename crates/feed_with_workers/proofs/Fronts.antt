-- What a reader of a feed holds is what a feed keeps of the prefix that it knows.
use Rattle.std.proofs.Common.{◌≡◌, ℕ, zero, suc, ◌+◌, ◌-◌, ◌^◌, ◌<◌, ◌≤◌, ◌⊎◌, inl, inr, ⊎_elim, true, false}
use Rattle.std.proofs.Common.{List, [], ◌∷◌, ◌++◌, length, take, reverse, min, refl, ap, sym, ◌∙◌, subst, arith, append_assoc, append-nil, length-append}
use Rattle.std.proofs.lemmas.Bool.{cases_Bool}
use Rattle.std.proofs.lemmas.List.{take_all, take_at, take_min, take-append-le, append_cancel_left, length-reverse}
use mathlib.Core.List.{IsPrefix}
use Rattle.eb_base.specs.Document.{Doc}
use Rattle.eb_base.specs.Setting.{Setting}
use Rattle.eb_place.proofs.TermCounts.{by_push}
use Rattle.eb_place.specs.Room.{has_room}
use Rattle.eb_feed.specs.Generations.{with_generation, generations, joined_generations, kept}
use Rattle.eb_feed.proofs.Generations.{generations_push, generations_none, joined_all}
use Rattle.feed_shared.specs.declared.turn.Turn.{Turn}
use Rattle.feed_shared.specs.Turns.{FeedToken, WriterToken, past_of, history_of, stretch_of, counted, HasTaken}
use Rattle.run_with_workers.specs.Bodies.{side}
use Rattle.feed_with_workers.specs.Offices.{taken_by}

-- ---- a prefix that ends in the newest generation

-- the generations of a history, of whose newest the first n documents are taken
abbrev pub FrontsAreOwn : Setting → List Doc → Type 0
FrontsAreOwn σ docs = (g : List Doc) (gs : List (List Doc)) (n : ℕ) → generations σ docs ≡ g ∷ gs → 1 ≤ n → n ≤ length g
    → generations σ (joined_generations (take n g ∷ gs)) ≡ take n g ∷ gs

abbrev first_of : List (List Doc) → List Doc
first_of [] = []
first_of (g ∷ gs) = g

abbrev rest_of : List (List Doc) → List (List Doc)
rest_of [] = []
rest_of (g ∷ gs) = gs

abbrev FrontsOf : Setting → List (List Doc) → Type 0
FrontsOf σ past = (n : ℕ) → 1 ≤ n → n ≤ length (first_of past) → generations σ (joined_generations (take n (first_of past) ∷ rest_of past)) ≡ take n (first_of past) ∷ rest_of past

-- all of them
whole : (σ : Setting) (docs : List Doc) (g : List Doc) (gs : List (List Doc)) → generations σ docs ≡ g ∷ gs → generations σ (joined_generations (g ∷ gs)) ≡ g ∷ gs
whole σ docs g gs e = ap (λ p. generations σ (joined_generations p)) (sym e) ∙ ap (generations σ) (joined_all σ docs) ∙ e

-- the newest has one more document than it had, or is new
fronts_with : (σ : Setting) (docs : List Doc) (d : Doc) (past : List (List Doc)) → generations σ docs ≡ past → FrontsOf σ past → FrontsOf σ (with_generation σ past d)
fronts_with σ docs d [] e h = λ n low high.
    let all : take n (d ∷ []) ≡ d ∷ [] = take_all n (d ∷ []) (omega (arith, low)) in
    let is : generations σ (docs ++ d ∷ []) ≡ (d ∷ []) ∷ [] = generations_push σ docs d ∙ ap (λ p. with_generation σ p d) e in
    subst (λ (x : List Doc). generations σ (joined_generations (x ∷ [])) ≡ x ∷ []) (sym all) (whole σ (docs ++ d ∷ []) (d ∷ []) [] is)
fronts_with σ docs d (g ∷ gs) e h = elim (cases_Bool (has_room σ g d)) [
  | inl here ↦ subst (FrontsOf σ) (sym (chosen here)) (more here)
  | inr away ↦ subst (FrontsOf σ) (sym (other away)) (new away)
]
  where
    chosen : has_room σ g d ≡ true → with_generation σ (g ∷ gs) d ≡ (g ++ d ∷ []) ∷ gs
    chosen here = rw here refl

    other : has_room σ g d ≡ false → with_generation σ (g ∷ gs) d ≡ (d ∷ []) ∷ g ∷ gs
    other away = rw away refl

    is : (p : List (List Doc)) → with_generation σ (g ∷ gs) d ≡ p → generations σ (docs ++ d ∷ []) ≡ p
    is p f = generations_push σ docs d ∙ ap (λ q. with_generation σ q d) e ∙ f

    more : has_room σ g d ≡ true → FrontsOf σ ((g ++ d ∷ []) ∷ gs)
    more here n low high = elim (side (length g) n) [
      | inl long ↦ (
          let all : take n (g ++ d ∷ []) ≡ g ++ d ∷ [] = take_all n (g ++ d ∷ []) (omega (arith, long, length-append g (d ∷ []))) in
          subst (λ (x : List Doc). generations σ (joined_generations (x ∷ gs)) ≡ x ∷ gs) (sym all) (whole σ (docs ++ d ∷ []) (g ++ d ∷ []) gs (is ((g ++ d ∷ []) ∷ gs) (chosen here)))
          )
      | inr short ↦ (
          let same : take n (g ++ d ∷ []) ≡ take n g = take-append-le n g (d ∷ []) short in
          subst (λ (x : List Doc). generations σ (joined_generations (x ∷ gs)) ≡ x ∷ gs) (sym same) (h n low short)
          )
    ]

    new : has_room σ g d ≡ false → FrontsOf σ ((d ∷ []) ∷ g ∷ gs)
    new away n low high =
        let all : take n (d ∷ []) ≡ d ∷ [] = take_all n (d ∷ []) (omega (arith, low)) in
        subst (λ (x : List Doc). generations σ (joined_generations (x ∷ g ∷ gs)) ≡ x ∷ g ∷ gs) (sym all) (whole σ (docs ++ d ∷ []) (d ∷ []) (g ∷ gs) (is ((d ∷ []) ∷ g ∷ gs) (other away)))

fronts : (σ : Setting) (docs : List Doc) → FrontsOf σ (generations σ docs)
fronts σ = by_push (λ docs. FrontsOf σ (generations σ docs))
    (subst (FrontsOf σ) (sym (generations_none σ)) (λ n low high. absurd (omega (arith, low, high))))
    (λ docs d h. subst (FrontsOf σ) (sym (generations_push σ docs d)) (fronts_with σ docs d (generations σ docs) refl h))

pub own_fronts : (σ : Setting) (docs : List Doc) → FrontsAreOwn σ docs
own_fronts σ docs g gs n e low high = subst (FrontsOf σ) e (fronts σ docs) n low high

-- ---- generations of a history, or the first one without a document

abbrev pub IsOwn : Setting → List (List Doc) → Type 0
IsOwn σ past = (generations σ (joined_generations past) ≡ past) ⊎ (past ≡ [] ∷ [])

kept_nothing : (σ : Setting) (keep : ℕ) → kept σ keep [] ≡ []
kept_nothing σ zero = refl
kept_nothing σ (suc n) = ap (λ p. joined_generations (take (suc n) p)) (generations_none σ)

none_joined : (keep : ℕ) → joined_generations (take {A = List Doc} keep ([] ∷ [])) ≡ []
none_joined zero = refl
none_joined (suc zero) = refl
none_joined (suc (suc n)) = refl

pub kept_own : (σ : Setting) (keep : ℕ) (past : List (List Doc)) → IsOwn σ past → joined_generations (take keep past) ≡ kept σ keep (joined_generations past)
kept_own σ keep past is = ⊎_elim
    (λ (e : generations σ (joined_generations past) ≡ past). ap (λ p. joined_generations (take keep p)) (sym e))
    (λ (e : past ≡ [] ∷ []). subst (λ (p : List (List Doc)). joined_generations (take keep p) ≡ kept σ keep (joined_generations p)) (sym e) (none_joined keep ∙ sym (kept_nothing σ keep)))
    is

pub own_taken : (σ : Setting) (history : List Doc) (past : List (List Doc)) → (past ≡ generations σ history) ⊎ ((history ≡ []) × (past ≡ [] ∷ [])) → IsOwn σ past
own_taken σ history past is = ⊎_elim
    (λ (e : past ≡ generations σ history). inl (ap (λ p. generations σ (joined_generations p)) e ∙ ap (generations σ) (joined_all σ history) ∙ sym e))
    (λ (e : (history ≡ []) × (past ≡ [] ∷ [])). inr e.1)
    is

-- a prefix of the newest one, which has a document where it isn't the first
pub own_front : (σ : Setting) (docs known : List Doc) (gs : List (List Doc)) → IsOwn σ (docs ∷ gs) → IsPrefix known docs → (length gs ≡ 0) ⊎ (1 ≤ length known) → IsOwn σ (known ∷ gs)
own_front σ docs [] [] is p begun = inr refl
own_front σ docs [] (g ∷ gs) is p begun = ⊎_elim (λ (e : length (g ∷ gs) ≡ 0). absurd (omega (arith, e))) (λ (e : 1 ≤ 0). absurd (omega (arith, e))) begun
own_front σ docs (x ∷ xs) gs is p begun = ⊎_elim
    (λ (e : generations σ (joined_generations (docs ∷ gs)) ≡ docs ∷ gs).
    let known = x ∷ xs in
    let front : take (length known) docs ≡ known = ap (take (length known)) (sym p.1) ∙ take_at known p.0 (length known) refl in
    inl (subst (λ (k : List Doc). generations σ (joined_generations (k ∷ gs)) ≡ k ∷ gs) front
    (own_fronts σ (joined_generations (docs ∷ gs)) docs gs (length known) e (omega arith) (omega (arith, length-append known p.0, ap length p.1)))))
    (λ (e : docs ∷ gs ≡ [] ∷ []). absurd (omega (arith, ap (λ p. length (first_of p)) e, length-append (x ∷ xs) p.0, ap length p.1)))
    is

-- ---- what a feed has taken

pub taken_is : (w : WriterToken) (history : List Doc) → HasTaken w history → taken_by w ≡ history
taken_is w history is = ⊎_elim
    (λ (e : past_of w.feed.docs (reverse w.feed.log) ≡ generations w.setting history). ap joined_generations e ∙ joined_all w.setting history)
    (λ (e : (history ≡ []) × (past_of w.feed.docs (reverse w.feed.log) ≡ [] ∷ [])). ap joined_generations e.1 ∙ sym e.0)
    is

pub past_count : (docs : List Doc) (ts : List Turn) → length (past_of docs ts) ≡ length ts
past_count docs [] = refl
past_count docs (t ∷ ts) = ap suc (past_count t.before ts)

-- what the writer of a feed holds
pub writer_keeps : (w : WriterToken) → HasTaken w (taken_by w) → w.feed.held ≡ min w.keep (length w.feed.log) → stretch_of w.feed.held w.feed.log w.feed.docs ≡ kept w.setting w.keep (taken_by w)
writer_keeps w is held =
    let past = past_of w.feed.docs (reverse w.feed.log) in
    let long : length w.feed.log ≡ length past = sym (length-reverse w.feed.log) ∙ sym (past_count w.feed.docs (reverse w.feed.log)) in
    let most : w.feed.held ≡ min w.keep (length past) = held ∙ ap (min w.keep) long in
    ap (λ n. joined_generations (take n past)) most ∙ ap joined_generations (take_min w.keep past) ∙ kept_own w.setting w.keep past (own_taken w.setting (taken_by w) past is)

-- ---- what a reader of it holds, where no generation was begun since

own_reader : (σ : Setting) (docs known : List Doc) (ts : List Turn) → IsOwn σ (past_of docs ts) → IsPrefix (joined_generations (past_of known ts)) (joined_generations (past_of docs ts))
    → (length ts ≤ 1) ⊎ (1 ≤ length known) → IsOwn σ (past_of known ts)
own_reader σ docs known [] is p begun = is
own_reader σ docs known (t ∷ ts) is p begun =
    let gs = past_of t.before ts in
    let before = joined_generations gs in
    let front : IsPrefix known docs = (p.0, append_cancel_left before (known ++ p.0) docs (sym (append_assoc before known p.0) ∙ p.1)) in
    own_front σ docs known gs is front (⊎_elim (λ (few : length (t ∷ ts) ≤ 1). inl (omega (arith, few, past_count t.before ts))) (λ some. inr some) begun)

same_log : (log all : List Turn) → IsPrefix log all → length log ≡ length all → log ≡ all
same_log log all p e = no_more p.0 (omega (arith, e, length-append log p.0, ap length p.1)) p.1
  where
    no_more : (more : List Turn) → length more ≡ 0 → log ++ more ≡ all → log ≡ all
    no_more [] z is = sym (append-nil log) ∙ is
    no_more (x ∷ xs) z is = absurd (omega (arith, z))

pub reader_keeps : (w : WriterToken) (r : FeedToken) → HasTaken w (taken_by w) → r.held ≡ min w.keep (length r.log) → (length r.log ≤ 1) ⊎ (1 ≤ length r.docs)
    → length r.log ≡ length w.feed.log → IsPrefix r.log w.feed.log → IsPrefix (history_of r.log r.docs) (taken_by w)
    → stretch_of r.held r.log r.docs ≡ kept w.setting w.keep (history_of r.log r.docs)
reader_keeps w r is held begun turns front known =
    let same : r.log ≡ w.feed.log = same_log r.log w.feed.log front turns in
    let ts = reverse r.log in
    let own : IsOwn w.setting (past_of w.feed.docs ts) = subst (λ (log : List Turn). IsOwn w.setting (past_of w.feed.docs (reverse log))) (sym same)
    (own_taken w.setting (taken_by w) (past_of w.feed.docs (reverse w.feed.log)) is) in
    let within : IsPrefix (history_of r.log r.docs) (joined_generations (past_of w.feed.docs ts)) =
    subst (λ (log : List Turn). IsPrefix (history_of r.log r.docs) (joined_generations (past_of w.feed.docs (reverse log)))) (sym same) known in
    let some : (length ts ≤ 1) ⊎ (1 ≤ length r.docs) = ⊎_elim (λ few. inl (omega (arith, few, length-reverse r.log))) (λ x. inr x) begun in
    let past = past_of r.docs ts in
    let long : length r.log ≡ length past = sym (length-reverse r.log) ∙ sym (past_count r.docs ts) in
    let most : r.held ≡ min w.keep (length past) = held ∙ ap (min w.keep) long in
    ap (λ n. joined_generations (take n past)) most ∙ ap joined_generations (take_min w.keep past)
    ∙ kept_own w.setting w.keep past (own_reader w.setting w.feed.docs r.docs ts own within some)

-- ---- as far as a number of 64 bits goes

pub counted_is : (docs : List Doc) → length docs < 2 ^ 64 - 1 → counted docs ≡ length docs
counted_is docs few = omega (arith, few)

-- a prefix that the writer has seen
pub settled_within : (w : WriterToken) (known : List Doc) (seen : ℕ) → IsPrefix known (taken_by w) → seen ≡ counted known → length (taken_by w) < 2 ^ 64 - 1
    → (seen ≡ length known) × (seen ≤ length (taken_by w))
settled_within w known seen p e few =
    let long : length known + length p.0 ≡ length (taken_by w) = sym (length-append known p.0) ∙ ap length p.1 in
    (e ∙ counted_is known (omega (arith, long, few)), omega (arith, long, few, e))

pub settled_front : (w : WriterToken) (known : List Doc) (seen : ℕ) → IsPrefix known (taken_by w) → seen ≡ length known → take seen (taken_by w) ≡ known
settled_front w known seen p e = ap (λ n. take n (taken_by w)) e ∙ ap (take (length known)) (sym p.1) ∙ take_at known p.0 (length known) refl
