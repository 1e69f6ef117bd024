-- A turn over the parts of an and: the first part is asked, and then the others from where it
-- stopped.
use Rattle.std.proofs.Common.{◌≡◌, ℕ, ◌+◌, ◌<◌, ◌≤◌, List, [], ◌∷◌, ◌++◌, length, get_or, take, drop, ap, sym, refl, ◌∙◌, subst, arith}
use Rattle.std.proofs.lemmas.List.{append-nil, take-append-drop}
use Rattle.eb_base.specs.Query.{Tree, Trees, size, tree, word, no_trees, trees}
use Rattle.eb_base.specs.declared.query.Query.{Query, Word}
use Rattle.eb_base.specs.Term.{Term}
use Rattle.eb_place.specs.declared.moment.Moment.{Moment}
use Rattle.eb_place.proofs.LaterMoments.{later_on}
use Rattle.eb_cursor.specs.AndCosts.{word_parts}
use Rattle.eb_cursor.specs.Asked.{trees_in, CanAsk, CanAskAll}
use Rattle.eb_cursor.specs.Costs.{PaysSpans, look_loads, round_loads}
use Rattle.eb_cursor.specs.Finds.{FindsMatch, GoesRound}
use Rattle.eb_cursor.specs.Lists.{gives}
use Rattle.eb_cursor.specs.Posted.{match_at}
use Rattle.eb_cursor.specs.declared.cursor.Cursor.{Cursor}
use Rattle.eb_cursor.proofs.AndLoads.{words_split, spans_front, spans_join}
use Rattle.eb_cursor.proofs.Owing.{all_span_later}
use Rattle.eb_cursor.proofs.Readies.{all_front}
use Rattle.eb_cursor.proofs.Steps.{IsFront, front_asks, others_ask, round_end, round_step, tree_Word}
use Rattle.eb_cursor.proofs.Tellings.{IsLater, IsLawfulPort, KeepsItself, KeepsOn, gives_later, told_itself, told_on}
use Rattle.eb_cursor.proofs.Tops.{top_le}

-- ---- where the first part is a word

pub word_front : (qs : List Query) (q : Query) (qs' : List Query) (t : Term) (cursors own rest : List Cursor) → qs ≡ q ∷ qs' → q ≡ Word t
    → own ≡ take 1 cursors → rest ≡ drop 1 cursors → IsFront (trees_in qs) (word t) (trees_in qs') cursors own rest
word_front qs q qs' t cursors own rest e i a b = record { parts = ap trees_in e ∙ ap (λ z. trees z (trees_in qs')) (ap tree i ∙ tree_Word t); front = a; back = b }

-- ---- what may be asked

-- the first part
front_can : {S : Type 0} (stands : S → Moment → Type 0) (p : S) (qs : Trees) (q : Tree) (qs' : Trees) (cursors own rest : List Cursor) (end : ℕ)
    → IsFront qs q qs' cursors own rest → CanAskAll stands p qs cursors end → CanAsk stands p q own end
front_can stands p qs q qs' cursors own rest end e r = (r.0, r.1, r.2, r.3, r.4, front_asks (gives r.0) r.1 qs q qs' cursors own rest r.2 e r.5)

-- what it finds isn't above the end
front_falls : {S : Type 0} {stands : S → Moment → Type 0} {keeps : S → Moment → S → Moment → Type 0} {p p1 : S} (q : Tree) (own own' : List Cursor) (end found : ℕ)
    → CanAsk stands p q own end → FindsMatch stands keeps p p1 q own own' end found → found ≤ end
front_falls q own own' end found r first =
    let x = (first r.1 r.2 r.4).told r.0 r.3 r.5 in
    omega (arith, x.4.0, top_le (match_at r.1 q) end)

-- then the others, from what it finds
pub others_can : {S : Type 0} {stands : S → Moment → Type 0} {keeps : S → Moment → S → Moment → Type 0} {p p1 : S} (qs : Trees) (q : Tree) (qs' : Trees)
    (cursors own rest own' : List Cursor) (end found : ℕ) → IsLawfulPort stands → IsFront qs q qs' cursors own rest
    → CanAskAll stands p qs cursors end → FindsMatch stands keeps p p1 q own own' end found → (found ≤ end) × CanAskAll stands p1 qs' rest found
others_can {S} {stands} {keeps} {p} qs q qs' cursors own rest own' end found lawful e r first =
    let falls = front_falls q own own' end found (front_can stands p qs q qs' cursors own rest end e r) first in
    let x = (first r.1 r.2 r.4).told r.0 r.3 (front_asks (gives r.0) r.1 qs q qs' cursors own rest r.2 e r.5) in
    let w : IsLater r.0 x.0 = record { is = lawful _ r.0 r.3; later = x.2 } in
    let more = others_ask (gives r.0) (gives x.0) r.1 qs q qs' cursors own rest end r.2 e (gives_later r.0 x.0 w) r.4 r.5 in
    (falls, (x.0, r.1, end, x.1, falls, more))

-- ---- what is found

pub turn_found : {S : Type 0} {stands : S → Moment → Type 0} {keeps : S → Moment → S → Moment → Type 0} {p p1 p2 : S} (qs : Trees) (q : Tree) (qs' : Trees)
    (cursors own rest own' rest' : List Cursor) (end between found : ℕ) → IsLawfulPort stands → KeepsOn keeps → IsFront qs q qs' cursors own rest
    → CanAskAll stands p qs cursors end → FindsMatch stands keeps p p1 q own own' end between → GoesRound stands keeps p1 p2 qs' rest rest' between found
    → GoesRound stands keeps p p2 qs cursors (own' ++ rest') end found
turn_found {S} {stands} {keeps} {p} qs q qs' cursors own rest own' rest' end between found lawful on e r first others = λ docs last h.
    let falls = front_falls q own own' end between (front_can stands p qs q qs' cursors own rest end e r) first in
    told_on lawful on (first docs last h) (others docs end falls)
    (λ l k. front_asks (gives l) docs qs q qs' cursors own rest last e k)
    (λ l m w k i. others_ask (gives l) (gives m) docs qs q qs' cursors own rest end last e (gives_later l m w) h k)
    (λ l m n w1 w2 k i more. round_step (gives m) (gives n) docs qs q qs' own' rest' end between found e.parts (gives_later m n w2) i.0 i.1 more)

-- ---- what it costs, where the parts are words

pub turn_paid : {S : Type 0} {stands : S → Moment → Type 0} {keeps : S → Moment → S → Moment → Type 0} {p p1 p2 : S} (qs : Trees) (q : Tree) (qs' : Trees)
    (cursors own rest own' rest' : List Cursor) (before between after : ℕ) → IsLawfulPort stands → KeepsOn keeps → IsFront qs q qs' cursors own rest
    → ((t : Term) → q ≡ word t → PaysSpans stands keeps p p1 (t ∷ []) own own' look_loads before between)
    → ((us : List Term) → qs' ≡ word_parts us → PaysSpans stands keeps p1 p2 us rest rest' (round_loads us) between after)
    → (ts : List Term) → qs ≡ word_parts ts → PaysSpans stands keeps p p2 ts cursors (own' ++ rest') (round_loads ts) before after
turn_paid qs q qs' cursors own rest own' rest' before between after lawful on e first others ts i s most = record {
  told = λ m at h.
      let k = words_split ts q qs' (sym e.parts ∙ i) in
      let o = spans_front m s ts k.0 k.1 qs q qs' cursors own rest most e k.2 k.3 h in
      let x = (first k.0 k.3 s o.0).told m at o.2 in
      let y = (others k.1 k.4 s o.1).told x.0 x.1 (all_span_later m x.0 s k.1 rest o.1 (lawful _ m at) x.2 o.3) in
      let asked = all_span_later x.0 y.0 s (k.0 ∷ []) own' x.4.0 (lawful _ x.0 x.1) y.2 x.4.1 in (
        y.0,
        y.1,
        later_on m x.0 y.0 x.2 y.2,
        on _ _ _ m x.0 y.0 x.3 y.3,
        (x.4.0 + y.4.0, spans_join y.0 s ts k.0 k.1 own' rest' x.4.0 y.4.0 k.2 asked y.4.1, omega (arith, x.4.2, y.4.2, o.4, ap length k.2)),
      );
}

-- ---- a single part

pub part_alone : (qs : List Query) (q : Query) → 1 ≤ length qs → length qs < 2 → q ≡ get_or qs 0 q → trees_in qs ≡ trees (tree q) no_trees
part_alone [] q some few e = absurd (omega (arith, some))
part_alone (x ∷ []) q some few e = ap (λ z. trees (tree z) no_trees) (sym e)
part_alone (x ∷ (y ∷ ys)) q some few e = absurd (omega (arith, few))

-- all cursors are its own
single_front : {S : Type 0} (stands : S → Moment → Type 0) (p : S) (qs : Trees) (q : Tree) (cursors : List Cursor) (end : ℕ)
    → qs ≡ trees q no_trees → CanAskAll stands p qs cursors end → IsFront qs q no_trees cursors cursors []
single_front stands p qs q cursors end e r =
    let f = all_front (gives r.0) r.1 qs q no_trees cursors r.2 e r.5 in
    let none : drop (size q) cursors ≡ [] = f.1 in
    let all : take (size q) cursors ++ [] ≡ cursors = ap (λ z. take (size q) cursors ++ z) (sym none) ∙ take-append-drop (size q) cursors in
    record { parts = e; front = sym all ∙ append-nil (take (size q) cursors); back = sym none }

pub single_can : {S : Type 0} (stands : S → Moment → Type 0) (p : S) (qs : Trees) (q : Tree) (cursors : List Cursor) (end : ℕ)
    → qs ≡ trees q no_trees → CanAskAll stands p qs cursors end → CanAsk stands p q cursors end
single_can stands p qs q cursors end e r = front_can stands p qs q no_trees cursors cursors [] end (single_front stands p qs q cursors end e r) r

pub single_found : {S : Type 0} {stands : S → Moment → Type 0} {keeps : S → Moment → S → Moment → Type 0} {p p1 : S} (qs : Trees) (q : Tree)
    (cursors cursors' : List Cursor) (end found : ℕ) → IsLawfulPort stands → KeepsItself stands keeps → KeepsOn keeps → qs ≡ trees q no_trees
    → CanAskAll stands p qs cursors end → FindsMatch stands keeps p p1 q cursors cursors' end found → GoesRound stands keeps p p1 qs cursors cursors' end found
single_found {S} {stands} {keeps} {p} {p1} qs q cursors cursors' end found lawful itself on e r first =
    let e1 = single_front stands p qs q cursors end e r in
    let none : GoesRound stands keeps p1 p1 no_trees [] [] found found = λ docs last h. told_itself itself (λ m k. round_end (gives m) docs no_trees [] found last refl h k) in
    subst (λ z. GoesRound stands keeps p p1 qs cursors z end found) (append-nil cursors')
    (turn_found qs q no_trees cursors cursors [] cursors' [] end found found lawful on e1 r first none)

pub single_paid : {S : Type 0} {stands : S → Moment → Type 0} {keeps : S → Moment → S → Moment → Type 0} {p p1 : S} (qs : Trees) (q : Tree)
    (cursors cursors' : List Cursor) (end before after : ℕ) → IsLawfulPort stands → KeepsItself stands keeps → KeepsOn keeps → qs ≡ trees q no_trees
    → CanAskAll stands p qs cursors end → ((t : Term) → q ≡ word t → PaysSpans stands keeps p p1 (t ∷ []) cursors cursors' look_loads before after)
    → (ts : List Term) → qs ≡ word_parts ts → PaysSpans stands keeps p p1 ts cursors cursors' (round_loads ts) before after
single_paid {S} {stands} {keeps} {p} {p1} qs q cursors cursors' end before after lawful itself on e r first ts i =
    subst (λ z. PaysSpans stands keeps p p1 ts cursors z (round_loads ts) before after) (append-nil cursors')
    (turn_paid qs q no_trees cursors cursors [] cursors' [] before after after lawful on (single_front stands p qs q cursors end e r) first
    (λ us j s most. told_itself itself (λ m k. (most, k, omega arith))) ts i)
