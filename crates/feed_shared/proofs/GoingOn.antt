-- Answers and counts that go on after what a frame or a tally holds.
use Rattle.std.proofs.Common.{◌≡◌, ℕ, suc, ◌+◌, ◌-◌, ◌≤◌, List, [], ◌∷◌, ◌++◌, length, take, reverse, get_or, refl, ap, sym, ◌∙◌, arith, append_assoc, append-nil, length-append}
use Rattle.eb_base.specs.Document.{Doc}
use Rattle.eb_base.specs.Query.{Tree}
use Rattle.eb_base.specs.Match.{answer}
use Rattle.eb_base.proofs.Answering.{answer-append}
use Rattle.eb_count.specs.Tallies.{Numbers, HasCounted}
use Rattle.eb_feed.specs.Generations.{joined_generations}
use Rattle.eb_feed.proofs.Helds.{answer_older, answer_all, answer_first}
use Rattle.feed_shared.specs.declared.turn.Turn.{Turn}
use Rattle.feed_shared.specs.Turns.{PieceToken, past_of, stretch_of, AreHeld}

abbrev pub first_ones : ℕ → List (List Doc) → List Doc
first_ones n past = joined_generations (take n past)

pub goes_first : (q : Tree) (k : ℕ) (past : List (List Doc)) (held : List ℕ) → held ≡ held ++ answer q (k - length held) (first_ones 0 past)
goes_first q k past held = sym (append-nil held) ∙ ap (λ (z : List ℕ). held ++ z) (answer_first q (k - length held) past)

pub goes_older : (q : Tree) (k : ℕ) (past : List (List Doc)) (n : ℕ) (held ids ids' : List ℕ) → ids ≡ held ++ answer q (k - length held) (first_ones n past)
    → ids' ≡ ids ++ answer q (k - length ids) (get_or past n []) → ids' ≡ held ++ answer q (k - length held) (first_ones (n + 1) past)
goes_older q k past n held ids ids' i j =
    let a = answer q (k - length held) (first_ones n past) in
    let docs = get_or past n [] in
    let left : k - length ids ≡ (k - length held) - length a = omega (arith, ap length i, length-append held a) in
    j ∙ (λ t. i t ++ answer q (left t) docs) ∙ append_assoc held a (answer q ((k - length held) - length a) docs)
    ∙ ap (λ (z : List ℕ). held ++ z) (answer_older q (k - length held) past n a (a ++ answer q ((k - length held) - length a) docs) refl refl)

pub goes_enough : (q : Tree) (k : ℕ) (past : List (List Doc)) (m n : ℕ) (held ids : List ℕ) → m ≤ n → length ids ≡ k
    → ids ≡ held ++ answer q (k - length held) (first_ones m past) → ids ≡ held ++ answer q (k - length held) (first_ones n past)
goes_enough q k past m n held ids le full i =
    let a = answer q (k - length held) (first_ones m past) in
    let long : length a ≡ k - length held = omega (arith, full, ap length i, length-append held a) in
    i ∙ ap (λ (z : List ℕ). held ++ z) (answer_all q (k - length held) past m n a le long refl)

behind_newest : (q : Tree) (k : ℕ) (w : PieceToken) (older : List PieceToken) (ts : List Turn) (first ids : List ℕ) → AreHeld (w ∷ older) w.docs ts → first ≡ answer q k w.docs
    → ((docs : List Doc) (us : List Turn) → AreHeld older docs us → ids ≡ first ++ answer q (k - length first) (first_ones (length older) (past_of docs us)))
    → ids ≡ answer q k (first_ones (suc (length older)) (past_of w.docs ts))
behind_newest q k w older [] first ids h e f = absurd h
behind_newest q k w older (t ∷ ts) first ids h e f =
    let rest = first_ones (length older) (past_of t.before ts) in
    f t.before ts h.2 ∙ (λ i. e i ++ answer q (k - length (e i)) rest) ∙ sym (answer-append q k rest w.docs)

-- the newest generation first, and then the closed ones
pub whole_stretch : (q : Tree) (k : ℕ) (w : PieceToken) (older : List PieceToken) (log : List Turn) (first ids : List ℕ) → AreHeld (w ∷ older) w.docs (reverse log) → first ≡ answer q k w.docs
    → ((docs : List Doc) (us : List Turn) → AreHeld older docs us → ids ≡ first ++ answer q (k - length first) (first_ones (length older) (past_of docs us)))
    → ids ≡ answer q k (stretch_of (suc (length older)) log w.docs)
whole_stretch q k w older log first ids h e f = behind_newest q k w older (reverse log) first ids h e f

counted_behind : (q : Tree) (w : PieceToken) (older : List PieceToken) (ts : List Turn) (before after : Numbers) → AreHeld (w ∷ older) w.docs ts
    → ((docs : List Doc) (us : List Turn) → AreHeld older docs us → HasCounted q (first_ones (length older) (past_of docs us) ++ w.docs) before after)
    → HasCounted q (first_ones (suc (length older)) (past_of w.docs ts)) before after
counted_behind q w older [] before after h f = absurd h
counted_behind q w older (t ∷ ts) before after h f = f t.before ts h.2

pub counted_whole : (q : Tree) (w : PieceToken) (older : List PieceToken) (log : List Turn) (before after : Numbers) → AreHeld (w ∷ older) w.docs (reverse log)
    → ((docs : List Doc) (us : List Turn) → AreHeld older docs us → HasCounted q (first_ones (length older) (past_of docs us) ++ w.docs) before after)
    → HasCounted q (stretch_of (suc (length older)) log w.docs) before after
counted_whole q w older log before after h f = counted_behind q w older (reverse log) before after h f
