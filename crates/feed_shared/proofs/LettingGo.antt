-- The generation that a turn drops.
use Rattle.std.proofs.Common.{◌≡◌, ℕ, zero, suc, ◌<◌, ◌≤◌, List, [], ◌∷◌, ◌++◌, length, min, reverse, get_or, Option, None, Some, MatchOption, IfSome, ap, sym, ◌∙◌, arith, length-append}
use Rattle.std.proofs.lemmas.List.{reverse-append}
use Rattle.eb_base.specs.Document.{Doc}
use Rattle.eb_table.specs.Known.{Words}
use Rattle.feed_shared.specs.declared.turn.Turn.{Turn}
use Rattle.feed_shared.proofs.Helds.{held_docs}
use Rattle.feed_shared.specs.Turns.{PieceToken, turn, past_of, AreHeld, IsLetGo}

-- each piece has the index of its generation
held_index : (ps : List PieceToken) (docs : List Doc) (ts : List Turn) (n : ℕ) (d : PieceToken) (t : Turn) → AreHeld ps docs ts → n < length ps
    → (get_or ps n d).index ≡ (get_or ts n t).index
held_index [] docs ts n d t h lt = absurd (omega arith)
held_index (p ∷ ps) docs [] n d t h lt = absurd h
held_index (p ∷ ps) docs (u ∷ ts) zero d t h lt = h.0
held_index (p ∷ ps) docs (u ∷ ts) (suc n) d t h lt = held_index ps u.before ts n d t h.2 (omega arith)

-- a turn drops the last of as many as are kept
pub let_go : (keep n : ℕ) (w closed p : PieceToken) (older : List PieceToken) (index : Words) (log : List Turn) → AreHeld (w ∷ older) w.docs (reverse log)
    → suc (length older) ≡ min keep (length log) → keep ≡ suc (suc n) → n < length older → p ≡ get_or older n p → closed ≡ w
    → IsLetGo p keep (log ++ turn index closed.docs ∷ [])
let_go keep n w closed p older index log h many k lt last same =
    let t = turn index closed.docs in
    let turned : reverse (log ++ t ∷ []) ≡ t ∷ reverse log = reverse-append log (t ∷ []) in (
      omega (arith, length-append log (t ∷ [])),
      λ u. ap (λ (q : PieceToken). q.index) last ∙ held_index (w ∷ older) w.docs (reverse log) (suc n) p u h (omega arith)
          ∙ sym (λ i. (get_or (turned i) (k i) u).index),
      ap (λ (q : PieceToken). q.docs) last ∙ held_docs (w ∷ older) w.docs (reverse log) (suc n) p h (omega arith)
          ∙ (λ i. get_or (past_of (sym same i).docs (reverse log)) (suc n) [])
          ∙ sym (λ i. get_or (past_of [] (turned i)) (k i) []),
    )

-- the same, where one is dropped if there are too many
pub let_go_then : (r : Option PieceToken) (keep n len : ℕ) (w closed : PieceToken) (older held : List PieceToken) (index : Words) (log : List Turn)
    → AreHeld (w ∷ older) w.docs (reverse log) → suc (length older) ≡ min keep (length log) → keep ≡ suc (suc n) → closed ≡ w → len ≡ length held → held ≡ older
    → MatchOption r (len ≤ n) (λ p. (n < len) × (p ≡ get_or held n p)) → IfSome r (λ p. IsLetGo p keep (log ++ turn index closed.docs ∷ []))
let_go_then None keep n len w closed older held index log h many k same l e last = tt
let_go_then (Some p) keep n len w closed older held index log h many k same l e last =
    let_go keep n w closed p older index log h many k (omega (arith, last.0, l, ap length e)) (last.1 ∙ ap (λ (ps : List PieceToken). get_or ps n p) e) same
