-- What comes after newer turns.
use Rattle.std.proofs.Common.{◌≡◌, ℕ, zero, suc, ◌+◌, ◌^◌, ◌<◌, ◌≤◌, List, [], ◌∷◌, ◌++◌, length}
use Rattle.std.proofs.Common.{take, min, ◌-◌, reverse, get_or, refl, ap, sym, ◌∙◌, subst, arith, append_assoc, append-nil, length-append}
use Rattle.std.proofs.lemmas.List.{reverse-append, length-reverse, length-take}
use mathlib.Core.List.{IsPrefix}
use Rattle.eb_base.specs.Document.{Doc}
use Rattle.eb_table.specs.Known.{Words}
use Rattle.eb_feed.specs.Generations.{joined_generations}
use Rattle.feed_shared.specs.declared.turn.Turn.{Turn}
use Rattle.feed_shared.proofs.Helds.{held_docs}
use Rattle.feed_shared.specs.Turns.{PieceToken, turn, past_of, generations_of, history_of, AreHeld, counted}

-- the documents of the generation after these turns, the last one first
abbrev pub docs_behind : List Doc → List Turn → List Doc
docs_behind docs [] = docs
docs_behind docs (t ∷ ts) = docs_behind t.before ts

behind_docs : (ps : List PieceToken) (docs : List Doc) (newer ts : List Turn) (n : ℕ) (d : PieceToken) → AreHeld ps docs (newer ++ ts) → n ≡ length newer → n < length ps
    → (get_or ps n d).docs ≡ docs_behind docs newer
behind_docs [] docs newer ts n d h e lt = absurd (omega arith)
behind_docs (p ∷ ps) docs [] [] n d h e lt = absurd h
behind_docs (p ∷ ps) docs [] (t ∷ ts) zero d h e lt = h.1
behind_docs (p ∷ ps) docs [] (t ∷ ts) (suc n) d h e lt = absurd (omega (arith, e))
behind_docs (p ∷ ps) docs (m ∷ newer) ts zero d h e lt = absurd (omega (arith, e))
behind_docs (p ∷ ps) docs (m ∷ newer) ts (suc n) d h e lt = behind_docs ps m.before newer ts n d h.2 (omega (arith, e)) (omega arith)

behind_index : (qs ps : List PieceToken) (docs docs' : List Doc) (newer ts : List Turn) (n : ℕ) (d d' : PieceToken) → AreHeld qs docs' ts → 1 ≤ length qs
    → AreHeld ps docs (newer ++ ts) → n ≡ length newer → n < length ps → (get_or qs 0 d').index ≡ (get_or ps n d).index
behind_index [] ps docs docs' newer ts n d d' k few h e lt = absurd (omega arith)
behind_index (q ∷ qs) [] docs docs' newer ts n d d' k few h e lt = absurd (omega arith)
behind_index (q ∷ qs) (p ∷ ps) docs docs' newer [] n d d' k few h e lt = absurd k
behind_index (q ∷ qs) (p ∷ ps) docs docs' [] (t ∷ ts) zero d d' k few h e lt = k.0 ∙ sym h.0
behind_index (q ∷ qs) (p ∷ ps) docs docs' [] (t ∷ ts) (suc n) d d' k few h e lt = absurd (omega (arith, e))
behind_index (q ∷ qs) (p ∷ ps) docs docs' (m ∷ newer) (t ∷ ts) zero d d' k few h e lt = absurd (omega (arith, e))
behind_index (q ∷ qs) (p ∷ ps) docs docs' (m ∷ newer) (t ∷ ts) (suc n) d d' k few h e lt =
    behind_index (q ∷ qs) ps m.before docs' newer (t ∷ ts) n d d' k few h.2 (omega (arith, e)) (omega arith)

-- what is known of an earlier generation, and all before it, is a prefix of what is known with
-- newer turns
history_front : (docs docs' : List Doc) (newer ts : List Turn) → IsPrefix docs (docs_behind docs' newer)
    → IsPrefix (joined_generations (past_of docs ts)) (joined_generations (past_of docs' (newer ++ ts)))
history_front docs docs' [] [] p = ([], refl)
history_front docs docs' [] (t ∷ ts) p =
    let before = joined_generations (past_of t.before ts) in
    (p.0, append_assoc before docs p.0 ∙ ap (λ (z : List Doc). before ++ z) p.1)
history_front docs docs' (m ∷ newer) ts p =
    let r = history_front docs m.before newer ts p in
    (r.0 ++ docs', sym (append_assoc (joined_generations (past_of docs ts)) r.0 docs') ∙ ap (λ (z : List Doc). z ++ docs') r.1)

-- ---- by the logs

reversed : (log rest all : List Turn) → log ++ rest ≡ all → reverse all ≡ reverse rest ++ reverse log
reversed log rest all e = ap reverse (sym e) ∙ reverse-append log rest

pub meets_index : (qs ps : List PieceToken) (docs docs' : List Doc) (log rest all : List Turn) (n : ℕ) (d d' : PieceToken) → log ++ rest ≡ all
    → AreHeld qs docs' (reverse log) → 1 ≤ length qs → AreHeld ps docs (reverse all) → n ≡ length rest → n < length ps → (get_or qs 0 d').index ≡ (get_or ps n d).index
meets_index qs ps docs docs' log rest all n d d' e k few h at lt =
    behind_index qs ps docs docs' (reverse rest) (reverse log) n d d' k few (subst (λ (ts : List Turn). AreHeld ps docs ts) (reversed log rest all e) h) (at ∙ sym (length-reverse rest)) lt

pub meets_history : (ps : List PieceToken) (docs docs' : List Doc) (log rest all : List Turn) (n : ℕ) (d : PieceToken) → log ++ rest ≡ all
    → AreHeld ps docs' (reverse all) → n ≡ length rest → n < length ps → IsPrefix docs (get_or ps n d).docs → IsPrefix (history_of log docs) (history_of all docs')
meets_history ps docs docs' log rest all n d e h at lt p =
    let r = reversed log rest all e in
    let held = subst (λ (ts : List Turn). AreHeld ps docs' ts) r h in
    let same = behind_docs ps docs' (reverse rest) (reverse log) n d held (at ∙ sym (length-reverse rest)) lt in
    subst (λ (ts : List Turn). IsPrefix (history_of log docs) (joined_generations (past_of docs' ts))) (sym r)
    (history_front docs docs' (reverse rest) (reverse log) (subst (λ (z : List Doc). IsPrefix docs z) same p))

-- the closed generations of what is known stay known
pub closed_front : (docs : List Doc) (log all : List Turn) → IsPrefix log all → IsPrefix (history_of log []) (history_of all docs)
closed_front docs log all p =
    subst (λ (ts : List Turn). IsPrefix (history_of log []) (joined_generations (past_of docs ts))) (sym (reversed log p.0 all p.1))
    (history_front [] docs (reverse p.0) (reverse log) (docs_behind docs (reverse p.0), refl))

-- which of its documents are known of an earlier generation that is held
pub lapsed_of : (ps : List PieceToken) (docs known : List Doc) (log all : List Turn) (n : ℕ) (d : PieceToken) → AreHeld ps docs (reverse all)
    → n ≡ length all - length log → n < length ps → length (get_or ps n d).docs < length known → length (get_or (generations_of all docs) (length all - length log) []) < length known
lapsed_of ps docs known log all n d h at lt few =
    subst (λ (m : ℕ). length (get_or (past_of docs (reverse all)) m []) < length known) at
    (subst (λ (z : List Doc). length z < length known) (held_docs ps docs (reverse all) n d h lt) few)

-- ---- a turn

held_take : (ps : List PieceToken) (docs : List Doc) (ts : List Turn) (n : ℕ) → AreHeld ps docs ts → AreHeld (take n ps) docs ts
held_take [] docs ts zero h = tt
held_take [] docs ts (suc n) h = tt
held_take (p ∷ ps) docs ts zero h = tt
held_take (p ∷ ps) docs [] (suc n) h = absurd h
held_take (p ∷ ps) docs (t ∷ ts) (suc n) h = (h.0, h.1, held_take ps t.before ts n h.2)

newest_kept : (w : PieceToken) (older : List PieceToken) (docs : List Doc) (ts : List Turn) (n : ℕ) → AreHeld (w ∷ older) docs ts → AreHeld (w ∷ take n older) docs ts
newest_kept w older docs [] n h = absurd h
newest_kept w older docs (t ∷ ts) n h = (h.0, h.1, held_take older t.before ts n h.2)

-- the newest is closed, and another is begun
pub begun_held : (w new closed : PieceToken) (older : List PieceToken) (index : Words) (log : List Turn) (n : ℕ)
    → AreHeld (w ∷ older) w.docs (reverse log) → new.index ≡ index → closed ≡ w
    → AreHeld (new ∷ closed ∷ take n older) new.docs (reverse (log ++ turn index closed.docs ∷ []))
begun_held w new closed older index log n h e same =
    subst (λ (ts : List Turn). AreHeld (new ∷ closed ∷ take n older) new.docs ts) (sym (reverse-append log (turn index closed.docs ∷ [])))
    (e, refl, subst (λ (c : PieceToken). AreHeld (c ∷ take n older) c.docs (reverse log)) (sym same) (newest_kept w older w.docs (reverse log) n h))

-- one more is held, but no more than are kept
pub begun_length : (keep : ℕ) (closed : PieceToken) (older : List PieceToken) (log : List Turn) (t : Turn) → 2 ≤ keep → suc (length older) ≡ min keep (length log)
    → suc (length (closed ∷ take (keep - 2) older)) ≡ min keep (length (log ++ t ∷ []))
begun_length keep closed older log t some h = omega (arith, length-take (keep - 2) older, length-append log (t ∷ []))

-- ---- how many there are

last_behind : (docs : List Doc) (t : Turn) (ts : List Turn) → length (joined_generations (past_of docs (t ∷ ts))) ≡ length (joined_generations (past_of [] (t ∷ ts))) + length docs
last_behind docs t ts =
    let before = joined_generations (past_of t.before ts) in
    omega (arith, length-append before docs, length-append before [])

count_of : (p : PieceToken) (ps : List PieceToken) (docs docs' : List Doc) (ts : List Turn) → AreHeld (p ∷ ps) docs' ts
    → length (joined_generations (past_of docs ts)) ≡ length (joined_generations (past_of [] ts)) + length docs
count_of p ps docs docs' [] h = absurd h
count_of p ps docs docs' (t ∷ ts) h = last_behind docs t ts

pub counts : (ps : List PieceToken) (docs docs' : List Doc) (log : List Turn) (before count : ℕ) → 1 ≤ length ps → AreHeld ps docs' (reverse log)
    → before ≡ counted (history_of log []) → count ≡ length docs → min (before + count) (2 ^ 64 - 1) ≡ counted (history_of log docs)
counts [] docs docs' log before count few h b n = absurd (omega arith)
counts (p ∷ ps) docs docs' log before count few h b n = let all = count_of p ps docs docs' (reverse log) h in omega (arith, all, b, n)

-- all before the generation that is begun
pub before_begun : (log : List Turn) (docs : List Doc) (index : Words) → history_of (log ++ turn index docs ∷ []) [] ≡ history_of log docs
before_begun log docs index =
    ap (λ (ts : List Turn). joined_generations (past_of [] ts)) (reverse-append log (turn index docs ∷ [])) ∙ append-nil (history_of log docs)
