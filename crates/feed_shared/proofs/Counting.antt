-- How many documents pieces know together.
use Rattle.std.proofs.Common.{◌≡◌, ℕ, zero, suc, ◌+◌, ◌-◌, ◌^◌, ◌<◌, min, List, [], ◌∷◌, length, take, get_or, refl, ap, ◌∙◌, arith, length-append}
use Rattle.eb_base.specs.Document.{Doc}
use Rattle.eb_feed.specs.Generations.{joined_generations}
use Rattle.feed_shared.specs.declared.turn.Turn.{Turn}
use Rattle.feed_shared.specs.Turns.{PieceToken, past_of, AreHeld, counted}

-- the documents of the first n pieces
abbrev pub known_in : ℕ → List PieceToken → ℕ
known_in zero ps = 0
known_in (suc n) [] = 0
known_in (suc n) (p ∷ ps) = length p.docs + known_in n ps

pub known_next : (n : ℕ) (ps : List PieceToken) (d : PieceToken) → n < length ps → known_in (n + 1) ps ≡ known_in n ps + length (get_or ps n d).docs
known_next n [] d lt = absurd (omega (arith, lt))
known_next zero (p ∷ ps) d lt = omega arith
known_next (suc n) (p ∷ ps) d lt =
    let e : suc n + 1 ≡ suc (n + 1) = omega arith in
    ap (λ m. known_in m (p ∷ ps)) e ∙ ap (λ m. length p.docs + m) (known_next n ps d (omega (arith, lt))) ∙ omega arith

-- they are those of their generations
pub known_held : (ps : List PieceToken) (docs : List Doc) (ts : List Turn) → AreHeld ps docs ts
    → length (joined_generations (take (length ps) (past_of docs ts))) ≡ known_in (length ps) ps
known_held [] docs ts h = refl
known_held (p ∷ ps) docs [] h = absurd h
known_held (p ∷ ps) docs (t ∷ ts) h =
    let rest = joined_generations (take (length ps) (past_of t.before ts)) in
    omega (arith, length-append rest docs, known_held ps t.before ts h.2, ap length h.1)

-- with the newest one before them
pub kept_count : (w : PieceToken) (older : List PieceToken) (ts : List Turn) (seen : ℕ) → AreHeld (w ∷ older) w.docs ts
    → ((docs : List Doc) (us : List Turn) → AreHeld older docs us → seen ≡ counted (joined_generations (take (length older) (past_of docs us))))
    → min (length w.docs + seen) (2 ^ 64 - 1) ≡ counted (joined_generations (take (suc (length older)) (past_of w.docs ts)))
kept_count w older [] seen h f = absurd h
kept_count w older (t ∷ us) seen h f =
    let rest = joined_generations (take (length older) (past_of t.before us)) in
    omega (arith, f t.before us h.2, length-append rest w.docs)
