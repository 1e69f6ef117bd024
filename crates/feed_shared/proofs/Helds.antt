-- Pieces that are held, place by place.
use Rattle.std.proofs.Common.{◌≡◌, ℕ, zero, suc, ◌<◌, ◌≤◌, List, [], ◌∷◌, length, take, get_or, set, refl, ap, ◌∙◌, arith}
use Rattle.eb_base.specs.Document.{Doc}
use Rattle.eb_feed.specs.Generations.{joined_generations}
use Rattle.feed_shared.specs.declared.turn.Turn.{Turn}
use Rattle.feed_shared.specs.Turns.{PieceToken, past_of, AreHeld, newest_docs}

-- each piece knows the documents of its generation
pub held_docs : (ps : List PieceToken) (docs : List Doc) (ts : List Turn) (n : ℕ) (d : PieceToken) → AreHeld ps docs ts → n < length ps
    → (get_or ps n d).docs ≡ get_or (past_of docs ts) n []
held_docs [] docs ts n d h lt = absurd (omega arith)
held_docs (p ∷ ps) docs [] n d h lt = absurd h
held_docs (p ∷ ps) docs (t ∷ ts) zero d h lt = h.1
held_docs (p ∷ ps) docs (t ∷ ts) (suc n) d h lt = held_docs ps t.before ts n d h.2 (omega arith)

pub held_newest : (ps : List PieceToken) (docs : List Doc) (ts : List Turn) → AreHeld ps docs ts → 1 ≤ length ps → newest_docs ps ≡ docs
held_newest [] docs ts h lt = absurd (omega arith)
held_newest (p ∷ ps) docs [] h lt = absurd h
held_newest (p ∷ ps) docs (t ∷ ts) h lt = h.1

-- the newest piece knows what it knows
pub held_itself : (ps : List PieceToken) (docs : List Doc) (ts : List Turn) → AreHeld ps docs ts → AreHeld ps (newest_docs ps) ts
held_itself [] docs ts h = tt
held_itself (p ∷ ps) docs [] h = absurd h
held_itself (p ∷ ps) docs (t ∷ ts) h = (h.0, refl, h.2)

pub first_piece : (ps : List PieceToken) (docs : List Doc) (ts : List Turn) → AreHeld ps docs ts → 1 ≤ length ps → joined_generations (take 1 (past_of docs ts)) ≡ docs
first_piece [] docs ts h lt = absurd (omega arith)
first_piece (p ∷ ps) docs [] h lt = absurd h
first_piece (p ∷ ps) docs (t ∷ ts) h lt = refl

-- the newest piece is changed for one of the same index
pub held_first : (ps : List PieceToken) (docs : List Doc) (ts : List Turn) (x : PieceToken) (d : PieceToken) → 1 ≤ length ps → AreHeld ps docs ts
    → x.index ≡ (get_or ps 0 d).index → AreHeld (set ps 0 x) x.docs ts
held_first [] docs ts x d lt h e = absurd (omega arith)
held_first (p ∷ ps) docs [] x d lt h e = absurd h
held_first (p ∷ ps) docs (t ∷ ts) x d lt h e = (e ∙ h.0, refl, h.2)

pub newest_first : (ps : List PieceToken) (x : PieceToken) → 1 ≤ length ps → newest_docs (set ps 0 x) ≡ x.docs
newest_first [] x lt = absurd (omega arith)
newest_first (p ∷ ps) x lt = refl

pub newest_get : (ps : List PieceToken) (d : PieceToken) → 1 ≤ length ps → (get_or ps 0 d).docs ≡ newest_docs ps
newest_get [] d lt = absurd (omega arith)
newest_get (p ∷ ps) d lt = refl

-- nothing changed
pub set_back : (ps : List PieceToken) (n : ℕ) (x y : PieceToken) → n < length ps → x ≡ get_or ps n y → set ps n x ≡ ps
set_back [] n x y lt e = absurd (omega arith)
set_back (p ∷ ps) zero x y lt e = ap (λ z. z ∷ ps) e
set_back (p ∷ ps) (suc n) x y lt e = ap (λ (z : List PieceToken). p ∷ z) (set_back ps n x y (omega arith) e)
