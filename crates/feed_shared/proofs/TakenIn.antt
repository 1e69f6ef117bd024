-- A piece that takes in a reader of its index.
use Rattle.std.proofs.Common.{◌≡◌, ℕ, zero, suc, ◌<◌, ◌≤◌, ◌⊎◌, ⊎_elim, List, [], ◌∷◌, length, get_or, set, refl, ap, sym, ◌∙◌, arith}
use mathlib.Core.List.{IsPrefix}
use Rattle.eb_base.specs.Document.{Doc}
use Rattle.eb_place.proofs.Prefixes.{prefix_self, prefix_whole}
use Rattle.feed_shared.specs.declared.turn.Turn.{Turn}
use Rattle.feed_shared.specs.Turns.{PieceToken, AreHeld, newest_docs}

-- a reader that meets one that knows no more knows the same
pub knows_all : (old new other : List Doc) → IsPrefix old new → (new ≡ old) ⊎ (new ≡ other) → length other ≤ length old → new ≡ old
knows_all old new other p which few =
    ⊎_elim (λ (e : new ≡ old). e) (λ (e : new ≡ other). sym (prefix_whole old new p (omega (arith, ap length e)))) which

held_same : (ps : List PieceToken) (docs : List Doc) (ts : List Turn) (n : ℕ) (x d : PieceToken) → AreHeld ps docs ts → n < length ps
    → x.index ≡ (get_or ps n d).index → x.docs ≡ (get_or ps n d).docs → AreHeld (set ps n x) docs ts
held_same [] docs ts n x d h lt e f = absurd (omega arith)
held_same (p ∷ ps) docs [] n x d h lt e f = absurd h
held_same (p ∷ ps) docs (t ∷ ts) zero x d h lt e f = (e ∙ h.0, f ∙ h.1, h.2)
held_same (p ∷ ps) docs (t ∷ ts) (suc n) x d h lt e f = (h.0, h.1, held_same ps t.before ts n x d h.2 (omega arith) e f)

pub held_met : (ps : List PieceToken) (docs : List Doc) (ts : List Turn) (n : ℕ) (x d : PieceToken) → AreHeld ps docs ts → n < length ps
    → x.index ≡ (get_or ps n d).index → (0 < n → x.docs ≡ (get_or ps n d).docs) → AreHeld (set ps n x) (newest_docs (set ps n x)) ts
held_met [] docs ts n x d h lt e f = absurd (omega arith)
held_met (p ∷ ps) docs [] n x d h lt e f = absurd h
held_met (p ∷ ps) docs (t ∷ ts) zero x d h lt e f = (e ∙ h.0, refl, h.2)
held_met (p ∷ ps) docs (t ∷ ts) (suc n) x d h lt e f = (h.0, refl, held_same ps t.before ts n x d h.2 (omega arith) e (f (omega arith)))

pub front_met : (ps : List PieceToken) (n : ℕ) (x d : PieceToken) → n < length ps → IsPrefix (get_or ps n d).docs x.docs → IsPrefix (newest_docs ps) (newest_docs (set ps n x))
front_met [] n x d lt p = absurd (omega arith)
front_met (q ∷ ps) zero x d lt p = p
front_met (q ∷ ps) (suc n) x d lt p = prefix_self q.docs

pub any_default : (ps : List PieceToken) (n : ℕ) (a b : PieceToken) → n < length ps → get_or ps n a ≡ get_or ps n b
any_default [] n a b lt = absurd (omega arith)
any_default (p ∷ ps) zero a b lt = refl
any_default (p ∷ ps) (suc n) a b lt = any_default ps n a b (omega arith)

pub same_token : (x y : PieceToken) → x.index ≡ y.index → x.docs ≡ y.docs → x ≡ y
same_token x y e f = λ i. record { index = e i; docs = f i }
