-- The least moment after two that lie on one history.
use Rattle.std.proofs.Common.{◌≡◌, ℕ, ◌+◌, ◌<◌, ◌≤◌, inl, inr, List, ◌++◌, length, Bool, true, false, ltb, cond, refl, ap, sym, ◌∙◌, subst, arith}
use Rattle.std.proofs.lemmas.Bool.{lt-ltb, le-ltb}
use native.Mathlib.Decide.{dec_lt}
use Rattle.eb_base.specs.Document.{Doc}
use Rattle.eb_base.specs.Setting.{Setting, IsSetting}
use Rattle.eb_place.specs.declared.moment.Documents.{Documents}
use Rattle.eb_place.specs.declared.moment.Conversions.{Conversions}
use Rattle.eb_place.specs.declared.moment.Moment.{Moment}
use Rattle.eb_place.specs.Room.{cut, IsLawful}
use Rattle.eb_place.specs.Conversion.{segment_stores}
use Rattle.eb_place.specs.Moments.{with_current, IsMoment, IsBegun}
use Rattle.eb_place.specs.Later.{Reaches, ReachesPacked, IsNotBefore}
use Rattle.eb_place.specs.Meets.{is_behind, later_documents, later_conversions, later_of}
use Rattle.eb_place.specs.Laws.{IsLeastAfter}
use Rattle.eb_place.proofs.CutSegments.{closed_stays}
use Rattle.eb_place.proofs.NextStore.{segment_stays}
use Rattle.eb_place.proofs.LaterMoments.{packed_self}
use Rattle.eb_place.proofs.ReachedLater.{started_grows}
use Rattle.eb_place.proofs.MeetOfParts.{documents_meet}

-- ---- the conversion part

-- d comes after a and b, and c after d
pub record BetweenPacked (a b c d : Conversions) : Type 0 where
  pub first : ReachesPacked a d
  pub second : ReachesPacked b d
  pub third : ReachesPacked d c

-- the later of two conversion parts is the least after both
pub conversions_meet : (a b c : Conversions) → ReachesPacked a c → ReachesPacked b c → BetweenPacked a b c (later_conversions a b)
conversions_meet a b c r s = by_count (dec_lt a.converted b.converted) (dec_lt b.converted a.converted) (dec_lt a.packed b.packed)
  where
    here : (x y z : Bool) → ltb a.converted b.converted ≡ x → ltb b.converted a.converted ≡ y → ltb a.packed b.packed ≡ z
        → BetweenPacked a b c (cond x b (cond y a (cond z b a))) → BetweenPacked a b c (later_conversions a b)
    here x y z e f g h = rw (e, f, g) h

    by_count : Dec (a.converted < b.converted) → Dec (b.converted < a.converted) → Dec (a.packed < b.packed) → BetweenPacked a b c (later_conversions a b)
    by_count (yes h) _ _ = here true _ _ (lt-ltb _ _ h) refl refl record { first = inl h; second = packed_self b; third = s }
    by_count (no h) (yes k) _ = here false true _ (le-ltb _ _ (omega arith)) (lt-ltb _ _ k) refl record { first = packed_self a; second = inl k; third = r }
    by_count (no h) (no k) (yes l) =
        here false false true (le-ltb _ _ (omega arith)) (le-ltb _ _ (omega arith)) (lt-ltb _ _ l) record { first = inr (omega arith, omega arith); second = packed_self b; third = s }
    by_count (no h) (no k) (no l) =
        here false false false (le-ltb _ _ (omega arith)) (le-ltb _ _ (omega arith)) (le-ltb _ _ (omega arith)) record { first = packed_self a; second = inr (omega arith, omega arith); third = r }

-- ---- it is a moment that an index can be in

-- the documents part of a moment, and the conversion part over its documents
pub record DocumentsHold (σ : Setting) (x : Documents) : Type 0 where
  pub lawful : IsLawful σ (with_current x)
  pub begun : IsBegun σ x.accepted x.current

-- a conversion part over a history, of which a moment can be made
pub record ConversionsHold (σ : Setting) (docs : List Doc) (c : Conversions) : Type 0 where
  pub closed : (s : ℕ) → s < c.converted → s + 1 < length (cut σ docs)
  pub packs : 1 ≤ c.packed → (c.converted + 1 < length (cut σ docs)) × (c.packed < length (segment_stores σ docs c.converted))

grown : (σ : Setting) (docs more : List Doc) (c : Conversions) → ConversionsHold σ docs c → ConversionsHold σ (docs ++ more) c
grown σ docs more c h = record {
  closed = λ s l. (let k = closed_stays σ docs more s (h.closed s l) in let p = h.closed s l in omega (arith, k.0, p));
  packs =
      λ l. (let p = h.packs l in let k = closed_stays σ docs more c.converted p.0 in let e = ap length (segment_stays σ docs more c.converted p.0) in (omega (arith, k.0, p.0), omega (arith, e, p.1)));
}

reached : (σ : Setting) (x y : Documents) (c : Conversions) → Reaches x y → ConversionsHold σ (with_current x) c → ConversionsHold σ (with_current y) c
reached σ x y c r h =
    let p = started_grows x.accepted y.accepted x.current y.current r.accepted r.current in
    subst (λ (docs : List Doc). ConversionsHold σ docs c) p.1 (grown σ (with_current x) p.0 c h)

either_documents : (P : Documents → Type 0) (a b : Documents) → P a → P b → P (later_documents a b)
unfolding later_documents
either_documents P a b h k = either (is_behind a b)
  where
    either : (x : Bool) → P (cond x b a)
    either true = k
    either false = h

either_conversions : (P : Conversions → Type 0) (a b : Conversions) → P a → P b → P (later_conversions a b)
either_conversions P a b h k = either (ltb a.converted b.converted) (ltb b.converted a.converted) (ltb a.packed b.packed)
  where
    either : (x y z : Bool) → P (cond x b (cond y a (cond z b a)))
    either true y z = k
    either false true z = h
    either false false true = k
    either false false false = h

documents_of : (m : Moment) → IsMoment m → DocumentsHold m.setting m.documents
documents_of m is = record { lawful = is.lawful; begun = is.begun }

conversions_of : (m : Moment) → IsMoment m → ConversionsHold m.setting (with_current m.documents) m.conversions
conversions_of m is = record { closed = is.closed; packs = is.packs }

moment_of : (σ : Setting) (x : Documents) (c : Conversions) → IsSetting σ → DocumentsHold σ x → ConversionsHold σ (with_current x) c → IsMoment record { setting = σ; documents = x; conversions = c }
moment_of σ x c k d h = record { setting = k; lawful = d.lawful; begun = d.begun; closed = h.closed; packs = h.packs }

-- ---- the law

-- two moments on one history have a least moment after both
pub moments_meet : (m n l : Moment) → IsMoment m → IsMoment n → IsNotBefore l m → IsNotBefore l n → IsLeastAfter m n (later_of m n)
moments_meet m n l mm nn r s =
    let same : m.setting ≡ n.setting = r.setting ∙ sym s.setting in
    let d = documents_meet m.documents n.documents l.documents r.documents s.documents in
    let c = conversions_meet m.conversions n.conversions l.conversions r.conversions s.conversions in
    let D = later_documents m.documents n.documents in
    let nd : DocumentsHold m.setting n.documents = subst (λ (σ : Setting). DocumentsHold σ n.documents) (sym same) (documents_of n nn) in
    let nc : ConversionsHold m.setting (with_current n.documents) n.conversions =
    subst (λ (σ : Setting). ConversionsHold σ (with_current n.documents) n.conversions) (sym same) (conversions_of n nn) in
    record {
      moment = moment_of m.setting D (later_conversions m.conversions n.conversions) mm.setting
          (either_documents (DocumentsHold m.setting) m.documents n.documents (documents_of m mm) nd)
          (either_conversions (ConversionsHold m.setting (with_current D)) m.conversions n.conversions
          (reached m.setting m.documents D m.conversions d.first (conversions_of m mm)) (reached m.setting n.documents D n.conversions d.second nc));
      first = record { setting = refl; documents = d.first; conversions = c.first };
      second = record { setting = sym same; documents = d.second; conversions = c.second };
      least = λ k p q. (
          let e = documents_meet m.documents n.documents k.documents p.documents q.documents in
          let f = conversions_meet m.conversions n.conversions k.conversions p.conversions q.conversions in
          record { setting = p.setting; documents = e.third; conversions = f.third });
    }
