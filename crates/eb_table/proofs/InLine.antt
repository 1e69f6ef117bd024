-- The tests decide the facts: a true test gives its fact, and a fact passes its test.
use Rattle.std.proofs.Common.{◌≡◌, ℕ, suc, ◌<◌, ◌≤◌, ◌==◌, ⊎_elim, List, [], ◌∷◌, ◌++◌, length, take, drop, Option, Some, None, true, ◌&&◌, ltb, leb, refl, ap, sym, ◌∙◌, arith}
use Rattle.std.specs.Prelude.{bytes_eq}
use Rattle.std.specs.Bool.{Decides}
use Rattle.std.specs.Cmp.Lexicographic.{pointwise, pointwise_decides}
use Rattle.std.proofs.Math.Seq.{take-append_seam}
use Rattle.std.proofs.lemmas.List.{take-append-drop}
use Rattle.std.proofs.lemmas.Bool.{leb-true, le-leb}
use Rattle.std.proofs.lemmas.Bool.Decides.{Decides-and, Decides-or, Decides-eqb, Decides-ltb}
use Rattle.std.proofs.lemmas.Slice.Eq.{bytes_eq-Decides}
use mathlib.Core.List.{IsPrefix}
use Rattle.eb_base.specs.Document.{Doc}
use Rattle.eb_base.specs.Setting.{Setting}
use Rattle.eb_place.specs.declared.moment.Conversions.{Conversions}
use Rattle.eb_place.specs.declared.moment.Documents.{Documents}
use Rattle.eb_place.specs.declared.moment.Moment.{Moment}
use Rattle.eb_place.specs.Moments.{with_current, IsMoment}
use Rattle.eb_place.specs.Later.{Further, Goes, Reaches, ReachesPacked, IsNotBefore}
use Rattle.eb_place.specs.Meets.{later_documents}
use Rattle.eb_place.proofs.MeetOfParts.{documents_meet}
use Rattle.eb_place.proofs.WordsAtMoment.{placed_all}
use Rattle.eb_table.specs.InLine.{same_doc, is_prefix, is_further, goes_on, is_reached, in_line, is_packed_reached, unreal}

same_doc_decides : (d e : Doc) → Decides (same_doc d e) (d ≡ e)
same_doc_decides d e =
    let a = Decides-and (d.id == e.id) (pointwise bytes_eq d.terms e.terms) (Decides-eqb d.id e.id) (pointwise_decides bytes_eq-Decides d.terms e.terms) in
    ((λ t. let p = a.0 t in λ i. record { id = p.0 i; terms = p.1 i }), λ q. a.1 (ap (λ (x : Doc). x.id) q, ap (λ (x : Doc). x.terms) q))

same_docs_decides : (xs ys : List Doc) → Decides (pointwise same_doc xs ys) (xs ≡ ys)
same_docs_decides = pointwise_decides same_doc_decides

begins_decides : (xs ys : List Doc) → Decides (is_prefix xs ys) (IsPrefix xs ys)
begins_decides xs ys =
    let d = same_docs_decides (take (length xs) ys) xs in (
      (λ t. (drop (length xs) ys, ap (λ (l : List Doc). l ++ drop (length xs) ys) (sym (d.0 t)) ∙ take-append-drop (length xs) ys)),
      λ p. d.1 (ap (take (length xs)) (sym p.1) ∙ take-append_seam xs p.0),
    )

leb_decides : (a b : ℕ) → Decides (leb a b) (a ≤ b)
leb_decides a b = (leb-true a b, le-leb a b)

further_decides : (c : Doc × ℕ) (e : Option (Doc × ℕ)) → Decides (is_further c e) (Further c e)
further_decides c None = ((λ t. absurd cc), λ f. absurd f)
further_decides c (Some e) = Decides-and (same_doc c.0 e.0) (leb c.1 e.1) (same_doc_decides c.0 e.0) (leb_decides c.1 e.1)

goes_decides : (docs : List Doc) (c : Option (Doc × ℕ)) (b : Documents) → Decides (goes_on docs c b) (Goes docs c b)
goes_decides docs None b = ((λ _. tt), λ _. refl)
goes_decides docs (Some c) b =
    Decides-or (pointwise same_doc docs b.accepted && is_further c b.current) (is_prefix (docs ++ c.0 ∷ []) b.accepted)
    (Decides-and (pointwise same_doc docs b.accepted) (is_further c b.current) (same_docs_decides docs b.accepted) (further_decides c b.current))
    (begins_decides (docs ++ c.0 ∷ []) b.accepted)

pub reaches_decides : (a b : Documents) → Decides (is_reached a b) (Reaches a b)
unfolding is_reached
reaches_decides a b =
    let d = Decides-and (is_prefix a.accepted b.accepted) (goes_on a.accepted a.current b) (begins_decides a.accepted b.accepted) (goes_decides a.accepted a.current b) in
    ((λ t. let p = d.0 t in record { accepted = p.0; current = p.1 }), λ r. d.1 (r.accepted, r.current))

pub in_line_decides : (a b : Documents) → Decides (in_line a b) (Reaches a (later_documents a b) × Reaches b (later_documents a b))
unfolding in_line
in_line_decides a b = Decides-and (is_reached a (later_documents a b)) (is_reached b (later_documents a b)) (reaches_decides a _) (reaches_decides b _)

-- documents parts that a third is reached from are in line
pub in_line_passes : (a b c : Documents) → Reaches a c → Reaches b c → in_line a b ≡ true
in_line_passes a b c r s = let m = documents_meet a b c r s in (in_line_decides a b).1 (m.first, m.second)

pub packed_decides : (a b : Conversions) → Decides (is_packed_reached a b) (ReachesPacked a b)
unfolding is_packed_reached
packed_decides a b =
    Decides-or (ltb a.converted b.converted) ((a.converted == b.converted) && leb a.packed b.packed) (Decides-ltb a.converted b.converted)
    (Decides-and (a.converted == b.converted) (leb a.packed b.packed) (Decides-eqb a.converted b.converted) (leb_decides a.packed b.packed))

-- no moment of an index is at or after the unreal one
pub not_unreal : (σ : Setting) (n : Moment) → IsNotBefore n (unreal σ) → IsMoment n → ⊥
not_unreal σ n l is =
    let short = (placed_all n.setting (with_current n.documents) is.setting is.lawful).short in
    let same : n.setting.segments ≡ σ.segments = ap (λ (z : Setting). z.segments) (sym l.setting) in
    let more : suc σ.segments ≤ n.conversions.converted =
    ⊎_elim (λ (h : suc σ.segments < n.conversions.converted). omega arith)
    (λ (h : (suc σ.segments ≡ n.conversions.converted) × (0 ≤ n.conversions.packed)). omega (arith, h.0)) l.conversions in
    let closed = is.closed σ.segments (omega arith) in
    omega (arith, closed, short, same)
