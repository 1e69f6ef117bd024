use Rattle.std.proofs.Common.{◌≡◌, List, [], ◌∷◌, ◌++◌, length, ap, sym, ◌∙◌, subst, arith, length-append}
use Rattle.eb_base.specs.Document.{Doc}
use Rattle.eb_base.specs.Setting.{Setting}
use Rattle.eb_place.specs.declared.moment.Documents.{Documents}
use Rattle.eb_place.specs.Room.{cut, HasRoom}
use Rattle.eb_place.proofs.Prefixes.{prefix_self}
use Rattle.eb_search.proofs.Beginnings.{cut_short}
use Rattle.eb_bloom.proofs.Noting.{cut_some}
use Rattle.eb_feed.proofs.generation.Generation.add.Goals as goal

pub overflow_sub-segments : goal.overflow_sub-segments
overflow_sub-segments c =
    let h = c.requires.2 in
    let d = c.args.document.now in
    let o = c.in-Ok.ensures.ok h.moment h.words h.placer in
    let n = o.0 in
    let all : n.documents.accepted ≡ h.moment.documents.accepted ++ d ∷ [] = ap (λ (x : Documents). x.accepted) o.4.documents in
    omega (arith, c.segments.ensures.cut n o.6, ap (λ (ds : List Doc). length (cut n.setting ds)) all, cut_some n.setting h.moment.documents.accepted d)

pub note-requires : goal.note-requires
note-requires c =
    let h = c.requires.2 in
    let d = c.args.document.now in
    let o = c.in-Ok.ensures.ok h.moment h.words h.placer in
    let n = o.0 in
    let all : n.documents.accepted ≡ h.moment.documents.accepted ++ d ∷ [] = ap (λ (x : Documents). x.accepted) o.4.documents in
    omega (
      arith,
      c.segments.ensures.cut n o.6,
      ap (λ (ds : List Doc). length (cut n.setting ds)) all,
      cut_some n.setting h.moment.documents.accepted d,
      cut_short n n.documents.accepted o.1.moment (prefix_self n.documents.accepted),
      ap (λ (τ : Setting). τ.segments) o.4.later.setting,
      ap (λ (τ : Setting). τ.segments) h.setting,
      ap (λ (τ : Setting). τ.segments) h.filters.setting,
    )

pub returns-in-Ok : goal.returns-in-Ok
returns-in-Ok c = λ σ docs h.
    let d = c.args.document.now in
    let o = c.in-Ok.ensures.ok h.moment h.words h.placer in
    let n = o.0 in
    let own : n.setting ≡ σ = sym o.4.later.setting ∙ h.setting in
    let all : n.documents.accepted ≡ docs ++ d ∷ [] = ap (λ (x : Documents). x.accepted) o.4.documents ∙ ap (λ (ds : List Doc). ds ++ d ∷ []) h.accepted in
    let begun : c.segments.result ≡ length (cut σ (docs ++ d ∷ [])) = c.segments.ensures.cut n o.6 ∙ (λ i. length (cut (own i) (all i))) in (
      subst (λ (x : Setting × List Doc). HasRoom x.0 x.1 d) (λ i. (h.setting i, h.accepted i)) o.3,
      record {
        moment = n;
        setting = own;
        words = o.1;
        placer = o.6;
        accepted = all;
        filters = c.note.ensures.covers σ docs h.filters (omega (arith, begun, cut_some σ docs d));
        documents = omega (arith, o.5, ap length h.accepted, length-append docs (d ∷ []));
      },
    )
