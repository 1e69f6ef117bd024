use Rattle.std.proofs.Common.{◌≡◌, ◌∙◌, ap, sym, subst, length, [], refl, slice_get, Some, List}
use Rattle.eb_base.specs.Term.{Term}
use Rattle.eb_place.specs.declared.moment.Documents.{Documents}
use Rattle.eb_place.proofs.LaterMoments.{later_self, inside_later}
use Rattle.eb_terms.specs.Entering.{IsNextTerm, HasEntered}
use Rattle.eb_terms.proofs.Probing.{term_of}
use Rattle.eb_writer.specs.Recall.{token_at}
use Rattle.eb_writer.specs.Storing.{tokens_until}
use Rattle.eb_writer.proofs.Recalling.{at_place}
use Rattle.eb_writer.proofs.Tallies.{number_tells_new, number_tells_old}
use Rattle.eb_writer.proofs.Coming.{joined, next_term, entered_posting, old_posting, old_term}
use Rattle.eb_writer.proofs.storing.entered_number.Goals as goal

pub enter-requires : goal.enter-requires
enter-requires g c =
    let r = c.requires in
    let m = r.0 in
    let d = c.args.document.now in
    let s = c.args.segment in
    let i = c.args.at in
    let t = c.get.result.now in
    let at : token_at d.terms i ≡ t = at_place d.terms i t [] (subst (λ (z : List Term). slice_get z i ≡ Some t) c.terms.ensures.terms c.get.ensures) in
    let new = number_tells_new (token_at d.terms i) (tokens_until m d i) (sym r.5 ∙ c.if-number-used.true ∙ r.3.terms ∙ ap length r.2.entered) in
    (m, r.1, r.3, subst (IsNextTerm m d s) at (next_term m d s i r.4 new r.2))

pub returns-then-number-used : goal.returns-then-number-used
returns-then-number-used g c = record {
  written = λ m st q.
      (let d = c.args.document.now in
      let s = c.args.segment in
      let i = c.args.at in
      let t = c.get.result.now in
      let at : token_at d.terms i ≡ t = at_place d.terms i t [] (subst (λ (z : List Term). slice_get z i ≡ Some t) c.terms.ensures.terms c.get.ensures) in
      let new = number_tells_new (token_at d.terms i) (tokens_until m d i) (sym q.3 ∙ c.if-number-used.true ∙ q.1.terms ∙ ap length q.0.entered) in
      let n = c.enter.ensures.written m st (q.1, subst (IsNextTerm m d s) at (next_term m d s i q.2 new q.0)) in
      let e = subst (λ z. HasEntered m n.0 d s z c.enter.result) (sym at) n.3.0 in
      let inside = (joined m d s (g.met.P.Port.lawful _ m st) q.0.placed).inside in (
        n.0,
        n.1,
        n.2,
        (
          record { later = e.later; accepted = ap (λ (x : Documents). x.accepted) e.documents },
          entered_posting m n.0 d s i c.enter.result q.2 new q.0 e,
          term_of n.0 s (token_at d.terms i) c.enter.result (inside_later m n.0 s e.later inside) e.number,
          n.3.1,
        ),
      ));
}

pub returns : goal.returns
returns g c = record {
  written = λ m st q.
      (let d = c.args.document.now in
      let s = c.args.segment in
      let i = c.args.at in
      let old = number_tells_old (token_at d.terms i) (tokens_until m d i) (λ z. c.if-number-used.false (q.3 ∙ z ∙ sym (q.1.terms ∙ ap length q.0.entered))) in
      let inside = (joined m d s (g.met.P.Port.lawful _ m st) q.0.placed).inside in (
        m,
        st,
        g.met.P.Port.keeps_same _ _ m m (g.met.P.Port.keeps_itself _ m st),
        (
          record { later = later_self m; accepted = refl },
          old_posting m d s i q.2 old q.0,
          old_term m d s i c.args.number inside old q.0 q.3,
          q.1,
        ),
      ));
}
