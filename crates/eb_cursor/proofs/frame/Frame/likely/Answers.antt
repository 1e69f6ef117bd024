use Rattle.std.proofs.Common.{◌≡◌, ap, refl, sym, ◌∙◌, subst, arith}
use Rattle.std.proofs.lemmas.Bool.{false≢true}
use Rattle.eb_base.specs.Query.{tree, word}
use Rattle.eb_place.proofs.LaterMoments.{later_self}
use Rattle.eb_cursor.specs.Frames.{query_of}
use Rattle.eb_cursor.specs.Greatest.{MatchesAt, AreFilled}
use Rattle.eb_cursor.proofs.Openings.{absent_matches}
use Rattle.eb_cursor.proofs.Steps.{tree_Word, word_is}
use Rattle.eb_cursor.proofs.frame.Frame.likely.Goals as goal

pub returns-in-Word-clause-told : goal.returns-in-Word-clause-told
returns-in-Word-clause-told g c = λ m st.
    let x = c.segments_with.ensures.told m st in
    let i : query_of c.args.self.now ≡ word c.in-Word.term = ap tree c.in-Word.is ∙ tree_Word c.in-Word.term in (
      x.0,
      x.1,
      x.2,
      x.3,
      (λ s docs n no p h. absent_matches m s docs n c.in-Word.term (g.met.P.Port.lawful c.args.port.now m st) (x.4 s no) p (subst (λ q. MatchesAt q docs n) i h)),
      λ t e. let same : c.in-Word.term ≡ t = cc (sym i ∙ e) in subst (λ z. AreFilled x.0 z c.args.begun c.segments_with.result) same x.5,
    )

pub returns-in_default : goal.returns-in_default
returns-in_default g c = record {
  told = λ m st. (
    m,
    st,
    later_self m,
    g.met.P.Port.keeps_itself c.args.port.now m st,
    (λ s docs n no p h. absurd (false≢true (sym no ∙ c.all.ensures s))),
    (λ t e. absurd (c.in_default.not-Word t (word_is c.args.self.now.query t e))),
  );
  loads = omega arith;
  none = λ ts e. refl;
}
