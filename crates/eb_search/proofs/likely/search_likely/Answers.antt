use Rattle.std.proofs.Common.{◌∙◌, sym, subst, arith}
use Rattle.eb_base.specs.Match.{answer}
use Rattle.eb_base.specs.Query.{Tree}
use Rattle.eb_place.specs.Room.{cut}
use Rattle.eb_search.specs.Visible.{AreNone}
use Rattle.eb_search.proofs.Matches.{more_none}
use Rattle.eb_search.proofs.likely.search_likely.Goals as goal

pub returns-clause-answer : goal.returns-clause-answer
returns-clause-answer g c = λ m st.
    let r = c.search_on_likely.ensures.answer m st in
    let s = r.3 in
    let docs = s.loaded.documents.accepted in (
      r.0,
      r.1,
      r.2,
      record {
        loaded = s.loaded;
        after = s.after;
        before = s.before;
        count = s.count;
        ids = λ none.
            let asked = subst (λ (q : Tree). AreNone q (cut s.loaded.setting docs) c.args.likely) (sym c.clear.ensures.query) none in
            more_none _ _ _ docs _ c.clear.ensures.ids (s.ids asked) ∙ (λ i. answer (c.clear.ensures.query i) (c.clear.ensures.k i) docs);
      },
    )

pub returns-clause-loads : goal.returns-clause-loads
returns-clause-loads g c = λ m t st is.
    let r = c.search_on_likely.ensures.loads m t st (c.clear.ensures.query ∙ is) in
    (r.0, r.1, r.2, r.3, omega (arith, r.4))

pub returns-clause-rounds : goal.returns-clause-rounds
returns-clause-rounds g c = λ m ts st is.
    let r = c.search_on_likely.ensures.rounds m ts st (c.clear.ensures.query ∙ is) in
    (r.0, r.1, r.2, r.3, omega (arith, r.4))
