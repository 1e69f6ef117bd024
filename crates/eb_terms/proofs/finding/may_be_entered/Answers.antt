use Rattle.std.proofs.Common.{◌≡◌, ◌<◌, true, ap, sym, ◌∙◌, subst, inl}
use Rattle.std.proofs.lemmas.Bool.{false≢true}
use Rattle.eb_base.specs.Setting.{Setting}
use Rattle.eb_place.proofs.LaterMoments.{inside_later}
use Rattle.eb_terms.specs.Finding.{cells_in, is_filled}
use Rattle.eb_terms.proofs.Probing.{home_by_hash, home_is, home_at, number_filled, probe_low, probe_later, none_passed, not_entered}
use Rattle.eb_terms.proofs.finding.may_be_entered.Goals as goal

pub number_in-requires : goal.number_in-requires
number_in-requires g c =
    let r = c.requires.inside in
    let is = g.met.P.Port.lawful c.args.port.now r.0 r.1 in
    let home = home_by_hash c.args.term.now _ _ _ c.requires.hash c.home_of-first.ensures in
    let at = home_is r.0 c.config-config.result c.args.term.now c.terms.result c.home_of-first.result is (c.config-config.ensures r.0 r.1) c.terms.ensures home in
    (r.0, r.1, c.new-places.ensures ∙ c.config-config.ensures r.0 r.1, r.2, subst (λ z. z < cells_in r.0) (sym at) (probe_low r.0 c.args.term.now 0 is))

pub returns-in_default-clause-told : goal.returns-in_default-clause-told
returns-in_default-clause-told g c = λ m st.
    let s = c.args.segment in
    let t = c.args.term.now in
    let is = g.met.P.Port.lawful c.args.port.now m st in
    let r = c.requires.inside in
    let inside : s < m.setting.segments = subst (λ (σ : Setting). s < σ.segments) (sym (c.config-config.ensures r.0 r.1) ∙ c.config-config.ensures m st) r.2 in
    let home = home_by_hash c.args.term.now _ _ _ c.requires.hash c.home_of-first.ensures in
    let at = home_is m c.config-config.result t c.terms.result c.home_of-first.result is (c.config-config.ensures m st) c.terms.ensures home in
    let n = c.in_default.ensures.told.told m st (c.new-places.ensures ∙ c.config-config.ensures m st, inside, subst (λ z. z < cells_in m) (sym at) (probe_low m t 0 is)) in
    let js = g.met.P.Port.lawful c.number_in.new.port n.0 n.1 in
    let free = ap (is_filled n.0 s) (probe_later m n.0 t 0 n.2 ∙ sym at) ∙ n.4 in (
      n.0,
      n.1,
      n.2,
      n.3,
      (λ no there. not_entered n.0 s t 0 js (inside_later m n.0 s n.2 inside) (none_passed n.0 s t) (inl free) there),
      sym n.4 ∙ home_at m n.0 s t c.home_of-first.result js n.2 at,
      inside_later m n.0 s n.2 inside,
    )

pub returns-clause-told : goal.returns-clause-told
returns-clause-told g c = λ m st.
    let s = c.args.segment in
    let t = c.args.term.now in
    let is = g.met.P.Port.lawful c.args.port.now m st in
    let r = c.requires.inside in
    let inside : s < m.setting.segments = subst (λ (σ : Setting). s < σ.segments) (sym (c.config-config.ensures r.0 r.1) ∙ c.config-config.ensures m st) r.2 in
    let home = home_by_hash c.args.term.now _ _ _ c.requires.hash c.home_of-first.ensures in
    let at = home_is m c.config-config.result t c.terms.result c.home_of-first.result is (c.config-config.ensures m st) c.terms.ensures home in
    let n = c.in-Some.ensures.told.told m st (c.new-places.ensures ∙ c.config-config.ensures m st, inside, subst (λ z. z < cells_in m) (sym at) (probe_low m t 0 is)) in
    let js = g.met.P.Port.lawful c.number_in.new.port n.0 n.1 in
    let low = inside_later m n.0 s n.2 inside in
    let full : is_filled n.0 s c.home_of-first.result ≡ true = ap (is_filled n.0 s) (sym n.4.1) ∙ number_filled n.0 s _ js low n.4.0 in
    (n.0, n.1, n.2, n.3, (λ no. absurd (false≢true (sym no))), sym full ∙ home_at m n.0 s t c.home_of-first.result js n.2 at, low)
