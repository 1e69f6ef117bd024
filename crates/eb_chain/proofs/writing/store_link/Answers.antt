use Rattle.std.proofs.Common.{◌≡◌, ◌<◌, ◌-◌, ◌++◌, ap, sym, ◌∙◌, subst, Option, ℕ}
use Rattle.eb_base.specs.Setting.{Setting}
use Rattle.eb_place.specs.Layout.{place, pool_slot, IsInPool}
use Rattle.eb_place.specs.NextStores.{AreNext}
use Rattle.eb_place.proofs.PlacesOfSlots.{pool_in_segment}
use Rattle.eb_place.proofs.ListOfStores.{first_in_table, next_at}
use Rattle.eb_chain.specs.NextPlaces.{link_stores, after_link}
use Rattle.eb_chain.proofs.writing.store_link.Goals as goal

pub posting_at-place-requires-clause-segment : goal.posting_at-place-requires-clause-segment
posting_at-place-requires-clause-segment g c =
    let r = c.requires in
    let m = r.0 in
    let d = c.args.document.now in
    let is = g.met.P.Port.lawful c.args.pen.now m r.2 in
    let h = subst (λ (l : Option ℕ). AreNext m d (link_stores c.args.segment c.args.address l ++ r.1)) c.in-Some.is r.4 in
    let w = pool_in_segment m.setting c.args.segment (c.args.address - 1) (first_in_table m d (pool_slot c.args.segment (c.args.address - 1), c.in-Some.last) r.1 is h) in
    subst (λ (σ : Setting). c.args.segment < σ.segments) (sym (c.new.ensures ∙ c.config.ensures m r.2)) w.0

pub posting_at-place-requires-clause-address : goal.posting_at-place-requires-clause-address
posting_at-place-requires-clause-address g c =
    let r = c.requires in
    let m = r.0 in
    let d = c.args.document.now in
    let is = g.met.P.Port.lawful c.args.pen.now m r.2 in
    let h = subst (λ (l : Option ℕ). AreNext m d (link_stores c.args.segment c.args.address l ++ r.1)) c.in-Some.is r.4 in
    let w = pool_in_segment m.setting c.args.segment (c.args.address - 1) (first_in_table m d (pool_slot c.args.segment (c.args.address - 1), c.in-Some.last) r.1 is h) in
    subst (λ (σ : Setting). IsInPool σ (c.args.address - 1)) (sym (c.new.ensures ∙ c.config.ensures m r.2)) w.1

pub store-requires : goal.store-requires
store-requires g c =
    let r = c.requires in
    let m = r.0 in
    let d = c.args.document.now in
    let h = subst (λ (l : Option ℕ). AreNext m d (link_stores c.args.segment c.args.address l ++ r.1)) c.in-Some.is r.4 in
    let at : c.posting_at-place.result ≡ place m.setting (pool_slot c.args.segment (c.args.address - 1)) = c.posting_at-place.ensures.place
    ∙ ap (λ (σ : Setting). place σ (pool_slot c.args.segment (c.args.address - 1))) (c.new.ensures ∙ c.config.ensures m r.2) in
    (m, r.2, next_at m d (pool_slot c.args.segment (c.args.address - 1), c.in-Some.last) r.1 c.posting_at-place.result c.from.result h at c.from.ensures)

pub returns-in-Some : goal.returns-in-Some
returns-in-Some g c m now st h =
    let d = c.args.document.now in
    let h' = subst (λ (l : Option ℕ). AreNext m d (link_stores c.args.segment c.args.address l ++ now)) c.in-Some.is h in
    let at : c.posting_at-place.result ≡ place m.setting (pool_slot c.args.segment (c.args.address - 1)) = c.posting_at-place.ensures.place
    ∙ ap (λ (σ : Setting). place σ (pool_slot c.args.segment (c.args.address - 1))) (c.new.ensures ∙ c.config.ensures m st) in
    let k = c.store.ensures m st (next_at m d (pool_slot c.args.segment (c.args.address - 1), c.in-Some.last) now c.posting_at-place.result c.from.result h' at c.from.ensures) in
    (subst (λ (l : Option ℕ). g.P.Port.stands c.store.new.self (after_link m d l)) (sym c.in-Some.is) k.0, k.1)
