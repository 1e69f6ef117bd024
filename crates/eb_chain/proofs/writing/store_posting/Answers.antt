use Rattle.std.proofs.Common.{◌≡◌, ◌<◌, ◌+◌, [], ◌∷◌, ap, sym, ◌∙◌, subst}
use Rattle.eb_base.specs.Setting.{Setting}
use Rattle.eb_place.specs.Layout.{place, pool_slot, IsInPool}
use Rattle.eb_place.specs.Layout.Slot.{slot}
use Rattle.eb_place.specs.Layout.Region.{tail_region}
use Rattle.eb_place.specs.Placing.{Store}
use Rattle.eb_place.specs.NextStores.{after_store}
use Rattle.eb_place.proofs.NextStore.{setting_stored}
use Rattle.eb_place.proofs.PlacesOfSlots.{pool_in_segment, tail_in_segment}
use Rattle.eb_place.proofs.ListOfStores.{one_stored, first_in_table, next_at, pool_counts_nothing}
use Rattle.eb_chain.proofs.writing.store_posting.Goals as goal

pub posting_at-place-requires-clause-segment : goal.posting_at-place-requires-clause-segment
posting_at-place-requires-clause-segment g c =
    let r = c.requires in
    let is = g.met.P.Port.lawful c.args.pen.now r.0 r.1 in
    let w = pool_in_segment r.0.setting c.args.segment c.args.address
    (first_in_table r.0 c.args.document.now (pool_slot c.args.segment c.args.address, c.args.posting) ((slot c.args.segment tail_region c.args.term, c.args.address + 1) ∷ []) is r.2) in
    subst (λ (σ : Setting). c.args.segment < σ.segments) (sym (c.new-places.ensures ∙ c.config.ensures r.0 r.1)) w.0

pub posting_at-place-requires-clause-address : goal.posting_at-place-requires-clause-address
posting_at-place-requires-clause-address g c =
    let r = c.requires in
    let is = g.met.P.Port.lawful c.args.pen.now r.0 r.1 in
    let w = pool_in_segment r.0.setting c.args.segment c.args.address
    (first_in_table r.0 c.args.document.now (pool_slot c.args.segment c.args.address, c.args.posting) ((slot c.args.segment tail_region c.args.term, c.args.address + 1) ∷ []) is r.2) in
    subst (λ (σ : Setting). IsInPool σ c.args.address) (sym (c.new-places.ensures ∙ c.config.ensures r.0 r.1)) w.1

pub tail-tail-requires-clause-segment : goal.tail-tail-requires-clause-segment
tail-tail-requires-clause-segment g c =
    let r = c.requires in
    let is = g.met.P.Port.lawful c.args.pen.now r.0 r.1 in
    let w = pool_in_segment r.0.setting c.args.segment c.args.address
    (first_in_table r.0 c.args.document.now (pool_slot c.args.segment c.args.address, c.args.posting) ((slot c.args.segment tail_region c.args.term, c.args.address + 1) ∷ []) is r.2) in
    subst (λ (σ : Setting). c.args.segment < σ.segments) (sym (c.new-places.ensures ∙ c.config.ensures r.0 r.1)) w.0

pub tail-tail-requires-clause-term : goal.tail-tail-requires-clause-term
tail-tail-requires-clause-term g c =
    let r = c.requires in
    let d = c.args.document.now in
    let x : Store = (pool_slot c.args.segment c.args.address, c.args.posting) in
    let y : Store = (slot c.args.segment tail_region c.args.term, c.args.address + 1) in
    let is = g.met.P.Port.lawful c.args.pen.now r.0 r.1 in
    let one = one_stored r.0 d x (y ∷ []) r.2 (pool_counts_nothing c.args.segment c.args.address) in
    let n = after_store r.0 d in
    let w = tail_in_segment n.setting c.args.segment c.args.term (first_in_table n d y [] (Rattle.eb_place.proofs.AfterStore.moment_stored r.0 d _ _ is one.next) one.rest) in
    subst (λ (σ : Setting). c.args.term < σ.terms) (setting_stored r.0 d ∙ sym (c.new-places.ensures ∙ c.config.ensures r.0 r.1)) w.1

pub store-requires : goal.store-requires
store-requires g c =
    let r = c.requires in
    let m = r.0 in
    let d = c.args.document.now in
    let x : Store = (pool_slot c.args.segment c.args.address, c.args.posting) in
    let y : Store = (slot c.args.segment tail_region c.args.term, c.args.address + 1) in
    let at : c.posting_at-place.result ≡ place m.setting x.0 = c.posting_at-place.ensures.place
    ∙ ap (λ (σ : Setting). place σ (pool_slot c.args.segment c.args.address)) (c.new-places.ensures ∙ c.config.ensures m r.1) in
    (m, r.1, next_at m d x (y ∷ []) c.posting_at-place.result c.from.result r.2 at c.from.ensures)

pub store-requires-2 : goal.store-requires-2
store-requires-2 g c =
    let r = c.requires in
    let m = r.0 in
    let d = c.args.document.now in
    let x : Store = (pool_slot c.args.segment c.args.address, c.args.posting) in
    let y : Store = (slot c.args.segment tail_region c.args.term, c.args.address + 1) in
    let at : c.posting_at-place.result ≡ place m.setting x.0 = c.posting_at-place.ensures.place
    ∙ ap (λ (σ : Setting). place σ (pool_slot c.args.segment c.args.address)) (c.new-places.ensures ∙ c.config.ensures m r.1) in
    let k = c.store.ensures m r.1 (next_at m d x (y ∷ []) c.posting_at-place.result c.from.result r.2 at c.from.ensures) in
    let one = one_stored m d x (y ∷ []) r.2 (pool_counts_nothing c.args.segment c.args.address) in
    let n = after_store m d in
    let tail_at : c.tail-tail.result ≡ place n.setting y.0 = c.tail-tail.ensures.place
    ∙ ap (λ (σ : Setting). place σ (slot c.args.segment tail_region c.args.term)) (c.new-places.ensures ∙ c.config.ensures m r.1 ∙ sym (setting_stored m d)) in
    (n, k.0, next_at n d y [] c.tail-tail.result (c.from-2.result + 1) one.rest tail_at (ap (λ z. z + 1) c.from-2.ensures))

pub returns : goal.returns
returns g c m st h =
    let d = c.args.document.now in
    let x : Store = (pool_slot c.args.segment c.args.address, c.args.posting) in
    let y : Store = (slot c.args.segment tail_region c.args.term, c.args.address + 1) in
    let at : c.posting_at-place.result ≡ place m.setting x.0 = c.posting_at-place.ensures.place
    ∙ ap (λ (σ : Setting). place σ (pool_slot c.args.segment c.args.address)) (c.new-places.ensures ∙ c.config.ensures m st) in
    let k = c.store.ensures m st (next_at m d x (y ∷ []) c.posting_at-place.result c.from.result h at c.from.ensures) in
    let one = one_stored m d x (y ∷ []) h (pool_counts_nothing c.args.segment c.args.address) in
    let n = after_store m d in
    let tail_at : c.tail-tail.result ≡ place n.setting y.0 = c.tail-tail.ensures.place
    ∙ ap (λ (σ : Setting). place σ (slot c.args.segment tail_region c.args.term)) (c.new-places.ensures ∙ c.config.ensures m st ∙ sym (setting_stored m d)) in
    let l = c.store-2.ensures n k.0 (next_at n d y [] c.tail-tail.result (c.from-2.result + 1) one.rest tail_at (ap (λ z. z + 1) c.from-2.ensures)) in
    (l.0, g.met.P.Port.same_on _ _ _ k.1 l.1)
