-- What a store leaves of a port.
use Rattle.std.proofs.Common.{◌≡◌, ℕ}
use Rattle.std.proofs.Common.{ap, sym, ◌∙◌, subst}
use Rattle.eb_base.specs.Document.{Doc}
use Rattle.eb_place.specs.declared.moment.Moment.{Moment}
use Rattle.eb_place.specs.Moments.{IsMoment}
use Rattle.eb_place.specs.NextStores.{IsNext, after_store, IsNextPut, after_put}
use Rattle.eb_place.proofs.AfterStore.{moment_stored}
use Rattle.eb_place.proofs.NextStore.{setting_stored}
use Rattle.eb_place.proofs.NextPackedStore.{moment_packed, setting_packed}
use Rattle.eb_table.specs.Known.{Known, Words, KnowsMoment}

pub stands_stored : (k l : Known) (w : Words) (m : Moment) (d : Doc) (p v : ℕ) → l ≡ record { table = k.table; moment = after_store k.moment d } → KnowsMoment k w m
    → IsNext m d p v → KnowsMoment l w (after_store m d)
stands_stored k l w m d p v e h n =
    let at : l.moment ≡ after_store m d = ap (λ (x : Known). x.moment) e ∙ ap (λ (x : Moment). after_store x d) h.1 in (
      record {
        table = ap (λ (x : Known). x.table) e ∙ h.0.table;
        setting = ap (λ (x : Moment). x.setting) at ∙ setting_stored m d ∙ ap (λ (x : Moment). x.setting) (sym h.1) ∙ h.0.setting;
        moment = subst IsMoment (sym at) (moment_stored m d p v (subst IsMoment h.1 h.0.moment) n);
      },
      at,
    )

pub stands_put : (k l : Known) (w : Words) (m : Moment) (p v : ℕ) → l ≡ record { table = k.table; moment = after_put k.moment } → KnowsMoment k w m → IsNextPut m p v
    → KnowsMoment l w (after_put m)
stands_put k l w m p v e h n =
    let at : l.moment ≡ after_put m = ap (λ (x : Known). x.moment) e ∙ ap after_put h.1 in (
      record {
        table = ap (λ (x : Known). x.table) e ∙ h.0.table;
        setting = ap (λ (x : Moment). x.setting) at ∙ setting_packed m ∙ ap (λ (x : Moment). x.setting) (sym h.1) ∙ h.0.setting;
        moment = subst IsMoment (sym at) (moment_packed m p v (subst IsMoment h.1 h.0.moment) n);
      },
      at,
    )
