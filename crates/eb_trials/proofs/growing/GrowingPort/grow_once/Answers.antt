use Rattle.std.proofs.Common.{◌<◌, length, arith}
use Rattle.eb_place.proofs.AfterStore.{later_stored}
use Rattle.eb_trials.proofs.StoresLeft.{there, next_left, left_grown}
use Rattle.eb_trials.proofs.growing.GrowingPort.grow_once.Goals as goal

pub store-requires : goal.store-requires
store-requires c =
    let r = c.requires in
    let g = c.args.self.now in
    let low : g.done < length g.stores.items = omega arith in
    (r.0, r.1.words, next_left r.0 g.document g.stores.items g.done _ _ (r.1.left low) (there _ _ _ low c.index.ensures))

pub returns : goal.returns
returns c m h =
    let g = c.args.self.now in
    let low : g.done < length g.stores.items = omega arith in
    let left = h.left low in
    let w = c.store.ensures m h.words (next_left m g.document g.stores.items g.done _ _ left (there _ _ _ low c.index.ensures)) in
    record {
      moment = _;
      stands = record { words = w.0; left = λ l. left_grown m g.document g.stores.items g.done left l };
      later = later_stored m _ left.current;
      setting = w.1;
    }
