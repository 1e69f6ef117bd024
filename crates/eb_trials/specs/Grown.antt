-- Which moment a growing port stands for.
use Rattle.std.specs.Prelude.{◌≡◌, ℕ, ◌<◌, List, length, drop}
use Rattle.eb_base.specs.Document.{Doc, IsDocument}
use Rattle.eb_place.specs.declared.moment.Moment.{Moment}
use Rattle.eb_place.specs.Room.{HasRoom}
use Rattle.eb_place.specs.Placing.{placing}
use Rattle.eb_place.specs.Later.{IsNotBefore}
use Rattle.eb_place.specs.NextStores.{stores_done, IsCurrent}
use Rattle.eb_flat.specs.Flat.{StandsFor}
use Rattle.eb_trials.specs.declared.growing.GrowingPort.{GrowingPort}

-- these are the stores that are left of the placing of a document: it has room, and no other is
-- being placed
pub record AreLeft (m : Moment) (d : Doc) (left : List (ℕ × ℕ)) : Type 0 where
  pub limits : IsDocument d
  pub room : HasRoom m.setting m.documents.accepted d
  pub current : IsCurrent m.documents.current d
  pub stores : left ≡ drop (stores_done m.documents.current) (placing m.setting m.documents.accepted d)

-- the words stand for the moment, and the stores that the port still has are those left of its
-- document's placing
pub record Grows (g : GrowingPort) (m : Moment) : Type 0 where
  pub words : StandsFor g.words m
  pub left : g.done < length g.stores.items → AreLeft m g.document (drop g.done g.stores.items)

-- the second port has grown from the first, which stood for the moment, or is the same
pub record HasGrown (g h : GrowingPort) (m : Moment) : Type 0 where
  pub moment : Moment
  pub stands : Grows h moment
  pub later : IsNotBefore moment m
  pub setting : h.words.setting ≡ g.words.setting
