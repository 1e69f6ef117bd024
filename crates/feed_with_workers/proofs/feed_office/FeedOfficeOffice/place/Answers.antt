use Rattle.std.proofs.Common.{ℕ, List, ap}
use Rattle.eb_desk.specs.Desk.{ClerkBook}
use Rattle.feed_with_workers.proofs.FeedOffices.{staffed_of, places_one}
use Rattle.feed_with_workers.proofs.feed_office.FeedOfficeOffice.place.Goals as goal

pub add-requires : goal.add-requires
add-requires g c = record { staffed = staffed_of c.args.self.now c.requires }

pub returns-clause-placed : goal.returns-clause-placed
returns-clause-placed g c = places_one c.args.self.now c.add.new.self c.args.document.now c.add.ensures.keeps c.in_ok-add.ensures.placed

pub returns-clause-same : goal.returns-clause-same
returns-clause-same g c = ap (λ (k : ClerkBook (List ℕ)). k.put) c.add.ensures.clerk
