use Rattle.std.proofs.Common.{ℕ, List, ap, subst}
use Rattle.eb_desk.specs.Desk.{ClerkBook}
use Rattle.run_with_workers.specs.IndexOffices.{WithPlaced}
use Rattle.run_with_workers.proofs.IndexOffices.{staffed_of, places_one, places_none}
use Rattle.run_with_workers.proofs.index_office.IndexOfficeOffice.place.Goals as goal

pub add-requires : goal.add-requires
add-requires g c = record { staffed = staffed_of c.args.self.now c.requires }

pub returns-then-add-clause-placed : goal.returns-then-add-clause-placed
returns-then-add-clause-placed g c =
    places_one c.args.self.now c.add.new.self c.args.document.now c.add.ensures.keeps (subst (WithPlaced c.args.self.now c.add.new.self c.args.document.now) c.if-add.true c.add.ensures.placed)

pub returns-then-add-clause-same : goal.returns-then-add-clause-same
returns-then-add-clause-same g c = (ap (λ (k : ClerkBook (List ℕ)). k.put) c.add.ensures.clerk)

pub returns-clause-placed : goal.returns-clause-placed
returns-clause-placed g c =
    places_none c.args.self.now c.add.new.self c.args.document.now c.add.ensures.keeps (subst (WithPlaced c.args.self.now c.add.new.self c.args.document.now) c.if-add.false c.add.ensures.placed)

pub returns-clause-same : goal.returns-clause-same
returns-clause-same g c = (ap (λ (k : ClerkBook (List ℕ)). k.put) c.add.ensures.clerk)
