use Rattle.std.proofs.Common.{ℕ, List, ap}
use Rattle.eb_desk.specs.Desk.{ClerkBook}
use Rattle.eb_lines.proofs.Results.{ok_on}
use Rattle.feed_shared.specs.Turns.{counted}
use Rattle.feed_with_workers.specs.Offices.{docs_of}
use Rattle.feed_with_workers.proofs.FeedOffices.{ok_any, staffed_of, keeps_all}
use Rattle.feed_with_workers.proofs.feed_office.FeedOfficeOffice.ask.Goals as goal

pub put-requires-clause-staffed : goal.put-requires-clause-staffed
put-requires-clause-staffed g c = staffed_of c.args.self.now c.requires.state

pub returns-clause-asked : goal.returns-clause-asked
returns-clause-asked g c = ok_on c.put.result c.put.ensures.put (λ e. (counted (docs_of c.args.self.now), ap (λ (k : ClerkBook (List ℕ)). k.put) e))

pub returns-clause-keeps : goal.returns-clause-keeps
returns-clause-keeps g c = ok_any c.put.result (keeps_all c.args.self.now c.put.new.self c.put.ensures.keeps c.put.ensures.feed)
