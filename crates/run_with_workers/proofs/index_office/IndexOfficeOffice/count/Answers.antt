use Rattle.std.proofs.Common.{ℕ, List, ap}
use Rattle.eb_cursor.specs.Frames.{query_of}
use Rattle.eb_desk.specs.Desk.{ClerkBook}
use Rattle.run_with_workers.proofs.IndexOffices.{staffed_of, keeps_all, counts_all}
use Rattle.run_with_workers.proofs.Tallies.{has_buckets}
use Rattle.run_with_workers.proofs.index_office.IndexOfficeOffice.count.Goals as goal

pub count_all-requires : goal.count_all-requires
count_all-requires g c = record { staffed = staffed_of c.args.self.now c.requires }

pub returns-clause-keeps : goal.returns-clause-keeps
returns-clause-keeps g c = keeps_all c.args.self.now c.count_all.new.self c.count_all.ensures.keeps c.count_all.ensures.writer

pub returns-clause-same : goal.returns-clause-same
returns-clause-same g c = (ap (λ (k : ClerkBook (List ℕ)). k.put) c.count_all.ensures.clerk)

pub returns-clause-buckets : goal.returns-clause-buckets
returns-clause-buckets g c =
    has_buckets (query_of c.args.frame.now) c.count_all.new.self.writer.docs c.args.tally.now c.clear.new.self c.count_all.new.tally c.clear.ensures c.count_all.ensures.counts

pub returns-clause-counts : goal.returns-clause-counts
returns-clause-counts g c =
    counts_all c.count_all.new.self (query_of c.args.frame.now) c.count_all.result c.args.tally.now c.clear.new.self c.count_all.new.tally c.clear.ensures c.count_all.ensures.count
    c.count_all.ensures.counts
