use Rattle.std.proofs.Common.{Err, Some, None, refl, ap}
use Rattle.eb_base.specs.Query.{tree}
use Rattle.eb_lines.specs.declared.refusal.Refusal.TheVariants.{WatchTaken, WatchesFull}
use Rattle.eb_watch.specs.Seen.{watches_of}
use Rattle.run_with_watches.proofs.Setting.{takes_watch, keeps, set_taken, set_full, set_free, is_free, no_err}
use Rattle.run_with_watches.proofs.watched.Watching.set.Goals as goal

pub returns-in-Ok-clause-ok : goal.returns-in-Ok-clause-ok
returns-in-Ok-clause-ok g c =
    let ws = watches_of c.args.self.now.watches in
    let free = is_free _ (λ h. no_err _ _ (c.in-Ok.ensures.taken.1 h)) in
    takes_watch g.S.Store.holds c.args.self.now _ refl c.args.number (Some (tree c.args.query)) None
    (set_free ws c.args.number (tree c.args.query) free (λ h. no_err _ _ (c.in-Ok.ensures.full.1 (free, h)))) c.in-Ok.ensures.ok

pub returns-in-Err-Taken-clause-ok : goal.returns-in-Err-Taken-clause-ok
returns-in-Err-Taken-clause-ok g c =
    let ws = watches_of c.args.self.now.watches in
    takes_watch g.S.Store.holds c.args.self.now _ refl c.args.number (Some (tree c.args.query)) (Some WatchTaken)
    (set_taken ws c.args.number (tree c.args.query) (c.in-Err-Taken.ensures.taken.0 (ap Err c.in-Err-Taken.field-0-is))) c.in-Err-Taken.ensures.err

pub returns-in-Err-Full-clause-ok : goal.returns-in-Err-Full-clause-ok
returns-in-Err-Full-clause-ok g c =
    let ws = watches_of c.args.self.now.watches in
    let full = c.in-Err-Full.ensures.full.0 (ap Err c.in-Err-Full.field-0-is) in
    takes_watch g.S.Store.holds c.args.self.now _ refl c.args.number (Some (tree c.args.query)) (Some WatchesFull)
    (set_full ws c.args.number (tree c.args.query) full.0 full.1) c.in-Err-Full.ensures.err

pub returns-in-Err-NoMemory-clause-err : goal.returns-in-Err-NoMemory-clause-err
returns-in-Err-NoMemory-clause-err g c = keeps g.S.Store.holds c.args.self.now _ refl c.in-Err-NoMemory.ensures.err
