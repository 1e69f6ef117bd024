use Rattle.std.proofs.Common.{None, Some, refl, sym, true≢false}
use Rattle.eb_lines.specs.declared.refusal.Refusal.TheVariants.{NoWatch}
use Rattle.eb_watch.specs.Seen.{watches_of}
use Rattle.run_with_watches.proofs.Setting.{takes_watch, removes_none, removes_one, is_set_still}
use Rattle.run_with_watches.proofs.watched.Watching.remove.Goals as goal

pub returns-in-Ok : goal.returns-in-Ok
returns-in-Ok g c =
    let ws = watches_of c.args.self.now.watches in
    takes_watch g.S.Store.holds c.args.self.now _ refl c.args.number None None
    (removes_one ws c.args.number (is_set_still _ (λ h. true≢false (sym (c.in-Ok.ensures.no_watch.1 h))))) c.in-Ok.ensures.ok

pub returns-in-Err : goal.returns-in-Err
returns-in-Err g c =
    let ws = watches_of c.args.self.now.watches in
    takes_watch g.S.Store.holds c.args.self.now _ refl c.args.number None (Some NoWatch) (removes_none ws c.args.number (c.in-Err.ensures.no_watch.0 refl)) c.in-Err.ensures.err
