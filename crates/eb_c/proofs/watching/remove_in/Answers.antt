use Rattle.eb_watch.specs.Seen.{watches_of}
use Rattle.eb_c.proofs.Watched.{has_removed}
use Rattle.eb_c.proofs.watching.remove_in.Goals as goal

pub returns : goal.returns
returns c =
    has_removed (watches_of c.args.watches.now) (watches_of c.remove-done.new.self) c.args.number c.remove-done.result c.remove_number.result
    c.remove_number.ensures c.remove-done.ensures.ok c.remove-done.ensures.no_watch c.remove-done.ensures.err
