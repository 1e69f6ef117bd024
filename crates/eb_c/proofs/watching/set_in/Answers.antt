use Rattle.eb_base.specs.Query.{tree}
use Rattle.eb_watch.specs.Seen.{watches_of}
use Rattle.eb_c.proofs.Watched.{has_set}
use Rattle.eb_c.proofs.watching.set_in.Goals as goal

pub returns : goal.returns
returns c =
    has_set (watches_of c.args.watches.now) (watches_of c.set-done.new.self) c.args.number (tree c.args.wanted.query) c.set-done.result c.set_number.result
    c.set_number.ensures c.set-done.ensures.ok c.set-done.ensures.taken c.set-done.ensures.full c.set-done.ensures.err
