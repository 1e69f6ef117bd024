use Rattle.std.proofs.Common.{ap, drop, ◌∙◌, sym}
use Rattle.std.proofs.lemmas.List.{take_rest}
use Rattle.eb_io.proofs.Bytes.{read_left}
use Rattle.eb_io.proofs.sure_source.SureSourceSource.read.Goals as goal

pub returns-clause-left : goal.returns-clause-left
returns-clause-left c =
    let inside = c.self.inside in
    let held = c.deref.result.now in
    sym c.self.view_is
    ∙ read_left inside.bytes.items c.copy_front-count.new.into _ inside.at c.copy_front-count.result
    (take_rest held inside.at ∙ ap (drop inside.at) c.deref.ensures.value) c.copy_front-count.ensures.bytes
