use Rattle.eb_blend.specs.Parts.{Parts}
use Rattle.run_over_parts.proofs.Placings.{holds_none}
use Rattle.run_over_parts.proofs.store.Store.new.Goals as goal

pub returns : goal.returns
returns c =
    let e = c.in_ok-blend.ensures in
    let ws = c.in_ok-blend.blend.indexes in
    holds_none _ c.args.parts c.args.config ws c.requires.0 c.requires.1 c.words-words.ensures.setting e.parts e.settings
    (λ i. let b : Parts = record { setting = e.setting i; indexes = ws } in b) e.writer e.converter
