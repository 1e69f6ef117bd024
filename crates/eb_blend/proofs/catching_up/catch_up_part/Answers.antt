use Rattle.std.proofs.Common.{ℕ, ◌+◌, ◌<◌, length, sym, subst}
use Rattle.eb_place.specs.Room.{cut}
use Rattle.eb_engine.specs.Tokens.{ConverterToken}
use Rattle.eb_blend.proofs.Closings.{front_converted}
use Rattle.eb_blend.proofs.catching_up.catch_up_part.Goals as goal

pub returns-then-has_waiting-clause-converted : goal.returns-then-has_waiting-clause-converted
returns-then-has_waiting-clause-converted c =
    let σ = c.args.index.now.setting in
    let docs = c.args.writer.now.docs in
    subst (λ (k : ConverterToken). (s : ℕ) → s + 1 < length (cut σ docs) → s < k.converted) (sym c.hear.ensures.converter)
    (front_converted σ docs c.meet.new.self.docs c.convert_part.new.converter.converted (rw (← c.reader.ensures.reader) c.meet.ensures.reader) c.convert_part.ensures.converted)
