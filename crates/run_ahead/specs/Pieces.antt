-- What lines are read as, piece by piece.
use Rattle.eb_fields.specs.Dialect.{Dialect}
use Rattle.std.specs.Prelude.{ℕ, ◌*◌, ◌<◌, List, take, drop, length, get_or, Result, IfOk}
use Rattle.std.specs.List.{AllZip}
use Rattle.std.specs.declared.vec.Vec.{Vec}
use Rattle.eb_base.specs.Document.{Doc}
use Rattle.eb_io.specs.Lines.{Line}
use Rattle.run_ahead.specs.declared.reading.Other.{Other}
use Rattle.run_ahead.specs.Tasks.{IsTaskOf}

-- this is what piece i of some lines, in pieces of n, is read as with these fields, unless memory
-- runs out
abbrev pub IsPiece : {A E : Type 0} → Dialect → List Line → ℕ → ℕ → Result (Vec (Result Doc Other) A) E → Type 0
IsPiece how lines size i piece = IfOk piece (λ tasks. AllZip (IsTaskOf how) (take size (drop (i * size) lines)) tasks.items)

abbrev pub ArePieces : {A E : Type 0} → Dialect → List Line → ℕ → List (Result (Vec (Result Doc Other) A) E) → Type 0
ArePieces {A} {E} how lines size pieces = (i : ℕ) (d : Result (Vec (Result Doc Other) A) E) → i < length pieces → IsPiece how lines size i (get_or pieces i d)
