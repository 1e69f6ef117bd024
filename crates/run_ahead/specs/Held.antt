-- Lines that wait, one after the other in one buffer.
use Rattle.std.specs.Prelude.{ℕ, ◌-◌, ◌≤◌, List, take, drop, Option, Some, None}
use Rattle.eb_io.specs.Lines.{Line, line, long_line}
use Rattle.run_ahead.specs.declared.lines.Span.{Span}

-- the line whose bytes are there; a long line has none
abbrev pub line_in : List ℕ → Option Span → Line
line_in bytes None = long_line
line_in bytes (Some s) = line (take (s.to - s.from) (drop s.from bytes))

-- it lies within `len` bytes
abbrev pub IsWithin : ℕ → Option Span → Type 0
IsWithin len None = Unit {0}
IsWithin len (Some s) = (s.from ≤ s.to) × (s.to ≤ len)
