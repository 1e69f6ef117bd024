-- Which lines wait in a buffer, and what a piece of some lines is read as.
use Rattle.eb_fields.specs.Dialect.{plain}
use Rattle.std.proofs.Common.{◌≡◌, ℕ, List, [], ◌∷◌, refl, sym, subst, arith}
use Rattle.std.specs.Prelude.{None, Some, Result, Ok, Err}
use Rattle.std.specs.List.{AllZip}
use Rattle.std.specs.declared.vec.Vec.{Vec}
use Rattle.eb_base.specs.Document.{Doc}
use Rattle.eb_io.specs.Lines.{Line, line, long_line}
use Rattle.eb_lines.specs.declared.refusal.Refusal.TheVariants.{LongLine}
use Rattle.run_ahead.specs.declared.reading.Other.{Other}
use Rattle.run_ahead.specs.declared.reading.Other.TheVariants.{Blank, Refuse}
use Rattle.run_ahead.specs.Held.{line_in, IsWithin}
use Rattle.run_ahead.specs.Pieces.{IsPiece}
use Rattle.run_ahead.specs.Tasks.{IsTaskOf}

-- "ab", LF, "cd"
abbrev buffer : List ℕ
buffer = 97 ∷ 98 ∷ 10 ∷ 99 ∷ 100 ∷ []

last_line : line_in buffer (Some record { from = 3; to = 5 }) ≡ line (99 ∷ 100 ∷ [])
last_line = refl

no_byte : line_in buffer (Some record { from = 2; to = 2 }) ≡ line []
no_byte = refl

a_long_line : line_in buffer None ≡ long_line
a_long_line = refl

within : IsWithin 5 (Some record { from = 3; to = 5 })
within = (omega arith, omega arith)

not_past_the_end : IsWithin 5 (Some record { from = 3; to = 6 }) → ⊥
not_past_the_end h = omega (arith, h.1)

-- a blank line, a long one and a blank one, in pieces of two
abbrev lines : List Line
lines = line [] ∷ long_line ∷ line [] ∷ []

module _ {A : Type 0} (E : Type 0) (piece : Vec (Result Doc Other) A) where
  first_piece : piece.items ≡ Err Blank ∷ Err (Refuse LongLine) ∷ [] → IsPiece {A = A} {E = E} plain lines 2 0 (Ok piece)
  first_piece is = subst (AllZip (IsTaskOf plain) (line [] ∷ long_line ∷ [])) (sym is) (refl, (refl, tt))

  last_piece : piece.items ≡ Err Blank ∷ [] → IsPiece {A = A} {E = E} plain lines 2 1 (Ok piece)
  last_piece is = subst (AllZip (IsTaskOf plain) (line [] ∷ [])) (sym is) (refl, tt)

  no_line_left_out : piece.items ≡ Err Blank ∷ [] → IsPiece {A = A} {E = E} plain lines 2 0 (Ok piece) → ⊥
  no_line_left_out is h = (subst (AllZip (IsTaskOf plain) (line [] ∷ long_line ∷ [])) is h).1

  not_the_piece_before : piece.items ≡ Err Blank ∷ Err (Refuse LongLine) ∷ [] → IsPiece {A = A} {E = E} plain lines 2 1 (Ok piece) → ⊥
  not_the_piece_before is h = (subst (AllZip (IsTaskOf plain) (line [] ∷ [])) is h).1
