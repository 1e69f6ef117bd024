-- The buffers of `Lines`.
use Rattle.std.specs.Prelude.{◌≡◌, ◌<◌, ◌≤◌, true, [], length, slice_range, vec_capacity}
use Rattle.eb_io.specs.declared.lines.Lines.TheInside.{Inside}
use Rattle.eb_io.specs.declared.lines.TheConstants.{PIECE}
use Rattle.eb_io.specs.Lines.{longest_line, IsEnd}

-- what is still to be cut lies in the piece, and where its first line ends is known; both buffers
-- of a line have room for each line, and an end was met before as many bytes were taken as may be
pub record HasRoomForLines (lines : Inside) : Type 0 where
  pub order : lines.from ≤ lines.to
  pub within : lines.to ≤ length lines.piece.items
  pub piece : length lines.piece.items ≡ PIECE
  pub end : IsEnd (slice_range lines.piece.items lines.from lines.to) lines.end
  pub part : length lines.part.items ≤ longest_line
  pub part_room : longest_line ≤ vec_capacity lines.part
  pub given_room : longest_line ≤ vec_capacity lines.given
  pub long : lines.is_long ≡ true → lines.part.items ≡ []
  pub limit : lines.taken ≤ lines.limit
  pub ended : lines.is_ended ≡ true → lines.taken < lines.limit
