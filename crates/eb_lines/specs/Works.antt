-- What the reading of a line, and its work, represent.
use Rattle.std.specs.Prelude.{Option, Some, None, Result, Ok, Err}
use Rattle.eb_base.specs.Document.{Doc}
use Rattle.eb_cursor.specs.Frames.{query_of, k_of}
use Rattle.eb_cursor.specs.declared.frame.Frame.{Frame}
use Rattle.eb_query.specs.declared.ask.Ask.TheVariants.{Newest}
use Rattle.eb_query.specs.declared.read.QueryFault.{QueryFault}
use Rattle.eb_query.specs.declared.read.QueryFault.TheVariants as faults
use Rattle.eb_lines.specs.declared.refusal.Refusal.{Refusal}
use Rattle.eb_lines.specs.declared.refusal.Refusal.TheVariants.{BadNumber, BadQuery, QueryTooLarge, QueryTooDeep}
use Rattle.eb_lines.specs.declared.work.Work.{Work}
use Rattle.eb_lines.specs.declared.work.Work.TheVariants.{Nothing, Add, Answer, Refuse}
use Rattle.eb_lines.specs.Reading.{Reading, blank, document, query, refused}

-- a document line that is read
abbrev pub document_reading : Result Doc Refusal → Reading
document_reading (Ok d) = document d
document_reading (Err r) = refused r

-- the refusal of a line whose query has this fault; out of memory refuses no line
abbrev pub refusal_of : QueryFault → Option Refusal
refusal_of faults.BadNumber = Some BadNumber
refusal_of (faults.BadQuery column) = Some (BadQuery column)
refusal_of faults.TooDeep = Some QueryTooDeep
refusal_of faults.TooManyNodes = Some QueryTooLarge
refusal_of faults.NoMemory = None

-- a query line that is read
abbrev pub query_reading : Result Frame Refusal → Reading
query_reading (Ok frame) = query (Newest (k_of frame)) (query_of frame)
query_reading (Err r) = refused r

abbrev pub reading_of : Work → Reading
reading_of Nothing = blank
reading_of (Add d) = document d
reading_of (Answer frame) = query (Newest (k_of frame)) (query_of frame)
reading_of (Refuse r) = refused r
