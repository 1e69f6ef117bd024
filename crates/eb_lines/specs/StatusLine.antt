-- What a program says on its error output, by its status.
use Rattle.std.specs.Prelude.{ℕ, List, [], codes}
use Rattle.eb_lines.specs.declared.status.Status.{Status}
use Rattle.eb_lines.specs.declared.status.Status.TheVariants.{Done, Refused, Usage, ReadFault, WriteFault, NoMemory, InputTooLong, BadImage}

-- the exit code of a status
abbrev pub code_of : Status → ℕ
code_of Done = 0
code_of Refused = 1
code_of Usage = 2
code_of ReadFault = 3
code_of WriteFault = 4
code_of NoMemory = 5
code_of InputTooLong = 6
code_of BadImage = 7

-- the line of a status, with its LF, of a program with this line of usage; Done and Refused say
-- nothing
abbrev pub line_of : List ℕ → Status → List ℕ
line_of usage Done = []
line_of usage Refused = []
line_of usage Usage = usage
line_of usage ReadFault = codes "earlybird: read fault\n"
line_of usage WriteFault = codes "earlybird: write fault\n"
line_of usage NoMemory = codes "earlybird: no memory\n"
line_of usage InputTooLong = codes "earlybird: input too long\n"
line_of usage BadImage = codes "earlybird: bad image\n"
