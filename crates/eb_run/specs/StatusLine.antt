-- What a run and a feed say on their error output, by the status.
use Rattle.std.specs.Prelude.{ℕ, List, ◌++◌, codes}
use Rattle.eb_lines.specs.declared.status.Status.{Status}
use Rattle.eb_lines.specs.StatusLine.{line_of}

-- how to call the program
abbrev pub usage : List ℕ
usage = codes "earlybird: usage: run [--overlap | --workers N | --parts N | --watch] [--stats] [--segments N] [--docs N] [--terms N] | "
    ++ codes "bench START DOCS | save [--segments N] [--docs N] [--terms N] | load [--stats]\n"

-- the line of a status, with its LF; Done and Refused say nothing
abbrev pub status_line : Status → List ℕ
status_line status = line_of usage status

-- how to call the program for a feed, and the line of its status
abbrev pub feed_usage : List ℕ
feed_usage = codes "earlybird: usage: feed [--overlap | --workers N | --watch] [--keep N] [--fields LIST] [--stats] [--json] [--segments N] [--docs N] [--terms N]\n"

abbrev pub feed_status_line : Status → List ℕ
feed_status_line status = line_of feed_usage status
