use Rattle.std.proofs.Common.{◌≡◌, ℕ, ◌≤◌, length}
use Rattle.json.specs.Json.{members, value}
use Rattle.serde_json.specs.Data.{Members, no_members, object}
use Rattle.serde_json.specs.Read.{of_members, converted}
use Rattle.eb_doc.specs.Seen.{ShowsMembers}
use Rattle.eb_fields.specs.Dialect.{dialect_of}
use Rattle.eb_doc.proofs.members.read_members.Given as goal

abbrev pub invariant-members : goal.invariant-members
invariant-members l =
    (n : ℕ) × (length l.reader ≤ n)
    × ((old : Members) × (converted (λ ms. of_members ms no_members) (members (value l.depth) (length l.initial.reader) l.initial.reader)
    ≡ converted (λ ms. of_members ms old) (members (value l.depth) n l.reader))
    × ShowsMembers (dialect_of l.dialect) l.found (object old))

abbrev pub decreases-members : goal.decreases-members
decreases-members l = length l.reader
