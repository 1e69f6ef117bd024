-- What is seen of a line.
use Rattle.std.specs.Prelude.{◌≡◌, Option, Some, None, ⊤}
use Rattle.serde_json.specs.Data.{Data}
use Rattle.eb_fields.specs.Dialect.{Dialect}
use Rattle.eb_doc.specs.declared.look.Look.{Look}
use Rattle.eb_doc.specs.Seen.{ShowsMembers}

-- an object whose id and text by this dialect are seen, no value, or anything
abbrev pub IsLook : Dialect → Look → Option Data → Type 0
IsLook how (Look.Object found) value = (d : Data) × (value ≡ Some d) × ShowsMembers how found d
IsLook how Look.NoJson value = value ≡ None
IsLook how Look.Other value = ⊤
