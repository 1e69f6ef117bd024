-- What a query line is read as.
use Rattle.eb_fields.specs.Dialect.{Dialect}
use Rattle.std.specs.Prelude.{ℕ, List, Result, Ok, Err}
use Rattle.eb_base.specs.declared.query.Query.{Query}
use Rattle.eb_base.specs.Query.{tree, IsWellFormed}
use Rattle.eb_query.specs.Head.{IsWithin}
use Rattle.eb_query.specs.declared.ask.Ask.{Ask}
use Rattle.eb_lines.specs.declared.refusal.Refusal.{Refusal}
use Rattle.eb_lines.specs.Kinds.{query_line}
use Rattle.eb_lines.specs.Reading.{query, refused}
use Rattle.eb_lines.specs.Reads.{ReadsByKind}

-- this may be asked of a query
pub record MayAsk (a : Ask) (q : Query) : Type 0 where
  pub formed : IsWellFormed (tree q)
  pub within : IsWithin a

-- the line is read as this, asked of this query, by the dialect, or it is refused
abbrev pub IsQuestion : Dialect → List ℕ → Result (Ask × Query) Refusal → Type 0
IsQuestion how bytes (Ok x) = MayAsk x.0 x.1 × ReadsByKind how query_line bytes (query x.0 (tree x.1))
IsQuestion how bytes (Err r) = ReadsByKind how query_line bytes (refused r)
