use Rattle.eb_fields.specs.Dialect.{dialect_of}
use Rattle.std.proofs.Common.{◌≡◌, ◌+◌, ◌-◌, ◌<◌, ◌∷◌, length, drop}
use Rattle.std.specs.Str.{IsCharBoundary}
use Rattle.eb_query.specs.Machine.{start, outcome}
use Rattle.eb_query.specs.Lexemes.{lexemes}
use Rattle.eb_query.specs.Views.{state_of, lexeme_of, IsCounted}
use Rattle.eb_query.proofs.read.read_rest.Given as goal

abbrev pub invariant-loop-reader : goal.invariant-loop-reader
invariant-loop-reader l = record {
  told : outcome l.line l.fn.head.ask (record { column = l.at + 1; lexeme = lexeme_of l.found.lexeme } ∷ lexemes (dialect_of l.dialect) 0 (l.found.end + 1) (drop l.found.end l.line))
      (state_of l.reader) ≡ outcome l.line l.fn.head.ask (lexemes (dialect_of l.dialect) 0 (l.fn.head.end + 1) (drop l.fn.head.end l.line)) start;
  counted : IsCounted l.reader;
  within : l.at < length l.line;
  after : l.at < l.found.end;
  boundary : IsCharBoundary l.line l.found.end;
}

abbrev pub decreases-loop-reader : goal.decreases-loop-reader
decreases-loop-reader l = length l.line - l.at
