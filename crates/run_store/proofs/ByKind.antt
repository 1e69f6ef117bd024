-- A line is read by its kind.
use Rattle.eb_fields.specs.Dialect.{Dialect}
use Rattle.std.proofs.Common.{◌≡◌, ℕ, List, [], ◌∷◌, sym, subst}
use Rattle.std.specs.List.{AllZip}
use Rattle.eb_io.specs.Lines.{Line, line, long_line}
use Rattle.eb_lines.specs.Kinds.{Kind, blank_line, document_line, query_line, bad_line, kind_of}
use Rattle.eb_lines.specs.Reading.{Reading}
use Rattle.eb_lines.specs.Reads.{ReadsByKind, Reads}
use Rattle.run_store.specs.Rules.{ReadsKind, ReadsWith, is_bad}

pub reads_with : (other : Dialect → List ℕ → Reading → Type 0) (how : Dialect) (bytes : List ℕ) (k : Kind) (r : Reading) → kind_of how bytes ≡ k → ReadsKind other how k bytes r
    → ReadsWith other how (line bytes) r
reads_with other how bytes k r is h = subst (λ (x : Kind). ReadsKind other how x bytes r) (sym is) h

-- where another line is a bad line
kind_plain : (how : Dialect) (k : Kind) (bytes : List ℕ) (r : Reading) → ReadsByKind how k bytes r → ReadsKind is_bad how k bytes r
kind_plain how blank_line bytes r h = h
kind_plain how document_line bytes r h = h
kind_plain how query_line bytes r h = h
kind_plain how bad_line bytes r h = h

pub reads_plain : (how : Dialect) (l : Line) (r : Reading) → Reads how l r → ReadsWith is_bad how l r
reads_plain how (line bytes) r h = kind_plain how (kind_of how bytes) bytes r h
reads_plain how long_line r h = h

pub all_plain : (how : Dialect) (ls : List Line) (rs : List Reading) → AllZip (Reads how) ls rs → AllZip (ReadsWith is_bad how) ls rs
all_plain how [] [] h = tt
all_plain how [] (r ∷ rs) h = absurd h
all_plain how (l ∷ ls) [] h = absurd h
all_plain how (l ∷ ls) (r ∷ rs) h = (reads_plain how l r h.0, all_plain how ls rs h.1)
