-- What a line is held as says what its reading may be.
use Rattle.eb_fields.specs.Dialect.{Dialect}
use Rattle.std.proofs.Common.{◌≡◌, ℕ, ◌+◌, Bool, true, false, List, [], ◌∷◌, Option, Some, None, Ok, Err, refl, sym, ap, ◌∙◌, arith, zero-add}
use Rattle.std.specs.Prelude.{Result}
use Rattle.std.specs.List.{AllZip, AllByRecursion}
use Rattle.std.proofs.lemmas.List.Sums.{sum_by-append}
use Rattle.eb_base.specs.Document.{Doc}
use Rattle.eb_io.specs.Lines.{Line, line, long_line}
use Rattle.eb_doc.specs.WithFields.{document_with}
use Rattle.eb_doc.specs.declared.LineFault.{LineFault}
use Rattle.eb_doc.specs.declared.LineFault.TheVariants as fault
use Rattle.eb_query.specs.Reading.{Outcome, asks, bad_number, bad_query, too_deep, too_many_nodes}
use Rattle.eb_lines.specs.Reading.{Reading}
use Rattle.eb_lines.specs.Progress.{one_if}
use Rattle.eb_rounds.specs.Inputs.{HeldInput, HeldLine}
use Rattle.eb_lines.specs.Reads.{IsOfDocument, of_query}
use Rattle.run_store.specs.Sees.{is_document_line, is_query_line}
use Rattle.eb_rounds.specs.Standing.{documents_held, is_document_input, is_query_input}
use Rattle.eb_lines.specs.Kinds.{Kind, blank_line, bad_line, kind_of}
use Rattle.eb_lines.specs.Kinds as kind
use Rattle.eb_lines.specs.Reads.{ReadsByKind, Reads}
use Rattle.eb_run.specs.Holding.{input_by, held_as, before_held, held_from}

abbrev pub asks_query : Option HeldInput → Bool
asks_query None = false
asks_query (Some i) = is_query_input i

abbrev pub gives_document : Option HeldInput → Bool
gives_document None = false
gives_document (Some i) = is_document_input i

of_document_quiet : (x : Result Doc LineFault) (r : Reading) → IsOfDocument x r → is_query_line r ≡ false
of_document_quiet (Ok d) r h = rw h refl
of_document_quiet (Err fault.BadJson) r h = rw h refl
of_document_quiet (Err fault.BadDocument) r h = rw h refl
of_document_quiet (Err fault.TooLong) r h = rw h refl
of_document_quiet (Err fault.NoMemory) r h = absurd h

of_query_free : (o : Outcome) → is_document_line (of_query o) ≡ false
of_query_free (asks k q) = refl
of_query_free bad_number = refl
of_query_free (bad_query column) = refl
of_query_free too_deep = refl
of_query_free too_many_nodes = refl

quiet_by : (how : Dialect) (k : Kind) (bytes : List ℕ) (r : Reading) → asks_query (input_by k bytes) ≡ false → ReadsByKind how k bytes r → is_query_line r ≡ false
quiet_by how blank_line bytes r e h = rw h refl
quiet_by how kind.document_line bytes r e h = of_document_quiet (document_with how bytes) r h
quiet_by how kind.query_line bytes r e h = absurd (cc e)
quiet_by how bad_line bytes r e h = rw h refl

free_by : (how : Dialect) (k : Kind) (bytes : List ℕ) (r : Reading) → gives_document (input_by k bytes) ≡ false → ReadsByKind how k bytes r → is_document_line r ≡ false
free_by how blank_line bytes r e h = rw h refl
free_by how kind.document_line bytes r e h = absurd (cc e)
free_by how kind.query_line bytes r e h = ap is_document_line h.2 ∙ of_query_free h.0
free_by how bad_line bytes r e h = rw h refl

-- a line that isn't held as a query line
pub reads_quiet : (how : Dialect) (l : Line) (r : Reading) → asks_query (held_as how l) ≡ false → Reads how l r → is_query_line r ≡ false
reads_quiet how (line bytes) r e h = quiet_by how (kind_of how bytes) bytes r e h
reads_quiet how long_line r e h = rw h refl

reads_free : (how : Dialect) (l : Line) (r : Reading) → gives_document (held_as how l) ≡ false → Reads how l r → is_document_line r ≡ false
reads_free how (line bytes) r e h = free_by how (kind_of how bytes) bytes r e h
reads_free how long_line r e h = rw h refl

documents_cons : (number : ℕ) (o : Option HeldInput) (hs : List HeldLine) → documents_held (before_held number o hs) ≡ one_if (gives_document o) + documents_held hs
unfolding documents_held
documents_cons number None hs = sym (zero-add _)
documents_cons number (Some i) hs =
    sum_by-append (λ (x : HeldLine). one_if (is_document_input x.input)) (record { number = number; input = i } ∷ []) hs ∙ ap (λ n. n + documents_held hs) (zero-add (one_if (is_document_input i)))

none_given : (b : Bool) (n : ℕ) → one_if b + n ≡ 0 → (b ≡ false) × (n ≡ 0)
none_given true n e = absurd (omega (arith, e))
none_given false n e = (refl, omega (arith, e))

-- lines of which none is held as a document line
pub free_of : (how : Dialect) (k : ℕ) (ls : List Line) → documents_held (held_from how k ls) ≡ 0 → (rs : List Reading) → AllZip (Reads how) ls rs
    → AllByRecursion (λ x. is_document_line x ≡ false) rs
free_of how k [] e [] h = tt
free_of how k [] e (r ∷ rs) h = absurd h
free_of how k (l ∷ ls) e [] h = absurd h
free_of how k (l ∷ ls) e (r ∷ rs) h =
    let n = none_given (gives_document (held_as how l)) (documents_held (held_from how (k + 1) ls)) (sym (documents_cons (k + 1) (held_as how l) (held_from how (k + 1) ls)) ∙ e) in
    (reads_free how l r n.0 h.0, free_of how (k + 1) ls n.1 rs h.1)
