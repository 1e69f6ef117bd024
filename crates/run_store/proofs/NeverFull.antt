-- No line comes to one that is refused as full, by rules that refuse no document.
use Rattle.eb_fields.specs.Dialect.{Dialect}
use Rattle.std.proofs.Common.{◌≡◌, ℕ, List, [], ◌∷◌, ◌++◌, Option, Some, None, sym, ap, subst}
use Rattle.std.specs.Prelude.{Result, Ok, Err}
use Rattle.std.specs.List.{AllZip, AllByRecursion}
use Rattle.run_store.specs.Rules.{Rules, document_outcome, watch_outcome, comes, watches_after, come_behind, ReadsKind, ReadsWith, AreRead, is_bad}
use Rattle.eb_base.specs.Document.{Doc}
use Rattle.eb_base.specs.Query.{Tree}
use Rattle.eb_io.specs.Lines.{Line, line, long_line}
use Rattle.eb_doc.specs.WithFields.{document_with}
use Rattle.eb_doc.specs.declared.LineFault.{LineFault}
use Rattle.eb_doc.specs.declared.LineFault.TheVariants as fault
use Rattle.eb_query.specs.Reading.{Outcome, asks, bad_number, bad_query, too_deep, too_many_nodes}
use Rattle.eb_lines.specs.declared.refusal.Refusal.{Refusal}
use Rattle.eb_lines.specs.declared.refusal.Refusal.TheVariants.{Full}
use Rattle.eb_lines.specs.Kinds.{Kind, blank_line, document_line, query_line, bad_line, kind_of}
use Rattle.eb_lines.specs.Progress.{documents_in}
use Rattle.eb_lines.specs.Reading.{Reading, blank, document, query, refused, watch}
use Rattle.eb_lines.specs.Reads.{IsOfDocument, of_query}

abbrev pub IsNotFull : Reading → Type 0
IsNotFull r = r ≡ refused Full → ⊥

-- ---- no line is read so

of_document : (d : Result Doc LineFault) → IsOfDocument d (refused Full) → ⊥
of_document (Ok d) e = (cc e)
of_document (Err fault.BadJson) e = (cc e)
of_document (Err fault.BadDocument) e = (cc e)
of_document (Err fault.TooLong) e = (cc e)
of_document (Err fault.NoMemory) e = e

pub of_asked : (o : Outcome) → refused Full ≡ of_query o → ⊥
of_asked (asks k q) e = (cc e)
of_asked bad_number e = (cc e)
of_asked (bad_query column) e = (cc e)
of_asked too_deep e = (cc e)
of_asked too_many_nodes e = (cc e)

pub of_bad : (how : Dialect) (bytes : List ℕ) → is_bad how bytes (refused Full) → ⊥
of_bad how bytes e = (cc e)

module _ (other : Dialect → List ℕ → Reading → Type 0) (none : (how : Dialect) (bytes : List ℕ) → other how bytes (refused Full) → ⊥) where
  by_kind : (how : Dialect) (k : Kind) (bytes : List ℕ) → ReadsKind other how k bytes (refused Full) → ⊥
  by_kind how blank_line bytes e = (cc e)
  by_kind how document_line bytes e = of_document (document_with how bytes) e
  by_kind how query_line bytes e = of_asked e.0 e.2
  by_kind how bad_line bytes e = none how bytes e

  of_line : (how : Dialect) (l : Line) → ReadsWith other how l (refused Full) → ⊥
  of_line how (line bytes) e = by_kind how (kind_of how bytes) bytes e
  of_line how long_line e = (cc e)

  raw_none : (how : Dialect) (ls : List Line) (rs : List Reading) → AllZip (ReadsWith other how) ls rs → AllByRecursion IsNotFull rs
  raw_none how [] [] e = tt
  raw_none how [] (r ∷ rs) e = absurd e
  raw_none how (l ∷ ls) [] e = absurd e
  raw_none how (l ∷ ls) (r ∷ rs) e = (λ is. of_line how l (subst (ReadsWith other how l) is e.0), raw_none how ls rs e.1)

  -- ---- none comes to one by rules that refuse no document

  module _ {W : Type 0} (rules : Rules W) (none_refused : (docs : List Doc) (d : Doc) → rules.refusal docs d ≡ None) (none_so : (ws : W) (n : ℕ) (q : Option Tree)
      → rules.watch_refusal ws n q ≡ Some Full → ⊥) where
    watch_comes : (n : ℕ) (q : Option Tree) (x : Option Refusal) → (x ≡ Some Full → ⊥) → IsNotFull (watch_outcome n q x)
    watch_comes n q None h e = (cc e)
    watch_comes n q (Some r) h e = let same : r ≡ Full = cc in h (ap Some same)

    one_comes : (docs : List Doc) (ws : W) (r : Reading) → IsNotFull r → IsNotFull (comes rules docs ws r)
    one_comes docs ws blank h = h
    one_comes docs ws (document d) h = subst (λ (x : Option Refusal). IsNotFull (document_outcome d x)) (sym (none_refused docs d)) h
    one_comes docs ws (query k q) h = h
    one_comes docs ws (refused r) h = h
    one_comes docs ws (watch n q) h = watch_comes n q (rules.watch_refusal ws n q) (none_so ws n q)

    all_come : (docs : List Doc) (ws : W) (rs : List Reading) → AllByRecursion IsNotFull rs → AllByRecursion IsNotFull (come_behind rules docs ws rs)
    unfolding come_behind
    all_come docs ws [] h = tt
    all_come docs ws (r ∷ rs) h =
        (one_comes docs ws r h.0, all_come (docs ++ documents_in (comes rules docs ws r)) (watches_after rules ws (comes rules docs ws r)) rs h.1)

    pub none_full : (lines : List Line) (rs : List Reading) → AreRead other rules lines rs → AllByRecursion IsNotFull rs
    none_full lines rs read =
        subst (AllByRecursion IsNotFull) (sym read.2) (all_come rules.start rules.watches read.0 (raw_none rules.dialect lines read.0 read.1))
