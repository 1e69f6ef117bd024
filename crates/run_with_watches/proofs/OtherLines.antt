-- How a line that begins with an exclamation mark is read, and one that doesn't.
use Rattle.eb_fields.specs.Dialect.{Dialect}
use Rattle.std.proofs.Common.{◌≡◌, ℕ, Bool, true, false, List, [], ◌∷◌, Option, Some, None, refl, sym, ap, subst, eqb→eq, ◌∙◌}
use Rattle.std.specs.Prelude.{T, ◌==◌, slice_get, IsUtf8}
use Rattle.std.specs.Str.{is_utf8}
use Rattle.std.proofs.lemmas.Bool.{false_from_ne_true}
use Rattle.std.proofs.lemmas.Str.{IsUtf8-from_is_utf8, is_utf8-from_IsUtf8}
use Rattle.eb_base.specs.Query.{Tree}
use Rattle.eb_lines.specs.declared.refusal.Refusal.{Refusal}
use Rattle.eb_lines.specs.declared.refusal.Refusal.TheVariants.{BadLine}
use Rattle.eb_lines.specs.Reading.{Reading, refused, watch}
use Rattle.eb_lines.specs.Reads.{of_query}
use Rattle.eb_lines.specs.Works.{refusal_of}
use Rattle.eb_lines.proofs.Refused.{refused_as}
use Rattle.eb_query.proofs.OneOutcome.{one_watch_outcome}
use Rattle.eb_query.proofs.SomeOutcome.{some_watch_outcome}
use Rattle.eb_query.specs.Reading.{Outcome, asks, bad_number, bad_query, too_deep, too_many_nodes}
use Rattle.eb_query.specs.Refusal.{IsWatchRefusedWith}
use Rattle.eb_query.specs.WatchLine.{WatchOutcome, ReadsWatchWith, watch_asked}
use Rattle.eb_query.specs.WatchLine as outcome
use Rattle.eb_query.specs.declared.read.QueryFault.{QueryFault}
use Rattle.run_with_watches.specs.Others.{is_watch_line, of_watch_text, of_watch_line, ReadsOtherBy, ReadsOther}

by_mark : (b : ℕ) (bs : List ℕ) → b ≡ 33 → is_watch_line (b ∷ bs) ≡ is_utf8 (b ∷ bs)
by_mark b bs e = rw e refl

pub reads_text : (how : Dialect) (bytes : List ℕ) (o : WatchOutcome) → slice_get bytes 0 ≡ Some 33 → IsUtf8 bytes → ReadsWatchWith how bytes o → ReadsOther how bytes (of_watch_line o)
reads_text how [] o e utf8 reads = absurd (cc e)
reads_text how (b ∷ bs) o e utf8 reads =
    let first : b ≡ 33 = cc in
    subst (λ (t : Bool). ReadsOtherBy how t (b ∷ bs) (of_watch_line o)) (sym (by_mark b bs first ∙ is_utf8-from_IsUtf8 (b ∷ bs) utf8)) (o, reads, refl)

asked_is : (n : ℕ) (q : Option Tree) → of_watch_line (watch_asked n q) ≡ watch n q
asked_is n None = refl
asked_is n (Some t) = refl

pub reads_asked : (how : Dialect) (bytes : List ℕ) (n : ℕ) (q : Option Tree) → slice_get bytes 0 ≡ Some 33 → IsUtf8 bytes → ReadsWatchWith how bytes (watch_asked n q)
    → ReadsOther how bytes (watch n q)
reads_asked how bytes n q e utf8 reads = subst (ReadsOther how bytes) (asked_is n q) (reads_text how bytes (watch_asked n q) e utf8 reads)

-- a refused query text refuses its watch line
watch_refused : (o : Outcome) (r : Refusal) → refused r ≡ of_query o → of_watch_text o ≡ refused r
watch_refused (asks a q) r e = absurd (cc e)
watch_refused bad_number r e = sym e
watch_refused (bad_query column) r e = sym e
watch_refused too_deep r e = sym e
watch_refused too_many_nodes r e = sym e

pub reads_refused : (how : Dialect) (bytes : List ℕ) (fault : QueryFault) (r : Refusal) → slice_get bytes 0 ≡ Some 33 → IsUtf8 bytes → IsWatchRefusedWith how bytes fault
    → refusal_of fault ≡ Some r → ReadsOther how bytes (refused r)
reads_refused how bytes fault r e utf8 is same =
    let x = refused_as (λ (o : Outcome). ReadsWatchWith how bytes (outcome.reads o)) fault r is same in
    subst (ReadsOther how bytes) (watch_refused x.0 r x.2) (reads_text how bytes (outcome.reads x.0) e utf8 x.1)

pub reads_not_utf8 : (how : Dialect) (bytes : List ℕ) → slice_get bytes 0 ≡ Some 33 → (IsUtf8 bytes → ⊥) → ReadsOther how bytes (refused BadLine)
reads_not_utf8 how [] e other = absurd (cc e)
reads_not_utf8 how (b ∷ bs) e other =
    let first : b ≡ 33 = cc in
    let none : is_watch_line (b ∷ bs) ≡ false = by_mark b bs first ∙ false_from_ne_true _ (λ h. other (IsUtf8-from_is_utf8 (b ∷ bs) h)) in
    subst (λ (t : Bool). ReadsOtherBy how t (b ∷ bs) (refused BadLine)) (sym none) refl

pub reads_unmarked : (how : Dialect) (bytes : List ℕ) → (slice_get bytes 0 ≡ Some 33 → ⊥) → ReadsOther how bytes (refused BadLine)
reads_unmarked how [] unmarked = refl
reads_unmarked how (b ∷ bs) unmarked =
    let other : (b == 33) ≡ false = false_from_ne_true _ (λ h. unmarked (ap Some (eqb→eq b 33 (subst T (sym h) tt)))) in
    let none : is_watch_line (b ∷ bs) ≡ false = rw other refl in
    subst (λ (t : Bool). ReadsOtherBy how t (b ∷ bs) (refused BadLine)) (sym none) refl

-- ---- each line has exactly one reading

one_by : (how : Dialect) (t : Bool) (bytes : List ℕ) (a b : Reading) → ReadsOtherBy how t bytes a → ReadsOtherBy how t bytes b → a ≡ b
one_by how true bytes a b e f = e.2 ∙ ap of_watch_line (one_watch_outcome how bytes e.0 f.0 e.1 f.1) ∙ sym f.2
one_by how false bytes a b e f = e ∙ sym f

pub one_other : (how : Dialect) (bytes : List ℕ) (a b : Reading) → ReadsOther how bytes a → ReadsOther how bytes b → a ≡ b
one_other how bytes a b e f = one_by how (is_watch_line bytes) bytes a b e f

some_by : (how : Dialect) (t : Bool) (bytes : List ℕ) → (r : Reading) × ReadsOtherBy how t bytes r
some_by how true bytes = let o = some_watch_outcome how bytes in (of_watch_line o.0, (o.0, o.1, refl))
some_by how false bytes = (refused BadLine, refl)

pub some_other : (how : Dialect) (bytes : List ℕ) → (r : Reading) × ReadsOther how bytes r
some_other how bytes = some_by how (is_watch_line bytes) bytes
