-- The kind of a line by its first byte, and how a line is read by its kind.
use Rattle.eb_fields.specs.Dialect.{Dialect}
use Rattle.std.proofs.Common.{◌≡◌, ◌==◌, ◌&&◌, ◌||◌, ℕ, ◌<◌, Bool, true, false, List, [], ◌∷◌, length, get_or, refl, sym, ap, subst, ◌∙◌, ne_eqb, arith}
use Rattle.std.specs.Prelude.{IsUtf8, if◌then◌else◌}
use Rattle.std.specs.Str.{is_utf8}
use Rattle.std.proofs.lemmas.Bool.{eqb-true, false_from_ne_true}
use Rattle.std.proofs.lemmas.Str.{IsUtf8-from_is_utf8, is_utf8-from_IsUtf8}
use Rattle.eb_io.specs.Lines.{line}
use Rattle.eb_query.specs.Head.{begins_query}
use Rattle.eb_lines.specs.Kinds.{Kind, blank_line, document_line, query_line, bad_line, kind_of}
use Rattle.eb_lines.specs.Reading.{Reading}
use Rattle.eb_lines.specs.Reads.{ReadsByKind, Reads}

-- what begins as a query line does begins as no document line
no_brace : (how : Dialect) (b : ℕ) (bs : List ℕ) → begins_query how (b ∷ bs) ≡ true → (b == 123) ≡ false
no_brace how b bs e = go how.counts (b == 35) refl (b == 63) refl e
  where
    go : (c x : Bool) → (b == 35) ≡ x → (y : Bool) → (b == 63) ≡ y → ((c && x) || y) ≡ true → (b == 123) ≡ false
    go c x p true q h = let same : b ≡ 63 = eqb-true b 63 q in rw same refl
    go true true p false q h = let same : b ≡ 35 = eqb-true b 35 p in rw same refl
    go true false p false q h = let no : ⊥ = cc in absurd no
    go false x p false q h = let no : ⊥ = cc in absurd no

by_test : (how : Dialect) (b : ℕ) (bs : List ℕ) → begins_query how (b ∷ bs) ≡ true → kind_of how (b ∷ bs) ≡ (if is_utf8 (b ∷ bs) then query_line else bad_line)
by_test how b bs e = rw (no_brace how b bs e, e) refl

pub kind_query : (how : Dialect) (bytes : List ℕ) → begins_query how bytes ≡ true → IsUtf8 bytes → kind_of how bytes ≡ query_line
kind_query how [] e utf8 = let no : ⊥ = cc in absurd no
kind_query how (b ∷ bs) e utf8 = by_test how b bs e ∙ ap (λ t. if t then query_line else bad_line) (is_utf8-from_IsUtf8 (b ∷ bs) utf8)

pub kind_bad : (how : Dialect) (bytes : List ℕ) → begins_query how bytes ≡ true → (IsUtf8 bytes → ⊥) → kind_of how bytes ≡ bad_line
kind_bad how [] e other = let no : ⊥ = cc in absurd no
kind_bad how (b ∷ bs) e other =
    by_test how b bs e ∙ ap (λ t. if t then query_line else bad_line) (false_from_ne_true _ (λ h. other (IsUtf8-from_is_utf8 (b ∷ bs) h)))

-- by the first byte
pub kind_none : (how : Dialect) (bytes : List ℕ) → bytes ≡ [] → kind_of how bytes ≡ blank_line
kind_none how bytes e = ap (kind_of how) e

pub kind_document : (how : Dialect) (bytes : List ℕ) → 0 < length bytes → get_or bytes 0 0 ≡ 123 → kind_of how bytes ≡ document_line
kind_document how [] l e = absurd (omega arith)
kind_document how (b ∷ bs) l e = let same : b ≡ 123 = e in rw same refl

pub kind_other : (how : Dialect) (bytes : List ℕ) → 0 < length bytes → (get_or bytes 0 0 ≡ 123 → ⊥) → begins_query how bytes ≡ false → kind_of how bytes ≡ bad_line
kind_other how [] l n e = absurd (omega arith)
kind_other how (b ∷ bs) l n e = rw (ne_eqb b 123 n, e) refl

-- a line is read by its kind
pub reads_as : (how : Dialect) (bytes : List ℕ) (k : Kind) (r : Reading) → kind_of how bytes ≡ k → ReadsByKind how k bytes r → Reads how (line bytes) r
reads_as how bytes k r is h = subst (λ (x : Kind). ReadsByKind how x bytes r) (sym is) h
