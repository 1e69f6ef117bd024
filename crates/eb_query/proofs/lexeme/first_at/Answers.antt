use Rattle.eb_fields.specs.Dialect.{dialect_of}
use Rattle.std.proofs.Common.{ℕ, ap, sym, arith}
use Rattle.std.proofs.lemmas.Str.{IsCharBoundary-after_ascii}
use Rattle.eb_query.specs.Grammar.{Lexeme}
use Rattle.eb_query.proofs.Cuts.{first_opening, first_closing, first_minus, first_quoted, first_bare}
use Rattle.eb_query.proofs.lexeme.first_at.Goals as goal

pub returns-then-byte-eq40-clause-lexeme : goal.returns-then-byte-eq40-clause-lexeme
returns-then-byte-eq40-clause-lexeme c =
    let e = rw c.as_bytes.ensures.value at c.if-byte-eq40.true in sym (ap (λ (p : Lexeme × ℕ). p.0) (first_opening (dialect_of c.args.dialect.now) _ _ e))

pub returns-then-byte-eq40-clause-end : goal.returns-then-byte-eq40-clause-end
returns-then-byte-eq40-clause-end c =
    let e = rw c.as_bytes.ensures.value at c.if-byte-eq40.true in rw (first_opening (dialect_of c.args.dialect.now) _ _ e) (omega arith)

pub returns-then-byte-eq40-clause-boundary : goal.returns-then-byte-eq40-clause-boundary
returns-then-byte-eq40-clause-boundary c =
    let e = rw c.as_bytes.ensures.value at c.if-byte-eq40.true in
    IsCharBoundary-after_ascii c.args.line.now c.args.at c.utf8.line c.requires.within (omega (arith, e))

pub returns-then-byte-eq41-clause-lexeme : goal.returns-then-byte-eq41-clause-lexeme
returns-then-byte-eq41-clause-lexeme c =
    let e = rw c.as_bytes.ensures.value at c.if-byte-eq41.true in sym (ap (λ (p : Lexeme × ℕ). p.0) (first_closing (dialect_of c.args.dialect.now) _ _ e))

pub returns-then-byte-eq41-clause-end : goal.returns-then-byte-eq41-clause-end
returns-then-byte-eq41-clause-end c =
    let e = rw c.as_bytes.ensures.value at c.if-byte-eq41.true in rw (first_closing (dialect_of c.args.dialect.now) _ _ e) (omega arith)

pub returns-then-byte-eq41-clause-boundary : goal.returns-then-byte-eq41-clause-boundary
returns-then-byte-eq41-clause-boundary c =
    let e = rw c.as_bytes.ensures.value at c.if-byte-eq41.true in
    IsCharBoundary-after_ascii c.args.line.now c.args.at c.utf8.line c.requires.within (omega (arith, e))

pub returns-then-byte-eq45-clause-lexeme : goal.returns-then-byte-eq45-clause-lexeme
returns-then-byte-eq45-clause-lexeme c =
    let e = rw c.as_bytes.ensures.value at c.if-byte-eq45.true in sym (ap (λ (p : Lexeme × ℕ). p.0) (first_minus (dialect_of c.args.dialect.now) _ _ e))

pub returns-then-byte-eq45-clause-end : goal.returns-then-byte-eq45-clause-end
returns-then-byte-eq45-clause-end c =
    let e = rw c.as_bytes.ensures.value at c.if-byte-eq45.true in rw (first_minus (dialect_of c.args.dialect.now) _ _ e) (omega arith)

pub returns-then-byte-eq45-clause-boundary : goal.returns-then-byte-eq45-clause-boundary
returns-then-byte-eq45-clause-boundary c =
    let e = rw c.as_bytes.ensures.value at c.if-byte-eq45.true in
    IsCharBoundary-after_ascii c.args.line.now c.args.at c.utf8.line c.requires.within (omega (arith, e))

pub returns-then-byte-eq34-clause-lexeme : goal.returns-then-byte-eq34-clause-lexeme
returns-then-byte-eq34-clause-lexeme c = let e = rw c.as_bytes.ensures.value at c.if-byte-eq34.true in rw (first_quoted (dialect_of c.args.dialect.now) _ _ e) c.quoted_at.ensures.lexeme

pub returns-then-byte-eq34-clause-end : goal.returns-then-byte-eq34-clause-end
returns-then-byte-eq34-clause-end c = let e = rw c.as_bytes.ensures.value at c.if-byte-eq34.true in rw (first_quoted (dialect_of c.args.dialect.now) _ _ e) c.quoted_at.ensures.end

pub returns-clause-lexeme : goal.returns-clause-lexeme
returns-clause-lexeme c =
    let v = c.as_bytes.ensures.value in
    let h = rw v at c.if-byte-eq40.false in let i = rw v at c.if-byte-eq41.false in let j = rw v at c.if-byte-eq45.false in let k = rw v at c.if-byte-eq34.false in
    rw (first_bare (dialect_of c.args.dialect.now) _ _ h i j k) c.bare_at.ensures.lexeme

pub returns-clause-end : goal.returns-clause-end
returns-clause-end c =
    let v = c.as_bytes.ensures.value in
    let h = rw v at c.if-byte-eq40.false in let i = rw v at c.if-byte-eq41.false in let j = rw v at c.if-byte-eq45.false in let k = rw v at c.if-byte-eq34.false in
    rw (first_bare (dialect_of c.args.dialect.now) _ _ h i j k) c.bare_at.ensures.end
