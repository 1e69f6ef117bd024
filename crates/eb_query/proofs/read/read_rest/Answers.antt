use Rattle.eb_fields.specs.Dialect.{dialect_of}
use Rattle.std.proofs.Common.{◌+◌, ◌<◌, ◌≤◌, List, ◌∙◌, sym, ap, subst, length, drop, None, Some, Err, arith}
use Rattle.eb_base.specs.Query.{tree}
use Rattle.eb_query.specs.Lexemes.{Placed, lexemes}
use Rattle.eb_query.specs.Machine.{start, outcome}
use Rattle.eb_query.specs.Views.{state_of, lexeme_of, Finds}
use Rattle.eb_query.specs.declared.read.QueryFault.{QueryFault}
use Rattle.eb_query.proofs.Cuts.{lexemes_at, stood, at_end}
use Rattle.eb_query.proofs.Fits.{fits_finds}
use Rattle.eb_query.proofs.read.read_rest.Goals as goal

pub loop-reader-preserved : goal.loop-reader-preserved
loop-reader-preserved c =
    let how = dialect_of c.args.dialect.now in let line = c.args.line.now in
    let at = c.skip_blanks-at.result in let end = c.in_ok-found.found.end in
    let f = c.if-at-line.false in let within = c.skip_blanks-at.ensures.within in let from = c.skip_blanks-at.ensures.from in
    let before = c.loop-reader.invariant.after in let e = c.in_ok-found.ensures.end in
    let h : at < length line = omega arith in
    let s = rw c.in-Stood.is at c.in_ok-read.ensures.steps in
    let p : Placed = record { column = c.loop-reader.at + 1; lexeme = lexeme_of c.loop-reader.found.lexeme } in
    let ps : List Placed = lexemes how 0 (c.loop-reader.found.end + 1) (drop c.loop-reader.found.end line) in
    record {
      told = sym (stood c.args.head.ask line p ps (state_of c.loop-reader.reader) (state_of c.read.new.self) s.0 s.1
          ∙ ap (λ (rest : List Placed). outcome line c.args.head.ask rest (state_of c.read.new.self)) (c.skip_blanks-at.ensures.lexemes how
          ∙ lexemes_at how line at end (lexeme_of c.in_ok-found.found.lexeme) h (c.skip_blanks-at.ensures.stops h) c.in_ok-found.ensures.lexeme e)) ∙ c.loop-reader.invariant.told;
      counted = c.in_ok-read.ensures.counted c.in-Stood.is;
      within = h;
      after = omega arith;
      boundary = c.in_ok-found.ensures.boundary;
    }

pub returns-in-None : goal.returns-in-None
returns-in-None c =
    let how = dialect_of c.args.dialect.now in let line = c.args.line.now in let a = c.args.head.ask in
    let f = c.if-at-line.true in
    let k : length line ≤ c.skip_blanks-at.result = omega arith in
    let s = rw c.in-Stood.is at c.in_ok-read.ensures.steps in
    let e = rw c.in-None.is at c.in_ok-finish.ensures in
    let p : Placed = record { column = c.loop-reader.at + 1; lexeme = lexeme_of c.loop-reader.found.lexeme } in
    let ps : List Placed = lexemes how 0 (c.loop-reader.found.end + 1) (drop c.loop-reader.found.end line) in
    let told = sym c.loop-reader.invariant.told ∙ stood a line p ps (state_of c.loop-reader.reader) (state_of c.read.new.self) s.0 s.1
    ∙ ap (λ (rest : List Placed). outcome line a rest (state_of c.read.new.self)) (c.skip_blanks-at.ensures.lexemes how)
    ∙ at_end a how line c.skip_blanks-at.result (state_of c.read.new.self) None k (sym e) in
    subst (λ (x : QueryFault). Finds a (outcome line a (lexemes how 0 (c.args.head.end + 1) (drop c.args.head.end line)) start) (Err x)) (sym c.incomplete.ensures) told

pub returns-in-Some : goal.returns-in-Some
returns-in-Some c =
    let how = dialect_of c.args.dialect.now in let line = c.args.line.now in let a = c.args.head.ask in
    let f = c.if-at-line.true in
    let k : length line ≤ c.skip_blanks-at.result = omega arith in
    let s = rw c.in-Stood.is at c.in_ok-read.ensures.steps in
    let e = rw c.in-Some.is at c.in_ok-finish.ensures in
    let p : Placed = record { column = c.loop-reader.at + 1; lexeme = lexeme_of c.loop-reader.found.lexeme } in
    let ps : List Placed = lexemes how 0 (c.loop-reader.found.end + 1) (drop c.loop-reader.found.end line) in
    let told = sym c.loop-reader.invariant.told ∙ stood a line p ps (state_of c.loop-reader.reader) (state_of c.read.new.self) s.0 s.1
    ∙ ap (λ (rest : List Placed). outcome line a rest (state_of c.read.new.self)) (c.skip_blanks-at.ensures.lexemes how)
    ∙ at_end a how line c.skip_blanks-at.result (state_of c.read.new.self) (Some (tree c.in-Some.query)) k (sym e) in
    let fit = c.fitting.ensures in
    fits_finds a how line (c.args.head.end + 1) (drop c.args.head.end line) c.in-Some.query c.fitting.result told fit.same fit.well_formed fit.too_large fit.unfit
