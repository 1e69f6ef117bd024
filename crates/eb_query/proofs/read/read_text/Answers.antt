use Rattle.eb_fields.specs.Dialect.{dialect_of}
use Rattle.std.proofs.Common.{◌+◌, ◌<◌, ◌≤◌, List, ◌∙◌, sym, ap, subst, refl, length, drop, None, Err, arith}
use Rattle.eb_base.specs.Query.{tree}
use Rattle.eb_query.specs.Lexemes.{Placed, lexemes}
use Rattle.eb_base.specs.declared.query.Query.{Query}
use Rattle.eb_query.specs.Machine.{start, sized, outcome}
use Rattle.eb_query.specs.Views.{lexeme_of, Finds}
use Rattle.eb_query.specs.declared.read.QueryFault.{QueryFault}
use Rattle.eb_query.proofs.Cuts.{lexemes_at, leaf_alone, at_end}
use Rattle.eb_query.proofs.Fits.{fits_finds}
use Rattle.eb_query.proofs.read.read_text.Goals as goal

pub returns-then-at-line : goal.returns-then-at-line
returns-then-at-line c =
    let how = dialect_of c.args.dialect.now in let line = c.args.line.now in let a = c.args.head.ask in
    let f = c.if-at-line.true in
    let k : length line ≤ c.skip_blanks-at.result = omega arith in
    let told = ap (λ (ps : List Placed). outcome line a ps start) (c.skip_blanks-at.ensures.lexemes how) ∙ at_end a how line c.skip_blanks-at.result start None k refl in
    subst (λ (x : QueryFault). Finds a (outcome line a (lexemes how 0 (c.args.head.end + 1) (drop c.args.head.end line)) start) (Err x)) (sym c.incomplete.ensures) told

pub returns : goal.returns
returns c =
    let how = dialect_of c.args.dialect.now in let line = c.args.line.now in let a = c.args.head.ask in
    let at = c.skip_blanks-at.result in let end = c.in_ok-found.found.end in
    let f = c.if-at-line.false in let within = c.skip_blanks-at.ensures.within in
    let h : at < length line = omega arith in
    let g = c.if-found-line.true in
    let k : length line ≤ end = omega arith in
    let i = rw c.in-Leaf.is at c.in_ok-found.ensures.lexeme in
    let told = ap (λ (ps : List Placed). outcome line a ps start) (c.skip_blanks-at.ensures.lexemes how)
    ∙ leaf_alone a how line at end (tree c.in-Leaf.query) h (c.skip_blanks-at.ensures.stops h) i c.in_ok-found.ensures.end k in
    let fit = c.fitting.ensures in let same = c.in-Leaf.query-is in
    fits_finds a how line (c.args.head.end + 1) (drop c.args.head.end line) _ c.fitting.result (told ∙ ap (λ (q : Query). sized a (tree q)) (sym same))
    fit.same fit.well_formed fit.too_large fit.unfit

pub read_rest-requires-clause-first : goal.read_rest-requires-clause-first
read_rest-requires-clause-first c =
    let how = dialect_of c.args.dialect.now in let line = c.args.line.now in
    let at = c.skip_blanks-at.result in
    let f = c.if-at-line.false in let within = c.skip_blanks-at.ensures.within in
    let h : at < length line = omega arith in
    c.skip_blanks-at.ensures.lexemes how
    ∙ lexemes_at how line at c.in_ok-found.found.end (lexeme_of c.in_ok-found.found.lexeme) h (c.skip_blanks-at.ensures.stops h) c.in_ok-found.ensures.lexeme c.in_ok-found.ensures.end
