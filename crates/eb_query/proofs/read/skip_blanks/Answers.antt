use Rattle.eb_fields.specs.Dialect.{Dialect}
use Rattle.std.proofs.Common.{◌≡◌, ◌∙◌, ℕ, List, sym, ap, get_or, true, arith}
use Rattle.std.proofs.lemmas.Str.{IsCharBoundary-after_ascii}
use Rattle.eb_query.specs.Lexemes.{is_blank}
use Rattle.eb_query.proofs.Cuts.{lexemes_blank, blank_small}
use Rattle.eb_query.proofs.read.skip_blanks.Goals as goal

pub loop-at-preserved : goal.loop-at-preserved
loop-at-preserved c =
    let b : is_blank (get_or c.args.line.now c.loop-at.at 0) ≡ true = ap (λ (xs : List ℕ). is_blank (get_or xs c.loop-at.at 0)) (sym c.as_bytes.ensures.value)
    ∙ sym c.is_blank_byte.ensures ∙ c.if-is_blank_byte.true in
    let h = c.loop-at-test.true in let f = c.loop-at.invariant.from in
    record {
      told = λ (how : Dialect). c.loop-at.invariant.told how ∙ lexemes_blank how c.args.line.now c.loop-at.at h b;
      from = omega arith;
      within = omega arith;
      boundary = IsCharBoundary-after_ascii c.args.line.now c.loop-at.at c.utf8.line h (blank_small _ b);
    }
