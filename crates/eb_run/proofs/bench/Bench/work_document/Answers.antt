use Rattle.std.proofs.Common.{◌≡◌, ◌<◌, ◌^◌, ℕ, List, [], ◌∷◌, ◌++◌, length, subst, sym, ap, ◌∙◌, arith, length-append, append-nil, inl, inr}
use Rattle.eb_gen.specs.Made.{made_line, made_query}
use Rattle.eb_io.specs.Lines.{Line, line}
use Rattle.eb_run.specs.Bench.{HasCounted, lines_until, query_lines}
use Rattle.eb_run.proofs.MadeLines.{lines_few, until_next, query_none, query_some}
use Rattle.eb_run.proofs.bench.Bench.work_document.Goals as goal
use Rattle.eb_run.proofs.bench.Bench.work_document.Goals.{else-number-ne0-via-then-number-ne0+else-number-docs, else-number-ne0-via-else-number-ne0}

pub work_line-requires : goal.work_line-requires
work_line-requires g c =
    let before = lines_until c.args.start c.args.docs c.args.number in
    let few = lines_few c.args.start c.args.docs c.args.number in
    (before, c.requires.before, omega (arith, few, c.requires.small.0, c.requires.small.1))

pub returns-then-number-docs : goal.returns-then-number-docs
returns-then-number-docs g c =
    let start = c.args.start in
    let docs = c.args.docs in
    let n = c.args.number in
    let few = lines_few start docs n in
    let h = c.in_ok-work_line.ensures (lines_until start docs n) c.requires.before (omega (arith, few, c.requires.small.0, c.requires.small.1)) in
    let H : List Line → Type 0 = HasCounted c.work_line.new.self in
    let B : List ℕ → Type 0 = λ b. H (lines_until start docs n ++ line b ∷ []) in
    let own = subst B (c.as_slice.ensures.value ∙ c.in_ok-document.ensures) h in
    subst H (sym (until_next start docs n ∙ ap (λ ls. (lines_until start docs n ++ line (made_line start n) ∷ []) ++ ls) (query_none start docs n c.if-number-ne0.true c.if-number-docs.true)
    ∙ append-nil (lines_until start docs n ++ line (made_line start n) ∷ []))) own

pub work_line-requires-2 : goal.work_line-requires-2
work_line-requires-2 g c =
    let start = c.args.start in
    let docs = c.args.docs in
    let n = c.args.number in
    let few = lines_few start docs n in
    let low : length (lines_until start docs n) < 2 ^ 17 = omega (arith, few, c.requires.small.0, c.requires.small.1) in
    let h = c.in_ok-work_line.ensures (lines_until start docs n) c.requires.before low in
    (_, h, omega (arith, few, c.requires.small.0, c.requires.small.1, length-append (lines_until start docs n) (line c.as_slice.result.now ∷ [])))

pub returns : goal.returns
returns g c =
    let start = c.args.start in
    let docs = c.args.docs in
    let n = c.args.number in
    let few = lines_few start docs n in
    let low : length (lines_until start docs n) < 2 ^ 17 = omega (arith, few, c.requires.small.0, c.requires.small.1) in
    let h = c.in_ok-work_line.ensures (lines_until start docs n) c.requires.before low in
    let one = lines_until start docs n ++ line c.as_slice.result.now ∷ [] in
    let H : List Line → Type 0 = HasCounted c.work_line-2.new.self in
    let next : H (one ++ line c.as_slice-2.result.now ∷ []) =
    c.in_ok-work_line-2.ensures one h (omega (arith, few, c.requires.small.0, c.requires.small.1, length-append (lines_until start docs n) (line c.as_slice.result.now ∷ []))) in
    let some : query_lines start docs n ≡ line (made_query start n) ∷ [] = elim c.else-number-ne0.branch [
      | else-number-ne0-via-then-number-ne0+else-number-docs w ↦ query_some start docs n (inr (omega (arith, w.if-number-docs.false)))
      | else-number-ne0-via-else-number-ne0 w ↦ query_some start docs n (inl (omega (arith, w.if-number-ne0.false)))
    ] in
    let D : List ℕ → Type 0 = λ b. H ((lines_until start docs n ++ line b ∷ []) ++ line c.as_slice-2.result.now ∷ []) in
    let Q : List ℕ → Type 0 = λ b. H ((lines_until start docs n ++ line (made_line start n) ∷ []) ++ line b ∷ []) in
    let own = subst Q (c.as_slice-2.ensures.value ∙ c.in_ok-query.ensures) (subst D (c.as_slice.ensures.value ∙ c.in_ok-document.ensures) next) in
    subst H (sym (until_next start docs n ∙ ap (λ ls. (lines_until start docs n ++ line (made_line start n) ∷ []) ++ ls) some)) own
