use Rattle.std.proofs.Common.{◌≡◌, ◌++◌, ◌∷◌, [], map, sym, ap, ap₂, ◌∙◌, arith}
use Rattle.run_ahead.specs.Held.{line_in}
use Rattle.run_ahead.specs.Tasks.{line_of}
use Rattle.run_ahead.proofs.HeldLines.{put_behind}
use Rattle.run_ahead.proofs.lines.HeldLines.push.Goals as goal

pub returns-clause-ok : goal.returns-clause-ok
returns-clause-ok c =
    let old = c.self.inside in
    let span = c.in_ok-span.span in
    let b = c.put_line.ensures.behind in
    let spans = c.push_reserved.ensures.items ∙ ap (λ xs. xs ++ span ∷ []) c.in_ok-reserve.ensures.items in
    let own : line_in (old.bytes.items ++ b.0) span ≡ line_of c.args.line = ap (λ bs. line_in bs span) (sym b.1) ∙ c.in_ok-span.ensures.line in
    ap (map (line_in c.put_line.new.bytes.items)) spans ∙ ap (λ bs. map (line_in bs) (old.spans.items ++ span ∷ [])) b.1
    ∙ put_behind old.bytes.items b.0 old.bytes.len (omega (arith, old.bytes.ok)) old.spans.items span c.self.invariant
    ∙ ap₂ (λ xs x. xs ++ x ∷ []) c.self.view_is own
