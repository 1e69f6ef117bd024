use Rattle.std.proofs.Common.{◌≡◌, ◌+◌, ◌++◌, ◌∷◌, ℕ, [], List, length, length-append, ap, sym, subst, ◌∙◌}
use Rattle.std.specs.List.{All}
use Rattle.std.proofs.lemmas.List.Elements.{All-push}
use Rattle.eb_base.specs.Query.{tree}
use Rattle.eb_cursor.specs.declared.frame.Frame.{Frame}
use Rattle.eb_cursor.specs.Frames.{query_of, k_of}
use Rattle.eb_blend.proofs.Copies.{replicate_push}
use Rattle.eb_blend.proofs.frame.BlendFrame.new.Goals as goal

pub loop-part-preserved : goal.loop-part-preserved
loop-part-preserved c =
    let inv = c.loop-part.invariant in
    let frame = c.in_ok-new.field-0 in
    let asks : Frame → Type 0 = λ f. (query_of f ≡ tree c.args.query.now) × (k_of f ≡ c.args.k) in
    let is : c.push-in-loop-part.new.self.items ≡ c.loop-part.frames.items ++ frame ∷ [] = c.in_ok-push-2.ensures.items in
    record {
      frames = subst (All asks) (sym is)
          (All-push asks c.loop-part.frames.items frame inv.frames (c.in_ok-new.ensures.query ∙ c.in_ok-copy.ensures, c.in_ok-new.ensures.k));
      number = ap length is ∙ length-append c.loop-part.frames.items (frame ∷ []) ∙ ap (λ (n : ℕ). n + 1) inv.number;
      lengths = c.in_ok-push.ensures.items ∙ ap (λ (xs : List ℕ). xs ++ 0 ∷ []) inv.lengths ∙ replicate_push c.loop-part._part 0;
    }
