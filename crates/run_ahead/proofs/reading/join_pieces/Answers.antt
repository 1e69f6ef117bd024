use Rattle.std.proofs.Common.{◌≡◌, ◌+◌, ◌*◌, length, take, get_or, Ok, sym, subst, ◌∙◌, arith}
use Rattle.std.specs.List.{AllZip}
use Rattle.std.proofs.lemmas.List.{get_or-set_other, length-set}
use Rattle.run_ahead.specs.Tasks.{IsTaskOf}
use Rattle.run_ahead.specs.Pieces.{IsPiece}
use Rattle.run_ahead.proofs.Pieces.{next_piece}
use Rattle.run_ahead.proofs.reading.join_pieces.Goals as goal

pub loop-at-preserved : goal.loop-at-preserved
loop-at-preserved c =
    let inv = c.loop-at.invariant in
    let at = c.loop-at.at in
    let joined = c.in_ok-join_piece.ensures in
    record {
      same = λ i d l. get_or-set_other c.loop-at.pieces at i c.join_piece.new.piece d (λ e. omega arith) ∙ inv.same i d (omega arith);
      long = length-set c.loop-at.pieces at c.join_piece.new.piece ∙ inv.long;
      joined = λ how lines size are.
          let piece = c.index-pieces-at.result in
          let own : get_or c.args.pieces.now at piece ≡ Ok joined.0 = sym (inv.same at piece (omega arith)) ∙ joined.1 in
          let read = subst (IsPiece how lines size at) own (are at piece (omega arith)) in
          let more = next_piece (IsTaskOf how) (at * size) size lines c.loop-at.tasks.items joined.0.items (inv.joined how lines size are) read in
          subst (λ n. AllZip (IsTaskOf how) (take n lines) c.join_piece.new.tasks.items) {x = at * size + size} (omega arith)
          (subst (λ ts. AllZip (IsTaskOf how) (take (at * size + size) lines) ts) (sym joined.2) more);
    }

pub returns : goal.returns
returns c = λ how lines size are.
    let whole : c.loop-at.at ≡ length c.args.pieces.now = omega arith in
    subst (λ n. AllZip (IsTaskOf how) (take (n * size) lines) c.loop-at.tasks.items) whole (c.loop-at.invariant.joined how lines size are)
