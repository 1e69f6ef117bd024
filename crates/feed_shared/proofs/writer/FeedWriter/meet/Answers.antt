use Rattle.std.proofs.Common.{◌≡◌, ◌<◌, ◌++◌, ◌-◌, ◌∷◌, [], ℕ, suc, List, length, get_or, ap, sym, ◌∙◌, subst, arith, length-append, refl, inr}
use mathlib.Core.List.{IsPrefix}
use Rattle.eb_base.specs.Document.{Doc}
use Rattle.feed_shared.specs.Turns.{PieceToken, piece_of, TrailToken, generations_of}
use Rattle.feed_shared.proofs.Behind.{meets_index, meets_history, lapsed_of}
use Rattle.feed_shared.proofs.writer.FeedWriter.meet.Goals as goal

pub covers-requires-clause-index : goal.covers-requires-clause-index
covers-requires-clause-index c = λ d.
    let newest = c.into_newest-trail.result.1 in
    let older = c.self.inside.older.items in
    let pre = c.if-not-is_front_of.ensures.front refl in
    let all : c.args.reader.log ++ pre.0 ≡ c.self.inside.trail.log = ap (λ (t : TrailToken). t.log ++ pre.0) (sym c.into_newest-trail.ensures.trail) ∙ pre.1 in
    let m : ℕ = c.count.result - c.count-2.result - 1 in
    let at : suc m ≡ length pre.0 = omega (
      arith,
      c.if-behind-eq0.false,
      c.count.ensures,
      c.count-2.ensures,
      ap (λ (t : TrailToken). length t.log) c.into_newest-trail.ensures.trail,
      ap
          length all,
      length-append c.args.reader.log pre.0,
    ) in
    let lt : m < length older = omega (arith, c.if-behind-eq0.false, c.if-behind-len.false, c.len.ensures, c.self.inside.older.ok) in
    subst (λ (z : List PieceToken). newest.index ≡ (get_or z m d).index) (sym c.as_mut_slice.ensures.value)
    (meets_index (piece_of newest ∷ []) (piece_of c.self.inside.writer ∷ older) c.self.inside.writer.docs c.args.reader.docs c.args.reader.log pre.0 c.self.inside.trail.log (suc m) d d
    all c.into_newest-trail.ensures.held (omega arith) c.self.invariant.4 at (omega (arith, lt)))

pub returns-clause-front : goal.returns-clause-front
returns-clause-front c = λ yes.
    let newest = c.into_newest-trail.result.1 in
    let older = c.self.inside.older.items in
    let pre = c.if-not-is_front_of.ensures.front refl in
    let all : c.args.reader.log ++ pre.0 ≡ c.self.inside.trail.log = ap (λ (t : TrailToken). t.log ++ pre.0) (sym c.into_newest-trail.ensures.trail) ∙ pre.1 in
    let m : ℕ = c.count.result - c.count-2.result - 1 in
    let at : suc m ≡ length pre.0 = omega (
      arith,
      c.if-behind-eq0.false,
      c.count.ensures,
      c.count-2.ensures,
      ap (λ (t : TrailToken). length t.log) c.into_newest-trail.ensures.trail,
      ap
          length all,
      length-append c.args.reader.log pre.0,
    ) in
    let lt : m < length older = omega (arith, c.if-behind-eq0.false, c.if-behind-len.false, c.len.ensures, c.self.inside.older.ok) in
    let known : IsPrefix newest.docs (get_or older m (piece_of newest)).docs = subst (λ (z : List PieceToken). IsPrefix newest.docs (get_or z m (piece_of newest)).docs)
    c.as_mut_slice.ensures.value (c.covers.ensures.met (piece_of newest) yes) in
    meets_history (piece_of c.self.inside.writer ∷ older) c.args.reader.docs c.self.inside.writer.docs c.args.reader.log pre.0 c.self.inside.trail.log (suc m) (piece_of newest)
    all c.self.invariant.4 at (omega (arith, lt)) (subst (λ (z : List Doc). IsPrefix z (get_or older m (piece_of newest)).docs) c.into_newest-trail.ensures.docs known)

pub returns-clause-lapsed : goal.returns-clause-lapsed
returns-clause-lapsed c = λ no.
    let newest = c.into_newest-trail.result.1 in
    let older = c.self.inside.older.items in
    let pre = c.if-not-is_front_of.ensures.front refl in
    let all : c.args.reader.log ++ pre.0 ≡ c.self.inside.trail.log = ap (λ (t : TrailToken). t.log ++ pre.0) (sym c.into_newest-trail.ensures.trail) ∙ pre.1 in
    let m : ℕ = c.count.result - c.count-2.result - 1 in
    let at : suc m ≡ length pre.0 = omega (
      arith,
      c.if-behind-eq0.false,
      c.count.ensures,
      c.count-2.ensures,
      ap (λ (t : TrailToken). length t.log) c.into_newest-trail.ensures.trail,
      ap
          length all,
      length-append c.args.reader.log pre.0,
    ) in
    let lt : m < length older = omega (arith, c.if-behind-eq0.false, c.if-behind-len.false, c.len.ensures, c.self.inside.older.ok) in
    let few : length (get_or older m (piece_of newest)).docs < length newest.docs =
    subst (λ (z : List PieceToken). length (get_or z m (piece_of newest)).docs < length newest.docs) c.as_mut_slice.ensures.value (c.covers.ensures.few (piece_of newest) no) in
    let less = lapsed_of (piece_of c.self.inside.writer ∷ older) c.self.inside.writer.docs newest.docs c.args.reader.log c.self.inside.trail.log (suc m) (piece_of newest)
    c.self.invariant.4 (omega (arith, at, ap length all, length-append c.args.reader.log pre.0)) (omega (arith, lt)) few in
    inr (inr (subst (λ (z : List Doc). length (get_or (generations_of c.self.inside.trail.log c.self.inside.writer.docs) (length c.self.inside.trail.log - length c.args.reader.log) []) < length z)
    c.into_newest-trail.ensures.docs less))
