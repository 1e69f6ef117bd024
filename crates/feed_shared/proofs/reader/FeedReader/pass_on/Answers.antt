use Rattle.std.proofs.Common.{◌≡◌, ◌<◌, ◌-◌, List, length, get_or, reverse, ap, sym, ◌∙◌, subst, arith, length-append, inr, []}
use Rattle.std.proofs.lemmas.List.{with_items_is}
use mathlib.Core.List.{IsPrefix}
use Rattle.eb_base.specs.Document.{Doc}
use Rattle.feed_shared.specs.Turns.{PieceToken, piece_of, FeedToken, AreHeld, newest_docs, history_of, generations_of}
use Rattle.feed_shared.proofs.Helds.{newest_get}
use Rattle.feed_shared.proofs.Behind.{meets_index, meets_history, lapsed_of}
use Rattle.feed_shared.proofs.reader.FeedReader.pass_on.Goals as goal

pub take_in-requires-clause-index : goal.take_in-requires-clause-index
take_in-requires-clause-index c = λ d.
    let pre : IsPrefix c.self.inside.trail.log c.other.inside.trail.log = rw (ap (λ (t : FeedToken). t.log) c.self.view_is, ap (λ (t : FeedToken). t.log) c.other.view_is) c.requires.turns in
    let behind = c.count.result - c.count-2.result in
    let at : behind ≡ length pre.0 = omega (arith, c.count.ensures, c.count-2.ensures, ap length pre.1, length-append c.self.inside.trail.log pre.0) in
    let ps = c.as_mut_slice.result.now in
    let held : AreHeld ps (newest_docs c.other.inside.pieces.items) (reverse c.other.inside.trail.log) =
    subst (λ (z : List PieceToken). AreHeld z (newest_docs c.other.inside.pieces.items) (reverse c.other.inside.trail.log)) (sym c.as_mut_slice.ensures.value) c.other.invariant.1 in
    let lt : behind < length ps = omega (arith, c.if-behind-len.false, c.len.ensures, ap length c.as_mut_slice.ensures.value, c.other.inside.pieces.ok) in
    ap (λ (t : PieceToken). t.index) (c.reader-newest.ensures.reader ∙ c.index_mut.ensures.value)
    ∙ meets_index c.self.inside.pieces.items ps (newest_docs c.other.inside.pieces.items) (newest_docs c.self.inside.pieces.items)
    c.self.inside.trail.log pre.0 c.other.inside.trail.log behind d c.index_mut.result.now pre.1 c.self.invariant.1 c.self.invariant.0 held at lt

pub returns-clause-met : goal.returns-clause-met
returns-clause-met c = λ yes.
    let pre : IsPrefix c.self.inside.trail.log c.other.inside.trail.log = rw (ap (λ (t : FeedToken). t.log) c.self.view_is, ap (λ (t : FeedToken). t.log) c.other.view_is) c.requires.turns in
    let behind = c.count.result - c.count-2.result in
    let at : behind ≡ length pre.0 = omega (arith, c.count.ensures, c.count-2.ensures, ap length pre.1, length-append c.self.inside.trail.log pre.0) in
    let ps = c.as_mut_slice.result.now in
    let held : AreHeld ps (newest_docs c.other.inside.pieces.items) (reverse c.other.inside.trail.log) =
    subst (λ (z : List PieceToken). AreHeld z (newest_docs c.other.inside.pieces.items) (reverse c.other.inside.trail.log)) (sym c.as_mut_slice.ensures.value) c.other.invariant.1 in
    let lt : behind < length ps = omega (arith, c.if-behind-len.false, c.len.ensures, ap length c.as_mut_slice.ensures.value, c.other.inside.pieces.ok) in
    let new = c.take_in.new.pieces in
    let items = with_items_is c.other.inside.pieces new (c.take_in.ensures.number ∙ c.as_mut_slice.ensures.len) in
    let now : AreHeld new (newest_docs new) (reverse c.other.inside.trail.log) = c.take_in.ensures.held (newest_docs c.other.inside.pieces.items) (reverse c.other.inside.trail.log) held in
    let mine : PieceToken = piece_of c.reader-newest.result in
    let known : IsPrefix mine.docs (get_or new behind mine).docs = c.take_in.ensures.met mine yes in
    let own : mine.docs ≡ newest_docs c.self.inside.pieces.items = ap (λ (t : PieceToken). t.docs) (c.reader-newest.ensures.reader ∙ c.index_mut.ensures.value) ∙ newest_get
    c.self.inside.pieces.items c.index_mut.result.now c.self.invariant.0 in
    let history = meets_history new mine.docs (newest_docs new) c.self.inside.trail.log pre.0 c.other.inside.trail.log behind mine pre.1 now at (omega (arith, lt, c.take_in.ensures.number)) known in
    rw (items, ← c.self.view_is)
    (subst (λ (z : List Doc). IsPrefix (history_of c.self.inside.trail.log z) (history_of c.other.inside.trail.log (newest_docs new))) own history)

pub returns-clause-lapsed : goal.returns-clause-lapsed
returns-clause-lapsed c = λ no.
    let pre : IsPrefix c.self.inside.trail.log c.other.inside.trail.log = rw (ap (λ (t : FeedToken). t.log) c.self.view_is, ap (λ (t : FeedToken). t.log) c.other.view_is) c.requires.turns in
    let behind = c.count.result - c.count-2.result in
    let at : behind ≡ length pre.0 = omega (arith, c.count.ensures, c.count-2.ensures, ap length pre.1, length-append c.self.inside.trail.log pre.0) in
    let ps = c.as_mut_slice.result.now in
    let held : AreHeld ps (newest_docs c.other.inside.pieces.items) (reverse c.other.inside.trail.log) =
    subst (λ (z : List PieceToken). AreHeld z (newest_docs c.other.inside.pieces.items) (reverse c.other.inside.trail.log)) (sym c.as_mut_slice.ensures.value) c.other.invariant.1 in
    let lt : behind < length ps = omega (arith, c.if-behind-len.false, c.len.ensures, ap length c.as_mut_slice.ensures.value, c.other.inside.pieces.ok) in
    let new = c.take_in.new.pieces in
    let items = with_items_is c.other.inside.pieces new (c.take_in.ensures.number ∙ c.as_mut_slice.ensures.len) in
    let now : AreHeld new (newest_docs new) (reverse c.other.inside.trail.log) = c.take_in.ensures.held (newest_docs c.other.inside.pieces.items) (reverse c.other.inside.trail.log) held in
    let mine : PieceToken = piece_of c.reader-newest.result in
    let own : mine.docs ≡ newest_docs c.self.inside.pieces.items = ap (λ (t : PieceToken). t.docs) (c.reader-newest.ensures.reader ∙ c.index_mut.ensures.value) ∙ newest_get
    c.self.inside.pieces.items c.index_mut.result.now c.self.invariant.0 in
    let few : length (get_or new behind mine).docs < length mine.docs =
    subst (λ (z : List PieceToken). length (get_or z behind mine).docs < length mine.docs) (sym (c.take_in.ensures.apart no)) (c.take_in.ensures.few mine no) in
    let less = lapsed_of new (newest_docs new) mine.docs c.self.inside.trail.log c.other.inside.trail.log behind mine now
    (omega (arith, c.count.ensures, c.count-2.ensures)) (omega (arith, lt, c.take_in.ensures.number)) few in
    rw (items, ← c.self.view_is)
    (inr (inr (subst (λ (z : List Doc). length (get_or (generations_of c.other.inside.trail.log (newest_docs new)) (length c.other.inside.trail.log - length c.self.inside.trail.log)
    []) < length z) own less)))

pub returns-clause-newest : goal.returns-clause-newest
returns-clause-newest c = λ same.
    let behind = c.count.result - c.count-2.result in
    let turns : c.other.inside.trail.log ≡ c.self.inside.trail.log = same ∙ sym (ap (λ (t : FeedToken). t.log) c.self.view_is) in
    let none : behind ≡ 0 = omega (arith, c.count.ensures, c.count-2.ensures, ap length turns) in
    let lt : behind < length c.as_mut_slice.result.now = omega (arith, c.if-behind-len.false, c.len.ensures, ap length c.as_mut_slice.ensures.value, c.other.inside.pieces.ok) in
    let new = c.take_in.new.pieces in
    let items = with_items_is c.other.inside.pieces new (c.take_in.ensures.number ∙ c.as_mut_slice.ensures.len) in
    let mine : PieceToken = piece_of c.reader-newest.result in
    let own : mine.docs ≡ newest_docs c.self.inside.pieces.items = ap (λ (t : PieceToken). t.docs) (c.reader-newest.ensures.reader ∙ c.index_mut.ensures.value) ∙ newest_get
    c.self.inside.pieces.items c.index_mut.result.now c.self.invariant.0 in
    let there : (get_or new behind mine).docs ≡ newest_docs new = ap (λ z. (get_or new z mine).docs) none ∙ newest_get new mine (omega (arith, lt, c.take_in.ensures.number)) in
    rw (items, ← c.self.view_is)
    (subst (λ (x : List Doc × List Doc). IsPrefix x.0 x.1) (λ i. (own i, there i)) (c.take_in.ensures.met mine (c.take_in.ensures.newest none)))
