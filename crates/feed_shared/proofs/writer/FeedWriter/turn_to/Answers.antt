use Rattle.std.proofs.Common.{◌≡◌, ◌-◌, ℕ, rules, sym, ◌∙◌, ap, refl, ◌∷◌, ◌++◌, [], take, List, arith}
use Rattle.eb_table.specs.Known.{Words}
use Rattle.eb_engine.specs.Tokens.{HistoryToken, ConverterToken}
use Rattle.feed_shared.specs.declared.turn.Turn.{Turn}
use Rattle.feed_shared.specs.Turns.{PieceToken, piece_of, TrailToken, WriterToken, turn, counted, history_of}
use Rattle.feed_shared.proofs.Behind.{begun_held, begun_length, counts, before_begun}
use Rattle.feed_shared.proofs.LettingGo.{let_go_then}
use Rattle.feed_shared.proofs.writer.FeedWriter.turn_to.Goals as goal

pub invariant_of-self-2 : goal.invariant_of-self-2
invariant_of-self-2 c =
    let inv = c.self.invariant in
    let n : ℕ = c.self.inside.keep - 2 in
    let w : PieceToken = piece_of c.self.inside.writer in
    let closed : PieceToken = piece_of c.reader-2.result in
    let fresh = c.reader.ensures.this ∙ c.into_parts-index.ensures.writer in
    let made = ap (λ (t : HistoryToken). t.index) fresh in
    let begun : c.reader.new.self.index ≡ c.reader.result.index = ap (λ (t : HistoryToken). t.index) (c.reader.ensures.this ∙ sym c.reader.ensures.reader) in
    let theirs : c.reader.result.index ≡ c.into_parts-index.result.2.index =
    ap (λ (t : HistoryToken). t.index) (c.reader.ensures.reader ∙ c.into_parts-index.ensures.writer) ∙ sym (ap (λ (t : ConverterToken). t.index) c.into_parts-index.ensures.converter) in
    let items : c.put_first.new.older.items ≡ closed ∷ take n c.self.inside.older.items = c.put_first.ensures.older ∙ (λ i. c.new.ensures i ∷ take n (c.reserve.ensures.items i)) in
    let log : c.begin.new.self.log ≡ c.self.inside.trail.log ++ turn c.reader.result.index closed.docs ∷ [] =
    c.if-not-begin.ensures.begun refl ∙ (λ i. (c.again-trail.ensures i).log ++ turn c.reader.result.index closed.docs ∷ []) in (
      inv.0,
      inv.1 ∙ ap (λ (t : TrailToken). t.book) (sym c.again-trail.ensures) ∙ sym c.begin.ensures.book,
      search rules,
      ap (λ (w : Words). w.setting) made ∙ (c.requires ∙ sym (ap (λ (t : WriterToken). t.setting) c.self.view_is)),
      rw (items, log) (begun_held w (piece_of c.reader.new.self) closed c.self.inside.older.items c.reader.result.index c.self.inside.trail.log n inv.4 begun (ap piece_of c.reader-2.ensures.reader)),
      rw (items, log) (begun_length c.self.inside.keep closed c.self.inside.older.items c.self.inside.trail.log (turn c.reader.result.index closed.docs) inv.0 inv.5),
      c.saturating_add-self-inside.ensures
          ∙ (counts (w ∷ c.self.inside.older.items) closed.docs w.docs c.self.inside.trail.log c.self.inside.before c.seen.result (omega arith) inv.4 inv.6 c.seen.ensures
          ∙ (ap counted (sym (before_begun c.self.inside.trail.log closed.docs c.reader.result.index)) ∙ ap (λ (l : List Turn). counted (history_of l [])) (sym log))),
      inv.7,
      (c.self.inside.trail.log, closed.docs, log ∙ (λ i. c.self.inside.trail.log ++ turn (theirs i) closed.docs ∷ [])),
      rw log (let_go_then c.put_first.result c.self.inside.keep n c.reserve.new.self.len w closed c.self.inside.older.items c.reserve.new.self.items c.reader.result.index c.self.inside.trail.log
          inv.4 inv.5 (omega (arith, inv.0)) (ap piece_of c.reader-2.ensures.reader) (omega (arith, c.reserve.new.self.ok)) c.reserve.ensures.items c.put_first.ensures.let_go),
    )

pub returns-clause-begun : goal.returns-clause-begun
returns-clause-begun c =
    let closed : PieceToken = piece_of c.reader-2.result in
    let docs : closed.docs ≡ c.args.self.now.feed.docs = ap (λ (t : HistoryToken). t.docs) c.reader-2.ensures.reader ∙ ap (λ (t : WriterToken). t.feed.docs) c.self.view_is in
    let before : c.again-trail.result.log ≡ c.args.self.now.feed.log = ap (λ (t : TrailToken). t.log) c.again-trail.ensures ∙ ap (λ (t : WriterToken). t.feed.log) c.self.view_is in
    record {
      setting = ap (λ (t : WriterToken). t.setting) c.self.view_is;
      keep = ap (λ (t : WriterToken). t.keep) c.self.view_is;
      book = c.begin.ensures.book ∙ (ap (λ (t : TrailToken). t.book) c.again-trail.ensures ∙ ap (λ (t : WriterToken). t.feed.book) c.self.view_is);
      index = c.reader.result.index;
      log = c.if-not-begin.ensures.begun refl ∙ (λ i. before i ++ turn c.reader.result.index (docs i) ∷ []);
      docs = ap (λ (t : HistoryToken). t.docs) (c.reader.ensures.this ∙ c.into_parts-index.ensures.writer);
    }
