use Rattle.std.proofs.Common.{◌≡◌, ◌<◌, ◌++◌, ◌∷◌, [], None, List, length, length-append, get_or, ap, sym, subst, ◌∙◌, arith}
use Rattle.eb_engine.specs.Tokens.{HistoryToken}
use Rattle.eb_blend.specs.Parts.{histories_of, AreFronts}
use Rattle.eb_blend.proofs.Each.{as_many, set_same, met_more, front_less, last_of_front, inside_front, length_histories, no_token}
use Rattle.eb_blend.proofs.writer.meet_each.Goals as goal

pub loop-reader-preserved : goal.loop-reader-preserved
loop-reader-preserved c =
    let inv = c.loop-reader.invariant in
    let ts = c.args.writers.now in
    let rs = c.args.readers.items in
    let ws = c.args.indexes.now in
    let left = c.pop.new.self.items in
    let r = c.in-Some.reader in
    let t = c.index-writers-at.result in
    let items : c.loop-reader.readers.items ≡ left ++ r ∷ [] = c.in-Some.ensures.items in
    let len = c.len-at.ensures in
    let at : c.len-at.result ≡ length left = grind (arith, len) in
    let n = c.len-at.result in
    let same : length c.loop-reader.writers ≡ length ts = ap length inv.same in
    let many : length ts ≡ length ws = as_many ts ws c.requires.made in
    let most : length rs ≡ length ws = as_many rs ws c.requires.readers in
    let inside = inside_front left c.loop-reader.readers.items rs r items inv.front in
    let lr : n < length rs = omega (arith, at, inside) in
    let lt : n < length ts = omega (arith, lr, many, most) in
    let a : t ≡ get_or ts n t = c.index-writers-at.is ∙ ap (λ (z : List HistoryToken). get_or z n t) inv.same in
    let b : r ≡ get_or rs n r = last_of_front left c.loop-reader.readers.items rs r items inv.front ∙ ap (λ m. get_or rs m r) (sym at) in
    let this : c.meet.new.self ≡ t = c.meet.ensures.this ∙ sym c.index-writers-at.is in
    record {
      same = set_same c.loop-reader.writers n c.meet.new.self t (omega (arith, lt, same)) c.index-writers-at.is this ∙ inv.same;
      front = front_less left c.loop-reader.readers.items rs r items inv.front;
      done = λ p le. met_more ts rs n t c.meet.new.self r lt lr a b this c.meet.ensures.reader
          (λ m more. inv.done m (omega (arith, more, at, ap length items, length-append left (r ∷ [])))) p (omega (arith, le, at));
    }

pub returns-clause-fronts : goal.returns-clause-fronts
returns-clause-fronts c =
    let inv = c.loop-reader.invariant in
    let ts = c.args.writers.now in
    let rs = c.args.readers.items in
    let ws = c.args.indexes.now in
    let none : c.pop.result ≡ None = no_token c.pop.result c.in_default.not-Some in
    let some = c.pop.ensures.variant in
    let zero : length c.loop-reader.readers.items ≡ 0 = grind (arith, none, some) in
    let many : length ts ≡ length ws = as_many ts ws c.requires.made in
    let most : length rs ≡ length ws = as_many rs ws c.requires.readers in
    subst (λ (z : List HistoryToken). AreFronts (histories_of rs) (histories_of z)) (sym inv.same)
    (record { parts = omega (arith, many, most, length_histories ts, length_histories rs); each = λ p. inv.done p (omega (arith, zero)) })
