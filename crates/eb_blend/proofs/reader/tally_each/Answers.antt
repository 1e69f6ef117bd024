use Rattle.std.proofs.Common.{◌≡◌, ◌+◌, ◌<◌, ◌≤◌, List, [], ◌∷◌, ◌++◌, length, take, set, refl, ap, sym, subst, ◌∙◌, arith, append-nil, append_assoc}
use Rattle.std.proofs.lemmas.List.{map-set, take_all}
use Rattle.eb_base.specs.Document.{Doc}
use Rattle.eb_count.specs.Tallies.{HasCounted}
use Rattle.eb_count.proofs.Counting.{counted_none, counted_on}
use Rattle.eb_cursor.specs.Frames.{query_of}
use Rattle.eb_engine.specs.Tokens.{HistoryToken}
use mathlib.Core.List.{IsPrefix}
use Rattle.eb_blend.specs.Counted.{all_of}
use Rattle.eb_blend.specs.Parts.{histories_of}
use Rattle.eb_blend.proofs.Each.{indexes_set, fronts_set, fronts_trans, fronts_self, take_set, length_histories}
use Rattle.eb_blend.proofs.reader.tally_each.Goals as goal

-- one more part
all_push : (hs : List (List Doc)) (h : List Doc) → all_of (hs ++ h ∷ []) ≡ h ++ all_of hs
all_push [] h = sym (append-nil h)
all_push (x ∷ hs) h = ap (λ (z : List Doc). z ++ x) (all_push hs h) ∙ append_assoc h (all_of hs) x

pub loop-at-init : goal.loop-at-init
loop-at-init g c = record {
  indexes = refl;
  fronts = fronts_self _;
  seen = record { query = refl; k = refl; ids = refl };
  counts = counted_none (query_of c.args.frame.now) c.args.tally.now;
}

pub loop-at-preserved : goal.loop-at-preserved
loop-at-preserved g c =
    let inv = c.loop-at.invariant in
    let n = c.loop-at.at in
    let ts = c.loop-at.readers in
    let t = c.index-readers-at.result in
    let new = c.count.new.self in
    let e = c.count.ensures in
    let q = query_of c.args.frame.now in
    let lt : n < length ts = omega (arith, c.loop-at-test.true) in
    let inside : n < length (histories_of ts) = omega (arith, lt, length_histories ts) in
    let next : take (n + 1) (histories_of (set ts n new)) ≡ take n (histories_of ts) ++ new.docs ∷ [] =
    ap (take (n + 1)) (map-set (λ (x : HistoryToken). x.docs) ts n new) ∙ take_set (histories_of ts) n new.docs inside in
    let more : HasCounted q new.docs c.loop-at.tally c.count.new.tally = subst (λ z. HasCounted z new.docs c.loop-at.tally c.count.new.tally) inv.seen.query e.counts in
    record {
      indexes = indexes_set ts n t new c.index-readers-at.is (e.index ∙ ap (λ (x : HistoryToken). x.index) (sym c.index-readers-at.is)) ∙ inv.indexes;
      fronts = fronts_trans _ _ _ inv.fronts (fronts_set ts n t new lt c.index-readers-at.is (subst (λ (x : HistoryToken). IsPrefix x.docs new.docs) (sym c.index-readers-at.is) e.known));
      seen = record { query = e.seen.query ∙ inv.seen.query; k = e.seen.k ∙ inv.seen.k; ids = e.seen.ids ∙ inv.seen.ids };
      counts = subst (λ (z : List Doc). HasCounted q z c.args.tally.now c.count.new.tally) (sym (ap all_of next ∙ all_push (take n (histories_of ts)) new.docs))
          (counted_on q new.docs (all_of (take n (histories_of ts))) c.args.tally.now c.loop-at.tally c.count.new.tally inv.counts more);
    }

pub returns-clause-counts : goal.returns-clause-counts
returns-clause-counts g c =
    let hs = histories_of c.loop-at.readers in
    let all : length hs ≤ c.loop-at.at = omega (arith, c.loop-at-test.false, length_histories c.loop-at.readers) in
    subst (λ (z : List (List Doc)). HasCounted (query_of c.args.frame.now) (all_of z) c.args.tally.now c.loop-at.tally) (take_all c.loop-at.at hs all) c.loop-at.invariant.counts
