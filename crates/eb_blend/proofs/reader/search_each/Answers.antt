use Rattle.std.proofs.Common.{◌≡◌, ◌<◌, List, [], length, get_or, set, ap, sym, subst, ◌∙◌, arith, refl}
use Rattle.std.proofs.lemmas.List.Elements.{All-set, All-get_or}
use Rattle.eb_base.specs.Document.{Doc}
use Rattle.eb_base.specs.Match.{answer}
use Rattle.eb_base.specs.Query.{word, conjunction}
use Rattle.eb_cursor.specs.AndCosts.{word_parts}
use Rattle.eb_engine.specs.Loads.{IsBounded, IsAndBounded}
use Rattle.eb_table.specs.Known.{Words}
use Rattle.eb_blend.specs.Bounded.{PartAfterPart, WithinBound, WithinAndBound}
use Rattle.eb_blend.specs.Parts.{histories_of, history}
use Rattle.eb_blend.proofs.PartAfterPart.{none_yet, one_more, here, there, bounded_by, and_bounded_by}
use Rattle.eb_cursor.specs.declared.frame.Frame.{Frame}
use Rattle.eb_cursor.specs.Frames.{query_of, k_of}
use Rattle.eb_engine.specs.Tokens.{HistoryToken}
use mathlib.Core.List.{IsPrefix}
use Rattle.eb_blend.proofs.Each.{indexes_set, as_many, fronts_self, fronts_set, fronts_trans, found_more, history_at, length_histories}
use Rattle.eb_blend.proofs.reader.search_each.Goals as goal

pub loop-at-init : goal.loop-at-init
loop-at-init g c = record { indexes = refl; fronts = fronts_self _; ask = λ q k a. a; found = λ q k a. refl; loads = λ σ t k all a. none_yet _ _; rounds = λ σ ts k all a. none_yet _ _ }

pub loop-at-preserved : goal.loop-at-preserved
loop-at-preserved g c =
    let inv = c.loop-at.invariant in
    let n = c.loop-at.at in
    let ts = c.loop-at.readers in
    let fs = c.loop-at.frames in
    let t = c.index-readers-at.result in
    let f = c.index-frames-at.result in
    let new = c.search.new.self in
    let e = c.search.ensures in
    let lt : n < length ts = omega (arith, c.loop-at-test.true) in
    let ws = c.args.indexes.now in
    let w = c.index-indexes-at.result in
    let li : n < length ws = omega (arith, c.loop-at-test.true, c.loop-at.auto.readers, as_many c.args.readers.now ws c.requires.made) in
    let lf : n < length fs = omega (arith, c.loop-at-test.true, c.requires.frames, c.loop-at.auto.frames, c.loop-at.auto.readers) in
    record {
      indexes = indexes_set ts n t new c.index-readers-at.is (e.index ∙ ap (λ (x : HistoryToken). x.index) (sym c.index-readers-at.is)) ∙ inv.indexes;
      fronts = fronts_trans _ _ _ inv.fronts (fronts_set ts n t new lt c.index-readers-at.is (subst (λ (x : HistoryToken). IsPrefix x.docs new.docs) (sym c.index-readers-at.is) e.known));
      ask = λ q k a.
          let old = All-get_or (λ (x : Frame). (query_of x ≡ q) × (k_of x ≡ k)) fs n f lf (inv.ask q k a) in
          All-set (λ (x : Frame). (query_of x ≡ q) × (k_of x ≡ k)) fs n c.search.new.frame
          (e.query ∙ old.0, e.k ∙ old.1) (inv.ask q k a);
      found = λ q k a.
          let old = All-get_or (λ (x : Frame). (query_of x ≡ q) × (k_of x ≡ k)) fs n f lf (inv.ask q k a) in
          found_more fs ts n c.search.new.frame new q k lf lt (inv.found q k a) (e.ids ∙ (λ i. answer (old.0 i) (old.1 i) new.docs));
      loads = λ σ u k all a.
          let knew = histories_of c.args.readers.now in
          let q = word u in
          let old = All-get_or (λ (x : Frame). (query_of x ≡ q) × (k_of x ≡ k)) fs n f lf (inv.ask q k a) in
          let made : w.setting ≡ σ = ap (λ (x : Words). x.setting) c.index-indexes-at.is ∙ All-get_or (λ (w : Words). w.setting ≡ σ) ws n w li all in
          let told = sym (here ts n new lt) in
          let ids = ap length (e.ids ∙ (λ i. answer (old.0 i) (old.1 i) (told i))) in
          let is = history_at ts n t lt c.index-readers-at.is ∙ ap (λ (x : HistoryToken). x.docs) c.index-readers-at.is in
          let known : IsPrefix (history knew n) (get_or ts n t).docs = subst (λ (z : List Doc). IsPrefix (history knew n) z) is (inv.fronts.each n) in
          one_more (WithinBound σ knew (histories_of ts) u k) (WithinBound σ knew (histories_of (set ts n new)) u k) n _ _ _ (inv.loads σ u k all a)
          (λ p from to low b. subst (λ (z : List Doc). IsBounded [] σ (history knew p) 0 z u (length (answer q k z)) from to) (sym (there ts n p new low)) b)
          (bounded_by σ _ (history knew n) _ _ _ _ u _ _ _ _ made known told ids (e.loads u old.0));
      rounds = λ σ us k all a.
          let q = conjunction (word_parts us) in
          let old = All-get_or (λ (x : Frame). (query_of x ≡ q) × (k_of x ≡ k)) fs n f lf (inv.ask q k a) in
          let made : w.setting ≡ σ = ap (λ (x : Words). x.setting) c.index-indexes-at.is ∙ All-get_or (λ (w : Words). w.setting ≡ σ) ws n w li all in
          let told = sym (here ts n new lt) in
          let ids = ap length (e.ids ∙ (λ i. answer (old.0 i) (old.1 i) (told i))) in
          one_more (WithinAndBound σ (histories_of ts) us k) (WithinAndBound σ (histories_of (set ts n new)) us k) n _ _ _ (inv.rounds σ us k all a)
          (λ p from to low b. subst (λ (z : List Doc). IsAndBounded [] σ z us (length (answer q k z)) from to) (sym (there ts n p new low)) b)
          (and_bounded_by σ _ _ _ us _ _ _ _ made told ids (e.rounds us old.0));
    }

pub returns-clause-loads : goal.returns-clause-loads
returns-clause-loads g c = λ σ t k all a.
    let long : c.loop-at.at ≡ length (histories_of c.loop-at.readers) = omega (arith, c.loop-at-test.false, c.loop-at.auto, length_histories c.loop-at.readers) in
    subst (λ z. PartAfterPart (WithinBound σ (histories_of c.args.readers.now) (histories_of c.loop-at.readers) t k) z c.args.steps.now c.loop-at.steps) long (c.loop-at.invariant.loads σ t k all a)

pub returns-clause-rounds : goal.returns-clause-rounds
returns-clause-rounds g c = λ σ ts k all a.
    let long : c.loop-at.at ≡ length (histories_of c.loop-at.readers) = omega (arith, c.loop-at-test.false, c.loop-at.auto, length_histories c.loop-at.readers) in
    subst (λ z. PartAfterPart (WithinAndBound σ (histories_of c.loop-at.readers) ts k) z c.args.steps.now c.loop-at.steps) long (c.loop-at.invariant.rounds σ ts k all a)
