use Rattle.std.proofs.Common.{◌≡◌, ◌+◌, ◌<◌, length, take, map, get_or, ap, sym, subst, ◌∙◌, arith, refl}
use Rattle.std.proofs.lemmas.List.Elements.{All-set, All-get_or}
use Rattle.eb_base.specs.Match.{answer}
use Rattle.eb_base.specs.Query.{word, conjunction}
use Rattle.eb_cursor.specs.AndCosts.{word_parts}
use Rattle.eb_engine.specs.Tokens.{HistoryToken}
use Rattle.eb_table.specs.Known.{Words}
use Rattle.eb_blend.specs.Bounded.{PartAfterPart, WithinBoundAlone, WithinAndBoundAlone}
use Rattle.eb_cursor.specs.declared.frame.Frame.{Frame}
use Rattle.eb_cursor.specs.Frames.{query_of, k_of}
use Rattle.eb_blend.specs.Parts.{histories_of, history}
use Rattle.eb_blend.proofs.Each.{as_many, history_at, length_histories, set_same, found_more}
use Rattle.eb_blend.proofs.PartAfterPart.{none_yet, one_more, alone_by, and_alone_by}
use Rattle.eb_blend.proofs.searching.search_own.Goals as goal

pub loop-at-init : goal.loop-at-init
loop-at-init g c = record { writers = refl; ask = λ q k a. a; found = λ q k a. refl; loads = λ σ t k all a. none_yet _ _; rounds = λ σ ts k all a. none_yet _ _ }

pub loop-at-preserved : goal.loop-at-preserved
loop-at-preserved g c =
    let inv = c.loop-at.invariant in
    let n = c.loop-at.at in
    let ts = c.args.writers.now in
    let us = c.loop-at.writers in
    let fs = c.loop-at.frames in
    let t = c.index-writers-at.result in
    let f = c.index-frames-at.result in
    let new = c.search.new.self in
    let e = c.search.ensures in
    let lu : n < length us = omega (arith, c.loop-at-test.true) in
    let lt : n < length ts = omega (arith, lu, c.loop-at.auto.writers) in
    let lf : n < length fs = omega (arith, lt, c.requires.frames, c.loop-at.auto.frames) in
    let ws = c.args.indexes.now in
    let w = c.index-indexes-at.result in
    let li : n < length ws = omega (arith, lt, as_many ts ws c.requires.made) in
    let same : new ≡ t = e.this ∙ sym c.index-writers-at.is in
    let own : t ≡ get_or ts n t = c.index-writers-at.is ∙ ap (λ z. get_or z n t) inv.writers in
    record {
      writers = set_same us n new t lu c.index-writers-at.is same ∙ inv.writers;
      ask = λ q k a.
          let old = All-get_or (λ (x : Frame). (query_of x ≡ q) × (k_of x ≡ k)) fs n f lf (inv.ask q k a) in
          All-set (λ (x : Frame). (query_of x ≡ q) × (k_of x ≡ k)) fs n c.search.new.frame
          (e.query ∙ old.0, e.k ∙ old.1) (inv.ask q k a);
      found = λ q k a.
          let old = All-get_or (λ (x : Frame). (query_of x ≡ q) × (k_of x ≡ k)) fs n f lf (inv.ask q k a) in
          found_more fs ts n c.search.new.frame new q k lf lt (inv.found q k a) (e.ids ∙ (λ i. answer (old.0 i) (old.1 i) new.docs))
          ∙ ap (λ z. take (n + 1) (map (answer q k) (histories_of z))) (set_same ts n new t lt own same);
      loads = λ σ u k all a.
          let q = word u in
          let old = All-get_or (λ (x : Frame). (query_of x ≡ q) × (k_of x ≡ k)) fs n f lf (inv.ask q k a) in
          let made : w.setting ≡ σ = ap (λ (x : Words). x.setting) c.index-indexes-at.is ∙ All-get_or (λ (x : Words). x.setting ≡ σ) ws n w li all in
          let told : new.docs ≡ history (histories_of ts) n = ap (λ (x : HistoryToken). x.docs) same ∙ sym (history_at ts n t lt own) in
          let ids = ap length (e.ids ∙ (λ i. answer (old.0 i) (old.1 i) (told i))) in
          one_more (WithinBoundAlone σ (histories_of ts) u k) (WithinBoundAlone σ (histories_of ts) u k) n _ _ _ (inv.loads σ u k all a)
          (λ p from to low b. b) (alone_by σ _ _ _ _ u _ _ _ _ made told ids (e.loads u old.0));
      rounds = λ σ us k all a.
          let q = conjunction (word_parts us) in
          let old = All-get_or (λ (x : Frame). (query_of x ≡ q) × (k_of x ≡ k)) fs n f lf (inv.ask q k a) in
          let made : w.setting ≡ σ = ap (λ (x : Words). x.setting) c.index-indexes-at.is ∙ All-get_or (λ (x : Words). x.setting ≡ σ) ws n w li all in
          let told : new.docs ≡ history (histories_of ts) n = ap (λ (x : HistoryToken). x.docs) same ∙ sym (history_at ts n t lt own) in
          let ids = ap length (e.ids ∙ (λ i. answer (old.0 i) (old.1 i) (told i))) in
          one_more (WithinAndBoundAlone σ (histories_of ts) us k) (WithinAndBoundAlone σ (histories_of ts) us k) n _ _ _ (inv.rounds σ us k all a)
          (λ p from to low b. b) (and_alone_by σ _ _ _ us _ _ _ _ made told ids (e.rounds us old.0));
    }

pub returns-clause-loads : goal.returns-clause-loads
returns-clause-loads g c = λ σ t k all a.
    let hs = histories_of c.args.writers.now in
    let long : c.loop-at.at ≡ length hs = omega (arith, c.loop-at-test.false, c.loop-at.auto, length_histories c.args.writers.now) in
    subst (λ z. PartAfterPart (WithinBoundAlone σ hs t k) z c.args.steps.now c.loop-at.steps) long (c.loop-at.invariant.loads σ t k all a)

pub returns-clause-rounds : goal.returns-clause-rounds
returns-clause-rounds g c = λ σ ts k all a.
    let hs = histories_of c.args.writers.now in
    let long : c.loop-at.at ≡ length hs = omega (arith, c.loop-at-test.false, c.loop-at.auto, length_histories c.args.writers.now) in
    subst (λ z. PartAfterPart (WithinAndBoundAlone σ hs ts k) z c.args.steps.now c.loop-at.steps) long (c.loop-at.invariant.rounds σ ts k all a)
