use Rattle.std.proofs.Common.{◌≡◌, ◌≤◌, List, [], ◌∷◌, ◌++◌, length, ap, ◌∙◌, subst, arith}
use Rattle.eb_base.specs.Document.{Doc}
use Rattle.eb_base.specs.Setting.{Setting}
use Rattle.eb_engine.specs.Tokens.{HistoryToken}
use Rattle.eb_place.specs.Room.{cut, HasRoom}
use Rattle.eb_table.specs.Known.{Words}
use Rattle.run_index.specs.Conversions.{AreConverted}
use Rattle.eb_bloom.proofs.Noting.{cut_some}
use Rattle.run_index.proofs.indexed.Indexed.add.Goals as goal

pub overflow_sub-segments : goal.overflow_sub-segments
overflow_sub-segments g c =
    let old = c.args.self.now.writer in
    let d = c.args.document.now in
    let all : c.segments.result ≡ length (cut old.index.setting (old.docs ++ d ∷ [])) =
    c.segments.ensures.cut ∙ ap (λ (w : HistoryToken). length (cut w.index.setting w.docs)) c.in-Ok.ensures.ok.1 in
    omega (arith, all, cut_some old.index.setting old.docs d)

pub note-requires : goal.note-requires
note-requires g c =
    let h = c.requires.2 in
    let old = c.args.self.now.writer in
    let d = c.args.document.now in
    let all : c.segments.result ≡ length (cut old.index.setting (old.docs ++ d ∷ [])) =
    c.segments.ensures.cut ∙ ap (λ (w : HistoryToken). length (cut w.index.setting w.docs)) c.in-Ok.ensures.ok.1 in
    let few : c.segments.result ≤ old.index.setting.segments = subst (λ (w : HistoryToken). c.segments.result ≤ w.index.setting.segments) c.in-Ok.ensures.ok.1 c.segments.ensures.few in
    let own = ap (λ (k : Words). k.setting.segments) h.writer ∙ ap (λ (τ : Setting). τ.segments) h.setting in
    omega (arith, all, cut_some old.index.setting old.docs d, few, own, ap (λ (τ : Setting). τ.segments) h.filters.setting)

pub returns-in-Ok-clause-placed : goal.returns-in-Ok-clause-placed
returns-in-Ok-clause-placed g c = λ σ docs h.
    let old = c.args.self.now.writer in
    let d = c.args.document.now in
    let index : c.args.self.now.index.setting ≡ σ = ap (λ (k : Words). k.setting) h.index ∙ h.setting in
    let own : old.index.setting ≡ σ = ap (λ (k : Words). k.setting) h.writer ∙ h.setting in
    let added = c.in-Ok.ensures.ok in
    let kept = c.catch_up.ensures.writer ∙ added.1 in
    let all : c.catch_up.new.writer.docs ≡ docs ++ d ∷ [] = ap (λ (w : HistoryToken). w.docs) kept ∙ ap (λ (ds : List Doc). ds ++ d ∷ []) h.documents in
    let begun : c.segments.result ≡ length (cut σ (docs ++ d ∷ [])) = c.segments.ensures.cut
    ∙ ap (λ (w : HistoryToken). length (cut w.index.setting w.docs)) added.1 ∙ (λ i. length (cut (own i) (h.documents i ++ d ∷ []))) in (
      subst (λ (x : Setting × List Doc). HasRoom x.0 x.1 d) (λ i. (index i, h.documents i)) added.0,
      record {
        words = h.words;
        index = h.index;
        setting = h.setting;
        writer = ap (λ (w : HistoryToken). w.index) kept ∙ h.writer;
        documents = all;
        converter = c.catch_up.ensures.index ∙ h.converter;
        converted = subst (λ (x : Setting × List Doc). AreConverted x.0 x.1 c.catch_up.new.converter.converted) (λ i. (index i, all i)) c.catch_up.ensures.converted;
        filters = c.note.ensures.covers σ docs h.filters (omega (arith, begun, cut_some σ docs d));
      },
    )
