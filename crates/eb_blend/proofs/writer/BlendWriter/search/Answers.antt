use Rattle.std.proofs.Common.{◌≡◌, ℕ, List, All, map, length, take, ap, sym, subst, ◌∙◌}
use Rattle.std.proofs.lemmas.List.{with_items_is}
use Rattle.eb_base.specs.Document.{Doc}
use Rattle.eb_base.specs.Match.{answer}
use Rattle.eb_base.specs.Query.{word, conjunction}
use Rattle.eb_base.specs.Setting.{Setting}
use Rattle.eb_cursor.specs.AndCosts.{word_parts}
use Rattle.eb_cursor.specs.declared.frame.Frame.{Frame}
use Rattle.eb_cursor.specs.Frames.{ids_of}
use Rattle.eb_table.specs.Known.{Words}
use Rattle.eb_blend.specs.Blended.{falling, blended}
use Rattle.eb_blend.specs.Bounded.{AreBoundedAlone, AreAndBoundedAlone}
use Rattle.eb_blend.specs.Frames.{AllAsk}
use Rattle.eb_blend.specs.Parts.{Parts, WriterTokens, histories_of, lengths_of, joined}
use Rattle.eb_blend.proofs.Blends.{blended_is}
use Rattle.eb_blend.proofs.writer.BlendWriter.search.Goals as goal

pub blend-requires : goal.blend-requires
blend-requires g c =
    let r = c.requires.frame in
    let a = r.2 in
    let frames = with_items_is c.args.frame.now.frames c.search_own.new.frames (c.search_own.auto.frames ∙ c.as_mut_slice-2.ensures.len) in
    let lengths = with_items_is c.args.frame.now.lengths c.count_own-count.new.lengths (c.count_own-count.auto.lengths ∙ c.as_mut_slice-3.ensures.len) in
    let lent : AllAsk r.0 r.1 c.as_mut_slice-2.result.now = subst (λ (z : List Frame). AllAsk r.0 r.1 z) (sym c.as_mut_slice-2.ensures.value) a.frames in (
      r.0,
      r.1,
      _,
      record {
        frames = subst (λ (z : List Frame). AllAsk r.0 r.1 z) (sym frames) (c.search_own.ensures.ask r.0 r.1 lent);
        most = a.most;
        number = ap length frames ∙ c.search_own.auto.frames ∙ ap length c.as_mut_slice-2.ensures.value ∙ a.number;
        lengths = ap length lengths ∙ c.count_own-count.auto.lengths ∙ ap length c.as_mut_slice-3.ensures.value ∙ a.lengths;
        room = a.room;
      },
    )

pub returns-clause-asks : goal.returns-clause-asks
returns-clause-asks g c = λ q k parts a.
    let frames = with_items_is c.args.frame.now.frames c.search_own.new.frames (c.search_own.auto.frames ∙ c.as_mut_slice-2.ensures.len) in
    let lengths = with_items_is c.args.frame.now.lengths c.count_own-count.new.lengths (c.count_own-count.auto.lengths ∙ c.as_mut_slice-3.ensures.len) in
    let lent : AllAsk q k c.as_mut_slice-2.result.now = subst (λ (z : List Frame). AllAsk q k z) (sym c.as_mut_slice-2.ensures.value) a.frames in
    c.blend-2.ensures.asks q k parts (record {
      frames = subst (λ (z : List Frame). AllAsk q k z) (sym frames) (c.search_own.ensures.ask q k lent);
      most = a.most;
      number = ap length frames ∙ c.search_own.auto.frames ∙ ap length c.as_mut_slice-2.ensures.value ∙ a.number;
      lengths = ap length lengths ∙ c.count_own-count.auto.lengths ∙ ap length c.as_mut_slice-3.ensures.value ∙ a.lengths;
      room = a.room;
    })

pub returns-clause-ids : goal.returns-clause-ids
returns-clause-ids g c = λ q k a.
    let frames = with_items_is c.args.frame.now.frames c.search_own.new.frames (c.search_own.auto.frames ∙ c.as_mut_slice-2.ensures.len) in
    let lengths = with_items_is c.args.frame.now.lengths c.count_own-count.new.lengths (c.count_own-count.auto.lengths ∙ c.as_mut_slice-3.ensures.len) in
    let lent : AllAsk q k c.as_mut_slice-2.result.now = subst (λ (z : List Frame). AllAsk q k z) (sym c.as_mut_slice-2.ensures.value) a.frames in
    let ts = c.as_mut_slice.result.now in
    let found : map ids_of c.search_own.new.frames ≡ map (answer q k) (histories_of ts) = c.search_own.ensures.found q k lent in
    let hs = ap histories_of c.as_mut_slice.ensures.value ∙ ap (λ (w : WriterTokens). w.histories) c.self.view_is in
    c.blend-2.ensures.ids ∙ (λ i. take (a.most i) (falling (joined (map ids_of (frames i))))) ∙ ap (λ (z : List (List ℕ)). take k (falling (joined z))) found
    ∙ sym (blended_is q k (histories_of ts)) ∙ (λ i. blended q k (hs i) (lengths_of (hs i)))

pub returns-clause-loads : goal.returns-clause-loads
returns-clause-loads g c = λ t k a.
    let q = word t in
    let lent : AllAsk q k c.as_mut_slice-2.result.now = subst (λ (z : List Frame). AllAsk q k z) (sym c.as_mut_slice-2.ensures.value) a.frames in
    let same : c.blend.inside.config ≡ c.args.blend.now.setting = ap (λ (x : Parts). x.setting) c.blend.view_is in
    let own = subst (λ (s : Setting). All (λ (w : Words). w.setting ≡ s) c.blend.inside.parts.items) same c.blend.invariant.0 in
    let set = subst (λ (z : List Words). All (λ (w : Words). w.setting ≡ c.args.blend.now.setting) z) (sym c.as_slice.ensures.value) own in
    let hs = ap histories_of c.as_mut_slice.ensures.value ∙ ap (λ (w : WriterTokens). w.histories) c.self.view_is in
    subst (λ (z : List (List Doc)). AreBoundedAlone c.args.blend.now.setting z t k c.args.steps.now c.search_own.new.steps) hs (c.search_own.ensures.loads c.args.blend.now.setting t k set lent)

pub returns-clause-rounds : goal.returns-clause-rounds
returns-clause-rounds g c = λ ts k a.
    let q = conjunction (word_parts ts) in
    let lent : AllAsk q k c.as_mut_slice-2.result.now = subst (λ (z : List Frame). AllAsk q k z) (sym c.as_mut_slice-2.ensures.value) a.frames in
    let same : c.blend.inside.config ≡ c.args.blend.now.setting = ap (λ (x : Parts). x.setting) c.blend.view_is in
    let own = subst (λ (s : Setting). All (λ (w : Words). w.setting ≡ s) c.blend.inside.parts.items) same c.blend.invariant.0 in
    let set = subst (λ (z : List Words). All (λ (w : Words). w.setting ≡ c.args.blend.now.setting) z) (sym c.as_slice.ensures.value) own in
    let hs = ap histories_of c.as_mut_slice.ensures.value ∙ ap (λ (w : WriterTokens). w.histories) c.self.view_is in
    subst (λ (z : List (List Doc)). AreAndBoundedAlone c.args.blend.now.setting z ts k c.args.steps.now c.search_own.new.steps) hs (c.search_own.ensures.rounds c.args.blend.now.setting ts k set lent)
