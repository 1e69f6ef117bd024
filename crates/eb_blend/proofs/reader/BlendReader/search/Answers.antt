use Rattle.std.proofs.Common.{◌≡◌, ℕ, List, All, map, length, take, ap, sym, subst, ◌∙◌}
use Rattle.std.proofs.lemmas.List.{with_items_is}
use Rattle.eb_base.specs.Document.{Doc}
use Rattle.eb_base.specs.Match.{answer}
use Rattle.eb_base.specs.Query.{word, conjunction}
use Rattle.eb_base.specs.Setting.{Setting}
use Rattle.eb_cursor.specs.AndCosts.{word_parts}
use Rattle.eb_cursor.specs.declared.frame.Frame.{Frame}
use Rattle.eb_cursor.specs.Frames.{ids_of}
use Rattle.eb_engine.specs.Tokens.{HistoryToken}
use Rattle.eb_table.specs.Known.{Words}
use Rattle.eb_blend.specs.Blended.{falling, blended}
use Rattle.eb_blend.specs.Bounded.{AreBounded, AreAndBounded}
use Rattle.eb_blend.specs.Frames.{AllAsk}
use Rattle.eb_blend.specs.Parts.{Parts, ReaderTokens, histories_of, lengths_of, joined}
use Rattle.eb_blend.proofs.Blends.{blended_is}
use Rattle.eb_blend.proofs.reader.BlendReader.search.Goals as goal

pub blend-requires : goal.blend-requires
blend-requires g c =
    let r = c.requires.frame in
    let a = r.2 in
    let frames = with_items_is c.args.frame.now.frames c.search_each.new.frames (c.search_each.auto.frames ∙ c.as_mut_slice-2.ensures.len) in
    let lengths = with_items_is c.args.frame.now.lengths c.count_each-count.new.lengths (c.count_each-count.auto.lengths ∙ c.as_mut_slice-3.ensures.len) in
    let lent : AllAsk r.0 r.1 c.as_mut_slice-2.result.now = subst (λ (z : List Frame). AllAsk r.0 r.1 z) (sym c.as_mut_slice-2.ensures.value) a.frames in (
      r.0,
      r.1,
      _,
      record {
        frames = subst (λ (z : List Frame). AllAsk r.0 r.1 z) (sym frames) (c.search_each.ensures.ask r.0 r.1 lent);
        most = a.most;
        number = ap length frames ∙ c.search_each.auto.frames ∙ ap length c.as_mut_slice-2.ensures.value ∙ a.number;
        lengths = ap length lengths ∙ c.count_each-count.auto.lengths ∙ ap length c.as_mut_slice-3.ensures.value ∙ a.lengths;
        room = a.room;
      },
    )

pub returns-clause-asks : goal.returns-clause-asks
returns-clause-asks g c = λ q k parts a.
    let frames = with_items_is c.args.frame.now.frames c.search_each.new.frames (c.search_each.auto.frames ∙ c.as_mut_slice-2.ensures.len) in
    let lengths = with_items_is c.args.frame.now.lengths c.count_each-count.new.lengths (c.count_each-count.auto.lengths ∙ c.as_mut_slice-3.ensures.len) in
    let lent : AllAsk q k c.as_mut_slice-2.result.now = subst (λ (z : List Frame). AllAsk q k z) (sym c.as_mut_slice-2.ensures.value) a.frames in
    c.blend-2.ensures.asks q k parts (record {
      frames = subst (λ (z : List Frame). AllAsk q k z) (sym frames) (c.search_each.ensures.ask q k lent);
      most = a.most;
      number = ap length frames ∙ c.search_each.auto.frames ∙ ap length c.as_mut_slice-2.ensures.value ∙ a.number;
      lengths = ap length lengths ∙ c.count_each-count.auto.lengths ∙ ap length c.as_mut_slice-3.ensures.value ∙ a.lengths;
      room = a.room;
    })

pub returns-clause-ids : goal.returns-clause-ids
returns-clause-ids g c = λ q k a.
    let frames = with_items_is c.args.frame.now.frames c.search_each.new.frames (c.search_each.auto.frames ∙ c.as_mut_slice-2.ensures.len) in
    let lengths = with_items_is c.args.frame.now.lengths c.count_each-count.new.lengths (c.count_each-count.auto.lengths ∙ c.as_mut_slice-3.ensures.len) in
    let readers = with_items_is c.self.inside.readers c.search_each.new.readers (c.search_each.auto.readers ∙ c.as_mut_slice.ensures.len) in
    let lent : AllAsk q k c.as_mut_slice-2.result.now = subst (λ (z : List Frame). AllAsk q k z) (sym c.as_mut_slice-2.ensures.value) a.frames in
    let found : map ids_of c.search_each.new.frames ≡ map (answer q k) (histories_of c.search_each.new.readers) = c.search_each.ensures.found q k lent in
    let hs = ap histories_of readers in
    let ls = c.blend-2.ensures.lengths ∙ lengths ∙ c.count_each-count.ensures.lengths ∙ ap (λ (z : List HistoryToken). lengths_of (histories_of z)) (c.as_slice-2.ensures.value ∙ readers) in
    c.blend-2.ensures.ids ∙ (λ i. take (a.most i) (falling (joined (map ids_of (frames i))))) ∙ ap (λ (z : List (List ℕ)). take k (falling (joined z))) found
    ∙ sym (blended_is q k (histories_of c.search_each.new.readers)) ∙ (λ i. blended q k (sym hs i) (sym ls i))

pub returns-clause-loads : goal.returns-clause-loads
returns-clause-loads g c = λ t k a.
    let q = word t in
    let readers = with_items_is c.self.inside.readers c.search_each.new.readers (c.search_each.auto.readers ∙ c.as_mut_slice.ensures.len) in
    let lent : AllAsk q k c.as_mut_slice-2.result.now = subst (λ (z : List Frame). AllAsk q k z) (sym c.as_mut_slice-2.ensures.value) a.frames in
    let same : c.blend.inside.config ≡ c.args.blend.now.setting = ap (λ (x : Parts). x.setting) c.blend.view_is in
    let own = subst (λ (s : Setting). All (λ (w : Words). w.setting ≡ s) c.blend.inside.parts.items) same c.blend.invariant.0 in
    let set = subst (λ (z : List Words). All (λ (w : Words). w.setting ≡ c.args.blend.now.setting) z) (sym c.as_slice.ensures.value) own in
    let told = c.search_each.ensures.loads c.args.blend.now.setting t k set lent in
    let knew = ap histories_of c.as_mut_slice.ensures.value ∙ ap (λ (x : ReaderTokens). x.histories) c.self.view_is in
    let from = c.args.steps.now in
    let to = c.search_each.new.steps in
    let known = subst (λ (z : List (List Doc)). AreBounded c.args.blend.now.setting z (histories_of c.search_each.new.readers) t k from to) knew told in
    subst (λ (z : List HistoryToken). AreBounded c.args.blend.now.setting c.args.self.now.histories (histories_of z) t k from to) (sym readers) known

pub returns-clause-rounds : goal.returns-clause-rounds
returns-clause-rounds g c = λ ts k a.
    let q = conjunction (word_parts ts) in
    let readers = with_items_is c.self.inside.readers c.search_each.new.readers (c.search_each.auto.readers ∙ c.as_mut_slice.ensures.len) in
    let lent : AllAsk q k c.as_mut_slice-2.result.now = subst (λ (z : List Frame). AllAsk q k z) (sym c.as_mut_slice-2.ensures.value) a.frames in
    let same : c.blend.inside.config ≡ c.args.blend.now.setting = ap (λ (x : Parts). x.setting) c.blend.view_is in
    let own = subst (λ (s : Setting). All (λ (w : Words). w.setting ≡ s) c.blend.inside.parts.items) same c.blend.invariant.0 in
    let set = subst (λ (z : List Words). All (λ (w : Words). w.setting ≡ c.args.blend.now.setting) z) (sym c.as_slice.ensures.value) own in
    let told = c.search_each.ensures.rounds c.args.blend.now.setting ts k set lent in
    subst (λ (z : List HistoryToken). AreAndBounded c.args.blend.now.setting (histories_of z) ts k c.args.steps.now c.search_each.new.steps) (sym readers) told
