use Rattle.std.proofs.Common.{inl, ap, sym, ◌∙◌, ◌∷◌, ◌++◌, []}
use Rattle.eb_base.specs.Document.{Doc}
use Rattle.eb_base.specs.Setting.{Setting, IsSetting}
use Rattle.eb_feed.specs.Generations.{generations}
use Rattle.feed_shared.specs.Turns.{WriterToken, generations_of}
use Rattle.feed_shared.proofs.Taking.{taken_on}
use Rattle.feed_shared.proofs.writer.FeedWriter.add.Goals as goal

pub returns-in-Ok-clause-history : goal.returns-in-Ok-clause-history
returns-in-Ok-clause-history g c = λ history h.
    let old : WriterToken = c.args.self.now in
    let d : Doc = c.args.document.now in
    let config = ap (λ (t : WriterToken). t.setting) c.self.view_is in
    let is : IsSetting old.setting = rw (sym config) c.words-words.ensures.setting in
    inl (taken_on old.setting (generations_of old.feed.log old.feed.docs) _ history d is h c.in-Ok.ensures.taken ∙ ap (λ (σ : Setting). generations σ (history ++ d ∷ [])) (sym
    c.add_here_or_behind.ensures.setting.0))
