use Rattle.std.proofs.Common.{◌≡◌, ◌%◌, ◌∙◌, ℕ, List, length, ap, sym, subst, arith}
use Rattle.std.proofs.lemmas.List.{with_items_is}
use Rattle.std.specs.List.{All}
use Rattle.eb_base.specs.Document.{Doc}
use Rattle.eb_base.specs.Setting.{Setting}
use Rattle.eb_table.specs.Known.{Words}
use Rattle.eb_blend.specs.Parts.{Parts, WriterTokens, ConverterTokens, indexes_of, histories_of, tokens_of, IsCaughtUp}
use Rattle.eb_blend.proofs.Each.{as_many, length_histories}
use Rattle.eb_blend.proofs.writer.BlendWriter.catch_up.Goals as goal

pub returns-clause-last : goal.returns-clause-last
returns-clause-last c = λ id is.
    let ts = c.self.inside.writers.items in
    let ws = c.blend.inside.parts.items in
    let last : c.self.inside.last ≡ c.args.self.now.last = ap (λ (x : WriterTokens). x.last) c.self.view_is in
    let hs : histories_of ts ≡ c.args.self.now.histories = ap (λ (x : WriterTokens). x.histories) c.self.view_is in
    let same : c.in-Some.id ≡ id = cc (last, is) in
    let made : indexes_of ts ≡ ws = ap (λ (x : WriterTokens). x.indexes) c.self.view_is ∙ c.requires.this ∙ sym (ap (λ (x : Parts). x.indexes) c.blend.view_is) in
    let many : length ts ≡ length ws = as_many ts ws made in
    let e = c.len.ensures in
    let long : c.len.result ≡ length ts = grind (arith, e, many) in
    let number : c.len.result ≡ length c.args.self.now.histories = long ∙ sym (length_histories ts) ∙ ap length hs in
    let setting = ap (λ (x : Parts). x.setting) c.blend.view_is in
    let lent = ap histories_of c.as_mut_slice.ensures.value ∙ hs in
    let before = ap tokens_of c.as_mut_slice-2.ensures.value ∙ c.converter.view_is in
    let after = ap tokens_of (sym (with_items_is c.converter.inside.converters c.catch_up_at.new.converters (c.catch_up_at.auto.converters ∙ c.as_mut_slice-2.ensures.len))) in
    let all : All (λ w. w.setting ≡ c.blend.inside.config) c.as_slice.result.now =
    subst (λ (z : List Words). All (λ w. w.setting ≡ c.blend.inside.config) z) (sym c.as_slice.ensures.value) c.blend.invariant.0 in
    subst (λ (x : Setting × List (List Doc) × ℕ × ConverterTokens × ConverterTokens). IsCaughtUp x.0 x.1 x.2 x.3 x.4)
    (λ i. (setting i, lent i, same i % number i, before i, after i)) (c.catch_up_at.ensures.part c.blend.inside.config all)
