use Rattle.std.proofs.Common.{Some, Option, ◌≡◌, ◌<◌, ◌≤◌, ◌%◌, ℕ, List, length, set, ap, sym, subst, ◌∙◌, arith}
use Rattle.std.proofs.Math.Nat.{mod-lt}
use Rattle.std.proofs.lemmas.List.Elements.{All-get_or}
use Rattle.eb_base.specs.Document.{Doc}
use Rattle.eb_base.specs.Setting.{Setting}
use Rattle.eb_place.specs.Room.{HasRoom}
use Rattle.eb_table.specs.Known.{Words}
use Rattle.eb_engine.specs.Tokens.{HistoryToken}
use Rattle.eb_blend.specs.Parts.{Parts, WriterTokens, indexes_of, histories_of, lengths_of, counted, history, part_of, with_document, IsAbove}
use Rattle.eb_blend.proofs.Each.{as_many, added_is, counted_more, none_is, indexes_set, length_histories, history_at}
use Rattle.eb_blend.proofs.writer.BlendWriter.add.Goals as goal

pub invariant_of-self-2 : goal.invariant_of-self-2
invariant_of-self-2 g c =
    let ts = c.self.inside.writers.items in
    let ws = c.blend.inside.parts.items in
    let made : indexes_of ts ≡ ws = ap (λ (x : WriterTokens). x.indexes) c.self.view_is ∙ c.requires ∙ sym (ap (λ (x : Parts). x.indexes) c.blend.view_is) in
    let many : length ts ≡ length ws = as_many ts ws made in
    let some : 1 ≤ length ts = omega (arith, many, c.blend.invariant.1) in
    let e = c.len.ensures in
    let long : c.len.result ≡ length ts = grind (arith, e, many) in
    let at : c.id-id.result % c.len.result ≡ c.args.document.now.id % length ts = λ i. c.id-id.ensures i % long i in
    let lt : c.id-id.result % c.len.result < length ts = omega (arith, at, mod-lt c.args.document.now.id {m = length ts} (omega (arith, some))) in
    let is = added_is ts (c.id-id.result % c.len.result) c.index_mut.result.now c.add.new.self c.args.document.now lt c.index_mut.ensures.value c.in-Ok.ensures.ok.1 at in
    let cnt = counted_more (histories_of ts) c.args.document.now c.self.inside.accepted (omega (arith, some, length_histories ts)) c.self.invariant in
    let a = c.saturating_add-self-inside.ensures in
    let sum : c.saturating_add-self-inside.result ≡ counted (lengths_of (with_document (histories_of ts) c.args.document.now)) = grind (arith, a, cnt) in
    sum ∙ ap (λ (z : List (List Doc)). counted (lengths_of z)) (sym is)

pub returns-clause-ok : goal.returns-clause-ok
returns-clause-ok g c =
    let ts = c.self.inside.writers.items in
    let ws = c.blend.inside.parts.items in
    let d = c.args.document.now in
    let made : indexes_of ts ≡ ws = ap (λ (x : WriterTokens). x.indexes) c.self.view_is ∙ c.requires ∙ sym (ap (λ (x : Parts). x.indexes) c.blend.view_is) in
    let many : length ts ≡ length ws = as_many ts ws made in
    let some : 1 ≤ length ts = omega (arith, many, c.blend.invariant.1) in
    let n = c.id-id.result % c.len.result in
    let e = c.len.ensures in
    let long : c.len.result ≡ length ts = grind (arith, e, many) in
    let at : n ≡ d.id % length ts = λ i. c.id-id.ensures i % long i in
    let lt : n < length ts = omega (arith, at, mod-lt d.id {m = length ts} (omega (arith, some))) in
    let lw : n < length ws = omega (arith, lt, many) in
    let t = c.index_mut.result.now in
    let ok = c.in-Ok.ensures.ok in
    let is = added_is ts n t c.add.new.self d lt c.index_mut.ensures.value ok.1 at in
    let same = indexes_set ts n t c.add.new.self c.index_mut.ensures.value (ap (λ (x : HistoryToken). x.index) ok.1) in
    let cnt = counted_more (histories_of ts) d c.self.inside.accepted (omega (arith, some, length_histories ts)) c.self.invariant in
    let a = c.saturating_add-self-inside.ensures in
    let sum : c.saturating_add-self-inside.result ≡ counted (lengths_of (with_document (histories_of ts) d)) = grind (arith, a, cnt) in
    let hs = ap (λ (x : WriterTokens). x.histories) c.self.view_is in
    let ix = ap (λ (x : WriterTokens). x.indexes) c.self.view_is in
    let la = ap (λ (x : WriterTokens). x.last) c.self.view_is in
    let setting : c.index.result.now.setting ≡ c.args.blend.now.setting =
    ap (λ (x : Words). x.setting) c.index.ensures ∙ All-get_or (λ (x : Words). x.setting ≡ c.blend.inside.config) ws n c.index.result.now lw c.blend.invariant.0
    ∙ ap (λ (x : Parts). x.setting) c.blend.view_is in
    let here : history (histories_of ts) n ≡ t.docs = history_at ts n t lt c.index_mut.ensures.value in
    let part : n ≡ part_of c.args.self.now.histories d = at ∙ (λ i. d.id % (sym (length_histories ts) ∙ ap length hs) i) in
    let none = c.not_below.ensures.none in
    let above : IsAbove c.args.self.now.last d.id = subst (λ (x : Option ℕ × ℕ). IsAbove x.0 x.1) (λ i. (la i, c.id-id.ensures i)) (none (none_is c.not_below.result c.in_default.not-Some)) in
    let room : HasRoom c.args.blend.now.setting (history c.args.self.now.histories (part_of c.args.self.now.histories d)) d =
    subst (λ (x : Setting × List Doc). HasRoom x.0 x.1 d) (λ i. (setting i, (sym here ∙ (λ j. history (hs j) (part j))) i)) ok.0 in
    let seen : record { indexes = indexes_of (set ts n c.add.new.self); histories = histories_of (set ts n c.add.new.self); last = Some c.id-id.result }
    ≡ record { indexes = c.args.self.now.indexes; histories = with_document c.args.self.now.histories d; last = Some d.id } =
    λ i. record { indexes = (same ∙ ix) i; histories = (is ∙ ap (λ (z : List (List Doc)). with_document z d) hs) i; last = Some (c.id-id.ensures i) } in
    (above, room, seen, sum ∙ ap (λ (z : List (List Doc)). counted (lengths_of z)) (sym is))
