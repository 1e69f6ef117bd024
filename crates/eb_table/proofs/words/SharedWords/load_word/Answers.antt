use Rattle.std.proofs.Common.{ℕ, ◌<◌, ap, sym, ◌∙◌, subst}
use Rattle.eb_base.specs.Setting.{Setting, words_of}
use Rattle.eb_table.specs.Known.{Words}
use Rattle.eb_table.proofs.Loading.{loads_at}
use Rattle.eb_table.proofs.words.SharedWords.load_word.Goals as goal

pub load-requires : goal.load-requires
load-requires c =
    let i = c.self.invariant in
    let v = c.self.view_is in
    let inside : c.args.place < words_of c.self.inside.config = subst (λ (s : Setting). c.args.place < words_of s) (sym (ap (λ (w : Words). w.setting) v)) c.requires.place in
    let at_key : c.args.place < words_of c.self.inside.table.shared.key = subst (λ (s : Setting). c.args.place < words_of s) (sym i.0) inside in
    let most : c.args.place < c.self.inside.table.shared.table_id.words = subst (λ (n : ℕ). c.args.place < n) (sym i.1) inside in (
      c.requires.made ∙ sym (ap (λ (w : Words). w.table) v),
      most,
      loads_at c.self.inside.table.shared.key c.self.inside.table.shared.table_id.slots c.args.seat.now.id c.args.seat.now.me c.args.place c.requires.live.0
          c.requires.live.1 at_key,
    )
