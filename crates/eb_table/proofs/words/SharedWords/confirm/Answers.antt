use Rattle.std.proofs.Common.{ℕ, ◌<◌, ap, sym, ◌∙◌, subst, arith}
use Rattle.eb_base.specs.Setting.{Setting, words_of}
use Rattle.eb_table.specs.Known.{Words}
use Rattle.eb_table.proofs.Loading.{confirms_at}
use Rattle.eb_table.proofs.words.SharedWords.confirm.Goals as goal

pub load-requires : goal.load-requires
load-requires c =
    let i = c.self.invariant in
    let inside : 0 < words_of c.self.inside.config = omega arith in
    let at_key : 0 < words_of c.self.inside.table.shared.key = subst (λ (s : Setting). 0 < words_of s) (sym i.0) inside in
    let most : 0 < c.self.inside.table.shared.table_id.words = subst (λ (n : ℕ). 0 < n) (sym i.1) inside in (
      c.requires.made ∙ sym (ap (λ (w : Words). w.table) c.self.view_is),
      most,
      confirms_at c.self.inside.table.shared.key c.self.inside.table.shared.table_id.slots c.args.seat.now.id c.args.seat.now.me 0 c.requires.live.0
          c.requires.live.1 at_key,
    )
