use Rattle.std.proofs.Common.{ℕ, ◌<◌, ap, sym, ◌∙◌, subst}
use Rattle.eb_base.specs.Setting.{Setting, words_of}
use Rattle.eb_place.proofs.NextPackedStore.{packed_in_table}
use Rattle.eb_table.specs.Known.{Words}
use Rattle.eb_table.specs.Rule.{moment_of}
use Rattle.eb_table.proofs.Putting.{puts_at}
use Rattle.eb_table.proofs.words.SharedWords.put_word.Goals as goal

pub store-requires : goal.store-requires
store-requires c =
    let i = c.self.invariant in
    let v = c.self.view_is in
    let m = moment_of c.args.seat.now.me.0 in
    let own : c.args.place < words_of m.setting = packed_in_table m c.args.place c.args.value c.requires.moment c.requires.next in
    let inside : c.args.place < words_of c.self.inside.config =
    subst (λ (s : Setting). c.args.place < words_of s) (c.requires.made.1 ∙ sym (ap (λ (w : Words). w.setting) v)) own in
    let most : c.args.place < c.self.inside.table.shared.table_id.words = subst (λ (n : ℕ). c.args.place < n) (sym i.1) inside in (
      c.requires.made.0 ∙ sym (ap (λ (w : Words). w.table) v),
      most,
      puts_at c.self.inside.table.shared.key c.self.inside.table.shared.table_id.slots c.args.seat.now.id c.args.seat.now.me c.args.place c.args.value
          c.requires.converter c.requires.next,
    )
