use Rattle.std.proofs.Common.{◌≡◌, ℕ, ◌*◌, length, if◌then◌else◌, ap, ◌∙◌, refl, arith}
use Rattle.eb_place.specs.Postings.{places}
use Rattle.eb_cursor.proofs.Tellings.{told_as}
use Rattle.eb_cursor.proofs.Begins.{begun_window}
use Rattle.eb_cursor.proofs.begin.begin_window.Goals as goal

pub returns : goal.returns
returns g c = λ w docs same.
    let kept : length c.begin_leaves-all.new.cursors ≡ length c.args.cursors.now = c.begin_leaves-all.auto.cursors in
    told_as g.met.P.Port.lawful (c.begin_leaves-all.ensures docs) (λ m a. a)
    (λ m n later a begun. begun_window n docs c.args.terms.now w c.begin_leaves-all.new.cursors _ c.end_if-upto.result _ _ (places * length docs) c.begin_leaves-all.result c.requires.some refl
    (c.end_if-upto.ensures ∙ ap (λ (k : ℕ). if c.begin_leaves-all.result then k else 0) (omega (arith, same, c.from-end.ensures))) (kept ∙ c.requires.fits) a.first.narrow begun)
