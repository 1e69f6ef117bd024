use Rattle.std.proofs.Common.{length, ap, rules}
use Rattle.eb_place.specs.Moments.{empty_moment}
use Rattle.eb_trials.proofs.Additions.{left_for}
use Rattle.eb_trials.proofs.tests.made.growing.Goals as goal

pub new-requires-2 : goal.new-requires-2
new-requires-2 c =
    let w = c.in_ok-words.ensures in
    let a = c.add_all.ensures (search rules) (empty_moment c.args.config) c.in_ok-pen.ensures c.new-placer.ensures in
    let o = c.in_ok-_count.ensures.ok a.moment a.port a.placer in (
      w.0,
      w.1,
      left_for w.0 c.args.config c.args.documents.now c.args.last _ _ _ _ _ o.0 a o.3 o.4 o.1 (search rules)
          (search rules) (ap length c.stores-done.ensures) c.into_stores.ensures c.terms-terms.ensures.document w.2,
    )

pub returns : goal.returns
returns c =
    let w = c.in_ok-words.ensures in
    let a = c.add_all.ensures (search rules) (empty_moment c.args.config) c.in_ok-pen.ensures c.new-placer.ensures in
    let o = c.in_ok-_count.ensures.ok a.moment a.port a.placer in
    let left = left_for w.0 c.args.config c.args.documents.now c.args.last _ _ _ _ _ o.0 a o.3 o.4 o.1 (search rules)
    (search rules) (ap length c.stores-done.ensures) c.into_stores.ensures c.terms-terms.ensures.document w.2 in
    (w.0, c.new-2.ensures w.0 w.1 left, w.2)
