use Rattle.std.proofs.Common.{◌≡◌, ◌+◌, Bool, true, false, if◌then◌else◌, refl, ap, sym, ◌∙◌}
use mir.Val.{bool_byte}
use Rattle.eb_chain.proofs.Begun.{like_on, begun_0, begun_1, begun_2, begun_3}
use Rattle.eb_chain.proofs.new_slices.needs_next.Goals as goal

byte_if : (b : Bool) → bool_byte b ≡ (if b then 1 else 0)
byte_if true = refl
byte_if false = refl

pub returns : goal.returns
returns c f h =
    let g = c.least_before.result + c.args.postings in
    let like = like_on f c.least_before.result c.args.postings (c.least_before.ensures.like f h) in
    record {
      pool0 = c.from.ensures ∙ ap bool_byte (sym (begun_0 _ g like)) ∙ byte_if _;
      pool1 = c.from-2.ensures ∙ ap bool_byte (sym (begun_1 _ g like)) ∙ byte_if _;
      pool2 = c.from-3.ensures ∙ ap bool_byte (sym (begun_2 _ g like)) ∙ byte_if _;
      pool3 = c.from-4.ensures ∙ ap bool_byte (c.begins_last.ensures ∙ sym (begun_3 _ g like)) ∙ byte_if _;
    }
