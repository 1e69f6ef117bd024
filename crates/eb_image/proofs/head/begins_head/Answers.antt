use Rattle.std.proofs.Common.{ap, length, take, sym, ◌∙◌, subst}
use Rattle.std.proofs.lemmas.Slice.Eq.{bytes_eq-Decides}
use Rattle.eb_base.specs.Setting.{Setting, IsSetting}
use Rattle.eb_image.specs.Image.{head_of}
use Rattle.eb_image.proofs.Beginnings.{LeastSetting, least_head, begins_it, first_bytes, none_long}
use Rattle.eb_image.proofs.head.begins_head.Goals as goal

pub returns-then-bytes-gt-HEAD : goal.returns-then-bytes-gt-HEAD
returns-then-bytes-gt-HEAD c = (λ e. absurd cc, λ b. absurd (none_long c.args.bytes.now c.if-bytes-gt-HEAD.true b))

pub returns-in-Some : goal.returns-in-Some
returns-in-Some c =
    let bytes = c.args.bytes.now in
    let σ : Setting = record { segments = c.first_number-segments.result; docs = c.first_number-docs.result; terms = c.first_number-terms.result } in
    let l : LeastSetting bytes σ = record {
      segments = (c.first_number-segments.ensures.there, c.first_number-segments.ensures.missing);
      docs = (c.first_number-docs.ensures.there, c.first_number-docs.ensures.missing);
      terms = (c.first_number-terms.ensures.there, c.first_number-terms.ensures.missing);
    } in
    let P : Setting → Type 0 = IsSetting in
    let d = bytes_eq-Decides (take (length bytes) c.write_head.result) bytes in (
      λ e. begins_it bytes c.write_head.result c.in-Some.config (subst P (sym c.in-Some.ensures.1) c.in-Some.ensures.0) c.write_head.ensures (d.0 (sym c.eq.ensures ∙ e)),
      λ b. c.eq.ensures ∙ d.1 (first_bytes bytes c.write_head.result σ (c.write_head.ensures ∙ ap head_of c.in-Some.ensures.1) (least_head bytes σ l b).1),
    )

pub returns-in-None : goal.returns-in-None
returns-in-None c =
    let σ : Setting = record { segments = c.first_number-segments.result; docs = c.first_number-docs.result; terms = c.first_number-terms.result } in
    let l : LeastSetting c.args.bytes.now σ = record {
      segments = (c.first_number-segments.ensures.there, c.first_number-segments.ensures.missing);
      docs = (c.first_number-docs.ensures.there, c.first_number-docs.ensures.missing);
      terms = (c.first_number-terms.ensures.there, c.first_number-terms.ensures.missing);
    } in
    (λ e. absurd cc, λ b. absurd (c.in-None.ensures (least_head c.args.bytes.now σ l b).0))
