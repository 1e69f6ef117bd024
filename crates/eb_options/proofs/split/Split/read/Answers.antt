use Rattle.std.proofs.Common.{◌∙◌, ◌∷◌, ap, option_map, string_bytes, sym}
use Rattle.eb_options.specs.Items.{flags_and_values, texts}
use Rattle.eb_options.specs.Parts.{in_front, with_value_last}
use Rattle.eb_options.specs.Views.{parts_view}
use Rattle.eb_options.proofs.Splitting.{took_value}
use Rattle.eb_options.proofs.split.Split.read.Goals as goal

pub returns-in-Some-clause-item : goal.returns-in-Some-clause-item
returns-in-Some-clause-item c = λ _ rest.
    ap (λ w. in_front (parts_view c.args.self.now) (flags_and_values (texts c.args.flags.now) (texts c.args.options.now) (option_map string_bytes w) (c.args.word.now ∷ rest)))
    (sym c.take.ensures.value ∙ c.in-Some.is)
    ∙ took_value (texts c.args.flags.now) (texts c.args.options.now) (parts_view c.args.self.now) _ _ c.args.word.now rest (string_bytes c.in-Some.name)
    (c.in_ok-put_value.ensures.parts ∙ ap (λ name. with_value_last (parts_view c.args.self.now) (name, c.args.word.now)) c.as_str.ensures.value) c.in_ok-put_value.ensures.waits
