use Rattle.std.proofs.Common.{◌∙◌, ap, Some, sym}
use Rattle.eb_options.specs.Items.{texts}
use Rattle.eb_options.specs.Views.{item_view, parts_view, waiting}
use Rattle.eb_options.proofs.Splitting.{no_item, now_waits, took_flag, took_option}
use Rattle.eb_options.proofs.split.Split.read_item.Goals as goal

pub returns-then-is_one_of-clause-item : goal.returns-then-is_one_of-clause-item
returns-then-is_one_of-clause-item c = λ _ rest.
    took_flag (texts c.args.flags.now) (texts c.args.options.now) (parts_view c.args.self.now) _ _ c.args.word.now rest (sym c.is_one_of.ensures ∙ c.if-is_one_of.true)
    c.in_ok-put_flag.ensures.parts (c.in_ok-put_flag.ensures.waits ∙ c.requires)

pub returns-in-Some-default-Some-clause-item : goal.returns-in-Some-default-Some-clause-item
returns-in-Some-default-Some-clause-item c = λ _ rest.
    took_option (texts c.args.flags.now) (texts c.args.options.now) (parts_view c.args.self.now) _ _ c.args.word.now rest c.in-Some-default-Some.name.now c.in-Some-default-Some.text.now
    (sym c.is_one_of.ensures ∙ c.if-is_one_of.false)
    (ap (λ v. Some (item_view (c.in-Some-default-Some.name, v))) (sym c.in-Some-default-Some.field-0-1-is) ∙ c.in-Some-default-Some.ensures)
    c.in_ok-put_value-in-Some-default-Some.ensures.parts c.in_ok-put_value-in-Some-default-Some.ensures.waits

pub returns-in-Some-default-None-clause-item : goal.returns-in-Some-default-None-clause-item
returns-in-Some-default-None-clause-item c = λ _ rest.
    now_waits (texts c.args.flags.now) (texts c.args.options.now) (parts_view c.args.self.now) _ _ c.args.word.now rest c.in-Some-default-None.name.now
    (sym c.is_one_of.ensures ∙ c.if-is_one_of.false)
    (ap (λ v. Some (item_view (c.in-Some-default-None.name, v))) (sym c.in-Some-default-None.field-0-1-is) ∙ c.in-Some-default-None.ensures)
    c.in_ok-wait_for-in-Some-default-None.ensures.parts c.in_ok-wait_for-in-Some-default-None.ensures.waits

pub returns-in-None-clause-none : goal.returns-in-None-clause-none
returns-in-None-clause-none c = λ _ rest.
    no_item (texts c.args.flags.now) (texts c.args.options.now) (parts_view c.args.self.now) (parts_view c.args.self.now) (waiting c.args.self.now) c.args.word.now rest
    (sym c.is_one_of.ensures ∙ c.if-is_one_of.false) c.in-None.ensures
