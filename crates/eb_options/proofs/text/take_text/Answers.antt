use Rattle.std.proofs.Common.{◌≡◌, ◌∙◌, ◌∷◌, ◌++◌, ◌&&◌, not, ℕ, List, [], None, ◌+◌, ◌-◌, sym, ap, map, drop, take, length, String, Global, string_bytes}
use Rattle.std.specs.Prelude.{if◌then◌else◌}
use Rattle.std.proofs.lemmas.Result.{IfOk-weaker}
use Rattle.eb_options.specs.Items.{is_one_of, texts}
use Rattle.eb_options.specs.TextViews.{shown}
use Rattle.eb_options.specs.Texts.{text_apart, behind, taken_value, value_of}
use Rattle.eb_options.proofs.Texts.{after_word, at_end, none_behind, passes, rest_of, takes}
use Rattle.eb_options.proofs.text.take_text.Goals as goal

taken : (c : goal.After-take_value) → text_apart c.args.name.now (texts c.args.options.now) (map string_bytes c.args.words.now)
    ≡ behind (map string_bytes c.loop-at.others.items) (taken_value (shown c.in-Some.value)
    (map string_bytes (take (length c.args.words.now - (c.loop-at.at + 1)) (drop (c.loop-at.at + 1) c.args.words.now))))
taken c =
    let word = string_bytes c.index-words-at.result in
    takes c.args.name.now (texts c.args.options.now) _ (map string_bytes c.loop-at.others.items) word (map string_bytes (drop (c.loop-at.at + 1) c.args.words.now))
    (map string_bytes (drop c.loop-at.at c.args.words.now)) (after_word c.args.words.now c.loop-at.at _ c.index-words-at.is c.loop-at-test.true)
    c.loop-at.waits (shown c.in-Some.value)
    (ap (λ (t : List ℕ). if c.loop-at.waits then None else value_of c.args.name.now t) (sym c.as_str.ensures.value) ∙ sym c.in-Some.ensures) c.loop-at.invariant
    ∙ ap (λ (ws : List (String Global)). behind (map string_bytes c.loop-at.others.items) (taken_value (shown c.in-Some.value) (map string_bytes ws))) (rest_of c.args.words.now (c.loop-at.at + 1))

pub returns-in-Some-clause-apart : goal.returns-in-Some-clause-apart
returns-in-Some-clause-apart c = IfOk-weaker c.take_value.result _ _ (λ apart h. taken c ∙ h) c.take_value.ensures.apart

pub returns-in-Some-clause-usage : goal.returns-in-Some-clause-usage
returns-in-Some-clause-usage c = λ e. taken c ∙ none_behind _ _ (c.take_value.ensures.usage e)

pub loop-at-preserved : goal.loop-at-preserved
loop-at-preserved c =
    let word = string_bytes c.index-words-at.result in
    passes c.args.name.now (texts c.args.options.now) _ (map string_bytes c.loop-at.others.items) word
    (map string_bytes (drop (c.loop-at.at + 1) c.args.words.now)) (map string_bytes (drop c.loop-at.at c.args.words.now))
    (after_word c.args.words.now c.loop-at.at _ c.index-words-at.is c.loop-at-test.true) c.loop-at.waits (map string_bytes c.push.new.words.items) c.waits_after-waits.result
    (ap (λ (t : List ℕ). if c.loop-at.waits then None else value_of c.args.name.now t) (sym c.as_str.ensures.value) ∙ sym c.in_default.ensures)
    (c.in-Ok.ensures ∙ ap (λ (t : List ℕ). map string_bytes c.loop-at.others.items ++ t ∷ []) c.as_str-in-loop-at.ensures.value)
    (c.waits_after-waits.ensures ∙ ap (λ (t : List ℕ). not c.loop-at.waits && is_one_of (texts c.args.options.now) t) c.as_str-in-loop-at-2.ensures.value) c.loop-at.invariant

pub returns-clause-apart : goal.returns-clause-apart
returns-clause-apart c = at_end c.args.name.now (texts c.args.options.now) _ (map string_bytes c.loop-at.others.items) c.args.words.now c.loop-at.at c.loop-at.waits c.loop-at-test.false
    c.loop-at.invariant
