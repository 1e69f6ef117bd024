use Rattle.std.proofs.Common.{◌≡◌, ◌∙◌, ℕ, List, None, Some, String, Global, sym, ap, map, string_bytes}
use Rattle.eb_options.specs.Items.{flag_in, flags_and_values, texts, with_each}
use Rattle.eb_options.specs.Parts.{AreWordsOf, word_of}
use Rattle.eb_options.specs.Views.{parts_view, value_view}
use Rattle.eb_options.specs.declared.items.OptionFault.TheVariants.{Usage}
use Rattle.eb_options.specs.declared.split.Split.{Split}
use Rattle.eb_options.specs.declared.split.Value.{Value}
use Rattle.eb_options.proofs.Splitting.{err_same, items_are, no_numbers, no_parts, values_known}
use Rattle.eb_options.proofs.items.read_options.Goals as goal

-- the words that clap reads are those of the values
words_are : (flags options words : List (List ℕ)) (split : Split) (values : List Value) (joined : List (String Global)) → flags_and_values flags options None words ≡ Some (parts_view split)
    → values ≡ split.values.items → map string_bytes joined ≡ map word_of (map value_view values) → AreWordsOf options (parts_view split).values (map string_bytes joined)
words_are flags options words split values joined e same are =
    (values_known flags options words (parts_view split) e, sym (are ∙ ap (λ (vs : List Value). map word_of (map value_view vs)) same))

pub returns-in-Err-clause-usage : goal.returns-in-Err-clause-usage
returns-in-Err-clause-usage c = λ e.
    no_parts (texts c.args.flags.now) (texts c.args.options.now) (map string_bytes c.args.words.now) (c.in-Err.ensures.usage (err_same c.in-Err.fault Usage e))

pub returns-in-Err-read_values-clause-usage : goal.returns-in-Err-read_values-clause-usage
returns-in-Err-read_values-clause-usage c = λ e.
    let flags = texts c.args.flags.now in
    let options = texts c.args.options.now in
    let words = map string_bytes c.args.words.now in
    no_numbers flags options words (parts_view c.in-Ok.split) c.in-Ok.ensures.parts
    (c.in-Err-read_values.ensures.usage (err_same c.in-Err-read_values.fault Usage e) _
    (words_are flags options words c.in-Ok.split c.as_slice-2.result.now c.in-Ok-words_of.words.items c.in-Ok.ensures.parts c.as_slice-2.ensures.value c.in-Ok-words_of.ensures))

pub returns-clause-items : goal.returns-clause-items
returns-clause-items c =
    let flags = texts c.args.flags.now in
    let options = texts c.args.options.now in
    let words = map string_bytes c.args.words.now in
    items_are flags options words (parts_view c.in-Ok.split) c.in-Ok.ensures.parts _ _
    (ap (λ (ws : List (String Global)). with_each (flag_in (map string_bytes ws)) flags) (sym c.as_slice.ensures.value) ∙ c.in-Ok-read_flags.ensures.flags)
    (c.in-Ok-read_values.ensures.numbers _
    (words_are flags options words c.in-Ok.split c.as_slice-2.result.now c.in-Ok-words_of.words.items c.in-Ok.ensures.parts c.as_slice-2.ensures.value c.in-Ok-words_of.ensures))
