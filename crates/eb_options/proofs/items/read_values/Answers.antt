use Rattle.std.proofs.Common.{◌≡◌, List, ◌∙◌, sym, ap, map, string_bytes}
use Rattle.std.proofs.lemmas.Result.{IfOk-weaker}
use Rattle.clap.specs.Walk.{Row}
use Rattle.eb_options.specs.Items.{texts, with_each}
use Rattle.eb_options.specs.Matches.{number_at}
use Rattle.eb_options.specs.declared.items.OptionFault.TheVariants.{Usage}
use Rattle.eb_options.proofs.Walking.{faults_none, found_are}
use Rattle.eb_options.proofs.items.read_values.Goals as goal

pub returns-in-Ok-clause-numbers : goal.returns-in-Ok-clause-numbers
returns-in-Ok-clause-numbers c = IfOk-weaker c.read_numbers.result _ _ (λ n h values w.
    let names = texts c.args.names.now in
    found_are names c.requires values (map string_bytes c.as_slice.result.now) (w.0, w.1 ∙ sym (ap (map string_bytes) c.as_slice.ensures.value)) c.in-Ok.ensures.kinds
    ∙ ap (λ (rows : List Row). with_each (number_at rows) names) (sym c.in-Ok.ensures.matches) ∙ h) c.read_numbers.ensures.numbers

pub returns-in-Ok-clause-usage : goal.returns-in-Ok-clause-usage
returns-in-Ok-clause-usage c = λ e values w.
    let names = texts c.args.names.now in
    found_are names c.requires values (map string_bytes c.as_slice.result.now) (w.0, w.1 ∙ sym (ap (map string_bytes) c.as_slice.ensures.value)) c.in-Ok.ensures.kinds
    ∙ ap (λ (rows : List Row). with_each (number_at rows) names) (sym c.in-Ok.ensures.matches) ∙ c.read_numbers.ensures.usage e

pub returns-in-Err-clause-usage : goal.returns-in-Err-clause-usage
returns-in-Err-clause-usage c = λ e values w.
    let usage : c.fault_of.result ≡ Usage = cc in
    faults_none (texts c.args.names.now) c.requires values (map string_bytes c.as_slice.result.now) (w.0, w.1 ∙ sym (ap (map string_bytes) c.as_slice.ensures.value))
    _ c.in-Err.ensures.kinds (c.fault_of.ensures usage)
