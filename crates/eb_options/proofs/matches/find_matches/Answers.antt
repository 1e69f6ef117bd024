use Rattle.std.proofs.Common.{ap, map, ◌∙◌, string_bytes}
use Rattle.std.proofs.lemmas.Result.{IfOk-weaker}
use Rattle.clap.specs.Faults.{is_simple_and_free, fault_of}
use Rattle.clap.specs.Simple.{is_simple, matches_of}
use Rattle.clap.proofs.FaultLemmas.{fails_as}
use Rattle.eb_options.specs.Items.{texts}
use Rattle.eb_options.proofs.Walking.{free_is, simple_is}
use Rattle.eb_options.proofs.matches.find_matches.Goals as goal

pub returns-clause-kinds : goal.returns-clause-kinds
returns-clause-kinds c =
    let run = c.in_ok-command.ensures in
    let parse = c.try_get_matches_from in
    fails_as parse.result _ _ (ap (λ a. fault_of a (map string_bytes c.args.words.now)) run) (parse.ensures.kinds (ap is_simple_and_free run ∙ free_is (texts c.args.names.now)))

pub returns-clause-matches : goal.returns-clause-matches
returns-clause-matches c =
    let run = c.in_ok-command.ensures in
    let parse = c.try_get_matches_from in
    IfOk-weaker parse.result _ _ (λ m h. (h (ap is_simple run ∙ simple_is (texts c.args.names.now))).0 ∙ ap (λ a. matches_of a (map string_bytes c.args.words.now)) run) parse.ensures.matches
