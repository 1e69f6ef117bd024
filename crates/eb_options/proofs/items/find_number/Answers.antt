use Rattle.std.proofs.Common.{◌∙◌, sym, ap, Some, ℕ, option_map}
use Rattle.clap.proofs.WalkLemmas.{first_value-rows}
use Rattle.clap.specs.Words.{found_of}
use Rattle.eb_options.specs.Matches.{read_first}
use Rattle.eb_options.proofs.items.find_number.Goals as goal

pub returns-in-Some-read_nine : goal.returns-in-Some-read_nine
returns-in-Some-read_nine c =
    let value = sym (ap (option_map (λ s. s.now)) c.in-Some.is) ∙ c.get_str.ensures ∙ first_value-rows (found_of c.args.matches.now) c.args.option.now in
    ap (option_map (λ (n : ℕ). Some n)) (sym c.in-Some-read_nine.is ∙ c.read_nine.ensures) ∙ ap read_first value

pub returns-in-None-read_nine : goal.returns-in-None-read_nine
returns-in-None-read_nine c =
    let value = sym (ap (option_map (λ s. s.now)) c.in-Some.is) ∙ c.get_str.ensures ∙ first_value-rows (found_of c.args.matches.now) c.args.option.now in
    ap (option_map (λ (n : ℕ). Some n)) (sym c.in-None-read_nine.is ∙ c.read_nine.ensures) ∙ ap read_first value

pub returns-in-None : goal.returns-in-None
returns-in-None c =
    let value = sym (ap (option_map (λ s. s.now)) c.in-None.is) ∙ c.get_str.ensures ∙ first_value-rows (found_of c.args.matches.now) c.args.option.now in
    ap read_first value
