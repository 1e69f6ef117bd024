use Rattle.std.proofs.Common.{◌∙◌, ◌<◌, ◌^◌, sym, arith}
use Rattle.eb_options.proofs.SettingNumbers.{nine}
use Rattle.eb_options.proofs.number.read_nine.Goals as goal

pub overflow_cast-result : goal.overflow_cast-result
overflow_cast-result c =
    let small : c.in_ok-number.number < 2 ^ 32 = nine c.args.word.now c.in_ok-number.number (sym c.read_number.ensures ∙ c.in_ok-number.was) in
    omega arith
