use Rattle.std.proofs.lemmas.Bool.Decides.{nat_tests}
use Rattle.std.proofs.Common.{◌<◌, arith}
use Rattle.eb_text.proofs.Folding.{ascii_stays}
use Rattle.eb_text.proofs.folds_to_itself.Goals as goal

pub returns-then-is_ascii : goal.returns-then-is_ascii
returns-then-is_ascii c _ =
    let ascii = c.if-is_ascii.ensures in
    let low : c.args.c < 128 = grind (arith, ascii, nat_tests) in
    ascii_stays c.args.c low c.if-is_ascii_uppercase.ensures.cases
