use Rattle.std.proofs.Common.{◌≡◌, List, ◌∷◌, ℕ, cond, drop, map, string_bytes}
use Rattle.std.specs.List.{filter}
use Rattle.std.specs.Str.{bytes_eq}
use Rattle.eb_options.specs.Items.{at_most_once, dashed, flag_in}
use Rattle.eb_options.proofs.items.find_flag.Given as goal

abbrev pub invariant-loop-word : goal.invariant-loop-word
invariant-loop-word l = flag_in (map string_bytes l.fn.words) l.flag
    ≡ cond l.found (at_most_once (dashed l.flag ∷ filter (λ (word : List ℕ). bytes_eq word (dashed l.flag)) (map string_bytes (drop l.word-index l.fn.words))))
    (flag_in (map string_bytes (drop l.word-index l.fn.words)) l.flag)
