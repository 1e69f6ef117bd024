-- An option with a text as the code has it.
use Rattle.std.specs.Prelude.{ℕ, List, Option, map, option_map, string_bytes}
use Rattle.std.specs.Borrow.{Bor}
use Rattle.eb_options.specs.declared.text.TextApart.{TextApart}
use Rattle.eb_options.specs.Texts.{Apart}

abbrev pub shown : Option (Bor (List ℕ)) → Option (List ℕ)
shown text = option_map (λ (t : Bor (List ℕ)). t.now) text

abbrev pub apart_view : TextApart → Apart
apart_view a = record { text = shown a.text; others = map string_bytes a.others.items }
