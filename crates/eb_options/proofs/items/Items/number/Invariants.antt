use Rattle.std.proofs.Common.{◌≡◌, ℕ, List, Option, drop, string_bytes, find, map}
use Rattle.std.specs.Prelude.{option_and_then}
use Rattle.std.specs.Str.{bytes_eq}
use Rattle.eb_options.specs.Items.{option_number}
use Rattle.eb_options.specs.declared.items.Number.{Number}
use Rattle.eb_options.proofs.items.Items.number.Given as goal

abbrev pub invariant-loop-this : goal.invariant-loop-this
invariant-loop-this l = option_number l.option l.self ≡ option_and_then (λ (this : List ℕ × Option ℕ). this.1) (find (λ (this : List ℕ × Option ℕ). bytes_eq this.0 l.option) (map (λ
    (n : Number). (string_bytes n.name, n.number)) (drop l.this-index l.this-items)))
