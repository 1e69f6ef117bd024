use Rattle.std.proofs.Common.{◌≡◌, ◌&&◌, ℕ, List, Bool, drop, string_bytes, map}
use Rattle.std.specs.List.{list_any}
use Rattle.std.specs.Str.{bytes_eq}
use Rattle.eb_options.specs.Items.{has}
use Rattle.eb_options.specs.declared.items.Flag.{Flag}
use Rattle.eb_options.proofs.items.Items.has.Given as goal

abbrev pub invariant-loop-this : goal.invariant-loop-this
invariant-loop-this l = has l.flag l.self ≡ list_any (λ (this : List ℕ × Bool). bytes_eq this.0 l.flag && this.1) (map (λ (f : Flag). (string_bytes f.name, f.is_there))
    (drop l.this-index l.this-items))
