-- What a handle leads to that was taken.
use Rattle.std.proofs.Common.{◌≡◌, ◌⊎◌, sym, ap, ◌∙◌}
use Rattle.std.specs.Prelude.{Option, Some, None}
use mathlib.Core.Logic.{inl, inr}
use Rattle.eb_engine.specs.Tokens.{HistoryToken, ConverterToken}
use Rattle.eb_c.specs.declared.held.Held.{Held}
use Rattle.eb_c.specs.declared.held.Held.TheVariants.{Writer, Reader}
use Rattle.eb_c.specs.Sharing.{LeadsToWriter, LeadsToReader, IsConverter, LeadsToConverter}

abbrev or : {A : Type 0} → A → Option A → A
or d None = d
or d (Some x) = x

some_injective : {A : Type 0} {x y : A} → Some x ≡ Some y → x ≡ y
some_injective {x = x} p = ap (or x) p

pub leads_to : {h : Option Held} {v w : Held} → h ≡ Some v → h ≡ Some w → v ≡ w
leads_to e x = some_injective (sym e ∙ x)

pub leads : {h : Option Held} {v : Held} {w : HistoryToken} → h ≡ Some v → (LeadsToWriter h w ⊎ LeadsToReader h w) → (v ≡ Writer w) ⊎ (v ≡ Reader w)
leads e (inl x) = inl (some_injective (sym e ∙ x))
leads e (inr x) = inr (some_injective (sym e ∙ x))

pub leads_converter : {h : Option Held} {v : Held} {c : ConverterToken} → h ≡ Some v → LeadsToConverter h c → IsConverter v c
leads_converter e (inl x) = inl (leads_to e x)
leads_converter e (inr x) = inr (leads_to e x)

-- and of one that leads to this now
pub is_converter : {h : Option Held} {v : Held} {c : ConverterToken} → h ≡ Some v → IsConverter v c → LeadsToConverter h c
is_converter e (inl x) = inl (e ∙ ap (λ w. Some w) x)
is_converter e (inr x) = inr (e ∙ ap (λ w. Some w) x)
