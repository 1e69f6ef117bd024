-- The seal and its parts own what a box at the same types owns.
use Rattle.std.specs.Prelude.{◌≡◌, Option, Some, None, IsSome}
use mathlib.Core.Path.{refl}
use Rattle.std.proofs.lemmas.Bool.{false≢true}
use mathlib.Core.List.{[]}
use mir.Syntax.{impl, tnil, dnil}
use denote.Signature.{Slot, plain}
use Rattle.std_alloc.proofs.BoxSteps.Form.{Bx}
use Rattle.std_heap.specs.contracts.Global as Heap
use Rattle.std_heap.specs.contracts.GlobalAllocator.TheImpl.{ghosts, dict}
use Rattle.std_heap.proofs.Global.TheLaws as heap
use Rattle.eb_c.specs.contracts.held.Held as Held
use Rattle.eb_c.proofs.held.Held.TheLaws as held
use Rattle.eb_c.specs.contracts.parts.Parts as Parts
use Rattle.eb_c.specs.contracts.sealed.Sealed as Sealed

abbrev pub E : Bx
E = record { row = Held.the_row; laws = held.the_row_laws; al = record { row = Heap.the_row; laws = heap.the_row_laws; g = ghosts; d = dict; drops = impl [] tnil dnil } }

abbrev pub FromParts : Slot 0
FromParts = plain (λ _. Parts.the_row Held.the_row Heap.the_row ghosts)

abbrev pub FromSeal : Slot 0
FromSeal = plain (λ _. Sealed.the_row)

pub some_of : {A : Type 0} → (h : Option A) → IsSome h → (v : A) × (h ≡ Some v)
some_of (Some v) is = (v, refl)
some_of None is = absurd (false≢true is)
