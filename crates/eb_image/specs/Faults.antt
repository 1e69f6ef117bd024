-- What the faults of an image say when they are printed.
use Rattle.std.specs.Prelude.{ℕ, List, codes}
use Rattle.eb_image.specs.declared.fault.HeadFault.{HeadFault}
use Rattle.eb_image.specs.declared.fault.HeadFault.TheVariants as head
use Rattle.eb_image.specs.declared.fault.ImageFault.{ImageFault}
use Rattle.eb_image.specs.declared.fault.ImageFault.TheVariants as image

-- why the head of an image wasn't read
abbrev pub head_fault_text : HeadFault → List ℕ
head_fault_text head.BadImage = codes "bad image"
head_fault_text head.ReadFault = codes "read fault"

-- why the next part of an image wasn't read
abbrev pub image_fault_text : ImageFault → List ℕ
image_fault_text image.BadImage = codes "bad image"
image_fault_text image.ReadFault = codes "read fault"
image_fault_text image.NoMemory = codes "memory ran out"
