-- What a refusal of a blend says when it is printed.
use Rattle.std.specs.Prelude.{ℕ, List, ◌++◌, codes}
use Rattle.std.specs.Fmt.{decimal}
use Rattle.eb_blend.specs.declared.refusal.BlendRefusal.{BlendRefusal}
use Rattle.eb_blend.specs.declared.refusal.BlendRefusal.TheVariants.{NotRising, Full}

-- why a blend refused a document
abbrev pub blend_refusal_text : BlendRefusal → List ℕ
blend_refusal_text (NotRising last) = codes "not rising after " ++ decimal last
blend_refusal_text (Full part) = codes "part " ++ decimal part ++ codes " is full"
