-- What options of reading give: a text, a list of fields, and the name of a member, as contracts see them.
use Rattle.std.specs.Prelude.{ℕ, List, Option, option_map}
use Rattle.std.specs.Borrow.{Bor}
use Rattle.eb_fields.specs.Fields.{names}
use Rattle.eb_fields.specs.declared.fields.Fields.{Fields}

-- a text that is borrowed, where there is one
abbrev pub told_text : Option (Bor (List ℕ)) → Option (List ℕ)
told_text text = option_map (λ (t : Bor (List ℕ)). t.now) text

-- the names of the fields, where these are read
abbrev pub told_fields : Option Fields → Option (List (List ℕ))
told_fields fields = option_map names fields

-- the name of a member, or that the usual one is meant, where this is read
abbrev pub told_member : Option (Option (Bor (List ℕ))) → Option (Option (List ℕ))
told_member member = option_map told_text member
