-- How lines are read.
use Rattle.std.specs.Prelude.{ℕ, Bool, false, List, [], Option, None, option_map}
use Rattle.eb_text.specs.declared.cutting.Cut.{Cut}
use Rattle.eb_text.specs.declared.cutting.Cut.TheVariants.{Words}
use Rattle.eb_fields.specs.Fields.{names as names_of_fields}
use Rattle.eb_fields.specs.declared.dialect.Dialect as code

-- the names of the fields, how texts are cut into tokens, the names of the members that are the id
-- and the text, where names are given, and whether lines may ask for counts
pub record Dialect : Type 0 where
  pub names : List (List ℕ)
  pub cut : Cut
  pub id : Option (List ℕ)
  pub text : Option (List ℕ)
  pub counts : Bool

-- no field, each word a token, no other names, and no counts: lines are read so where no option
-- says otherwise
abbrev pub plain : Dialect
plain = record { names = []; cut = Words; id = None; text = None; counts = false }

-- as the code has it
abbrev pub dialect_of : code.Dialect → Dialect
dialect_of d = record {
  names = names_of_fields d.fields;
  cut = d.cut;
  id = option_map (λ name. name.now) d.id;
  text = option_map (λ name. name.now) d.text;
  counts = d.counts;
}

-- the same without counts
abbrev pub uncounted : Dialect → Dialect
uncounted how = record how { counts = false }

-- what reads no counts reads so, whatever the code's dialect says of them
abbrev pub uncounted_of : code.Dialect → Dialect
uncounted_of d = uncounted (dialect_of d)
