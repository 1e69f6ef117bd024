-- The first made lines, computed by the definitions.
use Rattle.std.proofs.Common.{◌≡◌, refl}
use Rattle.std.specs.Prelude.{codes}
use Rattle.std.specs.Fmt.{digits}
use Rattle.eb_gen.specs.Made.{made_line, made_query, made}

first_line : made_line 0 0 ≡ codes "{\"id\":0,\"text\":\"w20 w108 w196 w28 w117 w205 w37 w126\"}"
unfolding digits
first_line = refl

second_line : made_line 0 1 ≡ codes "{\"id\":1,\"text\":\"w214 w46 w135 w223 w55 w144 w232 w64\"}"
unfolding digits
second_line = refl

first_query : made_query 0 0 ≡ codes "?10 w20 w108"
unfolding digits
first_query = refl

-- the last document has a query after it
of_one : made 0 1 ≡ codes "{\"id\":0,\"text\":\"w20 w108 w196 w28 w117 w205 w37 w126\"}\n?10 w20 w108\n"
unfolding digits
of_one = refl
