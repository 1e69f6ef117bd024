-- Pieces of tokens, computed. Each vector was cut by hand.
use Rattle.std.proofs.Common.{◌≡◌, [], ◌∷◌, refl}
use Rattle.std.specs.Prelude.{codes}
use Rattle.eb_text.specs.Pieces.{pieces}

points : pieces (codes "com.acme.billing") ≡ codes "com" ∷ codes "acme" ∷ codes "billing" ∷ []
points = refl

low_line : pieces (codes "err_timeout") ≡ codes "err" ∷ codes "timeout" ∷ []
low_line = refl

colon : pieces (codes "timeouterror:connect") ≡ codes "timeouterror" ∷ codes "connect" ∷ []
colon = refl

digits : pieces (codes "3.14") ≡ codes "3" ∷ codes "14" ∷ []
digits = refl

apostrophe : pieces (codes "can't") ≡ codes "can" ∷ codes "t" ∷ []
apostrophe = refl

-- at both ends, and two in a row
ends : pieces (codes "_a__b_") ≡ codes "a" ∷ codes "b" ∷ []
ends = refl

-- one without a mark
none : pieces (codes "berlin") ≡ codes "berlin" ∷ []
none = refl

-- marks alone
marks : pieces (codes "_._") ≡ []
marks = refl

-- `süd:bahn`: the bytes 195 188 are ü, and no mark
other : pieces (115 ∷ (195 ∷ (188 ∷ codes "d:bahn"))) ≡ (115 ∷ (195 ∷ (188 ∷ codes "d"))) ∷ codes "bahn" ∷ []
other = refl
