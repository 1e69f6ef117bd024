-- Hashes and home cells of terms, and the cells that they get.
use Rattle.std.proofs.Common.{◌≡◌, ℕ, [], ◌∷◌, refl}
use Rattle.eb_base.specs.Term.{Term}
use Rattle.eb_place.specs.Placing.{hash, home_cell, cells_of}

-- the hash of a term, and its home cell of 512
abbrev hashed : Term → ℕ × ℕ
hashed t = (hash t, home_cell 512 t)

b : hashed (98 ∷ []) ≡ (98, 98)
b = refl

ab : hashed (97 ∷ 98 ∷ []) ≡ (3105, 33)
ab = refl

aa : hashed (97 ∷ 97 ∷ []) ≡ (3104, 32)
aa = refl

qq : hashed (113 ∷ 113 ∷ []) ≡ (3616, 32)
qq = refl

po : hashed (112 ∷ 111 ∷ []) ≡ (3583, 511)
po = refl

r1 : hashed (114 ∷ 49 ∷ []) ≡ (3583, 511)
r1 = refl

-- home cells of 2,048, those of the least setting
abbrev wide : Term → ℕ
wide t = home_cell 2048 t

b_wide : wide (98 ∷ []) ≡ 98
b_wide = refl

ab_wide : wide (97 ∷ 98 ∷ []) ≡ 1057
ab_wide = refl

aa_wide : wide (97 ∷ 97 ∷ []) ≡ 1056
aa_wide = refl

qq_wide : wide (113 ∷ 113 ∷ []) ≡ 1568
qq_wide = refl

po_wide : wide (112 ∷ 111 ∷ []) ≡ 1535
po_wide = refl

r1_wide : wide (114 ∷ 49 ∷ []) ≡ 1535
r1_wide = refl

aonpo_wide : wide (97 ∷ 111 ∷ 110 ∷ 112 ∷ 111 ∷ []) ≡ 2047
aonpo_wide = refl

aonr1_wide : wide (97 ∷ 111 ∷ 110 ∷ 114 ∷ 49 ∷ []) ≡ 2047
aonr1_wide = refl

-- aa, qq, po and r1, entered in this order: the second and the fourth go one cell on, which wraps
cells : cells_of 512 ((97 ∷ 97 ∷ []) ∷ (113 ∷ 113 ∷ []) ∷ (112 ∷ 111 ∷ []) ∷ (114 ∷ 49 ∷ []) ∷ []) ≡ 32 ∷ 33 ∷ 511 ∷ 0 ∷ []
unfolding cells_of
cells = refl

-- po, r1, aonpo and aonr1 of 2,048: 1535 and 1536, 2047 and 0
wide_cells : cells_of 2048 ((112 ∷ 111 ∷ []) ∷ (114 ∷ 49 ∷ []) ∷ (97 ∷ 111 ∷ 110 ∷ 112 ∷ 111 ∷ []) ∷ (97 ∷ 111 ∷ 110 ∷ 114 ∷ 49 ∷ []) ∷ []) ≡ 1535 ∷ 1536 ∷ 2047 ∷ 0 ∷ []
unfolding cells_of
wide_cells = refl
