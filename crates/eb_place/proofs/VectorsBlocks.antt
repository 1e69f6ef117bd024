-- Blocks of falling postings.
use Rattle.std.proofs.Common.{◌≡◌, ℕ, zero, suc, List, [], ◌∷◌, refl}
use Rattle.eb_place.specs.Packed.{block, packed_list}

one : block (5 ∷ []) ≡ 327681 ∷ []
unfolding block lib.Count.count_leading_zeros
one = refl

two : block (300 ∷ 299 ∷ []) ≡ 19661058 ∷ 1 ∷ []
unfolding block lib.Count.count_leading_zeros
two = refl

-- a difference of 32 bits
far : block (4294967295 ∷ 0 ∷ []) ≡ 281474976653314 ∷ 4294967295 ∷ []
unfolding block lib.Count.count_leading_zeros
far = refl

-- a difference of 40 bits
farthest : block (1099511627775 ∷ 0 ∷ []) ≡ 72057594037872642 ∷ 1099511627775 ∷ []
unfolding block lib.Count.count_leading_zeros
farthest = refl

-- one of 16 bits
next_document : block (65536 ∷ 1023 ∷ []) ≡ 4294971394 ∷ 64513 ∷ []
unfolding block lib.Count.count_leading_zeros
next_document = refl

-- three differences of 24 bits, of which the third crosses from one word to the next
crossing : block (8388612 ∷ 8388611 ∷ 8388609 ∷ 0 ∷ []) ≡ 549756082180 ∷ 281475010265089 ∷ 128 ∷ []
unfolding block lib.Count.count_leading_zeros
crossing = refl

-- n and all below it
abbrev down_from : ℕ → List ℕ
down_from zero = 0 ∷ []
down_from (suc n) = suc n ∷ down_from n

full : block (down_from 127) ≡ 8323456 ∷ 18446744073709551615 ∷ 9223372036854775807 ∷ []
unfolding block lib.Count.count_leading_zeros
full = refl

-- a list of 129 postings is two blocks
cut_in_two : packed_list (down_from 128) ≡ 8388992 ∷ 18446744073709551615 ∷ 9223372036854775807 ∷ 1 ∷ []
unfolding block packed_list lib.Count.count_leading_zeros
cut_in_two = refl
