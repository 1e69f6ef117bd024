-- The bits of some terms in the filters of two segments, and which bits of two words are set.
use Rattle.std.proofs.Common.{◌≡◌, true, false, [], ◌∷◌, map, replicate, set, refl}
use Rattle.eb_base.specs.Setting.{Setting}
use Rattle.eb_base.specs.Term.{Term}
use Rattle.eb_bloom.specs.Bits.{Bits, doubled, filter_rows, filter_words, mixed_hash, first_bit, second_bit, is_set, is_noted}

-- two segments, each with room for 1,024 terms
abbrev small : Setting
small = record { segments = 2; docs = 1; terms = 1024 }

abbrev b : Term
b = 98 ∷ []

abbrev ab : Term
ab = 97 ∷ 98 ∷ []

-- 4,096 rows of two bits, in 128 words
rows : filter_rows small ≡ 4096
rows = refl

words : filter_words small ≡ 128
unfolding doubled
words = refl

-- the bits of a row, by the number of segments
widths : map (doubled 6 1) (1 ∷ 2 ∷ 3 ∷ 5 ∷ 32 ∷ 33 ∷ 64 ∷ []) ≡ 1 ∷ 2 ∷ 4 ∷ 8 ∷ 32 ∷ 64 ∷ 64 ∷ []
unfolding doubled
widths = refl

-- the hashes are 98 and 3,105
mixed_hashes : map mixed_hash (b ∷ ab ∷ []) ≡ 10465407871100354570 ∷ 18364380623611296437 ∷ []
unfolding mixed_hash
mixed_hashes = refl

-- in both segments
b_first : map (λ s. first_bit small s b) (0 ∷ 1 ∷ []) ≡ 4646 ∷ 4647 ∷ []
unfolding mixed_hash doubled
b_first = refl

b_second : map (λ s. second_bit small s b) (0 ∷ 1 ∷ []) ≡ 4700 ∷ 4701 ∷ []
unfolding mixed_hash doubled
b_second = refl

ab_first : map (λ s. first_bit small s ab) (0 ∷ 1 ∷ []) ≡ 8154 ∷ 8155 ∷ []
unfolding mixed_hash doubled
ab_first = refl

ab_second : map (λ s. second_bit small s ab) (0 ∷ 1 ∷ []) ≡ 8178 ∷ 8179 ∷ []
unfolding mixed_hash doubled
ab_second = refl

-- bits 0, 2 and 65 of the words 5 and 2; none is set past them
set_bits : map (is_set (5 ∷ 2 ∷ [])) (0 ∷ 1 ∷ 2 ∷ 63 ∷ 64 ∷ 65 ∷ 129 ∷ []) ≡ true ∷ false ∷ true ∷ false ∷ false ∷ true ∷ false ∷ []
unfolding is_set
set_bits = refl

-- ab alone, in the second segment: bits 27 and 51 of word 127
abbrev noted : Bits
noted = record { setting = small; words = set (replicate 128 0) 127 2251799947902976 }

ab_noted : map (λ s. is_noted noted s ab) (0 ∷ 1 ∷ []) ≡ false ∷ true ∷ []
unfolding is_set mixed_hash doubled
ab_noted = refl

b_not_noted : map (λ s. is_noted noted s b) (0 ∷ 1 ∷ []) ≡ false ∷ false ∷ []
unfolding is_set mixed_hash doubled
b_not_noted = refl

-- of these two bits the first alone
abbrev half : Bits
half = record { setting = small; words = set (replicate 128 0) 127 134217728 }

ab_not_noted : map (λ s. is_noted half s ab) (0 ∷ 1 ∷ []) ≡ false ∷ false ∷ []
unfolding is_set mixed_hash doubled
ab_not_noted = refl
