-- Texts that are one word, and spaces that part words.
use Rattle.std.proofs.Common.{[], ◌∷◌, refl, arith}
use Rattle.std.specs.Prelude.{codes}
use Rattle.std.proofs.lemmas.Bool.{false≢true}
use Rattle.std.proofs.lemmas.List.Elements.{All-nil, All-cons}
use Rattle.eb_text.specs.Parting.{IsAlphanumeric, IsPlain, IsParting}

-- letters and digits
plain : IsPlain (codes "Z7")
plain = (omega arith, All-cons IsAlphanumeric 90 (55 ∷ []) refl (All-cons IsAlphanumeric 55 [] refl (All-nil IsAlphanumeric)))

-- no byte at all, and one that is neither
nothing : IsPlain [] → ⊥
nothing p = omega (arith, p.0)

low_line : IsPlain (codes "a_b") → ⊥
low_line p = false≢true (p.1 1 0 (omega arith))

-- between two letters, and after a comma
between : IsParting (codes "a b") 1
between = record { space = refl; within = (omega arith, omega arith); ascii = omega arith; other = λ e. omega (arith, e); behind = refl }

behind_a_comma : IsParting (codes "a, 7") 2
behind_a_comma = record { space = refl; within = (omega arith, omega arith); ascii = omega arith; other = λ e. omega (arith, e); behind = refl }

-- the first of two, the second of two, and one at the start
first_of_two : IsParting (codes "a  b") 1 → ⊥
first_of_two p = false≢true p.behind

second_of_two : IsParting (codes "a  b") 2 → ⊥
second_of_two p = p.other refl

in_front : IsParting (codes " b") 0 → ⊥
in_front p = omega (arith, p.within.0)

-- one before a mark (U+0345, which is a letter)
under_a_mark : IsParting (97 ∷ 32 ∷ 205 ∷ 133 ∷ []) 1 → ⊥
under_a_mark p = false≢true p.behind
