-- Where the first line of some bytes ends.
use Rattle.std.proofs.Common.{◌≢◌, [], ◌∷◌, Some, None, refl, arith}
use Rattle.std.proofs.lemmas.List.Elements.{All-nil, All-cons}
use Rattle.eb_io.specs.Lines.{IsEnd}

-- the bytes of "a", a LF and "b"
after_a : IsEnd (97 ∷ 10 ∷ 98 ∷ []) (Some 1)
after_a = record { within = omega arith; uncut = All-cons (λ b. b ≢ 10) 97 [] (λ e. omega (arith, e)) (All-nil (λ b. b ≢ 10)); cut = refl }

-- "a" alone
nowhere : IsEnd (97 ∷ []) None
nowhere = All-cons (λ b. b ≢ 10) 97 [] (λ e. omega (arith, e)) (All-nil (λ b. b ≢ 10))

-- not at the second of two LFs, and not nowhere
not_the_second : IsEnd (10 ∷ 10 ∷ []) (Some 1) → ⊥
not_the_second f = f.uncut 0 0 (omega arith) refl

not_nowhere : IsEnd (10 ∷ []) None → ⊥
not_nowhere uncut = uncut 0 0 (omega arith) refl
