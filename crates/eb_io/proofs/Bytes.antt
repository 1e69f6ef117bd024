-- What is in a buffer, and what one call after another gives or takes.
use Rattle.std.proofs.Common.{◌≡◌, ℕ, ◌+◌, ◌-◌, ◌≤◌, inl, inr, List, [], ◌++◌, length, take, drop, Option, Some, None, refl, sym, ap, ◌∙◌, append_assoc, append-nil, length-append, arith}
use Rattle.std.specs.Prelude.{slice_range}
use Rattle.std.proofs.lemmas.List.{take-append-drop, drop-take, drop-drop, length-take, length-take-le}
use Rattle.eb_io.specs.declared.source.Got.TheVariants.{Bytes}
use Rattle.eb_io.specs.Faults.{HasRisen}
use Rattle.eb_io.specs.Source.{after, got, IsCount, IsEmpty}
use Rattle.eb_io.specs.Sink.{grown}

-- a range that begins later has the first bytes dropped
pub drop_range : (xs : List ℕ) (from to n : ℕ) → n ≤ to - from → slice_range xs (from + n) to ≡ drop n (slice_range xs from to)
drop_range xs from to n le =
    let e : n + (to - (from + n)) ≡ to - from = omega arith in
    sym (ap (λ t. drop n (take t (drop from xs))) (sym e) ∙ (drop-take n (to - (from + n)) (drop from xs) ∙ ap (take (to - (from + n))) (drop-drop n from xs)))

pub length_range : (xs : List ℕ) (from to : ℕ) → length (slice_range xs from to) ≤ to - from
length_range xs from to = omega (arith, length-take (to - from) (drop from xs))

-- what a read copies is the prefix of what was left
pub read_left : (bytes into rest : List ℕ) (at n : ℕ) → rest ≡ drop at bytes → take n into ≡ take n rest
    → drop at bytes ≡ take n into ++ drop (at + n) bytes
read_left bytes into rest at n r e =
    sym (ap (λ t. t ++ drop (at + n) bytes) (e ∙ ap (take n) r)
    ∙ (ap (λ t. take n (drop at bytes) ++ t) (sym (drop-drop n at bytes)) ∙ take-append-drop n (drop at bytes)))

pub grown-grown : (taken : Option (List ℕ)) (a b : List ℕ) → grown (grown taken a) b ≡ grown taken (a ++ b)
grown-grown None a b = refl
grown-grown (Some t) a b = ap Some (append_assoc t a b)

pub grown-nil : (taken : Option (List ℕ)) → grown taken [] ≡ taken
grown-nil None = refl
grown-nil (Some t) = ap Some (append-nil t)

pub after-nil : (left : Option (List ℕ)) → after [] left ≡ left
after-nil None = refl
after-nil (Some t) = refl

pub after-after : (a b : List ℕ) (left : Option (List ℕ)) → after a (after b left) ≡ after (a ++ b) left
after-after a b None = refl
after-after a b (Some t) = ap Some (sym (append_assoc a b t))

-- a rise within a longer time is a rise
pub HasRisen-within : (a b c d : ℕ) → a ≤ b → HasRisen b c → c ≤ d → HasRisen a d
HasRisen-within a b c d ab (inl lt) cd = inl (omega (arith, ab, lt, cd))
HasRisen-within a b c d ab (inr top) cd = inr (omega (arith, top, cd))

-- where a source tells its bytes and nothing is left of them, what was taken is all of them
pub all_taken : (bytes seen : List ℕ) (old new : Option (List ℕ)) → old ≡ after seen new → IsEmpty new → old ≡ Some bytes → seen ≡ bytes
all_taken bytes seen old None e empty told = let no : ⊥ = cc in absurd no
all_taken bytes seen old (Some r) e empty told =
    let both : Some (seen ++ r) ≡ Some bytes = sym e ∙ told in
    let same : seen ++ r ≡ bytes = cc in
    sym (append-nil seen) ∙ (ap (λ t. seen ++ t) (sym empty) ∙ same)

-- a read of a source that says that nothing is left gives no bytes
pub none_left : (n room : ℕ) (buffer : List ℕ) (old new : Option (List ℕ)) → IsCount room (Bytes n) → room ≤ length buffer
    → old ≡ after (got (Bytes n) buffer) new → old ≡ Some [] → ⊥
none_left n room buffer old None c fits e told = let no : ⊥ = cc in no
none_left n room buffer old (Some r) c fits e told =
    let both : Some (take n buffer ++ r) ≡ Some [] = sym e ∙ told in
    let same : take n buffer ++ r ≡ [] = cc in
    let le : n ≤ length buffer = omega (arith, c.1, fits) in
    omega (arith, ap length same, length-append (take n buffer) r, length-take-le n buffer le, c.0)
