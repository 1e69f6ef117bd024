-- What is known of the bytes taken, read by read.
use Rattle.std.proofs.Common.{◌≡◌, ℕ, ◌+◌, ◌<◌, ◌≤◌, inl, inr, List, [], ◌++◌, length, take, drop, Option, Some, None, refl, sym, ap, subst, ◌∙◌, append_assoc, append-nil, length-append, arith}
use borrow.Rule.Slice.PartMut.{put_mid}
use Rattle.std.proofs.lemmas.Bool.{cases_lt}
use Rattle.std.proofs.lemmas.Slice.{take-put_mid, take-put_mid_below}
use Rattle.std.proofs.lemmas.List.{take-append-le, take-append-drop, length-take-le, take-take, nil_from_length}
use Rattle.std.proofs.Math.Seq.{take-append-add, take-length, take-add}
use Rattle.eb_io.specs.declared.source.Got.{Got}
use Rattle.eb_io.specs.declared.source.Got.TheVariants.{Bytes, End, Failed}
use Rattle.eb_io.specs.Faults.{HasRisen}
use Rattle.eb_io.specs.Source.{after, got, got_count, IsCount}
use Rattle.eb_image.specs.Image.{IsFront}
use Rattle.eb_image.specs.Reading.{IsNextPart, HasBegun, Begins, HasNone}
use Rattle.eb_image.specs.Scan.{IsShortest}
use Rattle.eb_image.proofs.Parts.{next_alone}

after-after : (a b : List ℕ) (left : Option (List ℕ)) → after a (after b left) ≡ after (a ++ b) left
after-after a b None = refl
after-after a b (Some t) = ap Some (sym (append_assoc a b t))

pub after-nil : (left : Option (List ℕ)) → after [] left ≡ left
after-nil None = refl
after-nil (Some t) = refl

take_put : (from k n : ℕ) (old into : List ℕ) → from ≤ length old → n ≤ length into
    → take (from + n) (put_mid from k old into) ≡ take from old ++ take n into
take_put from k n old into le fits =
    let all = take-put_mid from k old into (from + length into) refl le in
    let len : length (take from old) ≡ from = length-take-le from old le in
    let shorter : take (from + n) (put_mid from k old into) ≡ take (from + n) (take (from + length into) (put_mid from k old into)) =
    sym (take-take (from + n) (from + length into) (put_mid from k old into) (omega arith)) in
    shorter ∙ (ap (take (from + n)) all ∙ (ap (λ (j : ℕ). take (j + n) (take from old ++ into)) (sym len) ∙ take-append-add (take from old) into n))

pub behind : (read : Got) (from k : ℕ) (old into : List ℕ) (was now first : Option (List ℕ)) → from ≤ length old → length into ≡ k → IsCount k read
    → was ≡ after (got read into) now → first ≡ after (take from old) was → first ≡ after (take (from + got_count read) (put_mid from k old into)) now
behind (Bytes n) from k old into was now first le len count e f =
    f ∙ (ap (after (take from old)) e ∙ (after-after (take from old) (take n into) now
    ∙ ap (λ (t : List ℕ). after t now) (sym (take_put from k n old into le (omega (arith, len, count.1))))))
behind End from k old into was now first le len count e f =
    f ∙ (ap (after (take from old)) (e ∙ after-nil now) ∙ ap (λ (t : List ℕ). after t now) (sym (take-put_mid_below from k old into from (omega arith) le)
    ∙ ap (λ (j : ℕ). take j (put_mid from k old into)) (let z : from ≡ from + 0 = omega arith in z)))
behind Failed from k old into was now first le len count e f =
    f ∙ (ap (after (take from old)) (e ∙ after-nil now) ∙ ap (λ (t : List ℕ). after t now) (sym (take-put_mid_below from k old into from (omega arith) le)
    ∙ ap (λ (j : ℕ). take j (put_mid from k old into)) (let z : from ≡ from + 0 = omega arith in z)))

-- of two lists that begin one list, the shorter begins the longer
pub front_both : (a b x y : List ℕ) → a ++ x ≡ b ++ y → length a ≤ length b → IsFront a b
front_both a b x y e le =
    let same : take (length a) b ≡ a =
    sym (take-append-le (length a) b y le) ∙ (ap (take (length a)) (sym e) ∙ (take-append-le (length a) a x (omega arith) ∙ take-length a)) in
    record { rest = drop (length a) b; is = sym (take-append-drop (length a) b) ∙ ap (λ (t : List ℕ). t ++ drop (length a) b) same }

pub none_yet : (bytes : List ℕ) (n : ℕ) → IsShortest bytes n → length bytes < n → HasNone IsNextPart bytes
none_yet bytes n s less = λ whole next front.
    let cut : s.whole ≡ whole ++ (front.rest ++ s.front.rest) =
    s.front.is ∙ (ap (λ (t : List ℕ). t ++ s.front.rest) front.is ∙ append_assoc whole front.rest s.front.rest) in
    let none = ap length (next_alone whole s.whole (front.rest ++ s.front.rest) next s.next cut) in
    let sum = length-append front.rest s.front.rest in
    let all = ap length s.front.is in
    let both = length-append bytes s.front.rest in
    omega (arith, none, sum, all, both, s.len, less)

pub begun : (bytes : List ℕ) (n : ℕ) → IsShortest bytes n → length bytes < n → HasBegun IsNextPart bytes
begun bytes n s less = record { none = none_yet bytes n s less; begins = (s.whole, s.next, s.front) }

pub none_after : (bytes more now : List ℕ) (n : ℕ) → IsShortest bytes n → length bytes < n → now ≡ bytes ++ more → length now ≤ n
    → (Begins IsNextPart now → ⊥) → HasNone IsNextPart now
none_after bytes more now n s less e le never = λ whole next front.
    let both : bytes ++ more ≡ whole ++ front.rest = sym e ∙ front.is in
    let all = ap length front.is in
    let sum = length-append whole front.rest in
    elim (cases_lt (length whole) (length bytes)) [
      | inl short ↦ none_yet bytes n s less whole next (front_both whole bytes front.rest more (sym both) (omega arith))
      | inr long ↦
          let least = s.least whole next (front_both bytes whole more front.rest both long) in
          let nil : front.rest ≡ [] = nil_from_length front.rest (omega (arith, least, all, sum, le)) in
          never (whole, next, record { rest = []; is = sym (append-nil now ∙ (front.is ∙ (ap (λ (t : List ℕ). whole ++ t) nil ∙ append-nil whole))) })
    ]

pub is_whole : (bytes : List ℕ) (n : ℕ) → IsShortest bytes n → n ≤ length bytes → IsNextPart bytes
is_whole bytes n s le =
    let all = ap length s.front.is in
    let sum = length-append bytes s.front.rest in
    let nil : s.front.rest ≡ [] = nil_from_length s.front.rest (omega (arith, all, sum, s.len, le)) in
    let same : s.whole ≡ bytes = s.front.is ∙ (ap (λ (t : List ℕ). bytes ++ t) nil ∙ append-nil bytes) in
    let P : List ℕ → Type 0 = IsNextPart in
    subst P same s.next

pub length-shortest : (bytes : List ℕ) (n : ℕ) → IsShortest bytes n → length bytes ≤ n
length-shortest bytes n s =
    let all = ap length s.front.is in
    let sum = length-append bytes s.front.rest in
    omega (arith, all, sum, s.len)

-- the first bytes of a buffer, before more of them
pub more_of : (from n : ℕ) (old now : List ℕ) → take from now ≡ take from old → take (from + n) now ≡ take from old ++ take n (drop from now)
more_of from n old now e = take-add from n now ∙ ap (λ (t : List ℕ). t ++ take n (drop from now)) e

pub left_same : (first now : Option (List ℕ)) (from : ℕ) (old new : List ℕ) → first ≡ after (take (from + 0) new) now → take from new ≡ take from old
    → first ≡ after (take from old) now
left_same first now from old new e same =
    let z : from + 0 ≡ from = omega arith in
    e ∙ (ap (λ (j : ℕ). after (take j new) now) z ∙ ap (λ (t : List ℕ). after t now) same)

-- a rise within a longer time is a rise
pub risen_within : (a b c : ℕ) → a ≤ b → HasRisen b c → HasRisen a c
risen_within a b c ab (inl lt) = inl (omega (arith, ab, lt))
risen_within a b c ab (inr top) = inr top
