-- The setting in the bytes of a head.
use Rattle.std.specs.Prelude.{MatchOption}
use Rattle.std.specs.Bool.{Decides}
use Rattle.std.proofs.Common.{◌≡◌, ℕ, ◌+◌, ◌<◌, ◌≤◌, inl, inr, Bool, true, false, not, Option, Some, None}
use Rattle.std.proofs.Common.{append-nil, List, [], ◌++◌, length, take, drop, refl, sym, ap, subst, ◌∙◌, length-append, length-drop, arith}
use Rattle.std.specs.Int.{w32, from_be_bytes, to_be_bytes}
use Rattle.std.proofs.lemmas.Bool.{cases_lt}
use Rattle.std.proofs.lemmas.Nat.{be_bytes_4, from_be_bytes-to_be_bytes_4}
use Rattle.std.proofs.lemmas.List.{take-append-drop, drop-drop, length-take, length-take-le, get_or-drop, get_or-take, get_or_past, nil_from_length}
use Rattle.std.proofs.Math.Seq.{take-length}
use Rattle.eb_base.specs.Setting.{Setting, IsSetting}
use Rattle.eb_image.specs.Image.{mark, head_of}
use Rattle.eb_image.specs.Reading.{IsHead, IsHeadOf, HasNone, IsBad, Begins}
use Rattle.eb_image.proofs.Bytes.{IsBytes}
use Rattle.eb_image.proofs.Parts.{few_terms}

part_fits : (at n : ℕ) (bytes : List ℕ) → IsBytes bytes → IsBytes (take n (drop at bytes))
part_fits at n bytes h i =
    elim (cases_lt i n) [
      | inl lt ↦ rw (get_or-take n (drop at bytes) i 0 lt, get_or-drop) (h (at + i))
      | inr le ↦ rw (get_or_past (take n (drop at bytes)) i 0 (omega (arith, length-take n (drop at bytes)))) (omega arith)
    ]

back : (bytes : List ℕ) (at : ℕ) → IsBytes bytes → at + 4 ≤ length bytes → to_be_bytes w32 (from_be_bytes w32 (take 4 (drop at bytes))) ≡ take 4 (drop at bytes)
back bytes at fits le =
    be_bytes_4 (take 4 (drop at bytes)) _ (length-take-le 4 (drop at bytes) (omega (arith, length-drop at bytes))) (part_fits at 4 bytes fits) refl

-- what these bytes are the head of, where they begin with the mark
abbrev pub numbers_of : List ℕ → Setting
numbers_of head = record {
  segments = from_be_bytes w32 (take 4 (drop 8 head));
  docs = from_be_bytes w32 (take 4 (drop 12 head));
  terms = from_be_bytes w32 (take 4 (drop 16 head));
}

pub head_found : (head : List ℕ) → IsBytes head → length head ≡ 20 → take 8 head ≡ mark → head ≡ head_of (numbers_of head)
unfolding head_of
head_found head fits len m =
    let one : drop 8 head ≡ take 4 (drop 8 head) ++ drop 12 head =
    sym (take-append-drop 4 (drop 8 head)) ∙ ap (λ (t : List ℕ). take 4 (drop 8 head) ++ t) (drop-drop 4 8 head) in
    let two : drop 12 head ≡ take 4 (drop 12 head) ++ drop 16 head =
    sym (take-append-drop 4 (drop 12 head)) ∙ ap (λ (t : List ℕ). take 4 (drop 12 head) ++ t) (drop-drop 4 12 head) in
    let four_left : length (drop 16 head) ≡ 4 = omega (arith, length-drop 16 head, len) in
    let three : drop 16 head ≡ take 4 (drop 16 head) =
    sym (take-length (drop 16 head)) ∙ ap (λ (n : ℕ). take n (drop 16 head)) four_left in
    let s = back head 8 fits (omega (arith, len)) in
    let d = back head 12 fits (omega (arith, len)) in
    let t = back head 16 fits (omega (arith, len)) in
    sym (take-append-drop 8 head) ∙ (ap (λ (x : List ℕ). x ++ drop 8 head) m ∙ ap (λ (x : List ℕ). mark ++ x)
    (one ∙ (ap (λ (x : List ℕ). x ++ drop 12 head) (sym s) ∙ ap (λ (x : List ℕ). to_be_bytes w32 (from_be_bytes w32 (take 4 (drop 8 head))) ++ x)
    (two ∙ (ap (λ (x : List ℕ). x ++ drop 16 head) (sym d) ∙ ap (λ (x : List ℕ). to_be_bytes w32 (from_be_bytes w32 (take 4 (drop 12 head))) ++ x)
    (three ∙ sym t))))))

pub head_mark : (head : List ℕ) → IsHead head → take 8 head ≡ mark
unfolding head_of
head_mark head h = ap (take 8) h.is

-- the numbers in a head are those of its setting
pub head_numbers : (σ : Setting) → IsSetting σ → numbers_of (head_of σ) ≡ σ
unfolding head_of
head_numbers σ f =
    let s : from_be_bytes w32 (take 4 (drop 8 (head_of σ))) ≡ σ.segments = from_be_bytes-to_be_bytes_4 σ.segments (omega (arith, f.segments.1)) in
    let d : from_be_bytes w32 (take 4 (drop 12 (head_of σ))) ≡ σ.docs = from_be_bytes-to_be_bytes_4 σ.docs (omega (arith, f.docs.1)) in
    let t : from_be_bytes w32 (take 4 (drop 16 (head_of σ))) ≡ σ.terms = from_be_bytes-to_be_bytes_4 σ.terms (few_terms _ f.terms) in
    ap (λ (n : ℕ). let r : Setting = record { segments = n; docs = from_be_bytes w32 (take 4 (drop 12 (head_of σ))); terms = from_be_bytes w32 (take 4 (drop 16 (head_of σ))) } in r) s
    ∙ (ap (λ (n : ℕ). let r : Setting = record { segments = σ.segments; docs = n; terms = from_be_bytes w32 (take 4 (drop 16 (head_of σ))) } in r) d
    ∙ ap (λ (n : ℕ). let r : Setting = record { segments = σ.segments; docs = σ.docs; terms = n } in r) t)

pub head_allowed : (head : List ℕ) → IsHead head → IsSetting (numbers_of head)
head_allowed head h =
    let P : Setting → Type 0 = IsSetting in
    subst P (sym (ap numbers_of h.is ∙ head_numbers h.setting h.allowed)) h.allowed

pub head_len : (head : List ℕ) → IsHead head → length head ≡ 20
unfolding head_of
head_len head h = ap length h.is

-- fewer bytes than a head has have no head as a prefix
pub none_short : (bytes : List ℕ) → length bytes < 20 → HasNone IsHead bytes
none_short bytes less = λ whole h front.
    omega (arith, head_len whole h, ap length front.is, length-append whole front.rest, less)

pub decided : {P : Type 0} (b : Bool) → Decides b P → not b ≡ false → P
decided true d e = d.0 refl
decided false d e = let no : ⊥ = cc in absurd no

pub setting_found : (r : Option Setting) (σ : Setting) (head : List ℕ) → σ ≡ numbers_of head → head ≡ head_of (numbers_of head)
    → MatchOption r (IsSetting σ → ⊥) (λ config. IsSetting σ × (config ≡ σ)) → MatchOption r (IsHead head → ⊥) (λ config. IsHeadOf config head)
setting_found None σ head e is never = λ h.
    let P : Setting → Type 0 = IsSetting in
    never (subst P (sym e) (head_allowed head h))
setting_found (Some config) σ head e is found =
    let P : Setting → Type 0 = IsSetting in
    record { allowed = subst P (sym found.1) found.0; is = is ∙ ap head_of (sym e ∙ sym found.1) }

-- bytes that were taken for a head and begin none
pub bad_taken : (taken : List ℕ) (left : Option (List ℕ)) → length taken ≤ 20 → (Begins IsHead taken → ⊥) → IsBad IsHead taken left
bad_taken taken left le never = record {
  none = λ whole h front.
      let nil : front.rest ≡ [] = nil_from_length front.rest (omega (arith, le, head_len whole h, ap length front.is, length-append whole front.rest)) in
      never (whole, h, record { rest = []; is = sym (append-nil taken ∙ (front.is ∙ (ap (λ (t : List ℕ). whole ++ t) nil ∙ append-nil whole))) });
  never = inl never;
}

pub take_whole : (n : ℕ) (head : List ℕ) → length head ≡ 20 → n ≡ 20 → take n head ≡ head
take_whole n head len e = ap (λ (k : ℕ). take k head) (e ∙ sym len) ∙ take-length head
