-- What bytes begin with, by their first ones.
use Rattle.std.proofs.Common.{◌≡◌, ℕ, ◌<◌, ◌≤◌, inl, inr, List, [], ◌++◌, length, get_or, take, drop, refl, sym, ap, subst, ◌∙◌, append_assoc, append-nil, length-append, arith}
use Rattle.std.proofs.lemmas.Bool.{cases_lt}
use Rattle.std.proofs.lemmas.List.{take-append-drop, take-take, length-take-le, nil_from_length}
use Rattle.std.proofs.Math.Seq.{take-length}
use Rattle.eb_base.specs.Setting.{Setting}
use Rattle.eb_base.specs.Document.{Doc, IsDocument}
use Rattle.eb_image.specs.First.{HasNothing, IsFirstHead}
use Rattle.eb_image.specs.declared.first.FirstHead.TheVariants.{Head}
use Rattle.eb_image.specs.Image.{head_of, document_part, last_byte, IsFront}
use Rattle.eb_image.specs.Reading.{IsHead, IsHeadOf, IsPart, IsPartOf, IsNextPart, Begins, HasNone, HasBegun}
use Rattle.eb_image.specs.Scan.{IsShortest}
use Rattle.eb_image.proofs.Heads.{head_len}
use Rattle.eb_image.proofs.Nexts.{last_if}
use Rattle.eb_image.proofs.Taken.{front_both, begun, none_after}

-- the first bytes are a prefix
pub front_of : (n : ℕ) (part bytes : List ℕ) → take n bytes ≡ part → IsFront part bytes
front_of n part bytes e = record { rest = drop n bytes; is = sym (take-append-drop n bytes) ∙ ap (λ (t : List ℕ). t ++ drop n bytes) e }

-- where the first bytes begin nothing and have nothing as a prefix, so it is with all
pub nothing_longer : (Form : List ℕ → Type 0) (n : ℕ) (bytes : List ℕ) → n ≤ length bytes → HasNone Form (take n bytes) → (Begins Form (take n bytes) → ⊥)
    → HasNothing Form bytes
nothing_longer Form n bytes le none never = record {
  none = λ whole form front.
      let cut : take n bytes ++ drop n bytes ≡ whole ++ front.rest = take-append-drop n bytes ∙ front.is in
      let len = length-take-le n bytes le in
      let all = ap length front.is in
      let sum = length-append whole front.rest in
      elim (cases_lt n (length whole)) [
        | inl long ↦ never (whole, form, front_both (take n bytes) whole (drop n bytes) front.rest cut (omega (arith, len, long)))
        | inr short ↦ none whole form (front_both whole (take n bytes) front.rest (drop n bytes) (sym cut) (omega (arith, len, short)))
      ];
  never = λ b. never (
    b.0,
    b.1,
    record {
      rest = drop n bytes ++ b.2.rest;
      is = b.2.is ∙ (ap (λ (t : List ℕ). t ++ b.2.rest) (sym (take-append-drop n bytes)) ∙ append_assoc (take n bytes) (drop n bytes) b.2.rest);
    },
  );
}

-- all bytes, where the first ones are all
pub all_of : (have : ℕ) (bytes : List ℕ) → length bytes ≡ have → take have bytes ≡ bytes
all_of have bytes e = ap (λ (n : ℕ). take n bytes) (sym e) ∙ take-length bytes

pub begun_all : (have whole : ℕ) (bytes : List ℕ) → length bytes ≡ have → have < whole → IsShortest (take have bytes) whole → HasBegun IsNextPart bytes
begun_all have whole bytes e less s =
    let same = all_of have bytes e in
    let P : List ℕ → Type 0 = HasBegun IsNextPart in
    subst P same (begun (take have bytes) whole s (omega (arith, ap length same, e, less)))

pub none_longer : (have next whole : ℕ) (bytes : List ℕ) → have < whole → have ≤ next → next ≤ whole → next ≤ length bytes
    → IsShortest (take have bytes) whole → (Begins IsNextPart (take next bytes) → ⊥) → HasNothing IsNextPart bytes
none_longer have next whole bytes less more within le s never =
    let first = length-take-le have bytes (omega (arith, more, le)) in
    let second = length-take-le next bytes le in
    let cut : take next bytes ≡ take have bytes ++ drop have (take next bytes) = parts have next bytes more in
    nothing_longer IsNextPart next bytes le
    (none_after (take have bytes) (drop have (take next bytes)) (take next bytes) whole s (omega (arith, first, less)) cut (omega (arith, second, within)) never) never
  where
    parts : (a b : ℕ) (t : List ℕ) → a ≤ b → take b t ≡ take a t ++ drop a (take b t)
    parts a b t ab = sym (take-append-drop a (take b t)) ∙ ap (λ (x : List ℕ). x ++ drop a (take b t)) (take-take a b t ab)

-- ---- heads

pub head_first : (σ : Setting) (bytes : List ℕ) → IsHeadOf σ (take 20 bytes) → IsFirstHead bytes (Head σ)
head_first σ bytes h = (h.allowed, front_of 20 (head_of σ) bytes h.is)

-- where the bytes of a head are none
pub no_head : (bytes : List ℕ) → 20 ≤ length bytes → (IsHead (take 20 bytes) → ⊥) → HasNothing IsHead bytes
no_head bytes le never =
    let len = length-take-le 20 bytes le in
    nothing_longer IsHead 20 bytes le (λ whole h front. never (is_head (take 20 bytes) whole front.rest len h front.is))
    (λ b. never (begins_whole (take 20 bytes) b.0 b.2.rest len b.1 b.2.is))
  where
    same : (a b rest : List ℕ) → length a ≡ length b → a ≡ b ++ rest → b ≡ a
    same a b rest len e =
        let nil : rest ≡ [] = nil_from_length rest (omega (arith, len, ap length e, length-append b rest)) in
        sym (e ∙ (ap (λ (t : List ℕ). b ++ t) nil ∙ append-nil b))

    is_head : (a b rest : List ℕ) → length a ≡ 20 → IsHead b → a ≡ b ++ rest → IsHead a
    is_head a b rest len h e =
        let P : List ℕ → Type 0 = IsHead in
        subst P (same a b rest (omega (arith, len, head_len b h)) e) h

    begins_whole : (a b rest : List ℕ) → length a ≡ 20 → IsHead b → b ≡ a ++ rest → IsHead a
    begins_whole a b rest len h e =
        let P : List ℕ → Type 0 = IsHead in
        subst P (sym (same b a rest (omega (arith, len, head_len b h)) e)) h

-- ---- parts

pub part_first : (d : Doc) (n : ℕ) (bytes : List ℕ) → n ≤ length bytes → IsPartOf d (take n bytes)
    → IsDocument d × IsFront (document_part d) bytes × (n ≡ length (document_part d))
part_first d n bytes le p = (p.within, front_of n (document_part d) bytes p.is, sym (length-take-le n bytes le) ∙ ap length p.is)

pub last_first : (n : ℕ) (bytes : List ℕ) → IsNextPart (take n bytes) → get_or (take n bytes) 0 0 ≡ 0 → IsFront last_byte bytes
last_first n bytes next z = front_of n last_byte bytes (last_if (take n bytes) next z)

pub part_there : (n : ℕ) (bytes : List ℕ) → IsPart (take n bytes) → (part : List ℕ) × IsPart part × IsFront part bytes
part_there n bytes p = (take n bytes, p, front_of n (take n bytes) bytes refl)
