-- One field read: from the bits, or from the bits and the next word.
use Rattle.std.proofs.Common.{◌≡◌, ℕ, suc, ◌+◌, ◌*◌, ◌^◌, ◌<◌, List, [], ◌∷◌, ◌++◌, drop, length, get_or, refl, ap, sym, ◌∙◌, subst, arith}
use Rattle.std.proofs.lemmas.List.{length-drop, drop_more}
use Rattle.std.proofs.lemmas.Nat.{pow-add}
use Rattle.eb_place.specs.Packed.{fields}
use Rattle.eb_block.specs.Fields.{IsHeld, IsField, HoldsFields, DrawsFrom}
use Rattle.eb_block.specs.declared.bits.Bits.{Bits}
use Rattle.eb_block.proofs.Numbers.{same_parts}

-- a sum of products without the first factor
powers : (i j k l : ℕ) → i + j ≡ k + l → 2 ^ i * 2 ^ j ≡ 2 ^ k * 2 ^ l
powers i j k l e = sym (pow-add 2 i j) ∙ ap (λ n. 2 ^ n) e ∙ pow-add 2 k l

-- the field is the first number, and what is left holds the others
pub hold_first : (w : ℕ) (b c : Bits) (words : List ℕ) (n : ℕ) (ns : List ℕ) (field : ℕ) → HoldsFields w b words (n ∷ ns) → IsHeld c → IsField w b.low field c.low → c.count + w ≡ b.count
    → (field ≡ n) × HoldsFields w c words ns
hold_first w b c words n ns field h held f e =
    let F = fields 64 words in
    let G = fields w ns in
    let p : 2 ^ b.count ≡ 2 ^ w * 2 ^ c.count = ap (λ k. 2 ^ k) (let q : b.count ≡ w + c.count = omega arith in q) ∙ pow-add 2 w c.count in
    let s : b.low + 2 ^ b.count * F ≡ n + 2 ^ w * G = h.sum in
    let a : b.low + 2 ^ b.count * F ≡ field + 2 ^ w * (c.low + 2 ^ c.count * F) = ap (λ k. b.low + k * F) p ∙ ap (λ k. k + 2 ^ w * 2 ^ c.count * F) f.sum ∙ (omega arith) in
    let r = same_parts w field (c.low + 2 ^ c.count * F) n G f.small (h.small).0 (sym a ∙ s) in
    let en = h.enough in
    let m : suc (length ns) * w ≡ length ns * w + w = omega arith in
    (r.0, record { held = held; small = (h.small).1; enough = omega arith; sum = r.1 })

pub hold_over : (w : ℕ) (b c : Bits) (x : ℕ) (words : List ℕ) (n : ℕ) (ns : List ℕ) (field : ℕ) → HoldsFields w b (x ∷ words) (n ∷ ns) → IsHeld c → IsField w (b.low + 2 ^ b.count * x) field c.low
    → c.count + w ≡ b.count + 64 → (field ≡ n) × HoldsFields w c words ns
hold_over w b c x words n ns field h held f e =
    let F = fields 64 words in
    let G = fields w ns in
    let p : 2 ^ b.count * 2 ^ 64 ≡ 2 ^ w * 2 ^ c.count = powers b.count 64 w c.count (omega arith) in
    let s : b.low + 2 ^ b.count * (x + 2 ^ 64 * F) ≡ n + 2 ^ w * G = h.sum in
    let d : b.low + 2 ^ b.count * (x + 2 ^ 64 * F) ≡ (b.low + 2 ^ b.count * x) + 2 ^ b.count * 2 ^ 64 * F = omega arith in
    let a : b.low + 2 ^ b.count * (x + 2 ^ 64 * F) ≡ field + 2 ^ w * (c.low + 2 ^ c.count * F) = d ∙ ap (λ k. (b.low + 2 ^ b.count * x) + k * F) p ∙ ap (λ k. k + 2 ^ w * 2 ^ c.count * F) f.sum
    ∙ (omega arith) in
    let r = same_parts w field (c.low + 2 ^ c.count * F) n G f.small (h.small).0 (sym a ∙ s) in
    let en = h.enough in
    let m : suc (length ns) * w ≡ length ns * w + w = omega arith in
    (r.0, record { held = held; small = (h.small).1; enough = omega arith; sum = r.1 })

-- where the bits are too few, there is a word
pub hold_more : (w : ℕ) (b : Bits) (words : List ℕ) (n : ℕ) (ns : List ℕ) → HoldsFields w b words (n ∷ ns) → b.count < w → (x : ℕ) × (xs : List ℕ) × (words ≡ x ∷ xs)
hold_more w b [] n ns h l = let en = h.enough in let m : suc (length ns) * w ≡ length ns * w + w = omega arith in absurd (omega arith)
hold_more w b (x ∷ xs) n ns h l = (x, xs, refl)

-- the first of what is left of a list
pub record IsNextOf (words : List ℕ) (at x : ℕ) (ys : List ℕ) : Type 0 where
  pub inside : at < length words
  pub here : get_or words at 0 ≡ x
  pub on : drop (at + 1) words ≡ ys

pub next_of : (words : List ℕ) (at x : ℕ) (ys : List ℕ) → drop at words ≡ x ∷ ys → IsNextOf words at x ys
next_of words at x ys e =
    let l : at < length words = omega (arith, length-drop at words, ap length e) in
    let d = sym (drop_more words at 0 l) ∙ e in
    record { inside = l; here = ap (λ zs. get_or zs 0 0) d; on = ap (drop 1) d }

pub draw_first : (w : ℕ) (words : List ℕ) (at : ℕ) (b c : Bits) (n : ℕ) (ns : List ℕ) (field : ℕ) → DrawsFrom w words at b (n ∷ ns) → IsHeld c → IsField w b.low field c.low → c.count + w ≡ b.count
    → (field ≡ n) × DrawsFrom w words at c ns
draw_first w words at b c n ns field d held f e =
    let r = hold_first w b c d.left n ns field d.holds held f e in
    (r.0, record { left = d.left; rest = d.rest; are = d.are; holds = r.1 })

-- what the next word is for, where the bits are too few
pub record DrawsOver (w : ℕ) (words : List ℕ) (at : ℕ) (b : Bits) (n : ℕ) (ns : List ℕ) : Type 0 where
  pub inside : at < length words
  pub then : (c : Bits) (field x : ℕ) → x ≡ get_or words at 0 → IsHeld c → IsField w (b.low + 2 ^ b.count * x) field c.low → c.count + w ≡ b.count + 64 → (field ≡ n) × DrawsFrom w words (at + 1) c ns

pub draw_over : (w : ℕ) (words : List ℕ) (at : ℕ) (b : Bits) (n : ℕ) (ns : List ℕ) → DrawsFrom w words at b (n ∷ ns) → b.count < w → DrawsOver w words at b n ns
draw_over w words at b n ns d l =
    let m = hold_more w b d.left n ns d.holds l in
    let q = next_of words at m.0 (m.1 ++ d.rest) (d.are ∙ ap (λ zs. zs ++ d.rest) m.2) in
    let h = subst (λ zs. HoldsFields w b zs (n ∷ ns)) m.2 d.holds in
    record {
      inside = q.inside;
      then = λ c field x ex held f e.
          (let r = hold_over w b c m.0 m.1 n ns field h held (subst (λ z. IsField w (b.low + 2 ^ b.count * z) field c.low) (ex ∙ q.here) f) e in
          (r.0, record { left = m.1; rest = d.rest; are = q.on; holds = r.1 }));
    }
