-- Words that are their own folding.
use Rattle.std.proofs.Common.{◌≡◌, ℕ, zero, suc, ◌<◌, List, [], ◌∷◌, ◌++◌, map, All, IsAscii, IsUtf8, chars, encode_utf8_all, refl, ap, ap₂, ◌∙◌, arith, suc-le-suc, zero-le}
use Rattle.std.specs.Char.{to_ascii_lowercase}
use Rattle.std.proofs.lemmas.Bool.Decides.{nat_tests}
use Rattle.std.proofs.lemmas.Str.{chars-IsAscii, encode_ascii, encodes-chars}
use Rattle.std.proofs.lemmas.Str.Ascii.{IsAscii-from_all, All-from_ascii, lowercase_ascii}
use Rattle.caseless.specs.Caseless.{default_case_fold}
use Rattle.ucd_case.specs.CaseFolding.{full_fold}
use Rattle.ucd_case.proofs.CaseFoldingLemmas.{full_fold-ascii}
use Rattle.std.specs.Int.{IsOutOfRange}
use Rattle.caseless.proofs.CaselessLemmas.{default_case_fold-ascii, default_case_fold-cons}
use Rattle.eb_text.specs.Tokens.{IsFoldedByte, folded}

pub lower_same : (c : ℕ) → IsFoldedByte c → to_ascii_lowercase c ≡ c
lower_same c h = let b = h.ascii in let d = h.small in grind (arith, nat_tests)

all_lower : (w : List ℕ) → All IsFoldedByte w → map to_ascii_lowercase w ≡ w
all_lower [] all = refl
all_lower (c ∷ cs) all = ap₂ ◌∷◌ (lower_same c (all zero 0 (suc-le-suc zero-le))) (all_lower cs (λ k d lt. all (suc k) d (suc-le-suc lt)))

all_encoded : (w : List ℕ) → All (λ b. b < 128) w → encode_utf8_all w ≡ w
all_encoded [] all = refl
all_encoded (c ∷ cs) all = ap₂ ◌++◌ (encode_ascii c (all zero 0 (suc-le-suc zero-le))) (all_encoded cs (λ k d lt. all (suc k) d (suc-le-suc lt)))

-- a word of ASCII without a capital letter
pub folded_same : (w : List ℕ) → All IsFoldedByte w → folded w ≡ w
folded_same w all =
    let low : All (λ b. b < 128) w = λ k d lt. (all k d lt).ascii in
    let cs : chars w ≡ w = chars-IsAscii w (IsAscii-from_all w low) in
    ap (λ z. encode_utf8_all (default_case_fold z)) cs
    ∙ ap encode_utf8_all (default_case_fold-ascii w low ∙ all_lower w all)
    ∙ all_encoded w low

lower_encoded : (w : List ℕ) → All (λ b. b < 128) w → encode_utf8_all (map to_ascii_lowercase w) ≡ map to_ascii_lowercase w
lower_encoded [] all = refl
lower_encoded (c ∷ cs) all =
    ap₂ ◌++◌ (encode_ascii (to_ascii_lowercase c) (lowercase_ascii c (all zero 0 (suc-le-suc zero-le)))) (lower_encoded cs (λ k d lt. all (suc k) d (suc-le-suc lt)))

-- a text of ASCII is folded letter by letter
pub folded_ascii : (w : List ℕ) → IsAscii w → folded w ≡ map to_ascii_lowercase w
folded_ascii w ascii =
    let low = All-from_ascii w ascii in
    ap (λ z. encode_utf8_all (default_case_fold z)) (chars-IsAscii w ascii)
    ∙ ap encode_utf8_all (default_case_fold-ascii w low)
    ∙ lower_encoded w low

-- one more character that folds to itself
pub stays-cons : (c : ℕ) (cs : List ℕ) → full_fold c ≡ c ∷ [] → default_case_fold cs ≡ cs → default_case_fold (c ∷ cs) ≡ c ∷ cs
stays-cons c cs own rest = default_case_fold-cons c cs ∙ ap₂ ◌++◌ own rest

-- a character of ASCII that is no capital letter
pub ascii_stays : (c : ℕ) → c < 128 → IsOutOfRange 65 90 c → full_fold c ≡ c ∷ []
ascii_stays c low out = full_fold-ascii c low ∙ ap (λ z. z ∷ []) (lower_same c record { ascii = low; small = out })

-- a text whose characters fold to themselves
pub folded_from_chars : (w : List ℕ) → IsUtf8 w → default_case_fold (chars w) ≡ chars w → folded w ≡ w
folded_from_chars w u same = ap encode_utf8_all same ∙ encodes-chars w u
