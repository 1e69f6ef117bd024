-- Tokens, each whole or in pieces.
use Rattle.std.proofs.Common.{◌≡◌, ◌≢◌, ℕ, ◌+◌, ◌-◌, ◌<◌, ◌≤◌, false, List, [], ◌∷◌, ◌++◌, map, length, take, drop, get_or, slice_range, ap₂, append_assoc, All, refl, sym, ap, ◌∙◌, arith}
use Rattle.std.proofs.Common.{append-nil, subst, take_all}
use Rattle.std.specs.List.{filter, flat_map}
use Rattle.std.specs.Char.{to_ascii_lowercase}
use Rattle.std.proofs.lemmas.Bool.Decides.{nat_tests}
use Rattle.std.proofs.lemmas.Grind.{flat_map-append}
use Rattle.std.proofs.lemmas.List.{map-append}
use Rattle.std.proofs.lemmas.Str.Ascii.{IsAscii-from_all}
use Rattle.unicode_segmentation.specs.Word.{words}
use Rattle.eb_text.specs.Parting.{IsAlphanumeric}
use Rattle.eb_text.specs.Tokens.{folded, tokens_of}
use Rattle.eb_text.specs.Pieces.{is_mark, has_byte, pieces, in_cut, tokens_by}
use Rattle.eb_text.specs.declared.cutting.Cut.{Cut}
use Rattle.eb_text.specs.declared.cutting.Cut.TheVariants.{Words, Pieces}
use Rattle.eb_text.proofs.Folding.{folded_ascii}
use Rattle.eb_text.proofs.Words.{words_plain}
use Rattle.eb_text.proofs.InPieces.{pieces_none, pieces_lower}

in_cut_append : (w : Cut) (xs ys : List (List ℕ)) → in_cut w (xs ++ ys) ≡ in_cut w xs ++ in_cut w ys
in_cut_append Words xs ys = refl
in_cut_append Pieces xs ys = flat_map-append pieces xs ys

-- the tokens of a text whose words are those of two
pub tokens_parted : (w : Cut) (text a b : List ℕ) → words text ≡ words a ++ words b → tokens_by w text ≡ tokens_by w a ++ tokens_by w b
tokens_parted w text a b e =
    ap (λ ws. in_cut w (map folded ws)) e
    ∙ ap (in_cut w) (map-append folded (words a) (words b)) ∙ in_cut_append w (tokens_of a) (tokens_of b)

low : (b : ℕ) → IsAlphanumeric b → b < 128
low b h = grind (arith, nat_tests)

unmarked : (b : ℕ) → IsAlphanumeric b → is_mark b ≡ false
unmarked b h = grind (arith, nat_tests)

kept : (text : List ℕ) → 0 < length text → filter has_byte (text ∷ []) ≡ text ∷ []
kept [] some = absurd (omega arith)
kept (c ∷ cs) some = refl

one_piece : (text : List ℕ) → 0 < length text → All IsAlphanumeric text → pieces (folded text) ≡ folded text ∷ []
one_piece text some all =
    let e = folded_ascii text (IsAscii-from_all text (λ k d lt. low (get_or text k d) (all k d lt))) in
    ap pieces e ∙ pieces_lower text
    ∙ ap (map (map to_ascii_lowercase)) (pieces_none text (λ k d lt. unmarked (get_or text k d) (all k d lt)) ∙ kept text some)
    ∙ ap (λ t. t ∷ []) (sym e)

by_word : (w : Cut) (text : List ℕ) → words text ≡ text ∷ [] → pieces (folded text) ≡ folded text ∷ [] → tokens_by w text ≡ folded text ∷ []
by_word Words text e one = ap (map folded) e
by_word Pieces text e one = ap (λ ws. flat_map pieces (map folded ws)) e ∙ append-nil (pieces (folded text)) ∙ one

-- letters and digits of ASCII are one token, whole or in pieces
pub plain_by : (w : Cut) (text : List ℕ) (n : ℕ) → n ≢ 0 → n ≡ length text → All IsAlphanumeric (take n text) → tokens_by w text ≡ folded text ∷ []
plain_by w text n some whole all =
    let long : length text ≤ n = omega (arith, whole) in
    let more : 0 < length text = omega (arith, some, whole) in
    by_word w text (words_plain text n some whole all) (one_piece text more (subst (All IsAlphanumeric) (take_all n text long) all))

front_is : (text : List ℕ) (k : ℕ) → slice_range text 0 k ≡ take k text
front_is text k = let e : k - 0 ≡ k = omega arith in ap (λ n. take n text) e

-- the tokens so far and those of what is left, where a part was removed
pub told_more : (w : Cut) (terms more : List (List ℕ)) (rest front back : List ℕ) (end : ℕ) → front ≡ slice_range rest 0 end → back ≡ drop (end + 1) rest
    → words rest ≡ words (take end rest) ++ words (drop (end + 1) rest) → more ≡ terms ++ tokens_by w front
    → more ++ tokens_by w back ≡ terms ++ tokens_by w rest
told_more w terms more rest front back end f b parts e =
    ap₂ (λ ts t. ts ++ tokens_by w t) (e ∙ ap (λ t. terms ++ tokens_by w t) (f ∙ front_is rest end)) b
    ∙ append_assoc terms (tokens_by w (take end rest)) (tokens_by w (drop (end + 1) rest))
    ∙ ap (λ ts. terms ++ ts) (sym (tokens_parted w rest (take end rest) (drop (end + 1) rest) parts))

-- of one token
pub one_token : (t : List ℕ) → in_cut Pieces (t ∷ []) ≡ pieces t
one_token t = append-nil (pieces t)

-- and of one more
pub one_more : (w : Cut) (t : List ℕ) (ts : List (List ℕ)) → in_cut w (t ∷ ts) ≡ in_cut w (t ∷ []) ++ in_cut w ts
one_more w t ts = in_cut_append w (t ∷ []) ts

-- the tokens so far and those of the words that are left, where one more word was put
pub told_word : (w : Cut) (terms more : List (List ℕ)) (t : List ℕ) (ts : List (List ℕ)) → more ≡ terms ++ in_cut w (t ∷ []) → more ++ in_cut w ts ≡ terms ++ in_cut w (t ∷ ts)
told_word w terms more t ts e =
    ap (λ z. z ++ in_cut w ts) e ∙ append_assoc terms (in_cut w (t ∷ [])) (in_cut w ts) ∙ ap (λ z. terms ++ z) (sym (one_more w t ts))
