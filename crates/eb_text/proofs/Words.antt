-- The words of a text, part by part.
use Rattle.std.proofs.Common.{◌≡◌, ◌≢◌, ℕ, zero, suc, ◌+◌, ◌-◌, ◌<◌, ◌≤◌, true, false, cond, ◌||◌, List, [], ◌∷◌, ◌++◌, map, length, take, drop, slice_index, slice_range}
use Rattle.std.proofs.Common.{IsAscii, IsUtf8, IsCharBoundary, All, chars, encode_utf8_all, refl, sym, ap, ap₂, ◌∙◌, subst, arith, append_assoc, append-nil, take_all, suc-le-suc, zero-le}
use Rattle.std.specs.List.{filter, list_any}
use Rattle.std.proofs.lemmas.Bool.Decides.{nat_tests}
use Rattle.std.proofs.lemmas.List.{drop_all, drop_more, take_more, take-append-drop, map-append}
use Rattle.std.proofs.lemmas.List.Elements.{filter-append, All-nil, All-cons}
use Rattle.std.proofs.lemmas.Str.{chars-nil, chars-append, chars-IsAscii, chars_past_char, encodes-IsAscii, encode_ascii}
use Rattle.std.proofs.lemmas.Str.{IsUtf8-take, IsUtf8-drop, IsCharBoundary-before_ascii, IsCharBoundary-after_ascii}
use Rattle.std.proofs.lemmas.Str.Ascii.{IsAscii-from_all}
use Rattle.ucd_breaks.specs.WordBreak.{word_break}
use Rattle.unicode_segmentation.specs.Segments.{cut, segments, is_alphanumeric, has_alphanumeric}
use Rattle.unicode_segmentation.specs.Word.{words, is_word_break}
use Rattle.unicode_segmentation.proofs.AsciiLemmas.{is_alphanumeric_ascii}
use Rattle.unicode_segmentation.proofs.Computing.{unicode_segmentation}
use Rattle.eb_text.specs.Parting.{IsAlphanumeric, IsParting}
use Rattle.eb_text.proofs.Parting.{is_letter, letter_value, other_value, parted, whole}

-- the words of the characters
abbrev pub words_of : List ℕ → List (List ℕ)
words_of cs = filter has_alphanumeric (map encode_utf8_all (cut is_word_break [] cs []))

pub words_by_chars : (text : List ℕ) → words text ≡ words_of (chars text)
unfolding segments
words_by_chars text = refl

below_128 : (b : ℕ) → IsAlphanumeric b → b < 128
below_128 b h = grind (arith, nat_tests)

space_alone : has_alphanumeric (encode_utf8_all (32 ∷ [])) ≡ false
unfolding unicode_segmentation
space_alone = refl

words_parted : (cs : List ℕ) (l r : ℕ) (ys : List ℕ) → l < 128 → (l ≡ 32 → ⊥) → IsAlphanumeric r
    → words_of (cs ++ l ∷ (32 ∷ (r ∷ ys))) ≡ words_of (cs ++ l ∷ []) ++ words_of (r ∷ ys)
words_parted cs l r ys low other h =
    let front = map encode_utf8_all (cut is_word_break [] (cs ++ l ∷ []) []) in
    let back = map encode_utf8_all (cut is_word_break [] (r ∷ ys) []) in
    ap (λ ps. filter has_alphanumeric (map encode_utf8_all ps)) (parted cs [] l r ys (other_value l low other) (letter_value r (below_128 r h) h))
    ∙ ap (filter has_alphanumeric) (map-append encode_utf8_all (cut is_word_break [] (cs ++ l ∷ []) []) _)
    ∙ filter-append has_alphanumeric front _
    ∙ ap (λ b. filter has_alphanumeric front ++ cond b (encode_utf8_all (32 ∷ []) ∷ filter has_alphanumeric back) (filter has_alphanumeric back)) space_alone

module _ (text : List ℕ) (u : IsUtf8 text) (at : ℕ) (p : IsParting text at) where
  abbrev l : ℕ
  l = slice_index text (at - 1)

  abbrev r : ℕ
  r = slice_index text (at + 1)

  ends : IsCharBoundary text at
  ends = IsCharBoundary-before_ascii text at (omega (arith, p.within.1)) (subst (λ b. b < 128) (sym p.space) (omega arith))

  pub begins : IsCharBoundary text (at + 1)
  begins = IsCharBoundary-after_ascii text at u (omega (arith, p.within.1)) (subst (λ b. b < 128) (sym p.space) (omega arith))

  front_chars : chars (take at text) ≡ chars (take (at - 1) text) ++ l ∷ []
  front_chars =
      let before : IsCharBoundary text (at - 1) = IsCharBoundary-before_ascii text (at - 1) (omega (arith, p.within.0, p.within.1)) p.ascii in
      let one : IsAscii (l ∷ []) = IsAscii-from_all (l ∷ []) (All-cons (λ b. b < 128) l [] p.ascii (All-nil (λ b. b < 128))) in
      let same : at - 1 + 1 ≡ at = omega (arith, p.within.0) in
      ap chars (ap (λ n. take n text) (sym same) ∙ take_more text (at - 1) 0 (omega (arith, p.within.1)))
      ∙ chars-append (take (at - 1) text) (l ∷ []) (IsUtf8-take text (at - 1) u before) ∙ ap (λ cs. chars (take (at - 1) text) ++ cs) (chars-IsAscii (l ∷ []) one)

  back_chars : chars (drop (at + 1) text) ≡ r ∷ chars (drop (at + 1 + 1) text)
  back_chars =
      chars_past_char (drop (at + 1) text) (drop (at + 1 + 1) text) r (IsUtf8-drop text (at + 1) u begins)
      (drop_more text (at + 1) 0 p.within.1 ∙ ap (λ cs. cs ++ drop (at + 1 + 1) text) (sym (encode_ascii r (below_128 r p.behind))))

  all_chars : chars text ≡ chars (take (at - 1) text) ++ l ∷ (32 ∷ (r ∷ chars (drop (at + 1 + 1) text)))
  all_chars =
      let low : 32 < 128 = omega arith in
      let space : chars (drop at text) ≡ 32 ∷ chars (drop (at + 1) text) =
      chars_past_char (drop at text) (drop (at + 1) text) 32 (IsUtf8-drop text at u ends)
      (drop_more text at 0 (omega (arith, p.within.1)) ∙ ap₂ (λ b cs. b ∷ cs) p.space refl ∙ ap (λ cs. cs ++ drop (at + 1) text) (sym (encode_ascii 32 low))) in
      ap chars (sym (take-append-drop at text)) ∙ chars-append (take at text) (drop at text) (IsUtf8-take text at u ends)
      ∙ ap₂ ◌++◌ front_chars (space ∙ ap (λ cs. 32 ∷ cs) back_chars) ∙ append_assoc (chars (take (at - 1) text)) (l ∷ []) _

  -- the words of a text are those before such a space, and those after it
  pub words_at : words text ≡ words (take at text) ++ words (drop (at + 1) text)
  words_at =
      words_by_chars text ∙ ap words_of all_chars
      ∙ words_parted (chars (take (at - 1) text)) l r (chars (drop (at + 1 + 1) text)) p.ascii p.other p.behind
      ∙ ap₂ (λ xs ys. words_of xs ++ words_of ys) (sym front_chars) (sym back_chars)
      ∙ ap₂ ◌++◌ (sym (words_by_chars (take at text))) (sym (words_by_chars (drop (at + 1) text)))

has_letter : (c : ℕ) (cs : List ℕ) → IsAscii (c ∷ cs) → IsAlphanumeric c → has_alphanumeric (c ∷ cs) ≡ true
unfolding has_alphanumeric
has_letter c cs ascii h =
    ap (list_any is_alphanumeric) (chars-IsAscii (c ∷ cs) ascii) ∙ ap (λ b. b || list_any is_alphanumeric cs) (sym (is_alphanumeric_ascii c (below_128 c h)) ∙ h)

words_whole : (text : List ℕ) → 0 < length text → All IsAlphanumeric text → words text ≡ text ∷ []
words_whole [] some all = absurd (omega arith)
words_whole (c ∷ cs) some all =
    let text = c ∷ cs in
    let ascii : IsAscii text = IsAscii-from_all text (λ k d lt. below_128 _ (all k d lt)) in
    let letters : All (λ x. is_letter (word_break x) ≡ true) text = λ k d lt. letter_value _ (below_128 _ (all k d lt)) (all k d lt) in
    words_by_chars text ∙ ap words_of (chars-IsAscii text ascii)
    ∙ ap (λ ps. filter has_alphanumeric (map encode_utf8_all ps)) (whole [] c cs letters)
    ∙ ap (λ t. filter has_alphanumeric (t ∷ [])) (encodes-IsAscii text ascii)
    ∙ ap (λ b. cond b (text ∷ []) []) (has_letter c cs ascii (all zero 0 (suc-le-suc zero-le)))

-- letters and digits of ASCII are one word, where a text has nothing else
pub words_plain : (text : List ℕ) (n : ℕ) → n ≢ 0 → n ≡ length text → All IsAlphanumeric (take n text) → words text ≡ text ∷ []
words_plain text n some whole all =
    let long : length text ≤ n = omega (arith, whole) in
    let more : 0 < length text = omega (arith, some, whole) in
    words_whole text more (subst (All IsAlphanumeric) (take_all n text long) all)

words_of_nothing : words [] ≡ []
unfolding segments cut
words_of_nothing = ap words_of chars-nil

-- and those of a text where no space parts it
pub words_alone : (text : List ℕ) → words text ≡ words (take (length text) text) ++ words (drop (length text + 1) text)
words_alone text =
    sym (append-nil (words text))
    ∙ ap₂ (λ xs ys. words xs ++ ys) (sym (take_all (length text) text (omega arith))) (sym (ap words (drop_all (length text + 1) text (omega arith)) ∙ words_of_nothing))

take_least : (n m : ℕ) (xs : List ℕ) → n ≤ m → take n (take m xs) ≡ take n xs
take_least zero m xs le = refl
take_least (suc n) zero xs le = absurd (omega arith)
take_least (suc n) (suc m) [] le = refl
take_least (suc n) (suc m) (x ∷ xs) le = ap (λ ys. x ∷ ys) (take_least n m xs (omega arith))

-- the prefix of a prefix
pub take_front : (n m : ℕ) (xs : List ℕ) → n ≤ m → take n (slice_range xs 0 m) ≡ take n xs
take_front n m xs le = let same : m - 0 ≡ m = omega arith in ap (λ k. take n (take k xs)) same ∙ take_least n m xs le
