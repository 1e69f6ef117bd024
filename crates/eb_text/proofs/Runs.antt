-- The pieces of a text of ASCII are its runs of letters and digits, whatever words they are in.
use Rattle.std.proofs.Common.{◌≡◌, ℕ, ◌<◌, Bool, true, false, cond, not, ◌||◌, List, [], ◌∷◌, ◌++◌, map, IsAscii, encode_utf8_all, refl, sym, ap, ap₂, ◌∙◌, arith, append-nil}
use Rattle.std.specs.List.{filter, flat_map, list_any, onto_first, AllByRecursion}
use Rattle.std.specs.Char.{is_ascii_alphanumeric, to_ascii_lowercase}
use Rattle.std.proofs.lemmas.Bool.Decides.{nat_tests}
use Rattle.std.proofs.lemmas.List.{map-append}
use Rattle.std.proofs.lemmas.List.Elements.{recursion_from_All, All-from_recursion}
use Rattle.std.proofs.lemmas.Str.{chars-IsAscii, encodes-IsAscii}
use Rattle.std.proofs.lemmas.Str.Ascii.{IsAscii-from_all, All-from_ascii}
use Rattle.unicode_segmentation.specs.Segments.{cut, prepend, is_alphanumeric, has_alphanumeric}
use Rattle.unicode_segmentation.specs.Word.{is_word_break}
use Rattle.unicode_segmentation.proofs.AsciiLemmas.{is_alphanumeric_ascii}
use Rattle.eb_text.specs.Parting.{IsAlphanumeric}
use Rattle.eb_text.specs.Tokens.{folded}
use Rattle.eb_text.specs.Pieces.{is_mark, pieces, tokens_by}
use Rattle.eb_text.specs.declared.cutting.Cut.TheVariants.{Pieces}
use Rattle.eb_text.proofs.Folding.{folded_ascii}
use Rattle.eb_text.proofs.Parting.{letter_value, rule_letters}
use Rattle.eb_text.proofs.Words.{words_of, words_by_chars}
use Rattle.eb_text.proofs.InPieces.{begins, step, pieces-cons, pieces_lower}

abbrev IsLow : ℕ → Type 0
IsLow c = c < 128

abbrev all_pieces : List (List ℕ) → List (List ℕ)
all_pieces = flat_map pieces

-- ---- where words are cut, there is a mark

no_mark : (c : ℕ) → c < 128 → is_mark c ≡ false → IsAlphanumeric c
no_mark c low h = grind (arith, nat_tests)

rule_kept : (c : ℕ) (before : List ℕ) (d : ℕ) (after : List ℕ) → c < 128 → d < 128 → is_word_break (c ∷ before) (d ∷ after) ≡ true → is_mark c ≡ false → not (is_mark d) ≡ false
rule_kept c before d after low lower h k = go (is_mark d) refl
  where
    go : (b : Bool) → is_mark d ≡ b → not b ≡ false
    go true e = refl
    go false e =
        let z = rule_letters c before d after (letter_value c low (no_mark c low k)) (letter_value d lower (no_mark d lower e)) in
        let w : true ≡ false = sym h ∙ z in cc

-- ---- the pieces of what is cut

abbrev begins_first : List (List ℕ) → Bool
begins_first [] = false
begins_first (p ∷ ps) = begins p

abbrev attached : Bool → ℕ → List (List ℕ) → List (List ℕ)
attached b c ps = cond b ((c ∷ []) ∷ ps) (prepend (c ∷ []) ps)

attached_begins : (b : Bool) (c : ℕ) (ps : List (List ℕ)) → begins_first (attached b c ps) ≡ not (is_mark c)
attached_begins true c ps = refl
attached_begins false c [] = refl
attached_begins false c (p ∷ ps) = refl

cut_begins : (before cs : List ℕ) → begins_first (cut is_word_break before cs []) ≡ begins cs
unfolding cut
cut_begins before [] = refl
cut_begins before (c ∷ cs) = attached_begins _ c _

-- a piece begins where a character that is no mark comes first
some_step : (m : Bool) (c : ℕ) (b : Bool) (ps : List (List ℕ)) → not m ≡ true → step m c b ps ≡ [] → ⊥
some_step true c b ps h e = cc
some_step false c true [] h e = cc
some_step false c true (p ∷ ps) h e = cc
some_step false c false ps h e = cc

some_piece : (cs : List ℕ) → begins cs ≡ true → pieces cs ≡ [] → ⊥
some_piece [] h e = cc
some_piece (c ∷ cs) h e = some_step (is_mark c) c (begins cs) (pieces cs) h (sym (pieces-cons c cs) ∙ e)

onto_append : (c : ℕ) (xs ys : List (List ℕ)) → (xs ≡ [] → ⊥) → onto_first c xs ++ ys ≡ onto_first c (xs ++ ys)
onto_append c [] ys some = absurd (some refl)
onto_append c (x ∷ xs) ys some = refl

step_append : (m : Bool) (c : ℕ) (b : Bool) (xs ys : List (List ℕ)) → (b ≡ true → xs ≡ [] → ⊥) → step m c b xs ++ ys ≡ step m c b (xs ++ ys)
step_append true c b xs ys some = refl
step_append false c true xs ys some = onto_append c xs ys (some refl)
step_append false c false xs ys some = refl

apart : (m : Bool) (c : ℕ) (b : Bool) (ps : List (List ℕ)) → (m ≡ false → b ≡ false) → step m c false [] ++ ps ≡ step m c b ps
apart true c b ps h = refl
apart false c true ps h = let e = h refl in cc
apart false c false ps h = refl

joined : (b : Bool) (c : ℕ) (ps : List (List ℕ)) (cs : List ℕ) → begins_first ps ≡ begins cs → all_pieces ps ≡ pieces cs
    → (b ≡ true → is_mark c ≡ false → begins cs ≡ false) → all_pieces (attached b c ps) ≡ pieces (c ∷ cs)
joined true c ps cs first all marks =
    ap₂ ◌++◌ (pieces-cons c []) all ∙ apart (is_mark c) c (begins cs) (pieces cs) (marks refl) ∙ sym (pieces-cons c cs)
joined false c [] cs first all marks =
    append-nil (pieces (c ∷ [])) ∙ pieces-cons c [] ∙ ap₂ (step (is_mark c) c) first all ∙ sym (pieces-cons c cs)
joined false c (p ∷ ps) cs first all marks =
    ap (λ qs. qs ++ all_pieces ps) (pieces-cons c p)
    ∙ step_append (is_mark c) c (begins p) (pieces p) (all_pieces ps) (some_piece p)
    ∙ ap₂ (step (is_mark c) c) first all ∙ sym (pieces-cons c cs)

marks_between : (c : ℕ) (before cs : List ℕ) → c < 128 → AllByRecursion IsLow cs → is_word_break (c ∷ before) (cs ++ []) ≡ true → is_mark c ≡ false → begins cs ≡ false
marks_between c before [] low all h k = refl
marks_between c before (d ∷ ds) low all h k = rule_kept c before d (ds ++ []) low all.0 h k

pub cut_pieces : (before cs : List ℕ) → AllByRecursion IsLow cs → all_pieces (cut is_word_break before cs []) ≡ pieces cs
unfolding cut
cut_pieces before [] all = refl
cut_pieces before (c ∷ cs) all =
    joined _ c _ cs (cut_begins (c ∷ before) cs) (cut_pieces (c ∷ before) cs all.1) (marks_between c before cs all.0 all.1)

-- ---- the words of what is cut

-- all of these are ASCII
abbrev AreLow : List (List ℕ) → Type 0
AreLow = AllByRecursion (AllByRecursion IsLow)

attached_low : (b : Bool) (c : ℕ) (ps : List (List ℕ)) → c < 128 → AreLow ps → AreLow (attached b c ps)
attached_low true c ps low all = ((low, tt), all)
attached_low false c [] low all = ((low, tt), tt)
attached_low false c (p ∷ ps) low all = ((low, all.0), all.1)

cut_low : (before cs : List ℕ) → AllByRecursion IsLow cs → AreLow (cut is_word_break before cs [])
unfolding cut
cut_low before [] all = tt
cut_low before (c ∷ cs) all = attached_low _ c _ all.0 (cut_low (c ∷ before) cs all.1)

ascii_from : (cs : List ℕ) → AllByRecursion IsLow cs → IsAscii cs
ascii_from cs all = IsAscii-from_all cs (All-from_recursion IsLow cs all)

a_mark : (c : ℕ) → c < 128 → is_ascii_alphanumeric c ≡ false → is_mark c ≡ true
a_mark c low h = grind (arith, nat_tests)

no_letter : (cs : List ℕ) → AllByRecursion IsLow cs → list_any is_alphanumeric cs ≡ false → pieces cs ≡ []
no_letter [] all h = refl
no_letter (c ∷ cs) all h = go (is_alphanumeric c) refl h (no_letter cs all.1)
  where
    go : (b : Bool) → is_alphanumeric c ≡ b → (b || list_any is_alphanumeric cs) ≡ false → (list_any is_alphanumeric cs ≡ false → pieces cs ≡ []) → pieces (c ∷ cs) ≡ []
    go true e k more = cc
    go false e k more =
        pieces-cons c cs
        ∙ ap (λ m. step m c (begins cs) (pieces cs)) (a_mark c all.0 (is_alphanumeric_ascii c all.0 ∙ e))
        ∙ more k

abbrev lower : List ℕ → List ℕ
lower = map to_ascii_lowercase

kept : (b : Bool) (p : List ℕ) (ws : List (List ℕ)) (rest : List (List ℕ)) → AllByRecursion IsLow p → has_alphanumeric p ≡ b
    → all_pieces (map folded ws) ≡ map lower rest → all_pieces (map folded (cond b (p ∷ ws) ws)) ≡ map lower (pieces p ++ rest)
unfolding has_alphanumeric
kept true p ws rest low e h =
    ap₂ ◌++◌ (ap pieces (folded_ascii p (ascii_from p low)) ∙ pieces_lower p) h ∙ sym (map-append lower (pieces p) rest)
kept false p ws rest low e h =
    h ∙ ap (λ qs. map lower (qs ++ rest)) (sym (no_letter p low (ap (list_any is_alphanumeric) (sym (chars-IsAscii p (ascii_from p low))) ∙ e)))

kept_all : (ps : List (List ℕ)) → AreLow ps → all_pieces (map folded (filter has_alphanumeric (map encode_utf8_all ps))) ≡ map lower (all_pieces ps)
kept_all [] low = refl
kept_all (p ∷ ps) low =
    ap (λ q. all_pieces (map folded (cond (has_alphanumeric q) (q ∷ filter has_alphanumeric (map encode_utf8_all ps)) (filter has_alphanumeric (map encode_utf8_all ps)))))
    (encodes-IsAscii p (ascii_from p low.0))
    ∙ kept (has_alphanumeric p) p _ _ low.0 refl (kept_all ps low.1)

-- the pieces of a text of ASCII
pub runs : (text : List ℕ) → IsAscii text → tokens_by Pieces text ≡ pieces (folded text)
runs text ascii =
    let low = recursion_from_All IsLow text (All-from_ascii text ascii) in
    ap (λ ws. all_pieces (map folded ws)) (words_by_chars text ∙ ap words_of (chars-IsAscii text ascii))
    ∙ kept_all (cut is_word_break [] text []) (cut_low [] text low)
    ∙ ap (map lower) (cut_pieces [] text low)
    ∙ sym (pieces_lower text) ∙ ap pieces (sym (folded_ascii text ascii))
