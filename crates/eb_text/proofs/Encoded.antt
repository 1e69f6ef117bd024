-- Tokens are encoded characters.
use Rattle.std.proofs.Common.{◌≡◌, ℕ, zero, suc, ◌<◌, ◌&&◌, Bool, true, false, cond, List, [], ◌∷◌, ◌++◌, map, length, slice_index_or, chars, encode_utf8_all, IsUtf8, refl, ap, ap₂, subst, ◌∙◌, arith}
use Rattle.std.proofs.Math.Utf8.{scalar, scalars}
use Rattle.std.specs.List.{list_all, filter, Contains}
use Rattle.std.proofs.lemmas.Bool.{and_parts}
use Rattle.std.proofs.lemmas.Str.{scalars-chars}
use Rattle.ucd_table.proofs.RangedFacts.{values_ok, Stepped-at_values}
use Rattle.ucd_table.proofs.Computing.{tables}
use Rattle.ucd_case.specs.CaseFolding.{full_folding, or_itself, full_fold}
use Rattle.ucd_case.proofs.CaseFoldingLemmas.{full_folding_stepped}
use Rattle.caseless.specs.Caseless.{default_case_fold}
use Rattle.caseless.proofs.CaselessLemmas.{default_case_fold-cons, default_case_fold-nil}
use Rattle.unicode_segmentation.specs.Segments.{Rule, cut, prepend, segments, has_alphanumeric}
use Rattle.unicode_segmentation.specs.Word.{words, is_word_break}
use Rattle.std.proofs.Common.{◌+◌, ◌≤◌, slice_index, take, drop, inl, inr, sym, length-drop}
use Rattle.std.specs.List.{flat_map, position_or_len}
use Rattle.std.proofs.lemmas.Bool.{cases_lt}
use Rattle.std.proofs.lemmas.Bool.Decides.{nat_tests}
use Rattle.std.proofs.lemmas.List.Sums.{passes_at_first, prefix_len-le-length}
use Rattle.std.proofs.lemmas.Str.{IsUtf8-take, IsUtf8-drop, IsCharBoundary-before_ascii, IsCharBoundary-after_ascii}
use Rattle.eb_text.specs.Tokens.{folded, tokens_of}
use Rattle.eb_text.specs.Pieces.{is_mark, has_byte, pieces, in_cut, tokens_by}
use Rattle.eb_text.specs.declared.cutting.Cut.{Cut}
use Rattle.eb_text.specs.declared.cutting.Cut.TheVariants.{Words, Pieces}
use Rattle.eb_text.proofs.InPieces.{pieces_first, pieces_last}

both : (a b : Bool) → a ≡ true → b ≡ true → (a && b) ≡ true
both a b p q = ap₂ ◌&&◌ p q

scalars-append : (xs ys : List ℕ) → scalars xs ≡ true → scalars ys ≡ true → scalars (xs ++ ys) ≡ true
scalars-append [] ys h k = k
scalars-append (x ∷ xs) ys h k = let p = and_parts (scalar x) (scalars xs) h in both _ _ p.0 (scalars-append xs ys p.1 k)

-- folding gives characters
table_scalars : (c : ℕ) → scalars (full_folding c) ≡ true
unfolding tables values_ok full_folding_stepped
table_scalars c = Stepped-at_values full_folding full_folding_stepped scalars refl c

one_scalar : (c : ℕ) (table : List ℕ) → scalar c ≡ true → scalars table ≡ true → scalars (or_itself c table) ≡ true
one_scalar c [] h k = both _ _ h refl
one_scalar c (x ∷ xs) h k = k

fold_scalars : (cs : List ℕ) → scalars cs ≡ true → scalars (default_case_fold cs) ≡ true
fold_scalars [] h = ap scalars default_case_fold-nil
fold_scalars (c ∷ cs) h =
    let p = and_parts (scalar c) (scalars cs) h in
    ap scalars (default_case_fold-cons c cs) ∙ scalars-append (full_fold c) _ (one_scalar c (full_folding c) p.0 (table_scalars c)) (fold_scalars cs p.1)

-- pieces of characters are characters
prepend_scalars : (c : ℕ) (ps : List (List ℕ)) → scalar c ≡ true → list_all scalars ps ≡ true → list_all scalars (prepend (c ∷ []) ps) ≡ true
prepend_scalars c [] h k = both _ _ (both _ _ h refl) refl
prepend_scalars c (p ∷ ps) h k = let q = and_parts (scalars p) (list_all scalars ps) k in both _ _ (both _ _ h q.0) q.1

joined_scalars : (b : Bool) (c : ℕ) (ps : List (List ℕ)) → scalar c ≡ true → list_all scalars ps ≡ true
    → list_all scalars (cond b ((c ∷ []) ∷ ps) (prepend (c ∷ []) ps)) ≡ true
joined_scalars true c ps h k = both _ _ (both _ _ h refl) k
joined_scalars false c ps h k = prepend_scalars c ps h k

cut_scalars : (rule : Rule) (before cs after : List ℕ) → scalars cs ≡ true → list_all scalars (cut rule before cs after) ≡ true
unfolding cut
cut_scalars rule before [] after h = refl
cut_scalars rule before (c ∷ cs) after h =
    let p = and_parts (scalar c) (scalars cs) h in
    joined_scalars (rule (c ∷ before) (cs ++ after)) c _ p.0 (cut_scalars rule (c ∷ before) cs after p.1)

-- each of these texts is encoded characters
abbrev AreUtf8 : List (List ℕ) → Type 0
AreUtf8 [] = Unit {0}
AreUtf8 (t ∷ ts) = IsUtf8 t × AreUtf8 ts

encoded : (ps : List (List ℕ)) → list_all scalars ps ≡ true → AreUtf8 (map encode_utf8_all ps)
encoded [] h = tt
encoded (p ∷ ps) h = let q = and_parts (scalars p) (list_all scalars ps) h in ((p, (q.0, refl)), encoded ps q.1)

chosen : (b : Bool) (t : List ℕ) (ts : List (List ℕ)) → IsUtf8 t → AreUtf8 ts → AreUtf8 (cond b (t ∷ ts) ts)
chosen true t ts h k = (h, k)
chosen false t ts h k = k

kept : (test : List ℕ → Bool) (ts : List (List ℕ)) → AreUtf8 ts → AreUtf8 (filter test ts)
kept test [] h = tt
kept test (t ∷ ts) h = chosen (test t) t _ h.0 (kept test ts h.1)

all_folded : (ts : List (List ℕ)) → AreUtf8 ts → AreUtf8 (map folded ts)
all_folded [] h = tt
all_folded (t ∷ ts) h = ((default_case_fold (chars t), (fold_scalars (chars t) (scalars-chars t h.0), refl)), all_folded ts h.1)

tokens_utf8 : (text : List ℕ) → IsUtf8 text → AreUtf8 (tokens_of text)
unfolding segments
tokens_utf8 text u = all_folded (words text) (kept has_alphanumeric _ (encoded _ (cut_scalars is_word_break [] (chars text) [] (scalars-chars text u))))

among : (ts : List (List ℕ)) (t : List ℕ) → AreUtf8 ts → (k : ℕ) → k < length ts → slice_index_or ts k t ≡ t → IsUtf8 t
among [] t h k lt e = absurd (omega arith)
among (s ∷ ts) t h zero lt e = subst IsUtf8 e h.0
among (s ∷ ts) t h (suc k) lt e = among ts t h.1 k (omega arith) e

-- each token of a text is a text
pub token_utf8 : (text token : List ℕ) → IsUtf8 text → Contains (tokens_of text) token → IsUtf8 token
token_utf8 text token u c = among (tokens_of text) token (tokens_utf8 text u) c.0 c.1 c.2

-- ---- in pieces

append_utf8 : (xs ys : List (List ℕ)) → AreUtf8 xs → AreUtf8 ys → AreUtf8 (xs ++ ys)
append_utf8 [] ys h k = k
append_utf8 (x ∷ xs) ys h k = (h.0, append_utf8 xs ys h.1 k)

-- up to an ASCII character, and after it
module _ (text : List ℕ) (u : IsUtf8 text) (at : ℕ) (lt : at < length text) (low : slice_index text at < 128) where
  front_utf8 : IsUtf8 (take at text)
  front_utf8 = IsUtf8-take text at u (IsCharBoundary-before_ascii text at lt low)

  back_utf8 : IsUtf8 (drop (at + 1) text)
  back_utf8 = IsUtf8-drop text (at + 1) u (IsCharBoundary-after_ascii text at u lt low)

mark_low : (b : ℕ) → is_mark b ≡ true → b < 128
mark_low b h = grind (arith, nat_tests)

pieces_utf8 : (n : ℕ) (text : List ℕ) → length text ≤ n → IsUtf8 text → AreUtf8 (pieces text)
pieces_utf8 zero [] le u = tt
pieces_utf8 zero (c ∷ cs) le u = absurd (omega arith)
pieces_utf8 (suc n) text le u = elim (cases_lt (position_or_len is_mark text) (length text)) [ inl lt ↦ go lt (pieces_utf8 n) | inr end ↦ last end ]
  where
    last : length text ≤ position_or_len is_mark text → AreUtf8 (pieces text)
    last end =
        let whole : position_or_len is_mark text ≡ length text = omega (arith, prefix_len-le-length) in
        subst AreUtf8 (sym (pieces_last text whole)) (kept has_byte (text ∷ []) (u, tt))

    go : position_or_len is_mark text < length text → ((t : List ℕ) → length t ≤ n → IsUtf8 t → AreUtf8 (pieces t)) → AreUtf8 (pieces text)
    go lt more =
        let at = position_or_len is_mark text in
        let low = mark_low (slice_index text at) (passes_at_first is_mark text 0 lt) in
        let short : length (drop (at + 1) text) ≤ n = omega (arith, length-drop (at + 1) text) in
        subst AreUtf8 (sym (pieces_first text lt))
        (append_utf8 _ _ (kept has_byte (take at text ∷ []) (front_utf8 text u at lt low, tt)) (more (drop (at + 1) text) short (back_utf8 text u at lt low)))

all_pieces_utf8 : (ts : List (List ℕ)) → AreUtf8 ts → AreUtf8 (flat_map pieces ts)
all_pieces_utf8 [] h = tt
all_pieces_utf8 (t ∷ ts) h = append_utf8 (pieces t) (flat_map pieces ts) (pieces_utf8 (length t) t (omega arith) h.0) (all_pieces_utf8 ts h.1)

by_cut : (w : Cut) (ts : List (List ℕ)) → AreUtf8 ts → AreUtf8 (in_cut w ts)
by_cut Words ts h = h
by_cut Pieces ts h = all_pieces_utf8 ts h

-- each token of a text is a text, however it is cut
pub token_by_utf8 : (w : Cut) (text token : List ℕ) → IsUtf8 text → Contains (tokens_by w text) token → IsUtf8 token
token_by_utf8 w text token u c = among (tokens_by w text) token (by_cut w (tokens_of text) (tokens_utf8 text u)) c.0 c.1 c.2
