-- The pieces of a token.
use Rattle.std.proofs.Common.{◌≡◌, ℕ, ◌+◌, ◌<◌, ◌≤◌, Bool, true, false, cond, not, List, [], ◌∷◌, ◌++◌, map, length, take, drop, take_all, length-drop}
use Rattle.std.proofs.Common.{inl, inr, All, refl, sym, ap, ap₂, ◌∙◌, arith, subst, append_assoc}
use Rattle.std.specs.List.{filter, slice_split, onto_first, position_or_len, before_first, after_first}
use Rattle.std.specs.Char.{to_ascii_lowercase}
use Rattle.std.proofs.lemmas.Bool.Decides.{nat_tests}
use Rattle.std.proofs.lemmas.Bool.{cases_lt}
use Rattle.std.proofs.lemmas.List.{drop_all, drop_more}
use Rattle.std.proofs.lemmas.List.Elements.{filter-append}
use Rattle.std.proofs.lemmas.List.Splits.{slice_split_first, slice_split_none}
use Rattle.std.proofs.lemmas.List.Sums.{fails_before_first}
use Rattle.eb_text.specs.Pieces.{is_mark, has_byte, pieces}

-- ---- letter by letter

-- a character comes first that is no mark
abbrev pub begins : List ℕ → Bool
begins [] = false
begins (c ∷ cs) = not (is_mark c)

-- the pieces with one more character before them, where a piece begins right after it or not
abbrev pub step : Bool → ℕ → Bool → List (List ℕ) → List (List ℕ)
step m c b ps = cond m ps (cond b (onto_first c ps) ((c ∷ []) ∷ ps))

twice : (c d : ℕ) (ps : List (List ℕ)) → filter has_byte (onto_first c (onto_first d ps)) ≡ onto_first c (filter has_byte (onto_first d ps))
twice c d [] = refl
twice c d (p ∷ ps) = refl

behind : (m : Bool) (c d : ℕ) (ps : List (List ℕ))
    → filter has_byte (onto_first c (cond m ([] ∷ ps) (onto_first d ps)))
    ≡ cond (not m) (onto_first c (filter has_byte (cond m ([] ∷ ps) (onto_first d ps)))) ((c ∷ []) ∷ filter has_byte (cond m ([] ∷ ps) (onto_first d ps)))
behind true c d ps = refl
behind false c d ps = twice c d ps

before : (c : ℕ) (cs : List ℕ) → filter has_byte (onto_first c (slice_split is_mark cs)) ≡ cond (begins cs) (onto_first c (pieces cs)) ((c ∷ []) ∷ pieces cs)
before c [] = refl
before c (d ∷ ds) = behind (is_mark d) c d (slice_split is_mark ds)

chosen : (m : Bool) (c : ℕ) (cs : List ℕ) → filter has_byte (cond m ([] ∷ slice_split is_mark cs) (onto_first c (slice_split is_mark cs))) ≡ step m c (begins cs) (pieces cs)
chosen true c cs = refl
chosen false c cs = before c cs

pub pieces-cons : (c : ℕ) (cs : List ℕ) → pieces (c ∷ cs) ≡ step (is_mark c) c (begins cs) (pieces cs)
pieces-cons c cs = chosen (is_mark c) c cs

-- ---- part by part

-- up to a mark, and after it
pub pieces_first : (text : List ℕ) → position_or_len is_mark text < length text
    → pieces text ≡ filter has_byte (before_first is_mark text ∷ []) ++ pieces (after_first is_mark text)
pieces_first text h =
    ap (filter has_byte) (slice_split_first is_mark text 0 h)
    ∙ filter-append has_byte (before_first is_mark text ∷ []) (slice_split is_mark (after_first is_mark text))

-- one more piece
pub pieces_more : (terms more : List (List ℕ)) (text front behind : List ℕ) (at y : ℕ) (ys : List ℕ) → at ≡ position_or_len is_mark text → front ≡ take at text → behind ≡ drop at text
    → behind ≡ y ∷ ys → more ≡ terms ++ filter has_byte (front ∷ []) → more ++ pieces ys ≡ terms ++ pieces text
pieces_more terms more text front behind at y ys e f b parts k = elim (cases_lt at (length text)) [ inl lt ↦ go lt | inr le ↦ none le ]
  where
    none : length text ≤ at → more ++ pieces ys ≡ terms ++ pieces text
    none le = let z : y ∷ ys ≡ [] = sym parts ∙ b ∙ drop_all at text le in cc

    go : at < length text → more ++ pieces ys ≡ terms ++ pieces text
    go lt =
        let z = sym parts ∙ b ∙ drop_more text at 0 lt in
        let more_is : ys ≡ drop (at + 1) text = cc in
        ap₂ (λ ts t. ts ++ pieces t) (k ∙ ap (λ t. terms ++ filter has_byte (t ∷ [])) f) more_is
        ∙ append_assoc terms (filter has_byte (take at text ∷ [])) (pieces (drop (at + 1) text))
        ∙ ap (λ ps. terms ++ ps)
        (ap (λ n. filter has_byte (take n text ∷ []) ++ pieces (drop (n + 1) text)) e ∙ sym (pieces_first text (subst (λ n. n < length text) e lt)))

-- where there is no mark
pub pieces_none : (text : List ℕ) → All (λ b. is_mark b ≡ false) text → pieces text ≡ filter has_byte (text ∷ [])
pieces_none text h = ap (filter has_byte) (slice_split_none is_mark text h)

pub pieces_last : (text : List ℕ) → position_or_len is_mark text ≡ length text → pieces text ≡ filter has_byte (text ∷ [])
pieces_last text e = pieces_none text (λ k d h. fails_before_first is_mark text k d (omega arith))

-- ---- small letters

pub lower_mark : (c : ℕ) → is_mark (to_ascii_lowercase c) ≡ is_mark c
lower_mark c = grind (arith, nat_tests)

abbrev lower : List ℕ → List ℕ
lower = map to_ascii_lowercase

lower_begins : (cs : List ℕ) → begins (lower cs) ≡ begins cs
lower_begins [] = refl
lower_begins (c ∷ cs) = ap not (lower_mark c)

lower_onto : (c : ℕ) (ps : List (List ℕ)) → onto_first (to_ascii_lowercase c) (map lower ps) ≡ map lower (onto_first c ps)
lower_onto c [] = refl
lower_onto c (p ∷ ps) = refl

lower_step : (m : Bool) (c : ℕ) (b : Bool) (ps : List (List ℕ)) → step m (to_ascii_lowercase c) b (map lower ps) ≡ map lower (step m c b ps)
lower_step true c b ps = refl
lower_step false c true ps = lower_onto c ps
lower_step false c false ps = refl

pub pieces_lower : (cs : List ℕ) → pieces (map to_ascii_lowercase cs) ≡ map (map to_ascii_lowercase) (pieces cs)
pieces_lower [] = refl
pieces_lower (c ∷ cs) =
    pieces-cons (to_ascii_lowercase c) (lower cs)
    ∙ ap₂ (λ m b. step m (to_ascii_lowercase c) b (pieces (lower cs))) (lower_mark c) (lower_begins cs)
    ∙ ap (step (is_mark c) (to_ascii_lowercase c) (begins cs)) (pieces_lower cs)
    ∙ lower_step (is_mark c) c (begins cs) (pieces cs)
    ∙ ap (map lower) (sym (pieces-cons c cs))

-- the last piece
pub pieces_end : (terms more : List (List ℕ)) (text front behind : List ℕ) (at : ℕ) → at ≡ position_or_len is_mark text → at ≤ length text → front ≡ take at text → behind ≡ drop at text
    → length behind ≡ 0 → more ≡ terms ++ filter has_byte (front ∷ []) → more ≡ terms ++ pieces text
pieces_end terms more text front behind at e within f b none k =
    let gone = ap length b in
    let long : length text ≤ at = omega (arith, length-drop at text) in
    let all : position_or_len is_mark text ≡ length text = omega arith in
    k ∙ ap (λ t. terms ++ filter has_byte (t ∷ [])) (f ∙ take_all at text long) ∙ ap (λ ps. terms ++ ps) (sym (pieces_last text all))

filled : (t : List ℕ) → 0 < length t → filter has_byte (t ∷ []) ≡ t ∷ []
filled [] some = absurd (omega arith)
filled (c ∷ cs) some = refl

-- where there is no mark, and there is a byte
pub pieces_whole : (t : List ℕ) → 0 < length t → position_or_len is_mark t ≡ length t → pieces t ≡ t ∷ []
pieces_whole t some e = pieces_last t e ∙ filled t some
