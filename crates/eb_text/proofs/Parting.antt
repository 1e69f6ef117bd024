-- A space between a byte of ASCII and a letter or a digit parts words.
use Rattle.std.proofs.Common.{◌≡◌, ◌≢◌, ℕ, zero, suc, ◌<◌, Bool, true, false, cond, not, ◌&&◌, ◌||◌, ◌==◌, List, [], ◌∷◌, ◌++◌, length}
use Rattle.std.proofs.Common.{None, unwrap_or, IsTrue, All, refl, sym, ap, ap₂, ◌∙◌, arith, append-nil, eqb-true, suc-le-suc, zero-le}
use Rattle.std.specs.Char.{is_ascii_alphanumeric}
use Rattle.std.proofs.lemmas.Bool.{and_parts}
use Rattle.ucd_table.proofs.Facts.{Stepped-below}
use Rattle.ucd_breaks.specs.WordBreak.{word_break}
use Rattle.ucd_breaks.specs.declared.WordBreak.{WordBreak}
use Rattle.ucd_breaks.specs.declared.WordBreak.TheVariants.{ALetter, Numeric, WSegSpace}
use Rattle.ucd_breaks.proofs.Computing.{ucd_breaks}
use Rattle.ucd_breaks.proofs.WordBreakLemmas.{word_break_stepped}
use Rattle.ucd_emoji.specs.Binary.{is_extended_pictographic}
use Rattle.ucd_emoji.proofs.Computing.{ucd_emoji}
use Rattle.unicode_segmentation.specs.Segments.{cut, prepend}
use Rattle.unicode_segmentation.specs.Word.{break_by_pair, is_ignored, is_regional, significant, starts_with_half_flag, joins, value_at, is_word_break}
use Rattle.unicode_segmentation.proofs.BoolLemmas.{and-false, or-false}
use Rattle.unicode_segmentation.proofs.WordLemmas.{significant-kept}

-- ---- the values of ASCII

-- a letter or a digit
abbrev pub is_letter : WordBreak → Bool
is_letter ALetter = true
is_letter Numeric = true
is_letter _ = false

abbrev pub is_space : WordBreak → Bool
is_space WSegSpace = true
is_space _ = false

not_true : (b : Bool) → not b ≡ true → b ≡ false
not_true true h = sym h
not_true false h = refl

other_true : (b d : Bool) → (b || d) ≡ true → (b ≢ true) → d ≡ true
other_true true d h off = absurd (off refl)
other_true false d h off = h

pub letter_value : (c : ℕ) → c < 128 → IsTrue (is_ascii_alphanumeric c) → is_letter (word_break c) ≡ true
unfolding ucd_breaks
letter_value c below h =
    let test = Stepped-below word_break word_break_stepped (λ x v. not (is_ascii_alphanumeric x) || is_letter v) 128 refl c below in
    rw h at test

pub other_value : (c : ℕ) → c < 128 → c ≢ 32 → (is_ignored (word_break c) ≡ false) × (is_space (word_break c) ≡ false)
unfolding ucd_breaks
other_value c below differs =
    let test = Stepped-below word_break word_break_stepped (λ x v. (x == 32) || (not (is_ignored v) && not (is_space v))) 128 refl c below in
    let both = and_parts _ _ (other_true _ _ test (λ e. differs (eqb-true c 32 e))) in
    (not_true _ both.0, not_true _ both.1)

space_value : word_break 32 ≡ WSegSpace
unfolding ucd_breaks
space_value = refl

no_picture : is_extended_pictographic 32 ≡ false
unfolding ucd_emoji
no_picture = refl

letter_kept : (v : WordBreak) → is_letter v ≡ true → is_ignored v ≡ false
letter_kept ALetter h = refl
letter_kept Numeric h = refl
letter_kept _ h = cc

letter_no_flag : (v : WordBreak) → is_letter v ≡ true → is_regional v ≡ false
letter_no_flag ALetter h = refl
letter_no_flag Numeric h = refl
letter_no_flag _ h = cc

-- ---- the rules, by what they read

abbrev breaks : WordBreak → WordBreak → Bool → WordBreak → WordBreak → WordBreak → Bool → Bool
breaks v w e far_left left far_right half = unwrap_or (break_by_pair v w e) (not (joins far_left left w far_right || (half && is_regional w)))

rule_is : (c : ℕ) (before : List ℕ) (d : ℕ) (after : List ℕ) → is_word_break (c ∷ before) (d ∷ after)
    ≡ breaks (word_break c) (word_break d) (is_extended_pictographic d) (value_at (significant (c ∷ before)) 1) (value_at (significant (c ∷ before)) 0)
    (value_at (significant after) 0) (starts_with_half_flag (significant (c ∷ before)))
unfolding is_word_break
rule_is c before d after = refl

pair_letters : (v w : WordBreak) (e : Bool) → is_letter v ≡ true → is_letter w ≡ true → break_by_pair v w e ≡ None
pair_letters ALetter ALetter e h k = refl
pair_letters ALetter Numeric e h k = refl
pair_letters ALetter _ e h k = cc
pair_letters Numeric ALetter e h k = refl
pair_letters Numeric Numeric e h k = refl
pair_letters Numeric _ e h k = cc
pair_letters _ w e h k = cc

pair_after_space : (w : WordBreak) (e : Bool) → is_letter w ≡ true → break_by_pair WSegSpace w e ≡ None
pair_after_space ALetter e h = refl
pair_after_space Numeric e h = refl
pair_after_space _ e h = cc

pair_before_space : (v : WordBreak) → is_space v ≡ false → unwrap_or (break_by_pair v WSegSpace false) true ≡ true
pair_before_space WSegSpace h = sym h
pair_before_space _ h = refl

join_letters : (fl v w fr : WordBreak) → is_letter v ≡ true → is_letter w ≡ true → joins fl v w fr ≡ true
join_letters fl ALetter ALetter fr h k = refl
join_letters fl ALetter Numeric fr h k = simp (and-false, or-false)
join_letters fl ALetter _ fr h k = cc
join_letters fl Numeric ALetter fr h k = simp (and-false, or-false)
join_letters fl Numeric Numeric fr h k = simp (and-false, or-false)
join_letters fl Numeric _ fr h k = cc
join_letters fl _ w fr h k = cc

join_before_space : (fl l fr : WordBreak) → joins fl l WSegSpace fr ≡ false
join_before_space fl l fr = simp (and-false, or-false)

join_after_space : (fl r fr : WordBreak) → joins fl WSegSpace r fr ≡ false
join_after_space fl r fr = simp (and-false, or-false)

breaks_letters : (v w : WordBreak) (e : Bool) (fl fr : WordBreak) (half : Bool) → is_letter v ≡ true → is_letter w ≡ true → breaks v w e fl v fr half ≡ false
breaks_letters v w e fl fr half h k =
    ap (λ z. unwrap_or z (not (joins fl v w fr || (half && is_regional w)))) (pair_letters v w e h k) ∙ ap (λ z. not (z || (half && is_regional w))) (join_letters fl v w fr h k)

breaks_before_space : (v : WordBreak) (fl l fr : WordBreak) (half : Bool) → is_space v ≡ false → breaks v WSegSpace false fl l fr half ≡ true
breaks_before_space v fl l fr half h =
    ap (λ z. unwrap_or (break_by_pair v WSegSpace false) (not (z || (half && false)))) (join_before_space fl l fr)
    ∙ ap (λ z. unwrap_or (break_by_pair v WSegSpace false) (not z)) (and-false half) ∙ pair_before_space v h

breaks_after_space : (w : WordBreak) (e : Bool) (fl fr : WordBreak) (half : Bool) → is_letter w ≡ true → breaks WSegSpace w e fl WSegSpace fr half ≡ true
breaks_after_space w e fl fr half h =
    ap (λ z. unwrap_or z (not (joins fl WSegSpace w fr || (half && is_regional w)))) (pair_after_space w e h)
    ∙ ap₂ (λ z y. not (z || (half && y))) (join_after_space fl w fr) (letter_no_flag w h) ∙ ap not (and-false half)

-- ---- the rules over texts

significant_space : (before : List ℕ) → significant (32 ∷ before) ≡ WSegSpace ∷ significant before
significant_space before = significant-kept 32 before (ap is_ignored space_value) ∙ ap (λ v. v ∷ significant before) space_value

head_letter : (c : ℕ) (before : List ℕ) → is_ignored (word_break c) ≡ false → value_at (significant (c ∷ before)) 0 ≡ word_break c
head_letter c before h = ap (λ vs. value_at vs 0) (significant-kept c before h)

-- letters and digits are joined
pub rule_letters : (c : ℕ) (before : List ℕ) (d : ℕ) (after : List ℕ) → is_letter (word_break c) ≡ true → is_letter (word_break d) ≡ true → is_word_break (c ∷ before) (d ∷ after) ≡ false
rule_letters c before d after h k =
    rule_is c before d after
    ∙ ap (λ z. breaks (word_break c) (word_break d) (is_extended_pictographic d) (value_at (significant (c ∷ before)) 1) z (value_at (significant after) 0)
    (starts_with_half_flag (significant (c ∷ before)))) (head_letter c before (letter_kept _ h))
    ∙ breaks_letters _ _ _ _ _ _ h k

-- there is a boundary before a space
rule_before_space : (c : ℕ) (before after : List ℕ) → is_space (word_break c) ≡ false → is_word_break (c ∷ before) (32 ∷ after) ≡ true
rule_before_space c before after h =
    rule_is c before 32 after
    ∙ ap₂ (λ w e. breaks (word_break c) w e (value_at (significant (c ∷ before)) 1) (value_at (significant (c ∷ before)) 0) (value_at (significant after) 0)
    (starts_with_half_flag (significant (c ∷ before)))) space_value no_picture
    ∙ breaks_before_space _ _ _ _ _ h

-- and one after it
rule_after_space : (before : List ℕ) (r : ℕ) (after : List ℕ) → is_letter (word_break r) ≡ true → is_word_break (32 ∷ before) (r ∷ after) ≡ true
rule_after_space before r after h =
    rule_is 32 before r after
    ∙ ap₂ (λ v l. breaks v (word_break r) (is_extended_pictographic r) (value_at (significant (32 ∷ before)) 1) l (value_at (significant after) 0)
    (starts_with_half_flag (significant (32 ∷ before)))) space_value (ap (λ vs. value_at vs 0) (significant_space before))
    ∙ breaks_after_space (word_break r) (is_extended_pictographic r) (value_at (significant (32 ∷ before)) 1) (value_at (significant after) 0) (starts_with_half_flag (significant (32 ∷ before))) h

heads_step : (b : Bool) (v : WordBreak) (xs ys : List WordBreak) → value_at xs 0 ≡ value_at ys 0 → value_at (cond b xs (v ∷ xs)) 0 ≡ value_at (cond b ys (v ∷ ys)) 0
heads_step true v xs ys h = h
heads_step false v xs ys h = refl

heads : (ds : List ℕ) (l : ℕ) (xs ys : List ℕ) → is_ignored (word_break l) ≡ false → value_at (significant (ds ++ l ∷ xs)) 0 ≡ value_at (significant (ds ++ l ∷ ys)) 0
unfolding significant
heads [] l xs ys h = head_letter l xs h ∙ sym (head_letter l ys h)
heads (d ∷ ds) l xs ys h = heads_step (is_ignored (word_break d)) (word_break d) _ _ (heads ds l xs ys h)

-- no rule looks from the left past a space
rule_right : (c : ℕ) (before cs : List ℕ) (l : ℕ) (ys : List ℕ) → is_ignored (word_break l) ≡ false
    → is_word_break (c ∷ before) (cs ++ l ∷ (32 ∷ ys)) ≡ is_word_break (c ∷ before) (cs ++ l ∷ [])
unfolding significant
rule_right c before [] l ys h =
    let S = significant (c ∷ before) in
    rule_is c before l (32 ∷ ys)
    ∙ ap (λ z. breaks (word_break c) (word_break l) (is_extended_pictographic l) (value_at S 1) (value_at S 0) z (starts_with_half_flag S)) (ap (λ vs. value_at vs 0) (significant_space ys))
    ∙ sym (rule_is c before l [])
rule_right c before (d ∷ ds) l ys h =
    let S = significant (c ∷ before) in
    rule_is c before d (ds ++ l ∷ (32 ∷ ys))
    ∙ ap (λ z. breaks (word_break c) (word_break d) (is_extended_pictographic d) (value_at S 1) (value_at S 0) z (starts_with_half_flag S)) (heads ds l (32 ∷ ys) [] h)
    ∙ sym (rule_is c before d (ds ++ l ∷ []))

cond_append : (b : Bool) (v : WordBreak) (xs ys : List WordBreak) → cond b (xs ++ ys) (v ∷ (xs ++ ys)) ≡ cond b xs (v ∷ xs) ++ ys
cond_append true v xs ys = refl
cond_append false v xs ys = refl

significant_parted : (xs before : List ℕ) → significant (xs ++ 32 ∷ before) ≡ significant xs ++ WSegSpace ∷ significant before
unfolding significant
significant_parted [] before = significant_space before
significant_parted (x ∷ xs) before =
    ap (λ z. cond (is_ignored (word_break x)) z (word_break x ∷ z)) (significant_parted xs before)
    ∙ cond_append (is_ignored (word_break x)) (word_break x) (significant xs) (WSegSpace ∷ significant before)

half_parted : (xs ys : List WordBreak) → starts_with_half_flag (xs ++ WSegSpace ∷ ys) ≡ starts_with_half_flag xs
unfolding starts_with_half_flag
half_parted [] ys = refl
half_parted (x ∷ xs) ys = ap (λ z. is_regional x && not z) (half_parted xs ys)

breaks_parted : (v w : WordBreak) (e : Bool) (fr : WordBreak) (xs ys : List WordBreak) → 0 < length xs
    → breaks v w e (value_at (xs ++ WSegSpace ∷ ys) 1) (value_at (xs ++ WSegSpace ∷ ys) 0) fr (starts_with_half_flag (xs ++ WSegSpace ∷ ys))
    ≡ breaks v w e (value_at xs 1) (value_at xs 0) fr (starts_with_half_flag xs)
breaks_parted v w e fr [] ys some = absurd (omega arith)
breaks_parted v w e fr (x ∷ []) ys some = ap (λ z. breaks v w e WSegSpace x fr z) (half_parted (x ∷ []) ys)
breaks_parted v w e fr (x ∷ (y ∷ xs)) ys some = ap (λ z. breaks v w e y x fr z) (half_parted (x ∷ (y ∷ xs)) ys)

-- and none from the right
rule_left : (x : ℕ) (xs before after : List ℕ) → 0 < length (significant (x ∷ xs)) → is_word_break (x ∷ (xs ++ 32 ∷ before)) after ≡ is_word_break (x ∷ xs) after
unfolding is_word_break
rule_left x xs before [] some = refl
rule_left x xs before (d ∷ after) some =
    rule_is x (xs ++ 32 ∷ before) d after
    ∙ ap (λ z. breaks (word_break x) (word_break d) (is_extended_pictographic d) (value_at z 1) (value_at z 0) (value_at (significant after) 0) (starts_with_half_flag z))
    (significant_parted (x ∷ xs) before)
    ∙ breaks_parted _ _ _ _ (significant (x ∷ xs)) (significant before) some
    ∙ sym (rule_is x xs d after)

-- ---- the pieces

-- a character before the pieces, as one of its own or at the start of the first
abbrev attach : Bool → ℕ → List (List ℕ) → List (List ℕ)
attach b c pieces = cond b ((c ∷ []) ∷ pieces) (prepend (c ∷ []) pieces)

attach_some : (b : Bool) (c : ℕ) (ps : List (List ℕ)) → 0 < length (attach b c ps)
attach_some true c ps = omega arith
attach_some false c [] = omega arith
attach_some false c (p ∷ ps) = omega arith

attach_append : (b : Bool) (c : ℕ) (ps qs : List (List ℕ)) → 0 < length ps → attach b c (ps ++ qs) ≡ attach b c ps ++ qs
attach_append true c ps qs some = refl
attach_append false c [] qs some = absurd (omega arith)
attach_append false c (p ∷ ps) qs some = refl

longer : (b : Bool) (v : WordBreak) (xs : List WordBreak) → 0 < length xs → 0 < length (cond b xs (v ∷ xs))
longer true v xs some = some
longer false v xs some = omega arith

cut_some : (before cs : List ℕ) (l : ℕ) → 0 < length (cut is_word_break before (cs ++ l ∷ []) [])
unfolding cut
cut_some before [] l = attach_some _ l _
cut_some before (c ∷ cs) l = attach_some _ c _

cut_left : (x : ℕ) (xs before cs : List ℕ) → 0 < length (significant (x ∷ xs)) → cut is_word_break (x ∷ (xs ++ 32 ∷ before)) cs [] ≡ cut is_word_break (x ∷ xs) cs []
unfolding cut significant
cut_left x xs before [] some = refl
cut_left x xs before (c ∷ cs) some =
    let more = longer (is_ignored (word_break c)) (word_break c) _ some in
    ap₂ (λ b ps. attach b c ps) (rule_left c (x ∷ xs) before (cs ++ []) more) (cut_left c (x ∷ xs) before cs more)

cut_behind : (before : List ℕ) (r : ℕ) (ys : List ℕ) → is_letter (word_break r) ≡ true → cut is_word_break (32 ∷ before) (r ∷ ys) [] ≡ cut is_word_break [] (r ∷ ys) []
unfolding cut
cut_behind before r ys h =
    let some : 0 < length (significant (r ∷ [])) = rw (significant-kept r [] (letter_kept _ h)) (omega arith) in
    ap₂ (λ b ps. attach b r ps) (rule_left r [] before (ys ++ []) some) (cut_left r [] before ys some)

-- the pieces of a text that is parted are those of its parts, and the space
pub parted : (cs before : List ℕ) (l r : ℕ) (ys : List ℕ) → (is_ignored (word_break l) ≡ false) × (is_space (word_break l) ≡ false) → is_letter (word_break r) ≡ true
    → cut is_word_break before (cs ++ l ∷ (32 ∷ (r ∷ ys))) [] ≡ cut is_word_break before (cs ++ l ∷ []) [] ++ (32 ∷ []) ∷ cut is_word_break [] (r ∷ ys) []
unfolding cut is_word_break
parted [] before l r ys h k =
    ap₂ (λ b ps. attach b l ps) (rule_before_space l before ((r ∷ ys) ++ []) h.1)
    (ap₂ (λ b ps. attach b 32 ps) (rule_after_space (l ∷ before) r (ys ++ []) k) (cut_behind (l ∷ before) r ys k))
parted (c ∷ cs) before l r ys h k =
    let ps = cut is_word_break (c ∷ before) (cs ++ l ∷ []) [] in
    let b = is_word_break (c ∷ before) ((cs ++ l ∷ []) ++ []) in
    ap₂ (λ z qs. attach z c qs)
    (ap (is_word_break (c ∷ before)) (append-nil (cs ++ l ∷ (32 ∷ (r ∷ ys)))) ∙ rule_right c before cs l (r ∷ ys) h.0 ∙ ap (is_word_break (c ∷ before)) (sym (append-nil (cs ++ l ∷ []))))
    (parted cs (c ∷ before) l r ys h k)
    ∙ attach_append b c ps _ (cut_some (c ∷ before) cs l)

-- letters and digits are one piece
pub whole : (before : List ℕ) (c : ℕ) (cs : List ℕ) → All (λ x. is_letter (word_break x) ≡ true) (c ∷ cs) → cut is_word_break before (c ∷ cs) [] ≡ (c ∷ cs) ∷ []
unfolding cut is_word_break
whole before c [] all = refl
whole before c (d ∷ cs) all =
    let others : All (λ x. is_letter (word_break x) ≡ true) (d ∷ cs) = λ k e lt. all (suc k) e (suc-le-suc lt) in
    ap₂ (λ b ps. attach b c ps) (rule_letters c before d (cs ++ []) (all zero 0 (suc-le-suc zero-le)) (all (suc zero) 0 (suc-le-suc (suc-le-suc zero-le)))) (whole (c ∷ before) d cs others)
