-- What the words of an and owe.
use Rattle.std.proofs.Common.{◌≡◌, ℕ, zero, suc, ◌+◌, ◌*◌, ◌<◌, ◌≤◌, Bool, true, false, if◌then◌else◌, ap, sym, subst, refl, ◌∙◌, arith}
use Rattle.std.proofs.Common.{List, [], ◌∷◌, ◌++◌, length, get_or, take, drop, slice_set, slice_index_or}
use Rattle.std.proofs.Math.Nat.{mul-le-mul_left, mul-suc}
use Rattle.std.specs.List.{Contains}
use Rattle.eb_base.specs.Document.{Doc}
use Rattle.eb_base.specs.Query.{Tree, Trees, word, no_trees, trees, size, sizes}
use Rattle.eb_base.specs.Term.{Term}
use Rattle.eb_place.specs.declared.moment.Moment.{Moment}
use Rattle.eb_cursor.specs.AndCosts.{word_parts, document_has, documents_with, rounds_cost, all_rounds_cost, all_opening_loads, AndOwes}
use Rattle.eb_place.specs.Moments.{IsMoment}
use Rattle.eb_place.specs.Later.{IsNotBefore}
use Rattle.eb_cursor.specs.Ready.{rest_of}
use Rattle.eb_cursor.specs.Asked.{AreUnder}
use Rattle.eb_cursor.specs.Begun.{AreClear}
use Rattle.eb_cursor.specs.Costs.{Spans, AllSpan, round_loads}
use Rattle.eb_cursor.specs.Posted.{match_at}
use Rattle.eb_cursor.specs.Tops.{top}
use Rattle.eb_cursor.specs.declared.cursor.Cursor.{Cursor}
use Rattle.eb_cursor.proofs.Owing.{all_span_later, opening_later}
use Rattle.eb_cursor.proofs.Rounds.{round_falls, rounds_low, rounds_most}
use Rattle.eb_cursor.proofs.Steps.{IsFront}

-- the words are a first one and others
pub words_split : (ts : List Term) (q : Tree) (qs : Trees) → trees q qs ≡ word_parts ts → (t : Term) × (us : List Term) × (ts ≡ t ∷ us) × (q ≡ word t) × (qs ≡ word_parts us)
words_split [] q qs e = absurd (cc e)
words_split (t ∷ ts) q qs e = (t, ts, refl, cc e, cc e)

-- ---- spans

pub one_span : (m : Moment) (s : ℕ) (t : Term) (cursors : List Cursor) (d : Cursor) (most : ℕ)
    → AllSpan m s (t ∷ []) cursors most → (own : ℕ) × Spans m s t (get_or cursors 0 d).list own × (own ≤ most)
one_span m s t [] d most h = absurd h
one_span m s t (c ∷ cs) d most h = (h.0, h.2, omega (arith, h.4))

pub span_one : (m n : Moment) (s : ℕ) (t : Term) (cursors : List Cursor) (c : Cursor) (most left : ℕ)
    → AllSpan m s (t ∷ []) cursors most → Spans n s t c.list left → AllSpan n s (t ∷ []) (slice_set cursors 0 c) left
span_one m n s t [] c most left h k = absurd h
span_one m n s t (x ∷ xs) c most left h k = (left, 0, k, h.3, omega arith)

front_span : (m : Moment) (s : ℕ) (t : Term) (us : List Term) (cursors : List Cursor) (most : ℕ) → AllSpan m s (t ∷ us) cursors most
    → (a : ℕ) × (b : ℕ) × AllSpan m s (t ∷ []) (take 1 cursors) a × AllSpan m s us (drop 1 cursors) b × (a + b ≤ most)
front_span m s t us [] most h = absurd h
front_span m s t us (c ∷ cs) most h = (h.0, h.1, (h.0, 0, h.2, refl, omega arith), h.3, h.4)

-- the cursor of the first word, and those of the others
pub spans_front : (m : Moment) (s : ℕ) (ts : List Term) (t : Term) (us : List Term) (qs : Trees) (q : Tree) (qs' : Trees) (cursors own rest : List Cursor) (most : ℕ)
    → IsFront qs q qs' cursors own rest → ts ≡ t ∷ us → q ≡ word t → AllSpan m s ts cursors most
    → (a : ℕ) × (b : ℕ) × AllSpan m s (t ∷ []) own a × AllSpan m s us rest b × (a + b ≤ most)
spans_front m s ts t us qs q qs' cursors own rest most e i w h =
    let x = front_span m s t us cursors most (subst (λ z. AllSpan m s z cursors most) i h) in
    let front : own ≡ take 1 cursors = e.front ∙ ap (λ z. take (size z) cursors) w in
    let back : rest ≡ drop 1 cursors = e.back ∙ ap (λ z. drop (size z) cursors) w in
    (x.0, x.1, subst (λ z. AllSpan m s (t ∷ []) z x.0) (sym front) x.2, subst (λ z. AllSpan m s us z x.1) (sym back) x.3, x.4)

pub spans_join : (n : Moment) (s : ℕ) (ts : List Term) (t : Term) (us : List Term) (own rest : List Cursor) (a b : ℕ)
    → ts ≡ t ∷ us → AllSpan n s (t ∷ []) own a → AllSpan n s us rest b → AllSpan n s ts (own ++ rest) (a + b)
spans_join n s ts t us [] rest a b i h k = absurd h
spans_join n s ts t us (c ∷ cs) rest a b i h k =
    let same : cs ++ rest ≡ rest = ap (λ z. z ++ rest) h.3 in
    let more : AllSpan n s us (cs ++ rest) b = subst (λ z. AllSpan n s us z b) (sym same) k in
    subst (λ z. AllSpan n s z (c ∷ (cs ++ rest)) (a + b)) (sym i) (h.0, b, h.2, more, omega (arith, h.4))

-- the list of one word
pub leaf_span : (n : Moment) (s : ℕ) (t : Term) (cursors : List Cursor) (c : Cursor) (left : ℕ) → length cursors ≡ 1 → Spans n s t c.list left → AllSpan n s (t ∷ []) (slice_set cursors 0 c) left
leaf_span n s t [] c left e h = absurd (omega (arith, e))
leaf_span n s t (x ∷ []) c left e h = (left, 0, h, refl, omega arith)
leaf_span n s t (x ∷ (y ∷ ys)) c left e h = absurd (omega (arith, e))

pub no_spans : (n : Moment) (s : ℕ) (ts : List Term) (qs : Trees) (cursors : List Cursor) → qs ≡ no_trees → qs ≡ word_parts ts → length cursors ≡ sizes qs → AllSpan n s ts cursors 0
no_spans n s [] qs [] z e l = refl
no_spans n s [] qs (c ∷ cs) z e l = absurd (omega (arith, l, ap sizes z))
no_spans n s (t ∷ ts) qs cursors z e l = absurd (cc (sym z ∙ e))

-- cursors whose lists are forgotten span nothing
pub clear_spans : (n : Moment) (s : ℕ) (ts : List Term) (cursors : List Cursor) → AreClear cursors → length cursors ≡ length ts → AllSpan n s ts cursors 0
clear_spans n s [] [] h e = refl
clear_spans n s [] (c ∷ cs) h e = absurd (omega (arith, e))
clear_spans n s (t ∷ ts) [] h e = absurd (omega (arith, e))
clear_spans n s (t ∷ ts) (c ∷ cs) h e = (0, 0, subst (λ z. Spans n s t z 0) (sym h.2) tt, clear_spans n s ts cs h.3 (omega (arith, e)), omega arith)

pub sizes_words : (ts : List Term) → sizes (word_parts ts) ≡ length ts
sizes_words [] = refl
sizes_words (t ∷ ts) = omega (arith, sizes_words ts)

pub if_under : (b : Bool) (n : ℕ) → (if b then n else 0) ≤ n
if_under true n = omega arith
if_under false n = omega arith

-- ---- rounds

one_more : (k a b : ℕ) → a < b → k * a + k ≤ k * b
one_more k a b h = let up : k * suc a ≤ k * b = mul-le-mul_left k (omega (arith, h)) in omega (arith, up, mul-suc k a)

pub cost_low : (docs : List Doc) (ts : List Term) (t : Term) (low end : ℕ) → low ≤ end → rounds_cost docs ts t low ≤ rounds_cost docs ts t end
unfolding rounds_cost
cost_low docs ts t low end h = mul-le-mul_left (round_loads ts) (rounds_low (document_has docs t) low end h)

-- a round that falls, and not above the last document that has the term, is paid for
pub cost_falls : (docs : List Doc) (ts : List Term) (t : Term) (found end : ℕ) → found < end → found ≤ top (document_has docs t) end
    → rounds_cost docs ts t found + round_loads ts ≤ rounds_cost docs ts t end
unfolding rounds_cost
cost_falls docs ts t found end h k = one_more (round_loads ts) _ _ (round_falls (document_has docs t) found end h k)

-- all that can come over the documents
pub cost_most : (docs : List Doc) (ts : List Term) (t : Term) → rounds_cost docs ts t (length docs) ≤ all_rounds_cost ts (documents_with docs t)
unfolding rounds_cost all_rounds_cost
cost_most docs ts t = mul-le-mul_left (round_loads ts) (rounds_most (document_has docs t) (length docs))

under_there : (docs : List Doc) (ts : List Term) (t : Term) (end found k : ℕ)
    → k < length ts → slice_index_or ts k t ≡ t → AreUnder docs (word_parts ts) end found → found ≤ top (document_has docs t) end
under_there docs [] t end found k low e h = absurd (omega (arith, low))
under_there docs (u ∷ us) t end found zero low e h = subst (λ z. found ≤ top (match_at docs (word z)) end) e h.0
under_there docs (u ∷ us) t end found (suc k) low e h = under_there docs us t end found k (omega (arith, low)) e h.1

-- a round ends at most one above the last match of each word
pub under_at : (docs : List Doc) (ts : List Term) (t : Term) (qs : Trees) (end found : ℕ) → Contains ts t → qs ≡ word_parts ts → AreUnder docs qs end found → found ≤ top (document_has docs t) end
under_at docs ts t qs end found c e h = under_there docs ts t end found c.0 c.1 c.2 (subst (λ z. AreUnder docs z end found) e h)

pub some_words : (ts : List Term) (t : Term) → Contains ts t → 0 < length ts
some_words ts t c = omega (arith, c.1)

-- ---- at a later moment

pub open_later : (m n : Moment) (s : ℕ) (ts : List Term) → IsMoment m → IsMoment n → IsNotBefore n m → s < m.setting.segments → all_opening_loads m s ts ≤ all_opening_loads n s ts
open_later m n s [] is js l h = omega arith
open_later m n s (t ∷ ts) is js l h = omega (arith, opening_later m n s t is js l h, open_later m n s ts is js l h)

pub and_owes_later : (m n : Moment) (s : ℕ) (docs : List Doc) (ts : List Term) (t : Term) (cursors : List Cursor) (most : ℕ)
    → IsMoment m → IsNotBefore n m → AndOwes m s docs ts t cursors most → AndOwes n s docs ts t cursors most
and_owes_later m n s docs ts t cursors most is l h = (h.0, all_span_later m n s ts (rest_of cursors) h.0 is l h.1, h.2)
