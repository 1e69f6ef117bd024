-- How many segments the parts have at the end, and how many of them are packed.
use Rattle.std.proofs.Common.{◌≡◌, ℕ, zero, suc, inl, inr, ◌+◌, ◌-◌, ◌*◌, ◌<◌, ◌≤◌, List, [], ◌∷◌, length, map, get_or, refl, ap, ap₂, sym, ◌∙◌, subst, arith}
use Rattle.std.specs.Prelude.{min, ◌^◌, sum}
use Rattle.std.proofs.lemmas.Bool.{cases_lt}
use Rattle.std.specs.List.{All}
use Rattle.std.proofs.lemmas.List.Elements.{All-head, All-tail}
use Rattle.std.proofs.lemmas.List.Sums.{sum_by-cons}
use Rattle.eb_base.specs.Document.{Doc}
use Rattle.eb_base.specs.Setting.{Setting}
use Rattle.eb_blend.specs.Laws.{cut_into}
use Rattle.eb_blend.specs.Parts.{WriterTokens, Parts, history, segments_of, few_counted, AreFronts, AllClosed, AllConverted}
use Rattle.eb_place.specs.Room.{cut}
use Rattle.eb_place.proofs.CutSegments.{closed_stays}
use Rattle.run_index.specs.Conversions.{most_converted}
use Rattle.eb_table.specs.Known.{Words}
use Rattle.run_over_parts.specs.declared.store.Store.{Store}
use Rattle.run_over_parts.specs.Stores.{Holds}
use Rattle.run_over_parts.proofs.Histories.{cut_length}

-- the segments of each part
abbrev pub begun : Setting → List (List Doc) → List ℕ
begun σ hs = map (λ h. length (cut σ h)) hs

segments_same : (σ : Setting) (ws : List Words) (hs : List (List Doc)) → All (λ w. w.setting ≡ σ) ws → length ws ≡ length hs → segments_of ws hs ≡ begun σ hs
segments_same σ [] [] all e = refl
segments_same σ [] (h ∷ hs) all e = absurd (omega (arith, e))
segments_same σ (w ∷ ws) [] all e = absurd (omega (arith, e))
segments_same σ (w ∷ ws) (h ∷ hs) all e =
    let first : w.setting ≡ σ = All-head (λ (x : Words). x.setting ≡ σ) w ws all in
    ap₂ (λ n ns. n ∷ ns) (ap (λ (s : Setting). length (cut s h)) first) (segments_same σ ws hs (All-tail (λ (x : Words). x.setting ≡ σ) w ws all) (omega (arith, e)))

-- a sum of small numbers
sum_small : (ns : List ℕ) → ((p : ℕ) → p < length ns → get_or ns p 0 ≤ 64) → sum ns ≤ 64 * length ns
sum_small [] f = omega arith
sum_small (n ∷ ns) f =
    let rest = sum_small ns (λ p lt. f (suc p) (omega (arith, lt))) in
    omega (arith, sum_by-cons (λ (z : ℕ). z) n ns, f 0 (omega arith), rest)

begun_at : (σ : Setting) (hs : List (List Doc)) (p : ℕ) → p < length hs → get_or (begun σ hs) p 0 ≡ length (cut σ (history hs p))
begun_at σ [] p lt = absurd (omega (arith, lt))
begun_at σ (h ∷ hs) zero lt = refl
begun_at σ (h ∷ hs) (suc p) lt = begun_at σ hs p (omega (arith, lt))

begun_length : (σ : Setting) (hs : List (List Doc)) → length (begun σ hs) ≡ length hs
begun_length σ [] = refl
begun_length σ (h ∷ hs) = ap suc (begun_length σ hs)

small : (ns : List ℕ) → length ns ≤ 16 → sum ns ≤ 64 * length ns → few_counted ns ≡ sum ns
small ns few low = omega (arith, few, low)

begun_small : (s : Store) (parts : ℕ) (σ : Setting) (docs : List Doc) → Holds s parts σ docs → (p : ℕ) → p < length (begun σ (cut_into parts docs)) → get_or (begun σ (cut_into parts docs)) p 0 ≤ 64
begun_small s parts σ docs h p lt =
    let long = begun_length σ (cut_into parts docs) in
    let at = begun_at σ (cut_into parts docs) p (omega (arith, lt, long)) in
    let low = h.short p in
    omega (arith, at, low)

pub segments_all : (s : Store) (parts : ℕ) (σ : Setting) (docs : List Doc) (n : ℕ) → Holds s parts σ docs → n ≡ few_counted (segments_of s.writer.indexes s.writer.histories)
    → n ≡ sum (begun σ (cut_into parts docs))
segments_all s parts σ docs n h is =
    let hs = cut_into parts docs in
    let long = cut_length parts docs in
    let same : segments_of s.writer.indexes s.writer.histories ≡ begun σ hs =
    (λ i. segments_of (h.writer i).indexes (h.writer i).histories) ∙ segments_same σ h.words hs h.settings (omega (arith, h.number, long)) in
    let length_is = begun_length σ hs in
    is ∙ ap few_counted same ∙ small (begun σ hs) (omega (arith, length_is, long, h.most)) (sum_small (begun σ hs) (begun_small s parts σ docs h))

-- ---- the packed segments

all_but_one : (n l : ℕ) → ((s : ℕ) → s + 1 < l → s < n) → ((s : ℕ) → s < n → s + 1 < l) → n ≡ l - 1
all_but_one zero l f g = cases l f
  where
    cases : (l : ℕ) → ((s : ℕ) → s + 1 < l → s < 0) → 0 ≡ l - 1
    cases zero f = omega arith
    cases (suc zero) f = omega arith
    cases (suc (suc m)) f = absurd (omega (arith, f 0 (omega arith)))
all_but_one (suc m) l f g = elim (cases_lt (suc m + 1) l) [
  | inl lt ↦ absurd (omega (arith, f (suc m) lt))
  | inr le ↦ let more = g m (omega arith) in omega (arith, le, more)
]

by_numbers : (σ : Setting) (ns : List ℕ) (hs : List (List Doc)) → length ns ≡ length hs
    → ((p : ℕ) → p < length hs → get_or ns p 0 ≡ length (cut σ (history hs p)) - 1) → ns ≡ map most_converted (begun σ hs)
by_numbers σ [] [] e f = refl
by_numbers σ [] (h ∷ hs) e f = absurd (omega (arith, e))
by_numbers σ (n ∷ ns) [] e f = absurd (omega (arith, e))
by_numbers σ (n ∷ ns) (h ∷ hs) e f = ap₂ (λ z zs. z ∷ zs) (f 0 (omega arith)) (by_numbers σ ns hs (omega (arith, e)) (λ p lt. f (suc p) (omega (arith, lt))))

converted_at : (σ : Setting) (hs known : List (List Doc)) (ns : List ℕ) (p : ℕ) → p < length hs → AreFronts hs known → AllConverted σ known ns → AllClosed σ hs ns
    → get_or ns p 0 ≡ length (cut σ (history hs p)) - 1
converted_at σ hs known ns p lt fronts packed closed =
    let front = fronts.each p in
    let few : p < length known = omega (arith, lt, fronts.parts) in
    let up : (s : ℕ) → s + 1 < length (cut σ (history hs p)) → s + 1 < length (cut σ (history known p)) = λ s low.
    let grown = (closed_stays σ (history hs p) front.0 s low).0 in
    let all : length (cut σ (history hs p)) ≤ length (cut σ (history known p)) = subst (λ (x : List Doc). length (cut σ (history hs p)) ≤ length (cut σ x)) front.1 grown in
    omega (arith, low, all) in
    all_but_one (get_or ns p 0) (length (cut σ (history hs p))) (λ s low. packed.each p s few (up s low)) (closed.each p lt)

-- few numbers, each below another
lower_sum : (ns : List ℕ) → sum (map most_converted ns) ≤ sum ns
lower_sum [] = omega arith
lower_sum (n ∷ ns) = omega (arith, sum_by-cons (λ (z : ℕ). z) n ns, sum_by-cons (λ (z : ℕ). z) (n - 1) (map most_converted ns), lower_sum ns)

few_lower : (a b : ℕ) → a ≤ b → b ≤ 1024 → min a (2 ^ 32 - 1) ≡ a
few_lower a b le few = omega (arith, le, few)

pub converted_all : (s : Store) (parts : ℕ) (σ : Setting) (docs : List Doc) (known : List (List Doc)) (ns : List ℕ) (n : ℕ) → Holds s parts σ docs
    → AreFronts s.writer.histories known → AllConverted s.blend.setting known ns → AllClosed s.blend.setting s.writer.histories ns → length ns ≡ length s.blend.indexes → n ≡ few_counted ns
    → n ≡ sum (map most_converted (begun σ (cut_into parts docs)))
converted_all s parts σ docs known ns n h fronts packed closed long is =
    let hs = cut_into parts docs in
    let hist : s.writer.histories ≡ hs = ap (λ (w : WriterTokens). w.histories) h.writer in
    let setting : s.blend.setting ≡ σ = ap (λ (x : Parts). x.setting) h.blend in
    let f : AreFronts hs known = subst (λ (x : List (List Doc)). AreFronts x known) hist fronts in
    let p : AllConverted σ known ns = subst (λ (x : Setting). AllConverted x known ns) setting packed in
    let c : AllClosed σ hs ns = subst (λ (z : Setting × List (List Doc)). AllClosed z.0 z.1 ns) (λ i. (setting i, hist i)) closed in
    let count = cut_length parts docs in
    let number : length ns ≡ length hs = long ∙ ap (λ (b : Parts). length b.indexes) h.blend ∙ h.number ∙ sym count in
    let same : ns ≡ map most_converted (begun σ hs) = by_numbers σ ns hs number (λ i lt. converted_at σ hs known ns i lt f p c) in
    let length_is = begun_length σ hs in
    let low = sum_small (begun σ hs) (begun_small s parts σ docs h) in
    let few : sum (begun σ hs) ≤ 1024 = omega (arith, low, length_is, count, h.most) in
    is ∙ ap few_counted same ∙ few_lower (sum (map most_converted (begun σ hs))) (sum (begun σ hs)) (lower_sum (begun σ hs)) few
