-- Lines have a text in each way, whatever the rules, and where queries see exactly the documents before their lines exactly one, where
-- each other line has exactly one reading.
use Rattle.eb_fields.specs.Dialect.{Dialect}
use Rattle.std.proofs.Common.{◌≡◌, ℕ, zero, suc, ◌+◌, ◌≤◌, List, [], ◌∷◌, ◌++◌, take, refl, sym, ap, ap₂, subst, ◌∙◌, arith}
use Rattle.std.specs.List.{AllZip}
use Rattle.eb_io.specs.Lines.{Line, line, long_line}
use Rattle.eb_lines.specs.declared.refusal.Refusal.TheVariants.{BadLine, LongLine}
use Rattle.eb_lines.specs.Kinds.{Kind, blank_line, document_line, query_line, bad_line, kind_of}
use Rattle.eb_lines.specs.Reading.{Reading, refused}
use Rattle.eb_lines.proofs.OneReading.{one_by_kind, some_by_kind}
use Rattle.eb_lines.specs.Progress.{accepted, told}
use Rattle.eb_lines.proofs.Advancing.{told_within}
use Rattle.run_store.specs.Rows.{added_count}
use Rattle.run_store.specs.Rules.{Rules, ReadsKind, ReadsWith, come_behind, is_bad}
use Rattle.run_store.specs.Sees.{Reach, exactly, between, at_least, Reaches}
use Rattle.run_store.specs.Text.{body, end_of, IsText}
use Rattle.run_store.specs.Laws.{SomeText, OneText, OrderText}
use Rattle.run_store.proofs.Seeing.{told-count, count-cons}

-- ---- what the documents before each line are

told_rises : (rs : List Reading) (i j : ℕ) → i ≤ j → added_count (take i rs) ≤ added_count (take j rs)
unfolding accepted
told_rises [] zero j le = omega arith
told_rises [] (suc i) zero le = omega arith
told_rises [] (suc i) (suc j) le = omega arith
told_rises (r ∷ rs) zero j le = omega arith
told_rises (r ∷ rs) (suc i) zero le = absurd (omega (arith, le))
told_rises (r ∷ rs) (suc i) (suc j) le =
    let more = told_rises rs i j (omega (arith, le)) in
    let low = count-cons r (take i rs) in
    let high = count-cons r (take j rs) in
    omega (arith, more, low, high)

told_next : (rs : List Reading) (i j : ℕ) → i ≤ j → told rs i ≤ told rs j
told_next rs i j le = omega (arith, told_rises rs i j le, told-count rs i, told-count rs j)

-- queries may see them in each way
pub told_reaches : (way : Reach) (rs : List Reading) → Reaches way rs (told rs)
told_reaches exactly rs = λ j. refl
told_reaches between rs = record {
  least = λ j e. omega arith;
  most = λ j e. (let more = told_next rs j (j + 1) (omega arith) in omega (arith, more));
  rises = λ i j le e f. told_next rs i j le;
}
told_reaches at_least rs = record { least = λ j e. omega arith; most = λ j e. told_within rs j }

-- numbers that are these
as_told : (rs : List Reading) (n : ℕ → ℕ) → Reaches exactly rs n → n ≡ told rs
as_told rs n h = λ i j. h j i

-- ---- lines

module _ (other : Dialect → List ℕ → Reading → Type 0) where
  module _ (one : (how : Dialect) (bytes : List ℕ) (a b : Reading) → other how bytes a → other how bytes b → a ≡ b) where
    one_kind : (how : Dialect) (k : Kind) (bytes : List ℕ) (a b : Reading) → ReadsKind other how k bytes a → ReadsKind other how k bytes b → a ≡ b
    one_kind how blank_line bytes a b e f = one_by_kind how blank_line bytes a b e f
    one_kind how document_line bytes a b e f = one_by_kind how document_line bytes a b e f
    one_kind how query_line bytes a b e f = one_by_kind how query_line bytes a b e f
    one_kind how bad_line bytes a b e f = one how bytes a b e f

    one_line : (how : Dialect) (l : Line) (a b : Reading) → ReadsWith other how l a → ReadsWith other how l b → a ≡ b
    one_line how (line bytes) a b e f = one_kind how (kind_of how bytes) bytes a b e f
    one_line how long_line a b e f = e ∙ sym f

    raw_one : (how : Dialect) (ls : List Line) (rs ss : List Reading) → AllZip (ReadsWith other how) ls rs → AllZip (ReadsWith other how) ls ss → rs ≡ ss
    raw_one how [] [] [] e f = refl
    raw_one how [] [] (s ∷ ss) e f = absurd f
    raw_one how [] (r ∷ rs) ss e f = absurd e
    raw_one how (l ∷ ls) [] ss e f = absurd e
    raw_one how (l ∷ ls) (r ∷ rs) [] e f = absurd f
    raw_one how (l ∷ ls) (r ∷ rs) (s ∷ ss) e f = ap₂ (λ x xs. x ∷ xs) (one_line how l r s e.0 f.0) (raw_one how ls rs ss e.1 f.1)

    pub one_text_of : {W : Type 0} (rules : Rules W) (lines : List Line) (a b : List ℕ) → IsText other exactly rules lines a → IsText other exactly rules lines b → a ≡ b
    one_text_of rules lines a b p q =
        let same : p.readings ≡ q.readings =
        p.read.2 ∙ ap (come_behind rules rules.start rules.watches) (raw_one rules.dialect lines p.read.0 q.read.0 p.read.1 q.read.1) ∙ sym q.read.2 in
        p.bytes ∙ ap (λ n. body rules n p.readings ++ end_of rules p.readings) (as_told p.readings p.numbers p.reach)
        ∙ ap (λ rs. body rules (told rs) rs ++ end_of rules rs) same
        ∙ ap (λ n. body rules n q.readings ++ end_of rules q.readings) (sym (as_told q.readings q.numbers q.reach)) ∙ sym q.bytes

  module _ (some : (how : Dialect) (bytes : List ℕ) → (r : Reading) × other how bytes r) where
    some_kind : (how : Dialect) (k : Kind) (bytes : List ℕ) → (r : Reading) × ReadsKind other how k bytes r
    some_kind how blank_line bytes = some_by_kind how blank_line bytes
    some_kind how document_line bytes = some_by_kind how document_line bytes
    some_kind how query_line bytes = some_by_kind how query_line bytes
    some_kind how bad_line bytes = some how bytes

    some_line : (how : Dialect) (l : Line) → (r : Reading) × ReadsWith other how l r
    some_line how (line bytes) = some_kind how (kind_of how bytes) bytes
    some_line how long_line = (refused LongLine, refl)

    raw_some : (how : Dialect) (ls : List Line) → (rs : List Reading) × AllZip (ReadsWith other how) ls rs
    raw_some how [] = ([], tt)
    raw_some how (l ∷ ls) = let r = some_line how l in let rs = raw_some how ls in (r.0 ∷ rs.0, (r.1, rs.1))

    pub some_text_of : {W : Type 0} (way : Reach) (rules : Rules W) (lines : List Line) → (printed : List ℕ) × IsText other way rules lines printed
    some_text_of way rules lines =
        let raw = raw_some rules.dialect lines in
        let rs = come_behind rules rules.start rules.watches raw.0 in
        (body rules (told rs) rs ++ end_of rules rs, record { readings = rs; numbers = told rs; read = (raw.0, raw.1, refl); reach = told_reaches way rs; bytes = refl })

  -- the text where queries see exactly the documents before their lines is one of each other way
  pub order_text_of : {W : Type 0} (way : Reach) (rules : Rules W) (lines : List Line) (printed : List ℕ) → IsText other exactly rules lines printed → IsText other way rules lines printed
  order_text_of way rules lines printed t = record {
    readings = t.readings;
    numbers = t.numbers;
    read = t.read;
    reach = subst (Reaches way t.readings) (sym (as_told t.readings t.numbers t.reach)) (told_reaches way t.readings);
    bytes = t.bytes;
  }

pub one_bad : (how : Dialect) (bytes : List ℕ) (a b : Reading) → is_bad how bytes a → is_bad how bytes b → a ≡ b
one_bad how bytes a b e f = e ∙ sym f

pub some_bad : (how : Dialect) (bytes : List ℕ) → (r : Reading) × is_bad how bytes r
some_bad how bytes = (refused BadLine, refl)

-- ---- of rules without watches

pub some_text : SomeText
some_text = some_text_of is_bad some_bad

pub one_text : OneText
one_text = one_text_of is_bad one_bad

pub order_text : OrderText
order_text = order_text_of is_bad
