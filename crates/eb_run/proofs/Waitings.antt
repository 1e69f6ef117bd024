-- A round of waiting lines is processed.
use Rattle.eb_fields.specs.Dialect.{Dialect}
use Rattle.std.proofs.Common.{◌≡◌, ℕ, zero, suc, ◌+◌, ◌≤◌, Bool, true, false, List, [], ◌∷◌, ◌++◌, map, Option, Some}
use Rattle.std.proofs.Common.{None, Ok, Err, refl, sym, ap, ap₂, subst, ◌∙◌, arith, append-nil, le_refl, le_trans}
use Rattle.std.specs.Prelude.{Result, ◌==◌, ◌&&◌, if◌then◌else◌}
use Rattle.std.specs.Str.{is_utf8}
use Rattle.std.specs.List.{AllZip}
use Rattle.eb_base.specs.Document.{Doc}
use Rattle.eb_base.specs.Setting.{Setting}
use Rattle.eb_place.specs.Room.{has_room}
use Rattle.eb_io.specs.Lines.{Line, line, long_line}
use Rattle.eb_doc.specs.WithFields.{document_with}
use Rattle.eb_doc.specs.declared.LineFault.{LineFault}
use Rattle.eb_doc.specs.declared.LineFault.TheVariants as fault
use Rattle.eb_query.specs.Head.{begins_query}
use Rattle.eb_query.specs.Reading.{Outcome, asks, bad_number, bad_query, too_deep, too_many_nodes}
use Rattle.eb_lines.specs.declared.form.Form.{Form}
use Rattle.eb_lines.specs.Reading.{Reading, blank, document, query, refused, watch}
use Rattle.eb_lines.specs.Progress.{documents_in, is_query, accepted}
use Rattle.run_store.specs.Rules.{come_behind}
use Rattle.run_store.specs.Text.{body_from}
use Rattle.run_index.specs.IndexRules.{admit, output_of}
use Rattle.eb_rounds.specs.Inputs.{HeldInput, document_line, query_line, refused_line, Entry, ReadsInput, ReadsLine, admitted_in, added}
use Rattle.eb_lines.specs.Reads.{IsOfDocument, of_query}
use Rattle.eb_rounds.specs.Shown.{Shown, shown_entry, output_in, shown_text, least_after, Rises}
use Rattle.eb_rounds.proofs.Rounding.{rises_le}
use Rattle.run_store.specs.Sees.{IsAsked}
use Rattle.run_store.specs.Rows.{SeesWithin}
use Rattle.eb_lines.specs.Kinds.{Kind, blank_line, bad_line, kind_of}
use Rattle.eb_lines.specs.Kinds as kind
use Rattle.eb_lines.specs.Reads.{ReadsByKind, Reads}
use Rattle.eb_run.specs.Holding.{input_by, held_as, before_held, held_from, before_entries, entries_from}
use Rattle.eb_run.specs.Waiting.{rules_in}

-- ---- what held lines are read as, the blank ones among them

document_not_blank : (x : Result Doc LineFault) (r : Reading) (number : ℕ) (es : List Entry) → IsOfDocument x r → before_entries number r es ≡ record { number = number; reading = r } ∷ es
document_not_blank (Ok d) r number es h = rw h refl
document_not_blank (Err fault.BadJson) r number es h = rw h refl
document_not_blank (Err fault.BadDocument) r number es h = rw h refl
document_not_blank (Err fault.TooLong) r number es h = rw h refl
document_not_blank (Err fault.NoMemory) r number es h = absurd h

query_not_blank : (o : Outcome) (number : ℕ) (es : List Entry) → before_entries number (of_query o) es ≡ record { number = number; reading = of_query o } ∷ es
query_not_blank (asks k q) number es = refl
query_not_blank bad_number number es = refl
query_not_blank (bad_query column) number es = refl
query_not_blank too_deep number es = refl
query_not_blank too_many_nodes number es = refl

not_blank : (how : Dialect) (i : HeldInput) (r : Reading) (number : ℕ) (es : List Entry) → ReadsInput how i r → before_entries number r es ≡ record { number = number; reading = r } ∷ es
not_blank how (document_line bytes) r number es h = document_not_blank (document_with how bytes) r number es h
not_blank how (query_line bytes) r number es h = by_mark (begins_query how bytes) h where
  by_mark : (b : Bool) → ReadsByKind how (if b then kind.query_line else bad_line) bytes r → before_entries number r es ≡ record { number = number; reading = r } ∷ es
  by_mark true h = subst (λ (x : Reading). before_entries number x es ≡ record { number = number; reading = x } ∷ es) (sym h.2) (query_not_blank h.0 number es)
  by_mark false h = rw h refl
not_blank how (refused_line x) r number es h = rw h refl

-- a query line begins as one
begins_so : (how : Dialect) (bytes : List ℕ) → kind_of how bytes ≡ kind.query_line → begins_query how bytes ≡ true
begins_so how [] e = absurd (cc e)
begins_so how (b ∷ bs) e = go (b == 123) (begins_query how (b ∷ bs)) (is_utf8 (b ∷ bs)) e where
  go : (x m u : Bool) → (if x then kind.document_line else if m && u then kind.query_line else bad_line) ≡ kind.query_line → m ≡ true
  go true m u e = absurd (cc e)
  go false true u e = refl
  go false false u e = absurd (cc e)

-- a line that isn't held is blank, and one that is held is read as its input
blank_reads : (how : Dialect) (l : Line) → held_as how l ≡ None → Reads how l blank
blank_reads how (line bytes) e = by_kind (kind_of how bytes) e where
  by_kind : (k : Kind) → input_by k bytes ≡ None → ReadsByKind how k bytes blank
  by_kind blank_line e = refl
  by_kind kind.document_line e = absurd (cc e)
  by_kind kind.query_line e = absurd (cc e)
  by_kind bad_line e = absurd (cc e)
blank_reads how long_line e = absurd (cc e)

held_reads : (how : Dialect) (l : Line) (i : HeldInput) (r : Reading) → held_as how l ≡ Some i → ReadsInput how i r → Reads how l r
held_reads how (line bytes) i r e h = by_kind (kind_of how bytes) refl e where
  by_kind : (k : Kind) → kind_of how bytes ≡ k → input_by k bytes ≡ Some i → ReadsByKind how k bytes r
  by_kind blank_line is e = absurd (cc e)
  by_kind kind.document_line is e = (let same : i ≡ document_line bytes = cc e in subst (λ x. ReadsInput how x r) same h)
  by_kind kind.query_line is e = (
      let same : i ≡ query_line bytes = cc e in
      subst (λ (b : Bool). ReadsByKind how (if b then kind.query_line else bad_line) bytes r) (begins_so how bytes is) (subst (λ x. ReadsInput how x r) same h)
      )
  by_kind bad_line is e = (let same : i ≡ refused_line _ = cc e in subst (λ x. ReadsInput how x r) same h)
held_reads how long_line i r e h = (let same : i ≡ refused_line _ = cc e in subst (λ x. ReadsInput how x r) same h)

-- the readings of lines, from those of the held ones among them
abbrev pub Back : Dialect → ℕ → List Line → List Entry → Type 0
Back how k ls raw = (rs : List Reading) × AllZip (Reads how) ls rs × (raw ≡ entries_from k rs)

back_one : (how : Dialect) (k : ℕ) (l : Line) (ls : List Line) (o : Option HeldInput) → held_as how l ≡ o
    → ((raw : List Entry) → AllZip (ReadsLine how) (held_from how (k + 1) ls) raw → Back how (k + 1) ls raw)
    → (raw : List Entry) → AllZip (ReadsLine how) (before_held (k + 1) o (held_from how (k + 1) ls)) raw → Back how k (l ∷ ls) raw
back_one how k l ls None is more raw h = let rest = more raw h in (blank ∷ rest.0, (blank_reads how l is, rest.1), rest.2)
back_one how k l ls (Some i) is more [] h = absurd h
back_one how k l ls (Some i) is more (e ∷ raw) h =
    let rest = more raw h.1 in
    let own : e ≡ record { number = k + 1; reading = e.reading } = ap (λ (n : ℕ). record { number = n; reading = e.reading }) h.0.number in (
      e.reading ∷ rest.0,
      (held_reads how l i e.reading is h.0.reading, rest.1),
      ap₂ (λ x xs. x ∷ xs) own rest.2 ∙ sym (not_blank how i e.reading (k + 1) (entries_from (k + 1) rest.0) h.0.reading),
    )

pub read_back : (how : Dialect) (k : ℕ) (ls : List Line) (raw : List Entry) → AllZip (ReadsLine how) (held_from how k ls) raw → Back how k ls raw
read_back how k [] [] h = ([], tt, refl)
read_back how k [] (e ∷ raw) h = absurd h
read_back how k (l ∷ ls) raw h = back_one how k l ls (held_as how l) refl (λ rest t. read_back how (k + 1) ls rest t) raw h

-- ---- entries and readings

module _ (how : Dialect) (form : Form) (σ : Setting) where
  kept_entry : (docs : List Doc) (d : Doc) (number : ℕ) (es : List Entry) (b : Bool) → has_room σ docs d ≡ b
      → before_entries number (admit σ docs (document d)) es ≡ record { number = number; reading = admit σ docs (document d) } ∷ es
  kept_entry docs d number es true is = rw is refl
  kept_entry docs d number es false is = rw is refl

  pub admitted_entries : (k : ℕ) (docs : List Doc) (rs : List Reading) → admitted_in σ docs (entries_from k rs) ≡ entries_from k (come_behind (rules_in how form σ) docs tt rs)
  unfolding admitted_in come_behind
  admitted_entries k docs [] = refl
  admitted_entries k docs (blank ∷ rs) = ap (λ ds. admitted_in σ ds (entries_from (k + 1) rs)) (sym (append-nil docs)) ∙ admitted_entries (k + 1) (docs ++ []) rs
  admitted_entries k docs (query j q ∷ rs) = ap (λ es. record { number = k + 1; reading = query j q } ∷ es) (admitted_entries (k + 1) (docs ++ []) rs)
  admitted_entries k docs (refused x ∷ rs) = ap (λ es. record { number = k + 1; reading = refused x } ∷ es) (admitted_entries (k + 1) (docs ++ []) rs)
  admitted_entries k docs (watch w x ∷ rs) = ap (λ es. record { number = k + 1; reading = watch w x } ∷ es) (admitted_entries (k + 1) (docs ++ []) rs)
  admitted_entries k docs (document d ∷ rs) =
      ap (λ es. record { number = k + 1; reading = admit σ docs (document d) } ∷ es) (admitted_entries (k + 1) (docs ++ documents_in (admit σ docs (document d))) rs)
      ∙ sym (kept_entry docs d (k + 1) (entries_from (k + 1) (come_behind (rules_in how form σ) (docs ++ documents_in (admit σ docs (document d))) tt rs)) (has_room σ docs d) refl)

pub added_entries : (k : ℕ) (rs : List Reading) → added (entries_from k rs) ≡ accepted rs
unfolding added accepted
added_entries k [] = refl
added_entries k (blank ∷ rs) = added_entries (k + 1) rs
added_entries k (document d ∷ rs) = ap (λ ds. d ∷ ds) (added_entries (k + 1) rs)
added_entries k (query j q ∷ rs) = added_entries (k + 1) rs
added_entries k (refused x ∷ rs) = added_entries (k + 1) rs
added_entries k (watch w x ∷ rs) = added_entries (k + 1) rs

-- ---- what the round prints

abbrev tail : List Shown → List Shown
tail [] = []
tail (s ∷ ss) = ss

abbrev head_seen : List Shown → ℕ
head_seen [] = 0
head_seen (s ∷ ss) = s.seen

-- how many documents line i of these sees
abbrev pub seen_in : List Reading → List Shown → ℕ → ℕ
seen_in [] ss i = 0
seen_in (blank ∷ rs) ss zero = 0
seen_in (blank ∷ rs) ss (suc i) = seen_in rs ss i
seen_in (document d ∷ rs) ss zero = head_seen ss
seen_in (document d ∷ rs) ss (suc i) = seen_in rs (tail ss) i
seen_in (query k q ∷ rs) ss zero = head_seen ss
seen_in (query k q ∷ rs) ss (suc i) = seen_in rs (tail ss) i
seen_in (refused x ∷ rs) ss zero = head_seen ss
seen_in (refused x ∷ rs) ss (suc i) = seen_in rs (tail ss) i
seen_in (watch w x ∷ rs) ss zero = head_seen ss
seen_in (watch w x ∷ rs) ss (suc i) = seen_in rs (tail ss) i

seen_same : (form : Form) (number n m : ℕ) (docs : List Doc) (r : Reading) → (is_query r ≡ true → m ≡ n) → output_of form number n docs r ≡ output_of form number m docs r
seen_same form number n m docs blank h = refl
seen_same form number n m docs (document d) h = refl
seen_same form number n m docs (query k q) h = ap (λ x. output_of form number x docs (query k q)) (sym (h refl))
seen_same form number n m docs (refused x) h = refl
seen_same form number n m docs (watch w x) h = refl

one_text : (form : Form) (s : Shown) (number : ℕ) (r : Reading) (m : ℕ) (docs : List Doc) → s.line ≡ record { number = number; reading = r }
    → (is_query r ≡ true → m ≡ s.seen) → output_in form docs s ≡ output_of form number m docs r
one_text form s number r m docs e h = ap (λ (x : Entry). output_of form x.number s.seen docs x.reading) e ∙ seen_same form number s.seen m docs r h

further : (rs : List Reading) (ss : List Shown) (r : Reading) (k : ℕ) (n f : ℕ → ℕ) → ((i : ℕ) → IsAsked (r ∷ rs) i → n (k + i) ≡ f i) → (i : ℕ) → IsAsked rs i → n (k + 1 + i) ≡ f (suc i)
further rs ss r k n f h i a = let plus : k + 1 + i ≡ k + suc i = omega arith in ap n plus ∙ h (suc i) a

here : (rs : List Reading) (r : Reading) (k : ℕ) (n f : ℕ → ℕ) → ((i : ℕ) → IsAsked (r ∷ rs) i → n (k + i) ≡ f i) → is_query r ≡ true → n k ≡ f 0
here rs r k n f h a = let plus : k ≡ k + 0 = omega arith in ap n plus ∙ h 0 a

-- what a round prints is what its lines print, where each query sees what it is shown to see
pub round_text : (how : Dialect) (form : Form) (σ : Setting) (n : ℕ → ℕ) (docs : List Doc) (k : ℕ) (rs : List Reading) (ss : List Shown) → map shown_entry ss ≡ entries_from k rs
    → ((i : ℕ) → IsAsked rs i → n (k + i) ≡ seen_in rs ss i) → shown_text form docs ss ≡ body_from (rules_in how form σ) n docs k tt rs
unfolding shown_text body_from
round_text how form σ n docs k [] [] e h = refl
round_text how form σ n docs k [] (s ∷ ss) e h = absurd (cc e)
round_text how form σ n docs k (blank ∷ rs) ss e h = round_text how form σ n docs (k + 1) rs ss e (further rs ss blank k n (seen_in (blank ∷ rs) ss) h)
round_text how form σ n docs k (document d ∷ rs) [] e h = absurd (cc e)
round_text how form σ n docs k (document d ∷ rs) (s ∷ ss) e h =
    let first : s.line ≡ record { number = k + 1; reading = document d } = cc e in
    let rest : map shown_entry ss ≡ entries_from (k + 1) rs = cc e in
    ap₂ (λ a b. a ++ b) (one_text form s (k + 1) (document d) (n k) docs first (here rs (document d) k n (seen_in (document d ∷ rs) (s ∷ ss)) h))
    (round_text how form σ n docs (k + 1) rs ss rest (further rs ss (document d) k n (seen_in (document d ∷ rs) (s ∷ ss)) h))
round_text how form σ n docs k (query j q ∷ rs) [] e h = absurd (cc e)
round_text how form σ n docs k (query j q ∷ rs) (s ∷ ss) e h =
    let first : s.line ≡ record { number = k + 1; reading = query j q } = cc e in
    let rest : map shown_entry ss ≡ entries_from (k + 1) rs = cc e in
    ap₂ (λ a b. a ++ b) (one_text form s (k + 1) (query j q) (n k) docs first (here rs (query j q) k n (seen_in (query j q ∷ rs) (s ∷ ss)) h))
    (round_text how form σ n docs (k + 1) rs ss rest (further rs ss (query j q) k n (seen_in (query j q ∷ rs) (s ∷ ss)) h))
round_text how form σ n docs k (refused x ∷ rs) [] e h = absurd (cc e)
round_text how form σ n docs k (refused x ∷ rs) (s ∷ ss) e h =
    let first : s.line ≡ record { number = k + 1; reading = refused x } = cc e in
    let rest : map shown_entry ss ≡ entries_from (k + 1) rs = cc e in
    ap₂ (λ a b. a ++ b) (one_text form s (k + 1) (refused x) (n k) docs first (here rs (refused x) k n (seen_in (refused x ∷ rs) (s ∷ ss)) h))
    (round_text how form σ n docs (k + 1) rs ss rest (further rs ss (refused x) k n (seen_in (refused x ∷ rs) (s ∷ ss)) h))
round_text how form σ n docs k (watch w x ∷ rs) [] e h = absurd (cc e)
round_text how form σ n docs k (watch w x ∷ rs) (s ∷ ss) e h =
    let first : s.line ≡ record { number = k + 1; reading = watch w x } = cc e in
    let rest : map shown_entry ss ≡ entries_from (k + 1) rs = cc e in
    ap₂ (λ a b. a ++ b) (one_text form s (k + 1) (watch w x) (n k) docs first (here rs (watch w x) k n (seen_in (watch w x ∷ rs) (s ∷ ss)) h))
    (round_text how form σ n docs (k + 1) rs ss rest (further rs ss (watch w x) k n (seen_in (watch w x ∷ rs) (s ∷ ss)) h))

-- ---- what the queries of a round see

after_query : (least : ℕ) (s : Shown) (r : Reading) (number : ℕ) → s.line ≡ record { number = number; reading = r } → is_query r ≡ true → least_after least s ≡ s.seen
after_query least s r number e a = let is : is_query s.line.reading ≡ true = ap (λ (x : Entry). is_query x.reading) e ∙ a in rw is refl

bounds : (k low high : ℕ) (rs : List Reading) (ss : List Shown) → map shown_entry ss ≡ entries_from k rs → Rises low ss high
    → (i : ℕ) → IsAsked rs i → (low ≤ seen_in rs ss i) × (seen_in rs ss i ≤ high)
bounds k low high [] ss e h i a = absurd (cc a)
bounds k low high (blank ∷ rs) ss e h zero a = absurd (cc a)
bounds k low high (blank ∷ rs) ss e h (suc i) a = bounds (k + 1) low high rs ss e h i a
bounds k low high (document d ∷ rs) [] e h i a = absurd (cc e)
bounds k low high (document d ∷ rs) (s ∷ ss) e h zero a = absurd (cc a)
bounds k low high (document d ∷ rs) (s ∷ ss) e h (suc i) a =
    let rest : map shown_entry ss ≡ entries_from (k + 1) rs = cc e in
    let b = bounds (k + 1) (least_after low s) high rs ss rest h.1 i a in (le_trans h.0 b.0, b.1)
bounds k low high (query j q ∷ rs) [] e h i a = absurd (cc e)
bounds k low high (query j q ∷ rs) (s ∷ ss) e h zero a =
    let first : s.line ≡ record { number = k + 1; reading = query j q } = cc e in
    let same = after_query low s (query j q) (k + 1) first refl in
    let le = rises_le (least_after low s) high ss h.1 in
    (subst (λ x. low ≤ x) same h.0, subst (λ x. x ≤ high) same le)
bounds k low high (query j q ∷ rs) (s ∷ ss) e h (suc i) a =
    let rest : map shown_entry ss ≡ entries_from (k + 1) rs = cc e in
    let b = bounds (k + 1) (least_after low s) high rs ss rest h.1 i a in (le_trans h.0 b.0, b.1)
bounds k low high (refused x ∷ rs) [] e h i a = absurd (cc e)
bounds k low high (refused x ∷ rs) (s ∷ ss) e h zero a = absurd (cc a)
bounds k low high (refused x ∷ rs) (s ∷ ss) e h (suc i) a =
    let rest : map shown_entry ss ≡ entries_from (k + 1) rs = cc e in
    let b = bounds (k + 1) (least_after low s) high rs ss rest h.1 i a in (le_trans h.0 b.0, b.1)
bounds k low high (watch w x ∷ rs) [] e h i a = absurd (cc e)
bounds k low high (watch w x ∷ rs) (s ∷ ss) e h zero a = absurd (cc a)
bounds k low high (watch w x ∷ rs) (s ∷ ss) e h (suc i) a =
    let rest : map shown_entry ss ≡ entries_from (k + 1) rs = cc e in
    let b = bounds (k + 1) (least_after low s) high rs ss rest h.1 i a in (le_trans h.0 b.0, b.1)

order : (k low high : ℕ) (rs : List Reading) (ss : List Shown) → map shown_entry ss ≡ entries_from k rs
    → Rises low ss high → (i j : ℕ) → i ≤ j → IsAsked rs i → IsAsked rs j → seen_in rs ss i ≤ seen_in rs ss j
order k low high [] ss e h i j le a b = absurd (cc a)
order k low high (r ∷ rs) ss e h zero zero le a b = le_refl _
order k low high (r ∷ rs) ss e h (suc i) zero le a b = absurd (omega (arith, le))
order k low high (blank ∷ rs) ss e h zero (suc j) le a b = absurd (cc a)
order k low high (blank ∷ rs) ss e h (suc i) (suc j) le a b = order (k + 1) low high rs ss e h i j (omega (arith, le)) a b
order k low high (document d ∷ rs) [] e h i j le a b = absurd (cc e)
order k low high (document d ∷ rs) (s ∷ ss) e h zero (suc j) le a b = absurd (cc a)
order k low high (document d ∷ rs) (s ∷ ss) e h (suc i) (suc j) le a b =
    let rest : map shown_entry ss ≡ entries_from (k + 1) rs = cc e in order (k + 1) (least_after low s) high rs ss rest h.1 i j (omega (arith, le)) a b
order k low high (query n q ∷ rs) [] e h i j le a b = absurd (cc e)
order k low high (query n q ∷ rs) (s ∷ ss) e h zero (suc j) le a b =
    let first : s.line ≡ record { number = k + 1; reading = query n q } = cc e in
    let rest : map shown_entry ss ≡ entries_from (k + 1) rs = cc e in
    let same = after_query low s (query n q) (k + 1) first refl in
    subst (λ x. x ≤ seen_in rs ss j) same (bounds (k + 1) (least_after low s) high rs ss rest h.1 j b).0
order k low high (query n q ∷ rs) (s ∷ ss) e h (suc i) (suc j) le a b =
    let rest : map shown_entry ss ≡ entries_from (k + 1) rs = cc e in order (k + 1) (least_after low s) high rs ss rest h.1 i j (omega (arith, le)) a b
order k low high (refused x ∷ rs) [] e h i j le a b = absurd (cc e)
order k low high (refused x ∷ rs) (s ∷ ss) e h zero (suc j) le a b = absurd (cc a)
order k low high (refused x ∷ rs) (s ∷ ss) e h (suc i) (suc j) le a b =
    let rest : map shown_entry ss ≡ entries_from (k + 1) rs = cc e in order (k + 1) (least_after low s) high rs ss rest h.1 i j (omega (arith, le)) a b
order k low high (watch w x ∷ rs) [] e h i j le a b = absurd (cc e)
order k low high (watch w x ∷ rs) (s ∷ ss) e h zero (suc j) le a b = absurd (cc a)
order k low high (watch w x ∷ rs) (s ∷ ss) e h (suc i) (suc j) le a b =
    let rest : map shown_entry ss ≡ entries_from (k + 1) rs = cc e in order (k + 1) (least_after low s) high rs ss rest h.1 i j (omega (arith, le)) a b

pub round_sees : (k low high : ℕ) (rs : List Reading) (ss : List Shown) → map shown_entry ss ≡ entries_from k rs → Rises low ss high → SeesWithin rs (seen_in rs ss) low high
round_sees k low high rs ss e h = record {
  least = λ i a. (bounds k low high rs ss e h i a).0;
  most = λ i a. (bounds k low high rs ss e h i a).1;
  rises = order k low high rs ss e h;
}
