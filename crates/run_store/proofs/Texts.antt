-- The text of some lines, with more lines, and among more documents.
use Rattle.std.proofs.Common.{◌≡◌, ℕ, ◌+◌, ◌<◌, ◌≤◌, List, [], ◌∷◌, ◌++◌, length, take, refl, sym, ap, ap₂, ◌∙◌, arith, append_assoc, append-nil, length-append}
use Rattle.std.proofs.lemmas.List.{take-append-le}
use Rattle.std.proofs.Math.Seq.{take-length}
use Rattle.eb_base.specs.Document.{Doc}
use Rattle.eb_lines.specs.Progress.{documents_in, accepted, told}
use Rattle.eb_lines.specs.Reading.{Reading, blank, document, query, refused, watch}
use Rattle.eb_lines.specs.Text.{asked_line}
use Rattle.eb_lines.proofs.Advancing.{accepted-push, told-length, told_within}
use Rattle.run_store.specs.Rules.{Rules, watches_after, watches_from, held_behind, watches_behind}
use Rattle.run_store.specs.Text.{says, body_from, body}
use Rattle.run_store.proofs.Seeing.{told_front}

module _ {W : Type 0} (rules : Rules W) where
  pub says_same : (number n m : ℕ) (docs docs' : List Doc) (ws : W) (r : Reading) → n ≡ m → take n docs ≡ take n docs' → says rules number n docs ws r ≡ says rules number m docs' ws r
  says_same number n m docs docs' ws blank e f = refl
  says_same number n m docs docs' ws (document d) e f = refl
  says_same number n m docs docs' ws (query k q) e f = ap₂ (λ s ds. asked_line rules.form number s k q (rules.sees ds)) e (f ∙ ap (λ s. take s docs') e)
  says_same number n m docs docs' ws (refused x) e f = refl
  says_same number n m docs docs' ws (watch w q) e f = refl

  pub body_same : (n m : ℕ → ℕ) (docs docs' : List Doc) (j : ℕ) (ws : W) (rs : List Reading) → ((i : ℕ) → j ≤ i → i < j + length rs → (n i ≡ m i) × (take (n i) docs ≡ take (n i) docs'))
      → body_from rules n docs j ws rs ≡ body_from rules m docs' j ws rs
  unfolding body_from
  body_same n m docs docs' j ws [] h = refl
  body_same n m docs docs' j ws (r ∷ rs) h =
      let here = h j (omega arith) (omega arith) in
      ap₂ (λ a b. a ++ b) (says_same (j + 1) (n j) (m j) docs docs' ws r here.0 here.1)
      (body_same n m docs docs' (j + 1) (watches_after rules ws r) rs (λ i low high. h i (omega (arith, low)) (omega (arith, high))))

  pub body_none : (n : ℕ → ℕ) (docs : List Doc) (j : ℕ) (ws : W) → body_from rules n docs j ws [] ≡ []
  unfolding body_from
  body_none n docs j ws = refl

  pub body_one : (n : ℕ → ℕ) (docs : List Doc) (j : ℕ) (ws : W) (r : Reading) → body_from rules n docs j ws (r ∷ []) ≡ says rules (j + 1) (n j) docs ws r
  unfolding body_from
  body_one n docs j ws r = append-nil (says rules (j + 1) (n j) docs ws r)

  pub body_append : (n : ℕ → ℕ) (docs : List Doc) (j q : ℕ) (ws : W) (rs ss : List Reading) → q ≡ j + length rs
      → body_from rules n docs j ws (rs ++ ss) ≡ body_from rules n docs j ws rs ++ body_from rules n docs q (watches_from rules ws rs) ss
  unfolding body_from watches_from
  body_append n docs j q ws [] ss e = ap (λ k. body_from rules n docs k ws ss) (let same : j ≡ q = omega (arith, e) in same)
  body_append n docs j q ws (r ∷ rs) ss e =
      let own = says rules (j + 1) (n j) docs ws r in
      let next = watches_after rules ws r in
      ap (λ b. own ++ b) (body_append n docs (j + 1) q next rs ss (omega (arith, e)))
      ∙ sym (append_assoc own (body_from rules n docs (j + 1) next rs) (body_from rules n docs q (watches_from rules next rs) ss))

  -- lines print the same among more documents
  pub body_grown : (n : ℕ → ℕ) (docs more : List Doc) (j : ℕ) (ws : W) (rs : List Reading) → ((i : ℕ) → n i ≤ length docs) → body_from rules n docs j ws rs ≡ body_from rules n (docs ++ more) j ws rs
  body_grown n docs more j ws rs most = body_same n n docs (docs ++ more) j ws rs (λ i low high. (refl, sym (take-append-le (n i) docs more (most i))))

  -- a query sees all documents, if it sees as many
  pub says_all : (number : ℕ) (docs : List Doc) (ws : W) (a : _) (q : _) → says rules number (length docs) docs ws (query a q) ≡ asked_line rules.form number (length docs) a q (rules.sees docs)
  says_all number docs ws a q = ap (λ ds. asked_line rules.form number (length docs) a q (rules.sees ds)) (take-length docs)

  -- ---- where nothing was held at first

  pub body_empty : rules.start ≡ [] → (n : ℕ → ℕ) (rs : List Reading) → body rules n rs ≡ body_from rules n (accepted rs) 0 rules.watches rs
  body_empty none n rs =
      let each : (j : ℕ) → length rules.start + n j ≡ n j = λ j. omega (arith, ap length none) in
      let all : (λ j. length rules.start + n j) ≡ n = λ i j. each j i in
      ap₂ (λ m (ds : List Doc). body_from rules m (ds ++ accepted rs) 0 rules.watches rs) all none

  -- ---- where queries see the documents before their lines

  pub body-nil : (n : ℕ → ℕ) → body rules n [] ≡ []
  body-nil n = body_none (λ j. length rules.start + n j) (held_behind rules []) 0 rules.watches

  pub body-push : (rs : List Reading) (r : Reading) → body rules (told (rs ++ r ∷ [])) (rs ++ r ∷ [])
      ≡ body rules (told rs) rs ++ says rules (length rs + 1) (length (held_behind rules rs)) (held_behind rules rs) (watches_behind rules rs) r
  body-push rs r =
      let docs = held_behind rules rs in
      let more = documents_in r in
      let ws = watches_behind rules rs in
      let n : ℕ → ℕ = λ j. length rules.start + told rs j in
      let m : ℕ → ℕ = λ j. length rules.start + told (rs ++ r ∷ []) j in
      let all : held_behind rules (rs ++ r ∷ []) ≡ docs ++ more =
      ap (λ ds. rules.start ++ ds) (accepted-push rs r) ∙ sym (append_assoc rules.start (accepted rs) more) in
      let long : length docs ≡ length rules.start + length (accepted rs) = length-append rules.start (accepted rs) in
      let last : m (length rs) ≡ length docs = omega (arith, long, told_front rs (r ∷ []) (length rs) (omega arith), told-length rs) in
      ap (λ ds. body_from rules m ds 0 rules.watches (rs ++ r ∷ [])) all
      ∙ body_append m (docs ++ more) 0 (length rs) rules.watches rs (r ∷ []) (omega arith)
      ∙ ap₂ (λ a b. a ++ b) (body_same m n (docs ++ more) docs 0 rules.watches rs (λ i low high.
      let same : m i ≡ n i = ap (λ k. length rules.start + k) (told_front rs (r ∷ []) i (omega (arith, high))) in
      (same, take-append-le (m i) docs more (omega (arith, long, same, told_within rs i)))))
      (body_one m (docs ++ more) (length rs) ws r
      ∙ says_same (length rs + 1) (m (length rs)) (length docs) (docs ++ more) docs ws r last (take-append-le (m (length rs)) docs more (omega (arith, last))))
