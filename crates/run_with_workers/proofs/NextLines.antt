-- The next line is printed.
use Rattle.std.proofs.Common.{◌≡◌, ℕ, suc, ◌+◌, ◌<◌, ◌≤◌, ◌⊎◌, inl, inr, true, false, List, [], ◌∷◌, ◌++◌, length, take, refl, sym, ap, ap₂, subst, ◌∙◌, arith, length-append}
use Rattle.run_store.specs.Rows.{joined_numbers}
use Rattle.run_store.specs.Rules.{Rules}
use Rattle.run_store.specs.Sees.{is_asked, IsAsked}
use Rattle.run_store.specs.Text.{says, body_from}
use Rattle.run_store.proofs.Seeing.{told_front}
use Rattle.run_store.proofs.Texts.{body_append, body_one}
use Rattle.eb_base.specs.Document.{Doc}
use Rattle.eb_desk.specs.declared.rule.Pair.{Pair}
use Rattle.eb_lines.specs.Reading.{Reading, blank, document, query, refused, watch}
use Rattle.eb_lines.specs.Progress.{documents_in, accepted, told, is_query, is_refused}
use Rattle.eb_lines.specs.Text.{answer_line, watch_line}
use Rattle.eb_lines.proofs.Counted.{counted_as}
use Rattle.eb_lines.proofs.Advancing.{told-length}
use Rattle.run_with_workers.specs.declared.waiting.Waiting.{Waiting}
use Rattle.run_with_workers.specs.declared.waiting.Waiting.TheVariants as waits
use Rattle.run_with_workers.specs.Waiting.{IsReady, WaitsAs, AreWaiting, printed_by}
use Rattle.run_with_workers.specs.Bodies.{joined_front, joined_back, joined_body, side, get_here, get_behind, asked_front}

-- how many documents an answer saw
abbrev pub seen_by : Waiting → ℕ
seen_by waits.Nothing = 0
seen_by (waits.Refused x) = 0
seen_by (waits.Asked t) = 0
seen_by (waits.Answered seen frame) = seen
seen_by (waits.Counted c) = c.seen

module _ (rules : Rules (Unit {0})) where
  quiet_says : ((d : Doc) → rules.tells tt d ≡ []) → (number seen : ℕ) (docs : List Doc) (r : Reading) → is_query r ≡ false → is_refused r ≡ false → says rules number seen docs tt r ≡ []
  quiet_says silent number seen docs blank e f = refl
  quiet_says silent number seen docs (document d) e f = ap (watch_line rules.form number) (silent d)
  quiet_says silent number seen docs (query k q) e f = absurd (cc e)
  quiet_says silent number seen docs (refused x) e f = absurd (cc f)
  quiet_says silent number seen docs (watch n q) e f = refl

  pub prints_as : ((d : Doc) → rules.tells tt d ≡ []) → (docs : List Doc) (ps : List Pair) (t m : ℕ) (r : Reading) (w : Waiting) (number : ℕ) → IsReady w → WaitsAs rules docs ps t m r w
      → printed_by rules.form number w ≡ says rules number (seen_by w) docs tt r
  prints_as silent docs ps t m r waits.Nothing number ready h = sym (quiet_says silent number 0 docs r h.asks h.fails)
  prints_as silent docs ps t m r (waits.Refused x) number ready h = sym (ap (says rules number 0 docs tt) h)
  prints_as silent docs ps t m r (waits.Asked told) number ready h = absurd ready
  prints_as silent docs ps t m r (waits.Answered seen frame) number ready h = ap (answer_line rules.form number seen) h.3 ∙ sym (ap (says rules number seen docs tt) h.0)
  prints_as silent docs ps t m r (waits.Counted c) number ready h =
      counted_as rules.form number c.seen h.0 (rules.sees (take c.seen docs)) c.tally c.tally.start c.tally.width (length c.tally.buckets) refl refl refl h.4
      ∙ sym (ap (says rules number c.seen docs tt) h.1)

  pub seen_within : (docs : List Doc) (ps : List Pair) (t m : ℕ) (r : Reading) (w : Waiting) → WaitsAs rules docs ps t m r w → seen_by w ≤ length docs
  seen_within docs ps t m r waits.Nothing h = omega arith
  seen_within docs ps t m r (waits.Refused x) h = omega arith
  seen_within docs ps t m r (waits.Asked told) h = omega arith
  seen_within docs ps t m r (waits.Answered seen frame) h = h.2
  seen_within docs ps t m r (waits.Counted c) h = h.3

  pub told_least : (docs : List Doc) (ps : List Pair) (t m : ℕ) (r : Reading) (w : Waiting) → IsReady w → WaitsAs rules docs ps t m r w → is_query r ≡ true → t ≤ seen_by w
  told_least docs ps t m r waits.Nothing ready h e = let no : ⊥ = cc (h.asks, e) in absurd no
  told_least docs ps t m r (waits.Refused x) ready h e = let no : ⊥ = cc (h, e) in absurd no
  told_least docs ps t m r (waits.Asked told) ready h e = absurd ready
  told_least docs ps t m r (waits.Answered seen frame) ready h e = h.1
  told_least docs ps t m r (waits.Counted c) ready h e = h.2

  pub split_waiting : (docs : List Doc) (ps : List Pair) (t m : ℕ) (rs : List Reading) (w : Waiting) (ws : List Waiting) → AreWaiting rules docs ps t m rs (w ∷ ws)
      → (r : Reading) × (rest : List Reading) × (rs ≡ r ∷ rest) × WaitsAs rules docs ps t m r w × AreWaiting rules docs ps (t + length (documents_in r)) (suc m) rest ws
  split_waiting docs ps t m [] w ws h = absurd h
  split_waiting docs ps t m (r ∷ rest) w ws h = (r, rest, refl, h.0, h.1)

  -- lines that are done, and one more after them
  module _ (docs : List Doc) (ps : List Pair) (m : ℕ) (done : List Reading) (r : Reading) (w : Waiting) (n : ℕ → ℕ) (ready : IsReady w)
      (stands : WaitsAs rules docs ps (length (accepted done)) m r w) where
    abbrev pub numbers_on : ℕ → ℕ
    numbers_on = joined_numbers (length done) n (λ i. seen_by w)

    at_end : numbers_on (length done) ≡ seen_by w
    at_end = joined_back (length done) n (λ i. seen_by w) (length done) (omega arith)

    pub least_on : ((j : ℕ) → IsAsked done j → told done j ≤ n j) → (j : ℕ) → IsAsked (done ++ r ∷ []) j → told (done ++ r ∷ []) j ≤ numbers_on j
    least_on least j e = elim (side j (length done)) [
      | inl low ↦ omega (arith, told_front done (r ∷ []) j (omega (arith, low)), joined_front (length done) n (λ i. seen_by w) j low, least j (asked_front done (r ∷ []) j low e))
      | inr high ↦ here high (side j (length done + 1))
    ]
      where
        here : length done ≤ j → (j < length done + 1) ⊎ (length done + 1 ≤ j) → told (done ++ r ∷ []) j ≤ numbers_on j
        here high (inl low) =
            let is : length done ≡ j = omega (arith, high, low) in
            let asks : is_query r ≡ true = ap is_asked (sym (get_here done r [])) ∙ subst (λ i. IsAsked (done ++ r ∷ []) i) (sym is) e in
            subst (λ i. told (done ++ r ∷ []) i ≤ numbers_on i) is
            (omega (arith, told_front done (r ∷ []) (length done) (omega arith), told-length done, at_end, told_least docs ps (length (accepted done)) m r w ready stands asks))
        here high (inr far) =
            let none = get_behind (done ++ r ∷ []) j (omega (arith, far, length-append done (r ∷ []))) in
            let no : ⊥ = cc (none, e) in absurd no

    pub most_on : ((j : ℕ) → n j ≤ length docs) → (j : ℕ) → numbers_on j ≤ length docs
    most_on most j = elim (side j (length done)) [
      | inl low ↦ omega (arith, joined_front (length done) n (λ i. seen_by w) j low, most j)
      | inr high ↦ omega (arith, joined_back (length done) n (λ i. seen_by w) j high, seen_within docs ps (length (accepted done)) m r w stands)
    ]

    pub body_on : ((d : Doc) → rules.tells tt d ≡ []) → (number : ℕ) → number ≡ length done + 1
        → body_from rules numbers_on docs 0 tt (done ++ r ∷ []) ≡ body_from rules n docs 0 tt done ++ printed_by rules.form number w
    body_on silent number is =
        body_append rules numbers_on docs 0 (length done) tt done (r ∷ []) (omega arith)
        ∙ ap₂ (λ x y. x ++ y) (joined_body (length done) n (λ i. seen_by w) rules docs done refl)
        (body_one rules numbers_on docs (length done) tt r ∙ ap₂ (λ i s. says rules i s docs tt r) (sym is) at_end
        ∙ sym (prints_as silent docs ps (length (accepted done)) m r w number ready stands))
