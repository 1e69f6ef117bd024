-- What a run has printed is a prefix of a whole text.
use Rattle.std.proofs.Common.{◌≡◌, ℕ, ◌+◌, ◌-◌, ◌≤◌, inl, inr, List, [], ◌++◌, length, refl, sym, ap, ◌∙◌, arith, append-nil}
use Rattle.run_store.specs.Rows.{joined_numbers}
use Rattle.run_store.specs.Rules.{Rules, is_bad}
use Rattle.run_store.specs.Sees.{SeesTold, at_least}
use Rattle.run_store.specs.Text.{body, body_from, IsBody}
use Rattle.run_store.proofs.Seeing.{told_front}
use Rattle.run_store.proofs.Texts.{body_append, body_empty}
use Rattle.eb_base.specs.Document.{Doc}
use Rattle.eb_desk.specs.declared.rule.Pair.{Pair}
use Rattle.eb_io.specs.Lines.{Line}
use Rattle.eb_lines.specs.Programs.{PrintsFront}
use Rattle.eb_lines.specs.Reading.{Reading}
use Rattle.eb_lines.specs.Progress.{accepted, told}
use Rattle.eb_lines.proofs.Advancing.{told_within}
use Rattle.run_with_workers.specs.declared.serving.Serving.{Serving}
use Rattle.run_with_workers.specs.Serving.{HasServed}
use Rattle.run_with_workers.specs.Bodies.{joined_front, joined_back, joined_body, side, asked_front}

module _ {O A : Type 0} (holds : O → Rules (Unit {0}) → List Doc → Unit {0} → Type 0) (asked : O → List Pair) (s : Serving O A) (rules : Rules (Unit {0})) (given : List Line) (so_far : List ℕ)
    (h : HasServed holds asked s rules given so_far) where
  abbrev pub all_readings : List Reading
  all_readings = h.done ++ h.ahead

  abbrev pub back : ℕ → ℕ
  back i = told all_readings (length h.done + i)

  abbrev pub numbers_all : ℕ → ℕ
  numbers_all = joined_numbers (length h.done) h.numbers back

  back_is : (j : ℕ) → length h.done ≤ j → numbers_all j ≡ told all_readings j
  back_is j high =
      let same : length h.done + (j - length h.done) ≡ j = omega (arith, high) in
      joined_back (length h.done) h.numbers back j high ∙ ap (told all_readings) same

  pub sees_all : SeesTold all_readings numbers_all
  sees_all = record {
    least = λ j e. elim (side j (length h.done)) [
      | inl low ↦ omega (arith, told_front h.done h.ahead j (omega (arith, low)), joined_front (length h.done) h.numbers back j low, h.least j (asked_front h.done h.ahead j low e))
      | inr high ↦ omega (arith, back_is j high)
    ];
    most = λ j e. elim (side j (length h.done)) [
      | inl low ↦ omega (arith, joined_front (length h.done) h.numbers back j low, h.most j)
      | inr high ↦ omega (arith, back_is j high, told_within all_readings j)
    ];
  }

  abbrev pub rest : List ℕ
  rest = body_from rules numbers_all (accepted all_readings) (length h.done) tt h.ahead

  pub body_all : body rules numbers_all all_readings ≡ so_far ++ rest
  body_all =
      body_empty rules h.start numbers_all all_readings
      ∙ body_append rules numbers_all (accepted all_readings) 0 (length h.done) tt h.done h.ahead (omega arith)
      ∙ ap (λ b. b ++ rest) (joined_body (length h.done) h.numbers back rules (accepted all_readings) h.done refl ∙ sym h.printed)

  -- what was printed is a prefix of what the lines given print
  pub served_first : PrintsFront (IsBody is_bad at_least) rules given so_far
  served_first = (given, [], rest, sym (append-nil given), record { readings = all_readings; numbers = numbers_all; read = h.read; reach = sees_all; bytes = sym body_all })
