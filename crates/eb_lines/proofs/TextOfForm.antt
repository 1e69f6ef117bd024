-- A line in the form that is asked for.
use Rattle.std.proofs.Common.{◌≡◌, ℕ, true, false, List, [], ◌∷◌, ◌++◌, refl, ap, sym, ◌∙◌}
use Rattle.std.specs.Prelude.{if◌then◌else◌}
use Rattle.eb_lines.specs.declared.form.Form.{Form}
use Rattle.eb_lines.specs.declared.form.Tail.{Tail}
use Rattle.eb_lines.specs.declared.refusal.Refusal.{Refusal}
use Rattle.eb_lines.specs.Words.{answer_words, count_words, watch_words, refusal_words, summary_words}
use Rattle.eb_lines.specs.Values.{json_line, answer_value, count_value, watch_value, refusal_value, summary_value, segments_lines}
use Rattle.eb_lines.specs.JsonTexts.{answer_text, count_text, watch_text, refusal_text, summary_text}
use Rattle.eb_lines.specs.Text.{answer_line, count_line, some_watch_line, watch_line, refusal_line, summary_with}
use Rattle.eb_lines.proofs.JsonLines.{answer_json, count_json, watch_json, refusal_json, summary_json}

module _ (form : Form) where
  module _ (is : form.json ≡ true) where
    pub json_answer : (number seen : ℕ) (ids : List ℕ) → answer_text number seen ids ≡ answer_line form number seen ids
    unfolding answer_line
    json_answer number seen ids = answer_json number seen ids ∙ ap (λ b. if b then json_line (answer_value number seen ids) else answer_words number seen ids) (sym is)

    pub json_count : (number seen total : ℕ) (bs : List ℕ) → count_text number seen total bs ≡ count_line form number seen total bs
    unfolding count_line
    json_count number seen total bs = count_json number seen total bs ∙ ap (λ b. if b then json_line (count_value number seen total bs) else count_words number seen total bs) (sym is)

    pub json_watch : (number : ℕ) (ns : List ℕ) → watch_text number ns ≡ some_watch_line form number ns
    unfolding some_watch_line
    json_watch number ns = watch_json number ns ∙ ap (λ b. if b then json_line (watch_value number ns) else watch_words number ns) (sym is)

    pub json_refusal : (number : ℕ) (r : Refusal) → refusal_text number r ≡ refusal_line form number r
    unfolding refusal_line
    json_refusal number r = refusal_json number r ∙ ap (λ b. if b then json_line (refusal_value number r) else refusal_words number r) (sym is)

    pub json_summary : (d q r : ℕ) (t : Tail) → summary_text d q r t ≡ summary_with form d q r t
    unfolding summary_with
    json_summary d q r t = summary_json d q r t ∙ ap (λ b. if b then json_line (summary_value d q r t) ++ segments_lines t else summary_words d q r t) (sym is)

  module _ (is : form.json ≡ false) where
    pub word_answer : (number seen : ℕ) (ids : List ℕ) → answer_words number seen ids ≡ answer_line form number seen ids
    unfolding answer_line
    word_answer number seen ids = ap (λ b. if b then json_line (answer_value number seen ids) else answer_words number seen ids) (sym is)

    pub word_count : (number seen total : ℕ) (bs : List ℕ) → count_words number seen total bs ≡ count_line form number seen total bs
    unfolding count_line
    word_count number seen total bs = ap (λ b. if b then json_line (count_value number seen total bs) else count_words number seen total bs) (sym is)

    pub word_watch : (number : ℕ) (ns : List ℕ) → watch_words number ns ≡ some_watch_line form number ns
    unfolding some_watch_line
    word_watch number ns = ap (λ b. if b then json_line (watch_value number ns) else watch_words number ns) (sym is)

    pub word_refusal : (number : ℕ) (r : Refusal) → refusal_words number r ≡ refusal_line form number r
    unfolding refusal_line
    word_refusal number r = ap (λ b. if b then json_line (refusal_value number r) else refusal_words number r) (sym is)

    pub word_summary : (d q r : ℕ) (t : Tail) → summary_words d q r t ≡ summary_with form d q r t
    unfolding summary_with
    word_summary d q r t = ap (λ b. if b then json_line (summary_value d q r t) ++ segments_lines t else summary_words d q r t) (sym is)

  -- where some watch is listed
  pub watch_told : (number : ℕ) (ns : List ℕ) → (ns ≡ [] → ⊥) → some_watch_line form number ns ≡ watch_line form number ns
  watch_told number [] some = absurd (some refl)
  watch_told number (n ∷ ns) some = refl
