-- A run before its first line, and at its end.
use Rattle.eb_fields.specs.Dialect.{Dialect}
use Rattle.std.proofs.Common.{◌≡◌, ℕ, List, [], ◌++◌, length, refl, sym, ap, ap₂, subst, ◌∙◌, arith}
use Rattle.run_store.specs.Answering.{body_text}
use Rattle.run_store.specs.Rules.{is_bad, HasRefusal, HasNoRefusal}
use Rattle.run_store.specs.Sees.{between}
use Rattle.run_store.specs.Text.{body_from, end_of, IsBody, IsText}
use Rattle.run_store.proofs.Coming.{read_none}
use Rattle.run_store.proofs.OneText.{told_reaches}
use Rattle.run_store.proofs.Texts.{body_empty}
use Rattle.eb_base.specs.Document.{Doc}
use Rattle.eb_base.specs.Setting.{Setting}
use Rattle.eb_io.specs.Lines.{Line}
use Rattle.eb_lines.specs.declared.form.Form.{Form}
use Rattle.eb_lines.specs.Programs.{Finishes}
use Rattle.eb_lines.specs.Progress.{accepted, queries, refusals, told}
use Rattle.eb_lines.specs.Text.{summary_with}
use Rattle.eb_place.specs.Room.{cut}
use Rattle.run_index.specs.Conversions.{most_converted}
use Rattle.run_index.specs.IndexRules.{segments_tail}
use Rattle.eb_rounds.specs.Shown.{Counted}
use Rattle.eb_rounds.specs.Standing.{Standing, no_counts}
use Rattle.eb_table.specs.Known.{Words}
use Rattle.eb_run.specs.declared.running.Running.{Running}
use Rattle.eb_run.specs.Running.{Asked, rules_of, HasRun, HoldsNone}
use Rattle.eb_run.specs.Waiting.{rules_in, HasGathered, HasSettled}
use Rattle.eb_run.proofs.Waits.{gathered_none, all_settled}

-- ---- before the first line

settled_none : (how : Dialect) (form : Form) (σ : Setting) → HasSettled how form σ [] [] no_counts []
unfolding accepted queries refusals body_from
settled_none how form σ = record { readings = []; numbers = told []; read = read_none (rules_in how form σ) is_bad; sees = told_reaches between []; adds = refl; counted = refl; printed = refl }

pub worked_none : (how : Dialect) (form : Form) (σ : Setting) (held : Standing) → held ≡ record { ahead = []; held = []; counts = no_counts; greatest = 0 }
    → HasGathered how form σ [] [] held []
worked_none how form σ held e =
    let s = subst (λ c. HasSettled how form σ [] [] c []) (sym (ap (λ (h : Standing). h.counts) e)) (settled_none how form σ) in
    gathered_none how form σ [] [] held [] s (ap (λ (h : Standing). h.ahead) e) (ap (λ (h : Standing). h.held) e) (omega (arith, ap (λ (h : Standing). h.greatest) e))

abbrev body_of : (a : Asked) (given : List Line) (so_far : List ℕ) (docs : List Doc) (counts : Counted) → HasSettled a.dialect a.form a.setting given docs counts so_far
    → IsBody is_bad between (rules_of a) given so_far
body_of a given so_far docs counts s =
    record { readings = s.readings; numbers = s.numbers; read = s.read; reach = s.sees; bytes = s.printed ∙ sym (body_empty (rules_of a) refl s.numbers s.readings) }

-- ---- where no line is held

abbrev last : (r : Running) (a : Asked) (given : List Line) (so_far : List ℕ) → HasRun r a given so_far → HoldsNone r → HasSettled a.dialect a.form a.setting given r.writer.docs r.rounds.counts so_far
last r a given so_far h none = all_settled a.dialect a.form a.setting given r.writer.docs r.rounds so_far h.worked none.0 none.1

-- all lines given are processed, and the run printed what they print
pub run_body : (r : Running) (a : Asked) (given : List Line) (so_far : List ℕ) → HasRun r a given so_far → HoldsNone r → IsBody is_bad between (rules_of a) given so_far
run_body r a given so_far h none = body_of a given so_far r.writer.docs r.rounds.counts (last r a given so_far h none)

-- a program that has such a run in it put the end after the text
pub run_finishes : {P : Type 0} (has_run : P → Asked → List Line → List ℕ → Type 0) (p : P) (r : Running) (t0 t1 : List ℕ)
    (documents answers refused begun converted : ℕ) (a : Asked) (given : List Line) (so_far : List ℕ)
    → t1 ≡ t0 ++ summary_with r.form documents answers refused (segments_tail r.form begun converted)
    → (documents ≡ r.rounds.counts.documents) × (answers ≡ r.rounds.counts.queries) × (refused ≡ r.rounds.counts.refused)
    → begun ≡ length (cut r.index.setting r.writer.docs) → converted ≡ most_converted (length (cut r.index.setting r.writer.docs))
    → HoldsNone r → HasRun r a given so_far
    → Finishes has_run (λ x. IsText is_bad between (rules_of x)) (λ x. HasRefusal is_bad (rules_of x)) (λ x. HasNoRefusal is_bad (rules_of x)) p t0 t1 refused a given so_far
run_finishes has_run p r t0 t1 documents answers refused begun converted a given so_far put counts segments packed none h =
    let s = last r a given so_far h none in
    let rs = s.readings in
    let cuts : length (cut r.index.setting r.writer.docs) ≡ length (cut a.setting (accepted rs)) =
    ap₂ (λ σ ds. length (cut σ ds)) (ap (λ (w : Words). w.setting) h.index ∙ h.setting) s.adds in
    let failed : refused ≡ refusals rs = counts.2 ∙ ap (λ (c : Counted). c.refused) s.counted in
    let added : documents ≡ length (accepted rs) = counts.0 ∙ ap (λ (c : Counted). c.documents) s.counted in
    let answered : answers ≡ queries rs = counts.1 ∙ ap (λ (c : Counted). c.queries) s.counted in
    let begun_is = segments ∙ cuts in
    let converted_is = packed ∙ ap most_converted cuts in
    record {
      printed = end_of (rules_of a) rs;
      whole = body_text is_bad between (rules_of a) given so_far (body_of a given so_far r.writer.docs r.rounds.counts s);
      text = put ∙ (λ i. t0 ++ summary_with (h.form i) (added i) (answered i) (failed i) (segments_tail (h.form i) (begun_is i) (converted_is i)));
      some = λ n e. (rs, s.read, omega (arith, e, failed));
      none = λ e. (rs, s.read, sym failed ∙ e);
    }
