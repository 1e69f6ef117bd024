-- Where no line waits, a run has printed all that its lines print.
use Rattle.std.proofs.Common.{◌≡◌, ℕ, ◌+◌, ◌≤◌, List, [], ◌∷◌, ◌++◌, length, refl, sym, ap, ◌∙◌, arith, append-nil}
use Rattle.std.specs.Prelude.{◌^◌}
use Rattle.run_store.specs.Answering.{body_text}
use Rattle.run_store.specs.Rules.{Rules, is_bad, held_behind, HasRefusal, HasNoRefusal}
use Rattle.run_store.specs.Sees.{at_least}
use Rattle.run_store.specs.Stores.{HasForm}
use Rattle.run_store.specs.Text.{body, body_from, end_of, IsBody, IsText}
use Rattle.run_store.proofs.Texts.{body_none}
use Rattle.eb_base.specs.Document.{Doc}
use Rattle.eb_desk.specs.declared.rule.Pair.{Pair}
use Rattle.eb_io.specs.Lines.{Line}
use Rattle.eb_lines.specs.declared.form.Form.{Form}
use Rattle.eb_lines.specs.declared.form.Tail.{Tail}
use Rattle.eb_lines.specs.Programs.{Finishes}
use Rattle.eb_lines.specs.Progress.{accepted}
use Rattle.eb_lines.specs.Text.{summary_with}
use Rattle.run_with_workers.specs.declared.serving.Serving.{Serving}
use Rattle.run_with_workers.specs.Serving.{HasServed}
use Rattle.run_with_workers.specs.ServingLaws.{numbers_all, sees_all, body_all}
use Rattle.run_with_workers.proofs.Servings.{few_held}
use Rattle.run_with_workers.proofs.Waits.{waiting_long}

none_left : {A : Type 0} (xs : List A) → length xs ≡ 0 → xs ≡ []
none_left [] e = refl
none_left (x ∷ xs) e = absurd (omega (arith, e))

module _ {O A : Type 0} (holds : O → Rules (Unit {0}) → List Doc → Unit {0} → Type 0) (asked : O → List Pair) where
  module _ (s : Serving O A) (rules : Rules (Unit {0})) (given : List Line) (so_far : List ℕ) (h : HasServed holds asked s rules given so_far) (none : s.waiting.items ≡ []) where
    pub body_over : so_far ≡ body rules (numbers_all holds asked s rules given so_far h) (h.done ++ h.ahead)
    body_over =
        let docs = accepted (h.done ++ h.ahead) in
        let n = numbers_all holds asked s rules given so_far h in
        let empty : h.ahead ≡ [] = none_left h.ahead (waiting_long rules docs (asked s.office) (length (accepted h.done)) (length h.done + 1) h.ahead s.waiting.items h.waiting ∙ ap length none) in
        let over : body_from rules n docs (length h.done) tt h.ahead ≡ [] = ap (body_from rules n docs (length h.done) tt) empty ∙ body_none rules n docs (length h.done) tt in
        sym (body_all holds asked s rules given so_far h ∙ ap (λ b. so_far ++ b) over ∙ append-nil so_far)

    -- where no line waits, what was printed is what all lines print
    abbrev pub served_body : IsBody is_bad at_least rules given so_far
    served_body = record {
      readings = h.done ++ h.ahead;
      numbers = numbers_all holds asked s rules given so_far h;
      read = h.read;
      reach = sees_all holds asked s rules given so_far h;
      bytes = body_over;
    }

  pub served_ends : (s : Serving O A) (form : Form) → HasForm holds s.office form → (t0 t1 : List ℕ) (documents : ℕ) (tail : Tail) → t1 ≡ t0 ++ summary_with form documents s.queries s.refused tail
      → ((rules : Rules (Unit {0})) (docs : List Doc) (ws : Unit {0}) → holds s.office rules docs ws → length docs ≤ length rules.start + 2 ^ 41 → documents ≡ length docs)
      → ((rules : Rules (Unit {0})) (docs : List Doc) (ws : Unit {0}) → holds s.office rules docs ws → length docs ≤ length rules.start + 2 ^ 41 → tail ≡ rules.tail docs)
      → s.waiting.items ≡ [] → (rules : Rules (Unit {0})) (given : List Line) (so_far : List ℕ) → HasServed holds asked s rules given so_far
      → Finishes (HasServed holds asked) (IsText is_bad at_least) (HasRefusal is_bad) (HasNoRefusal is_bad) s t0 t1 s.refused rules given so_far
  served_ends s form written t0 t1 documents tail put count behind none rules given so_far h =
      let rs = h.done ++ h.ahead in
      let few = few_held holds asked s rules given so_far h in
      let held : accepted rs ≡ held_behind rules rs = ap (λ (ds : List Doc). ds ++ accepted rs) (sym h.start) in
      let documents_are : documents ≡ length (held_behind rules rs) = count rules (accepted rs) tt h.office few ∙ ap length held in
      let tail_is : tail ≡ rules.tail (held_behind rules rs) = behind rules (accepted rs) tt h.office few ∙ ap rules.tail held in
      let form_is : form ≡ rules.form = written rules (accepted rs) tt h.office in
      record {
        printed = end_of rules rs;
        whole = body_text is_bad at_least rules given so_far (served_body s rules given so_far h none);
        text = put ∙ (λ i. t0 ++ summary_with (form_is i) (documents_are i) (h.queries i) (h.refused i) (tail_is i));
        some = λ n e. (rs, h.read, omega (arith, e, h.refused));
        none = λ e. (rs, h.read, sym h.refused ∙ e);
      }
