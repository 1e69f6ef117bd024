-- A program over lines that does nothing, and a run as a program.
use Rattle.std.proofs.Common.{◌≡◌, ℕ, List, [], sym, subst, append-nil}
use Rattle.std.specs.Prelude.{Result, IfOk, MatchResult, ⊤}
use Rattle.eb_io.specs.Lines.{Line}
use Rattle.eb_lines.specs.Programs.{WorksOn, Finishes}
use Rattle.eb_lines.proofs.Results.{ok_match}

module _ {P A : Type 0} (has_run : P → A → List Line → List ℕ → Type 0) where
  -- nothing is done
  pub stays : (p : P) (text : List ℕ) → WorksOn has_run p p text text
  stays p text = λ a given so_far h. ([], subst (has_run p a given) (sym (append-nil so_far)) h, sym (append-nil text))

  pub stays_at : (old new : P) (t0 t1 : List ℕ) → new ≡ old → t1 ≡ t0 → WorksOn has_run old new t0 t1
  stays_at old new t0 t1 e f = subst (λ (p : P). WorksOn has_run old p t0 t1) (sym e) (subst (λ t. WorksOn has_run old old t0 t) (sym f) (stays old t0))

  -- a program ends as the run in it does
  pub finishes_within : {Q E : Type 0} (run_of : Q → P) (q : Q) (ends_with : A → List Line → List ℕ → Type 0) (refuses accepts : A → List Line → Type 0)
      (t0 t1 : List ℕ) (r : Result ℕ E) → IfOk r (λ refused. (a : A) (given : List Line) (so_far : List ℕ) → has_run (run_of q) a given so_far
      → Finishes has_run ends_with refuses accepts (run_of q) t0 t1 refused a given so_far)
      → MatchResult r (λ refused. (a : A) (given : List Line) (so_far : List ℕ) → has_run (run_of q) a given so_far
      → Finishes (λ x. has_run (run_of x)) ends_with refuses accepts q t0 t1 refused a given so_far) (λ e. ⊤)
  finishes_within run_of q ends_with refuses accepts t0 t1 r f = ok_match r f (λ refused ends a given so_far h.
      let x = ends a given so_far h in
      record { printed = x.printed; whole = x.whole; text = x.text; some = x.some; none = x.none })
