-- What a program over lines does between two of them.
use Rattle.std.specs.Prelude.{◌≡◌, List, [], ◌∷◌, ◌++◌, ℕ, ◌+◌}
use Rattle.std.proofs.Common.{sym, subst, append-nil}
use Rattle.eb_io.specs.Lines.{Line}

-- the program was given some lines, and printed a text for some of the first of them
abbrev pub IsRunning : {P A : Type 0} → (P → A → List Line → List ℕ → Type 0) → P → Type 0
IsRunning {P} {A} has_run p = (a : A) × (given : List Line) × (so_far : List ℕ) × has_run p a given so_far

-- the program processed lines that it held, if any, and put what they print after the text
abbrev pub WorksOn : {P A : Type 0} → (P → A → List Line → List ℕ → Type 0) → P → P → List ℕ → List ℕ → Type 0
WorksOn {P} {A} has_run old new text_old text_new = (a : A) (given : List Line) (so_far : List ℕ) → has_run old a given so_far
    → (printed : List ℕ) × has_run new a given (so_far ++ printed) × (text_new ≡ text_old ++ printed)

-- and this line was given more
abbrev pub WorksOnGiven : {P A : Type 0} → (P → A → List Line → List ℕ → Type 0) → P → P → List ℕ → List ℕ → Line → Type 0
WorksOnGiven {P} {A} has_run old new text_old text_new l = (a : A) (given : List Line) (so_far : List ℕ) → has_run old a given so_far
    → (printed : List ℕ) × has_run new a (given ++ l ∷ []) (so_far ++ printed) × (text_new ≡ text_old ++ printed)

-- what the program printed is a prefix of what some first lines of those that it was given print
abbrev pub PrintsFront : {A : Type 0} → (A → List Line → List ℕ → Type 0) → A → List Line → List ℕ → Type 0
PrintsFront prints a given so_far = (done : List Line) × (more : List Line) × (rest : List ℕ) × (given ≡ done ++ more) × prints a done (so_far ++ rest)

-- what all of them print is such a prefix
pub prints_all : {A : Type 0} (prints : A → List Line → List ℕ → Type 0) (a : A) (given : List Line) (so_far : List ℕ) → prints a given so_far → PrintsFront prints a given so_far
prints_all prints a given so_far h = (given, [], [], sym (append-nil given), subst (prints a given) (sym (append-nil so_far)) h)

-- what the program printed is what all lines that it was given print
abbrev pub HasPrinted : {P A : Type 0} → (P → A → List Line → List ℕ → Type 0) → (A → List Line → List ℕ → Type 0) → P → Type 0
HasPrinted {P} {A} has_run prints p = (a : A) (given : List Line) (so_far : List ℕ) → has_run p a given so_far → prints a given so_far

-- the end of the input was put after the text, and this many lines are refused
pub record Finishes {P A : Type 0} (has_run : P → A → List Line → List ℕ → Type 0) (ends_with : A → List Line → List ℕ → Type 0) (refuses accepts : A → List Line → Type 0)
    (old : P) (text_old text_new : List ℕ) (refused : ℕ) (a : A) (given : List Line) (so_far : List ℕ) : Type 0 where
  pub printed : List ℕ
  pub whole : ends_with a given (so_far ++ printed)
  pub text : text_new ≡ text_old ++ printed
  pub some : (n : ℕ) → refused ≡ n + 1 → refuses a given
  pub none : refused ≡ 0 → accepts a given
