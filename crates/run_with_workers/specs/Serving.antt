-- How far a run with workers has come between two lines, over any office.
use Rattle.eb_fields.specs.Dialect.{dialect_of}
use Rattle.std.specs.Prelude.{◌≡◌, ℕ, ◌+◌, ◌^◌, ◌≤◌, List, [], ◌∷◌, ◌++◌, length}
use Rattle.eb_desk.specs.Rule.{IsAboveEach, HaveRisingNumbers}
use Rattle.eb_desk.specs.declared.rule.Pair.{Pair}
use Rattle.run_store.specs.Rules.{Rules, is_bad, AreRead, ReadsWith}
use Rattle.run_store.specs.Sees.{IsAsked}
use Rattle.run_store.specs.Text.{body_from}
use Rattle.eb_base.specs.Document.{Doc}
use Rattle.eb_io.specs.Lines.{Line}
use Rattle.eb_lines.specs.Progress.{accepted, queries, refusals, told}
use Rattle.eb_lines.specs.Kinds.{Kind}
use Rattle.eb_lines.specs.Reading.{Reading}
use Rattle.eb_lines.specs.Reads.{ReadsByKind}
use Rattle.run_with_workers.specs.declared.serving.Serving.{Serving}
use Rattle.run_with_workers.specs.Waiting.{AreWaiting}

-- these lines were taken: the first are done and printed this, and the others wait
pub record HasServed {O A : Type 0} (holds : O → Rules (Unit {0}) → List Doc → Unit {0} → Type 0) (asked : O → List Pair)
    (s : Serving O A) (rules : Rules (Unit {0})) (given : List Line) (so_far : List ℕ) : Type 0 where
  pub done : List Reading
  pub ahead : List Reading
  pub numbers : ℕ → ℕ
  pub dialect : dialect_of s.dialect ≡ rules.dialect
  pub start : rules.start ≡ []
  pub silent : (d : Doc) → rules.tells tt d ≡ []
  pub read : AreRead is_bad rules given (done ++ ahead)
  pub office : holds s.office rules (accepted (done ++ ahead)) tt
  pub number : s.number ≡ length given
  pub queries : s.queries ≡ queries (done ++ ahead)
  pub refused : s.refused ≡ refusals (done ++ ahead)
  pub short : s.number ≤ 2 ^ 40 + 1
  pub is_above : IsAboveEach (s.number + 1) (asked s.office)
  pub rising : HaveRisingNumbers (asked s.office)
  pub least : (j : ℕ) → IsAsked done j → told done j ≤ numbers j
  pub most : (j : ℕ) → numbers j ≤ length (accepted (done ++ ahead))
  pub waiting : AreWaiting rules (accepted (done ++ ahead)) (asked s.office) (length (accepted done)) (length done + 1) ahead s.waiting.items
  pub printed : so_far ≡ body_from rules numbers (accepted (done ++ ahead)) 0 tt done

-- answers may have come, and nothing else
abbrev pub IsFurther : {O A : Type 0} → (O → Rules (Unit {0}) → List Doc → Unit {0} → Type 0) → (O → List Pair) → Serving O A → Serving O A → Type 0
IsFurther holds asked old new = (rules : Rules (Unit {0})) (given : List Line) (so_far : List ℕ) → HasServed holds asked old rules given so_far → HasServed holds asked new rules given so_far

-- a line of this reading was taken, and waits; nothing was printed
abbrev pub TakesLine : {O A : Type 0} → (O → Rules (Unit {0}) → List Doc → Unit {0} → Type 0) → (O → List Pair) → Serving O A → Serving O A → Reading → Type 0
TakesLine holds asked old new r = (rules : Rules (Unit {0})) (given : List Line) (so_far : List ℕ) (l : Line) → HasServed holds asked old rules given so_far
    → ReadsWith is_bad rules.dialect l r → HasServed holds asked new rules (given ++ l ∷ []) so_far

-- a line of these bytes and this kind was taken, as it is read by the dialect
abbrev pub TakesRead : {O A : Type 0} → (O → Rules (Unit {0}) → List Doc → Unit {0} → Type 0) → (O → List Pair) → Serving O A → Serving O A → Kind → List ℕ → Type 0
TakesRead holds asked old new kind bytes = (r : Reading) × ReadsByKind (dialect_of old.dialect) kind bytes r × TakesLine holds asked old new r
