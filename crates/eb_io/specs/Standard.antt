-- Sources over readers and sinks over writers.
use Rattle.std.specs.Prelude.{ℕ, refl}
use Rattle.std.specs.Coded.{Coded, code_by, coded×, coded_ℕ}

-- a source over a reader or a sink over a writer: the reader or writer, and how often it failed
pub record Standard (T : Type 0) : Type 0 where
  pub inner : T
  pub faults : ℕ

-- it is stored as the pair of them
abbrev pub standard_code : {T : Type 0} → Coded T → Coded (Standard T)
standard_code {T} code =
    code_by (T × ℕ) (coded× code coded_ℕ) (λ s. (s.inner, s.faults)) (λ p. record { inner = p.0; faults = p.1 }) (λ _. refl)
