-- What contracts see of the held lines of a run.
use Rattle.std.specs.Prelude.{ℕ, Bool, true, false, List, [], ◌∷◌, ◌++◌, count_by}
use Rattle.eb_rounds.specs.Inputs.{HeldInput, document_line, query_line, refused_line, HeldLine}
use Rattle.eb_rounds.specs.Shown.{Counted}

-- the held lines in order, those of the round before that is closed and those of the round that is
-- open, the counts of what was processed, and the greatest number that was put
pub record Standing : Type 0 where
  pub ahead : List HeldLine
  pub held : List HeldLine
  pub counts : Counted
  pub greatest : ℕ

abbrev pub is_document_input : HeldInput → Bool
is_document_input (document_line bytes) = true
is_document_input (query_line bytes) = false
is_document_input (refused_line r) = false

abbrev pub is_query_input : HeldInput → Bool
is_query_input (document_line bytes) = false
is_query_input (query_line bytes) = true
is_query_input (refused_line r) = false

abbrev pub is_refused_input : HeldInput → Bool
is_refused_input (document_line bytes) = false
is_refused_input (query_line bytes) = false
is_refused_input (refused_line r) = true

-- how many lines of a kind are held
unfoldable pub documents_held : List HeldLine → ℕ
documents_held held = count_by (λ (h : HeldLine). is_document_input h.input) held

unfoldable pub queries_held : List HeldLine → ℕ
queries_held held = count_by (λ (h : HeldLine). is_query_input h.input) held

unfoldable pub refused_held : List HeldLine → ℕ
refused_held held = count_by (λ (h : HeldLine). is_refused_input h.input) held

abbrev pub no_counts : Counted
no_counts = record { documents = 0; queries = 0; refused = 0 }

-- one more held line
abbrev pub with_held : Standing → ℕ → HeldInput → Standing
with_held s number input = record { ahead = s.ahead; held = s.held ++ record { number = number; input = input } ∷ []; counts = s.counts; greatest = number }

-- one more round is open, and the lines held before are ahead of it
abbrev pub with_round : Standing → Standing
with_round s = record { ahead = s.held; held = []; counts = s.counts; greatest = s.greatest }
