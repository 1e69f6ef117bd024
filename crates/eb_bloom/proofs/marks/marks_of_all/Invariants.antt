use Rattle.std.proofs.Common.{◌≡◌, ℕ, ◌<◌, ◌≤◌, true, take, get_or}
use Rattle.std.specs.List.{list_all}
use Rattle.eb_bloom.specs.Bits.{is_noted}
use Rattle.eb_bloom.proofs.marks.marks_of_all.Given as goal

abbrev pub invariant-loop-term : goal.invariant-loop-term
invariant-loop-term l = record {
  noted : (s : ℕ) → s < l.begun → get_or l.marks s true ≡ list_all (is_noted l.filters s) (take l.term-index l.terms);
  further : (s : ℕ) → l.begun ≤ s → get_or l.marks s true ≡ true;
}
