use Rattle.std.proofs.Common.{◌≡◌, ℕ, ◌<◌, ◌≤◌, ◌&&◌, ◌||◌, true, map, drop, get_or}
use Rattle.eb_base.specs.Query.{tree, parts_of, trees_of}
use Rattle.eb_bloom.specs.Likely.{each_may_match, some_may_match}
use Rattle.eb_bloom.proofs.marks.+marks.Given as goal

abbrev pub invariant-marks_of_each-loop-part : goal.invariant-marks_of_each-loop-part
invariant-marks_of_each-loop-part l = record {
  noted : (s : ℕ) → s < l.begun
      → (get_or l.marks s true && each_may_match l.filters s (trees_of (map tree (drop l.part-index l.part-items)))) ≡ each_may_match l.filters s (trees_of (parts_of l.parts));
  further : (s : ℕ) → l.begun ≤ s → get_or l.marks s true ≡ true;
}

abbrev pub invariant-marks_of_some-loop-part : goal.invariant-marks_of_some-loop-part
invariant-marks_of_some-loop-part l = record {
  noted : (s : ℕ) → s < l.begun
      → (get_or l.marks s true || some_may_match l.filters s (trees_of (map tree (drop l.part-index l.part-items)))) ≡ some_may_match l.filters s (trees_of (parts_of l.parts));
  further : (s : ℕ) → l.begun ≤ s → get_or l.marks s true ≡ true;
}
