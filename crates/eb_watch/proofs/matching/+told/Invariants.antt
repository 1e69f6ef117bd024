use Rattle.std.proofs.Common.{◌≡◌, map, drop, length}
use Rattle.eb_base.specs.Query.{tree, parts_of, trees_of}
use Rattle.eb_base.specs.Match.{each_matches, some_matches}
use Rattle.eb_watch.proofs.matching.+told.Given as goal

abbrev pub invariant-each_is_told-loop-part : goal.invariant-each_is_told-loop-part
invariant-each_is_told-loop-part l =
    (each_matches (trees_of (map tree (drop l.part-index l.part-items))) l.document ≡ each_matches (trees_of (parts_of l.parts)) l.document) × (length l.ends ≡ length l.initial.ends)

abbrev pub invariant-some_is_told-loop-part : goal.invariant-some_is_told-loop-part
invariant-some_is_told-loop-part l =
    (some_matches (trees_of (map tree (drop l.part-index l.part-items))) l.document ≡ some_matches (trees_of (parts_of l.parts)) l.document) × (length l.ends ≡ length l.initial.ends)
