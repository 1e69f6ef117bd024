use Rattle.std.proofs.Common.{◌≡◌, map, drop}
use Rattle.eb_base.specs.Query.{tree, parts_of, trees_of}
use Rattle.eb_base.specs.Match.{each_matches, some_matches}
use Rattle.eb_match.proofs.scan.+matches.Given as goal

abbrev pub invariant-each_matches-loop-part : goal.invariant-each_matches-loop-part
invariant-each_matches-loop-part l =
    each_matches (trees_of (map tree (drop l.part-index l.part-items))) l.document ≡ each_matches (trees_of (parts_of l.parts)) l.document

abbrev pub invariant-some_matches-loop-part : goal.invariant-some_matches-loop-part
invariant-some_matches-loop-part l =
    some_matches (trees_of (map tree (drop l.part-index l.part-items))) l.document ≡ some_matches (trees_of (parts_of l.parts)) l.document
