use Rattle.std.proofs.Common.{◌≡◌, ◌++◌, drop, map}
use Rattle.eb_base.specs.Query.{tree, trees_of, parts_of, queries_of}
use Rattle.eb_query.proofs.Tails.{and_tail, or_tail}
use Rattle.eb_query.specs.Writing.{and_text, or_text}
use Rattle.eb_query.proofs.write.+put.Given as goal

abbrev pub invariant-put_all-loop-at : goal.invariant-put_all-loop-at
invariant-put_all-loop-at l = record {
  told : l.out.items ++ and_tail l.at (trees_of (map tree (drop l.at l.part-items))) ≡ l.fn.out.items ++ and_text (trees_of (parts_of l.fn.parts));
  items : l.part-items ≡ queries_of l.parts;
}

abbrev pub invariant-put_any-loop-at : goal.invariant-put_any-loop-at
invariant-put_any-loop-at l = record {
  told : l.out.items ++ or_tail l.at (trees_of (map tree (drop l.at l.part-items))) ≡ l.fn.out.items ++ or_text (trees_of (parts_of l.fn.parts));
  items : l.part-items ≡ queries_of l.parts;
}
