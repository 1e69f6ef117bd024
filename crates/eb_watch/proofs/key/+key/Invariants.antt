use Rattle.std.proofs.Common.{◌≡◌, map, drop, Some}
use Rattle.eb_base.specs.Query.{tree, parts_of, trees_of}
use Rattle.eb_watch.specs.Key.{first_key, all_keys, joined_keys}
use Rattle.eb_watch.proofs.key.+key.Given as goal

abbrev pub invariant-first_key_of-loop-part : goal.invariant-first_key_of-loop-part
invariant-first_key_of-loop-part l = first_key (trees_of (map tree (drop l.part-index l.part-items))) ≡ first_key (trees_of (parts_of l.parts))

abbrev pub invariant-all_keys_of-loop-part : goal.invariant-all_keys_of-loop-part
invariant-all_keys_of-loop-part l = joined_keys (Some l.terms.items) (all_keys (trees_of (map tree (drop l.part-index l.part-items)))) ≡ all_keys (trees_of (parts_of l.parts))
