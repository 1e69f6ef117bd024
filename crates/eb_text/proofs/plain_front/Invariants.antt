use Rattle.std.proofs.Common.{◌-◌, ◌≤◌, All, length, take}
use Rattle.eb_text.specs.Parting.{IsAlphanumeric}
use Rattle.eb_text.proofs.plain_front.Given as goal

abbrev pub invariant-loop-place : goal.invariant-loop-place
invariant-loop-place l = (l.place ≤ length l.bytes) × All IsAlphanumeric (take l.place l.bytes)

abbrev pub decreases-loop-place : goal.decreases-loop-place
decreases-loop-place l = length l.bytes - l.place
