-- What a call of the converter does.
use Rattle.std.specs.Prelude.{◌≡◌, ℕ, ◌+◌, ◌⊎◌}
use Rattle.eb_place.specs.declared.moment.Moment.{Moment}
use Rattle.eb_place.specs.Layout.{place}
use Rattle.eb_place.specs.Layout.Slot.{slot}
use Rattle.eb_place.specs.Layout.Region.{first_region}
use Rattle.eb_place.specs.Moments.{word}
use Rattle.eb_convert.specs.declared.conversion.Converted.{Converted}
use Rattle.eb_convert.specs.declared.conversion.Converted.TheVariants.{One, Nothing}

-- the first-document word of a segment
abbrev pub first_word : Moment → ℕ → ℕ
first_word m s = word m (place m.setting (slot s first_region 0))

-- what a call did: the conversion of the segment, from its first store to its last; or nothing,
-- where it is the last segment, or the next one isn't begun at the second moment
abbrev pub IsConversion : Moment → Moment → ℕ → Converted → Type 0
IsConversion m n s (One k) = (k ≡ s) × (n.conversions ≡ record { converted = s + 1; packed = 0 })
IsConversion m n s Nothing = (n.conversions ≡ m.conversions) × ((s + 1 ≡ m.setting.segments) ⊎ (first_word n (s + 1) ≡ 0))
