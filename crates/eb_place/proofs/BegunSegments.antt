-- The first-document word of a segment says whether the segment is begun.
use Rattle.std.proofs.Common.{◌≡◌, ℕ, ◌<◌, ◌≤◌, length, ◌∙◌, arith, inl, inr}
use Rattle.std.proofs.lemmas.Bool.{cases_lt}
use Rattle.eb_place.specs.declared.moment.Moment.{Moment}
use Rattle.eb_place.specs.Layout.{place}
use Rattle.eb_place.specs.Layout.Slot.{slot}
use Rattle.eb_place.specs.Layout.Region.{first_region}
use Rattle.eb_place.specs.Room.{cut}
use Rattle.eb_place.specs.Moments.{with_current, word, IsMoment}
use Rattle.eb_place.proofs.FirstDocumentWords.{first_beyond, word_first}

-- that of a segment that isn't begun is 0
pub first_word_past : (m : Moment) (s : ℕ) → IsMoment m → s < m.setting.segments → length (cut m.setting (with_current m.documents)) ≤ s → word m (place m.setting (slot s first_region 0)) ≡ 0
first_word_past m s is h past = word_first m s is h ∙ first_beyond (cut m.setting (with_current m.documents)) 0 s past

-- so a segment is begun where it isn't 0
pub begun_where_first : (m : Moment) (s : ℕ) → IsMoment m → s < m.setting.segments → 0 < word m (place m.setting (slot s first_region 0)) → s < length (cut m.setting (with_current m.documents))
begun_where_first m s is h some = elim (cases_lt s (length (cut m.setting (with_current m.documents)))) [
  | inl low ↦ low
  | inr high ↦ let z = first_word_past m s is h high in absurd (omega arith)
]
