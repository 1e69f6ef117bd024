-- Laws on the words of the converter, which the public functions of src/converter_laws.rt prove.
use Rattle.std.specs.Prelude.{◌≡◌, ℕ, ◌+◌, ◌*◌, ◌^◌, ◌<◌, ◌≤◌, length, get_or}
use Rattle.eb_base.specs.Term.{Term}
use Rattle.eb_place.specs.declared.moment.Moment.{Moment}
use Rattle.eb_place.specs.Layout.{place}
use Rattle.eb_place.specs.Layout.Slot.{slot}
use Rattle.eb_place.specs.Layout.Region.{converted_region, directory_region, packed_region}
use Rattle.eb_place.specs.Postings.{posting_bits, frequency}
use Rattle.eb_place.specs.Moments.{word, IsMoment}
use Rattle.eb_place.specs.Later.{IsNotBefore}
use Rattle.eb_place.specs.NextStores.{IsNextPut}
use Rattle.eb_place.specs.Seen.{segment}
use Rattle.eb_place.specs.Walk.{IsTerm}
use Rattle.eb_place.specs.Falling.{IsFalling, AllBelow}
use Rattle.eb_place.specs.PackedLists.{IsConverted, list_start, newest_first, packed_words}

-- the next store of a conversion stays the next one while documents grow and no conversion store is
-- done
abbrev pub NextPutStays : Type 0
NextPutStays = (m n : Moment) (at value : ℕ) → IsNotBefore n m → n.conversions ≡ m.conversions → IsNextPut m at value → IsNextPut n at value

-- the converted word of a segment is 1 where the segment is converted, and 0 where it isn't
pub record TellsConverted (m : Moment) (s : ℕ) : Type 0 where
  pub done : IsConverted m s → word m (place m.setting (slot s converted_region 0)) ≡ 1
  pub not_done : m.conversions.converted ≤ s → word m (place m.setting (slot s converted_region 0)) ≡ 0

abbrev pub ConvertedWordsTell : Type 0
ConvertedWordsTell = (m : Moment) (s : ℕ) → IsMoment m → s < m.setting.segments → TellsConverted m s

-- the directory word of a term of a converted segment: where its packed list begins, and how many
-- postings it has
abbrev pub DirectoryTells : Type 0
DirectoryTells = (m : Moment) (s : ℕ) (t : Term) (k : ℕ) → IsMoment m → IsConverted m s → IsTerm m s t k
    → word m (place m.setting (slot s directory_region k)) ≡ list_start (segment m s) k * 2 ^ 32 + frequency t (segment m s)

-- the packed words of a term of a converted segment: its packed list, from there on
abbrev pub PackedWordsTell : Type 0
PackedWordsTell = (m : Moment) (s : ℕ) (t : Term) (k i : ℕ) → IsMoment m → IsConverted m s → IsTerm m s t k → i < length (packed_words m s t)
    → word m (place m.setting (slot s packed_region (list_start (segment m s) k + i))) ≡ get_or (packed_words m s t) i 0

-- what is converted stays as it is: a converted segment is converted at each later moment, and has
-- the same documents
pub record StaysConverted (m n : Moment) (s : ℕ) : Type 0 where
  pub converted : IsConverted n s
  pub same : segment n s ≡ segment m s

abbrev pub ConvertedStays : Type 0
ConvertedStays = (m n : Moment) (s : ℕ) → IsMoment m → IsNotBefore n m → IsConverted m s → StaysConverted m n s

-- the postings of a term, newest first, fall, and have the bits of a posting
abbrev pub PostingsFall : Type 0
PostingsFall = (m : Moment) (s : ℕ) (t : Term) → IsMoment m → IsFalling (newest_first m s t) × AllBelow (2 ^ posting_bits) (newest_first m s t)
