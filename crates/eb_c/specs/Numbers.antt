-- The number of each refusal.
use Rattle.std.specs.Prelude.{ℕ}
use Rattle.eb_c.specs.declared.refusal.Refusal.{Refusal}
use Rattle.eb_c.specs.declared.refusal.Refusal.TheVariants as refusal

-- 0 is no refusal, and 16 is that of a handle
abbrev pub refusal_number : Refusal → ℕ
refusal_number refusal.BadLine = 1
refusal_number refusal.LongLine = 2
refusal_number refusal.BadJson = 3
refusal_number refusal.BadDocument = 4
refusal_number refusal.TooLong = 5
refusal_number refusal.Full = 6
refusal_number refusal.BadNumber = 7
refusal_number refusal.BadQuery = 8
refusal_number refusal.QueryTooDeep = 9
refusal_number refusal.QueryTooLarge = 10
refusal_number refusal.BadText = 11
refusal_number refusal.NoMemory = 12
refusal_number refusal.BadSetting = 13
refusal_number refusal.BadSize = 14
refusal_number refusal.NotBegun = 15
refusal_number refusal.BadReading = 17
refusal_number refusal.WatchTaken = 18
refusal_number refusal.WatchesFull = 19
refusal_number refusal.NoWatch = 20
refusal_number refusal.BadImage = 21
refusal_number refusal.MoreBytes = 22
refusal_number refusal.ShortRoom = 23
refusal_number refusal.ImageEnd = 24
