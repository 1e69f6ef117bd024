-- What a handle leads to; of a shared index, and of a converter.
use Rattle.std.specs.Prelude.{◌≡◌, ◌⊎◌, ℕ, Option, Some, None}
use Rattle.eb_engine.specs.Tokens.{HistoryToken, ConverterToken}
use Rattle.eb_c.specs.declared.held.Held.{Held}
use Rattle.eb_c.specs.declared.held.Held.TheVariants.{Writer, Reader, Converter, Leader, Follower, FeedConverter, Spare, Released, Watches}

-- 0: nothing; 1: a writer; 2: a reader; 3: a converter, also of a generation of a feed; 4: a
-- leader; 5: a follower; 6: a spare index; 7: a generation that a feed dropped; 8: watches
abbrev pub kind_of : Option Held → ℕ
kind_of None = 0
kind_of (Some (Writer w)) = 1
kind_of (Some (Reader r)) = 2
kind_of (Some (Converter c)) = 3
kind_of (Some (Leader w)) = 4
kind_of (Some (Follower f)) = 5
kind_of (Some (FeedConverter c)) = 3
kind_of (Some (Spare s)) = 6
kind_of (Some (Released p)) = 7
kind_of (Some (Watches w)) = 8

-- it is closed
abbrev pub LeadsNowhere : Option Held → Type 0
LeadsNowhere h = h ≡ None

-- it leads to the writer of this index, with this history
abbrev pub LeadsToWriter : Option Held → HistoryToken → Type 0
LeadsToWriter h w = h ≡ Some (Writer w)

-- it leads to a reader of this index, which knows these documents
abbrev pub LeadsToReader : Option Held → HistoryToken → Type 0
LeadsToReader h r = h ≡ Some (Reader r)

-- it is the converter of this index, by itself or as a generation of a feed, which converted this
-- many segments
abbrev pub IsConverter : Held → ConverterToken → Type 0
IsConverter h c = (h ≡ Converter c) ⊎ (h ≡ FeedConverter c)

-- it leads to that converter
abbrev pub LeadsToConverter : Option Held → ConverterToken → Type 0
LeadsToConverter h c = (h ≡ Some (Converter c)) ⊎ (h ≡ Some (FeedConverter c))
