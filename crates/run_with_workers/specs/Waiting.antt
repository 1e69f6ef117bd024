-- Lines that wait until it is their turn to be printed.
use Rattle.std.specs.Prelude.{◌≡◌, ◌⊎◌, ℕ, suc, ◌+◌, ◌-◌, ◌≤◌, false, List, [], ◌∷◌, length, take, set, Some, slice_get}
use Rattle.eb_base.specs.Document.{Doc}
use Rattle.eb_base.specs.Match.{answer}
use Rattle.eb_base.specs.Query.{Tree}
use Rattle.eb_count.specs.Tallies.{AreCounts}
use Rattle.eb_cursor.specs.Frames.{query_of, k_of, ids_of}
use Rattle.eb_desk.specs.declared.rule.Pair.{Pair}
use Rattle.eb_query.specs.declared.ask.Ask.TheVariants.{Newest, Counts}
use Rattle.eb_lines.specs.declared.form.Form.{Form}
use Rattle.eb_lines.specs.Progress.{documents_in, is_query, is_refused}
use Rattle.eb_lines.specs.Reading.{Reading, query, refused}
use Rattle.eb_lines.specs.Text.{room_of, answer_line, count_line, refusal_line}
use Rattle.run_store.specs.Rules.{Rules}
use Rattle.run_with_workers.specs.Offices.{WasAsked}
use Rattle.run_with_workers.specs.declared.office.Settled.{Settled}
use Rattle.run_with_workers.specs.declared.waiting.Waiting.{Waiting}
use Rattle.run_with_workers.specs.declared.waiting.Waiting.TheVariants as waits

-- it is known what the line prints
abbrev pub IsReady : Waiting → Type 0
IsReady waits.Nothing = Unit {0}
IsReady (waits.Refused x) = Unit {0}
IsReady (waits.Asked t) = ⊥
IsReady (waits.Answered seen frame) = Unit {0}
IsReady (waits.Counted c) = Unit {0}

-- it is a query without an answer, before whose line at most this many documents were accepted
abbrev pub Awaits : Waiting → ℕ → Type 0
Awaits waits.Nothing seen = ⊥
Awaits (waits.Refused x) seen = ⊥
Awaits (waits.Asked t) seen = t ≤ seen
Awaits (waits.Answered s f) seen = ⊥
Awaits (waits.Counted c) seen = ⊥

-- the line that waits there awaits an answer, and one over this many documents will do
abbrev pub AwaitsAt : List Waiting → ℕ → ℕ → Type 0
AwaitsAt ws at seen = (w : Waiting) × (slice_get ws at ≡ Some w) × Awaits w seen

-- the line of this number waits there, where these are the lines up to the last one
abbrev pub IsPlace : ℕ → List Waiting → ℕ → ℕ → Type 0
IsPlace last ws number at = number ≡ last - length ws + at + 1

-- a settled answer was put in the place of its line, which awaits one, or nothing was done
abbrev pub IsKept : ℕ → List Waiting → List Waiting → Settled → Type 0
IsKept last old new s = (new ≡ old) ⊎ ((at : ℕ) × IsPlace last old s.number at × AwaitsAt old at s.seen × (new ≡ set old at (waits.Answered s.seen s.frame)))

-- what it prints, where it is known
abbrev pub printed_by : Form → ℕ → Waiting → List ℕ
printed_by form number waits.Nothing = []
printed_by form number (waits.Refused x) = refusal_line form number x
printed_by form number (waits.Asked t) = []
printed_by form number (waits.Answered seen frame) = answer_line form number seen (ids_of frame)
printed_by form number (waits.Counted c) = count_line form number c.seen c.tally.total c.tally.buckets

-- how many bytes it prints at most
abbrev pub need_of : Waiting → ℕ
need_of waits.Nothing = 0
need_of (waits.Refused x) = room_of 0
need_of (waits.Asked t) = 0
need_of (waits.Answered seen frame) = room_of (k_of frame)
need_of (waits.Counted c) = room_of (1 + length c.tally.buckets)

-- it is known what the next line prints, at most this many bytes
abbrev pub NextNeeds : List Waiting → ℕ → Type 0
NextNeeds [] need = ⊥
NextNeeds (w ∷ ws) need = IsReady w × (need ≡ need_of w)

-- the line is neither a query nor refused
pub record IsQuiet (r : Reading) : Type 0 where
  pub asks : is_query r ≡ false
  pub fails : is_refused r ≡ false

-- by these rules a line of this number and this reading, before which `told` of these documents were accepted, waits as this; a
-- query without an answer was asked under this number
abbrev pub WaitsAs : Rules (Unit {0}) → List Doc → List Pair → ℕ → ℕ → Reading → Waiting → Type 0
WaitsAs rules docs asked told number r waits.Nothing = IsQuiet r
WaitsAs rules docs asked told number r (waits.Refused x) = r ≡ refused x
WaitsAs rules docs asked told number r (waits.Asked t) = (q : Tree) × (k : ℕ) × (r ≡ query (Newest k) q) × (t ≡ told) × WasAsked asked number q k
WaitsAs rules docs asked told number r (waits.Answered seen frame) = (r ≡ query (Newest (k_of frame)) (query_of frame)) × (told ≤ seen) × (seen ≤ length docs)
    × (ids_of frame ≡ answer (query_of frame) (k_of frame) (rules.sees (take seen docs)))
WaitsAs rules docs asked told number r (waits.Counted c) = (q : Tree) × (r ≡ query (Counts c.tally.start c.tally.width (length c.tally.buckets)) q) × (told ≤ c.seen)
    × (c.seen ≤ length docs) × AreCounts q (rules.sees (take c.seen docs)) c.tally

-- these lines, the first of this number, wait as these
abbrev pub AreWaiting : Rules (Unit {0}) → List Doc → List Pair → ℕ → ℕ → List Reading → List Waiting → Type 0
AreWaiting rules docs asked told number [] [] = Unit {0}
AreWaiting rules docs asked told number [] (w ∷ ws) = ⊥
AreWaiting rules docs asked told number (r ∷ rs) [] = ⊥
AreWaiting rules docs asked told number (r ∷ rs) (w ∷ ws) = WaitsAs rules docs asked told number r w × AreWaiting rules docs asked (told + length (documents_in r)) (suc number) rs ws
