-- What a call finds that asks cursors, over words that may grow meanwhile: for each list of
-- documents and each end, the given one or a greater one, below which the cursors were ready.
use Rattle.std.specs.Prelude.{◌≡◌, ℕ, ◌+◌, ◌≤◌, Bool, List, length}
use Rattle.eb_base.specs.Document.{Doc}
use Rattle.eb_base.specs.Query.{Tree, Trees, word, phrase}
use Rattle.eb_place.specs.declared.moment.Moment.{Moment}
use Rattle.eb_place.specs.Told.{Told}
use Rattle.eb_cursor.specs.Lists.{gives}
use Rattle.eb_cursor.specs.Opened.{CanRead}
use Rattle.eb_cursor.specs.Ready.{Ready, AllReady, AllLeaves, AllBehind, IsBound, IsLeaf}
use Rattle.eb_cursor.specs.Asked.{FoundMatch, FoundLeaf, FoundNot, FoundSome, FoundAll, FoundStart, FoundBound, FoundWithin, FoundEnd, IsLed, IsRound, IsLedRun, IsRun}
use Rattle.eb_cursor.specs.Posted.{is_posting, last_term}
use Rattle.eb_cursor.specs.Tops.{top}
use Rattle.eb_cursor.specs.declared.cursor.Cursor.{Cursor}
use Rattle.eb_cursor.specs.declared.window.Span.{Span}

-- the greatest match of a query
abbrev pub FindsMatch : {S : Type 0} → (S → Moment → Type 0) → (S → Moment → S → Moment → Type 0) → S → S → Tree → List Cursor → List Cursor → ℕ → ℕ → Type 0
FindsMatch stands keeps s t q old new end found = (docs : List Doc) (last : ℕ) → end ≤ last → Told stands keeps s t (λ m. Ready (gives m) docs q old last) (FoundMatch q docs new end found)

-- the greatest document that has the cursors' word
abbrev pub FindsWord : {S : Type 0} → (S → Moment → Type 0) → (S → Moment → S → Moment → Type 0) → S → S → List Cursor → List Cursor → ℕ → ℕ → Type 0
FindsWord stands keeps s t old new end found = (docs : List Doc) (u : List ℕ) (last : ℕ) → end ≤ last
    → Told stands keeps s t (λ m. Ready (gives m) docs (word u) old last) (FoundMatch (word u) docs new end found)

-- the greatest document that has their phrase
abbrev pub FindsPhrase : {S : Type 0} → (S → Moment → Type 0) → (S → Moment → S → Moment → Type 0) → S → S → List Cursor → List Cursor → ℕ → ℕ → Type 0
FindsPhrase stands keeps s t old new end found = (docs : List Doc) (us : List (List ℕ)) (last : ℕ) → end ≤ last
    → Told stands keeps s t (λ m. Ready (gives m) docs (phrase us) old last) (FoundMatch (phrase us) docs new end found)

-- the greatest document that a query does not match
abbrev pub FindsNot : {S : Type 0} → (S → Moment → Type 0) → (S → Moment → S → Moment → Type 0) → S → S → Tree → List Cursor → List Cursor → ℕ → ℕ → Type 0
FindsNot stands keeps s t q old new end found = (docs : List Doc) (last : ℕ) → end ≤ last → Told stands keeps s t (λ m. Ready (gives m) docs q old last) (FoundNot q docs new end found)

-- the greatest document that some part matches
abbrev pub FindsSome : {S : Type 0} → (S → Moment → Type 0) → (S → Moment → S → Moment → Type 0) → S → S → Trees → List Cursor → List Cursor → ℕ → ℕ → Type 0
FindsSome stands keeps s t qs old new end found = (docs : List Doc) (last : ℕ) → end ≤ last
    → Told stands keeps s t (λ m. AllReady (gives m) docs qs old last) (FoundSome qs docs new end found)

-- the greatest document that all parts match
abbrev pub FindsAll : {S : Type 0} → (S → Moment → Type 0) → (S → Moment → S → Moment → Type 0) → S → S → Trees → List Cursor → List Cursor → ℕ → ℕ → Type 0
FindsAll stands keeps s t qs old new end found = (docs : List Doc) (last : ℕ) → end ≤ last
    → Told stands keeps s t (λ m. AllReady (gives m) docs qs old last) (FoundAll qs docs new end found)

-- where the leading part stops, which skipped nothing that all parts match
abbrev pub Leads : {S : Type 0} → (S → Moment → Type 0) → (S → Moment → S → Moment → Type 0) → S → S → Trees → List Cursor → List Cursor → ℕ → ℕ → Type 0
Leads stands keeps s t qs old new end found = (docs : List Doc) (last : ℕ) → end ≤ last
    → Told stands keeps s t (λ m. AllReady (gives m) docs qs old last) (λ n. IsLed (gives n) docs qs new end found)

-- where one round over the parts stops, which skipped nothing that all parts match
abbrev pub GoesRound : {S : Type 0} → (S → Moment → Type 0) → (S → Moment → S → Moment → Type 0) → S → S → Trees → List Cursor → List Cursor → ℕ → ℕ → Type 0
GoesRound stands keeps s t qs old new end found = (docs : List Doc) (last : ℕ) → end ≤ last
    → Told stands keeps s t (λ m. AllReady (gives m) docs qs old last) (λ n. IsRound (gives n) docs qs new end found)

-- ---- leaves

-- the greatest number of the list
abbrev pub FindsLeaf : {S : Type 0} → (S → Moment → Type 0) → (S → Moment → S → Moment → Type 0) → S → S → Cursor → Cursor → ℕ → ℕ → Type 0
FindsLeaf stands keeps s t old new end found = (f : ℕ → Bool) → Told stands keeps s t (λ m. IsLeaf (gives m) f old end) (FoundLeaf f new end found)

-- where the leading term of a phrase stops, which skipped no place from which all terms are in a
-- row
abbrev pub LeadsRun : {S : Type 0} → (S → Moment → Type 0) → (S → Moment → S → Moment → Type 0) → S → S → List Cursor → List Cursor → ℕ → ℕ → ℕ → Type 0
LeadsRun stands keeps s t old new at end found = (docs : List Doc) (us : List (List ℕ)) (last : ℕ) → end ≤ last
    → Told stands keeps s t (λ m. AllLeaves (gives m) docs us old (last + at)) (λ n. IsLedRun (gives n) docs us new at end found)

-- where one round over the terms stops, which skipped no place from which all are in a row
abbrev pub GoesOver : {S : Type 0} → (S → Moment → Type 0) → (S → Moment → S → Moment → Type 0) → S → S → List Cursor → List Cursor → ℕ → ℕ → ℕ → Type 0
GoesOver stands keeps s t old new at end found = (docs : List Doc) (us : List (List ℕ)) (last : ℕ) → end ≤ last
    → Told stands keeps s t (λ m. AllLeaves (gives m) docs us old (last + at)) (λ n. IsRun (gives n) docs us new at end found)

-- the greatest place where the phrase begins
abbrev pub FindsStart : {S : Type 0} → (S → Moment → Type 0) → (S → Moment → S → Moment → Type 0) → S → S → List Cursor → List Cursor → ℕ → ℕ → Type 0
FindsStart stands keeps s t old new end found = (docs : List Doc) (us : List (List ℕ)) (last : ℕ) → end ≤ last
    → Told stands keeps s t (λ m. AllLeaves (gives m) docs us old last) (FoundStart us docs new end found)

-- where the terms of a window are, the first where it is within the limit
abbrev pub FindsSpan : {S : Type 0} → (S → Moment → Type 0) → (S → Moment → S → Moment → Type 0) → S → S → ℕ → List Cursor → List Cursor → ℕ → Span → Type 0
FindsSpan stands keeps s t limit old new end span = (docs : List Doc) (us : List (List ℕ)) (last : ℕ) → end ≤ last
    → Told stands keeps s t (λ m. AllBehind (gives m) docs us old last) (FoundWithin us docs limit new end span)

-- the greatest place where a window of these terms ends
abbrev pub FindsEndOf : {S : Type 0} → (S → Moment → Type 0) → (S → Moment → S → Moment → Type 0) → S → S → List (List ℕ) → ℕ → List Cursor → List Cursor → ℕ → ℕ → Type 0
FindsEndOf stands keeps s t us w old new end found = (docs : List Doc) (last : ℕ) → end ≤ last
    → Told stands keeps s t (λ m. AllBehind (gives m) docs us old last) (FoundEnd us w docs new end found)

-- the greatest place of the last term of a window
abbrev pub FindsLast : {S : Type 0} → (S → Moment → Type 0) → (S → Moment → S → Moment → Type 0) → S → S → List Cursor → List Cursor → ℕ → ℕ → Type 0
FindsLast stands keeps s t old new end found = (docs : List Doc) (us : List (List ℕ)) (last : ℕ) → end ≤ last
    → Told stands keeps s t (λ m. AllBehind (gives m) docs us old last) (λ n. (found ≡ top (is_posting docs (last_term us)) end) × AllBehind (gives n) docs us new end)

-- the greatest document whose id is greater than the bound
abbrev pub FindsBound : {S : Type 0} → (S → Moment → Type 0) → (S → Moment → S → Moment → Type 0) → S → S → ℕ → Cursor → Cursor → ℕ → ℕ → Type 0
FindsBound stands keeps s t x old new end found = (docs : List Doc) (last : ℕ) → end ≤ last
    → Told stands keeps s t (λ m. IsBound (gives m) docs x old last) (FoundBound x docs new end found)

-- ---- beginning

-- what opening lists in a segment gives, for each prefix of its documents that could be read
abbrev pub OpensIn : {S : Type 0} → (S → Moment → Type 0) → (S → Moment → S → Moment → Type 0) → S → S → ℕ → Bool → (List Doc → Moment → Type 0) → Type 0
OpensIn stands keeps s t segment packed After = (docs : List Doc) → Told stands keeps s t (λ m. CanRead m segment docs packed) (After docs)

-- what beginning in n documents of a segment gives
abbrev pub BeginsIn : {S : Type 0} → (S → Moment → Type 0) → (S → Moment → S → Moment → Type 0) → S → S → ℕ → ℕ → Bool → (List Doc → Moment → Type 0) → Type 0
BeginsIn stands keeps s t segment documents packed After = (docs : List Doc) → length docs ≡ documents → Told stands keeps s t (λ m. CanRead m segment docs packed) (After docs)
