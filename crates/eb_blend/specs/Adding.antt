-- What comes of documents that are added one after the other, and what a part sees of it by itself.
use Rattle.std.specs.Prelude.{◌≡◌, ℕ, ◌+◌, ◌%◌, ◌<◌, ◌==◌, Bool, true, false, List, [], ◌∷◌, ◌++◌, map, length, take, get_or, Option, Some, None, Result, Ok, Err, nat_le, if◌then◌else◌}
use Rattle.eb_base.specs.Document.{Doc}
use Rattle.eb_base.specs.Setting.{Setting}
use Rattle.eb_place.specs.Room.{has_room}
use Rattle.eb_engine.specs.Tokens.{HistoryToken}
use Rattle.std.specs.Vec.{vec_len, vec_capacity}
use Rattle.std.specs.List.{All}
use Rattle.eb_blend.specs.declared.adding.Turn.{Turn}
use Rattle.eb_blend.specs.declared.adding.Space.{Space}
use Rattle.eb_blend.specs.declared.refusal.BlendRefusal.{BlendRefusal}
use Rattle.eb_blend.specs.declared.refusal.BlendRefusal.TheVariants.{NotRising, Full}
use Rattle.eb_blend.specs.Parts.{WriterTokens, indexes_of, histories_of, history, part_of, with_document, IsAbove}

-- ---- one document after the other

-- why the part of a document refuses it, if it does
abbrev pub refusal_of_part : Setting → List (List Doc) → Doc → Option BlendRefusal
refusal_of_part σ hs d = if has_room σ (history hs (part_of hs d)) d then None else Some (Full (part_of hs d))

-- where its id isn't above the last one, the blend refuses it before that
abbrev pub refusal_above : Option ℕ → Doc → Option BlendRefusal → Option BlendRefusal
refusal_above None d r = r
refusal_above (Some last) d r = if nat_le d.id last then Some (NotRising last) else r

-- why a document is refused, if it is
abbrev pub refusal_of : Setting → WriterTokens → Doc → Option BlendRefusal
refusal_of σ w d = refusal_above w.last d (refusal_of_part σ w.histories d)

-- the writer after a document that was accepted or refused
abbrev pub with_outcome : WriterTokens → Doc → Option BlendRefusal → WriterTokens
with_outcome w d None = record { indexes = w.indexes; histories = with_document w.histories d; last = Some d.id }
with_outcome w d (Some r) = w

-- what comes of an item, which may be a document; the writer after it
abbrev pub outcome : {E : Type 0} → Setting → WriterTokens → Result Doc E → Option BlendRefusal
outcome σ w (Ok d) = refusal_of σ w d
outcome σ w (Err e) = None

abbrev pub with_item : {E : Type 0} → Setting → WriterTokens → Result Doc E → WriterTokens
with_item σ w (Ok d) = with_outcome w d (refusal_of σ w d)
with_item σ w (Err e) = w

-- what comes of items, one after the other; the writer after them
unfoldable pub outcomes_of : {E : Type 0} → Setting → WriterTokens → List (Result Doc E) → List (Option BlendRefusal)
outcomes_of σ w [] = []
outcomes_of σ w (x ∷ xs) = outcome σ w x ∷ outcomes_of σ (with_item σ w x) xs

unfoldable pub with_items : {E : Type 0} → Setting → WriterTokens → List (Result Doc E) → WriterTokens
with_items σ w [] = w
with_items σ w (x ∷ xs) = with_items σ (with_item σ w x) xs

-- ---- ids that rise

-- the item is no document, or one whose id is above the last one
abbrev pub IsRising : {E : Type 0} → Option ℕ → Result Doc E → Type 0
IsRising last (Ok d) = IsAbove last d.id
IsRising last (Err e) = Unit {0}

-- the id of the last document, where there is one more
abbrev pub newest : {E : Type 0} → Option ℕ → Result Doc E → Option ℕ
newest last (Ok d) = Some d.id
newest last (Err e) = last

unfoldable pub newest_of : {E : Type 0} → Option ℕ → List (Result Doc E) → Option ℕ
newest_of last [] = last
newest_of last (x ∷ xs) = newest_of (newest last x) xs

-- the ids of the documents rise, from above the last one on
unfoldable pub AreRising : {E : Type 0} → Option ℕ → List (Result Doc E) → Type 0
AreRising last [] = Unit {0}
AreRising last (x ∷ xs) = IsRising last x × AreRising (newest last x) xs

-- ---- a part by itself

-- the documents of a part after this one, which is one more where it goes there and has room
abbrev pub part_with_document : Setting → ℕ → ℕ → List Doc → Doc → List Doc
part_with_document σ parts p h d = if d.id % parts == p then (if has_room σ h d then h ++ d ∷ [] else h) else h

-- it goes there, and has no room
abbrev pub is_without_room : Setting → ℕ → ℕ → List Doc → Doc → Bool
is_without_room σ parts p h d = if d.id % parts == p then (if has_room σ h d then false else true) else false

-- the same of an item, which may be a document
abbrev pub part_with : {E : Type 0} → Setting → ℕ → ℕ → List Doc → Result Doc E → List Doc
part_with σ parts p h (Ok d) = part_with_document σ parts p h d
part_with σ parts p h (Err e) = h

abbrev pub is_full : {E : Type 0} → Setting → ℕ → ℕ → List Doc → Result Doc E → Bool
is_full σ parts p h (Ok d) = is_without_room σ parts p h d
is_full σ parts p h (Err e) = false

unfoldable pub part_after : {E : Type 0} → Setting → ℕ → ℕ → List Doc → List (Result Doc E) → List Doc
part_after σ parts p h [] = h
part_after σ parts p h (x ∷ xs) = part_after σ parts p (part_with σ parts p h x) xs

-- for which of the items the part had no room
abbrev pub AreFull : {E : Type 0} → Setting → ℕ → ℕ → List Doc → List (Result Doc E) → List Bool → Type 0
AreFull {E} σ parts p h items full = (i : ℕ) (x : Result Doc E) → i < length items → x ≡ get_or items i x
    → get_or full i false ≡ is_full σ parts p (part_after σ parts p h (take i items)) x

-- a part added what goes to it, one after the other, and says for which of the items it had no room
pub record HasTurned {E : Type 0} (σ : Setting) (parts p : ℕ) (items : List (Result Doc E)) (old new : Turn) : Type 0 where
  pub index : new.writer.index ≡ old.writer.index
  pub docs : new.writer.docs ≡ part_after σ parts p old.writer.docs items
  pub long : length new.full.items ≡ length old.full.items
  pub full : AreFull σ parts p old.writer.docs items new.full.items

-- ---- the parts together

abbrev pub writers_of : List Turn → List HistoryToken
writers_of ts = map (λ (t : Turn). t.writer) ts

abbrev pub fulls_of : List Turn → List (List Bool)
fulls_of ts = map (λ (t : Turn). t.full.items) ts

-- the writer of a blend that these are, where this was the last id
abbrev pub blend_writer : List HistoryToken → Option ℕ → WriterTokens
blend_writer ts last = record { indexes = indexes_of ts; histories = histories_of ts; last = last }

abbrev pub turns_writer : List Turn → Option ℕ → WriterTokens
turns_writer ts last = blend_writer (writers_of ts) last

-- what its part says of a document, which is item i; of an item, which may be a document
abbrev pub told_document : List (List Bool) → ℕ → Doc → Option BlendRefusal
told_document fulls i d = if get_or (get_or fulls (d.id % length fulls) []) i false then Some (Full (d.id % length fulls)) else None

abbrev pub told_item : {E : Type 0} → List (List Bool) → ℕ → Result Doc E → Option BlendRefusal
told_item fulls i (Ok d) = told_document fulls i d
told_item fulls i (Err e) = None

unfoldable pub told_from : {E : Type 0} → List (List Bool) → ℕ → List (Result Doc E) → List (Option BlendRefusal)
told_from fulls i [] = []
told_from fulls i (x ∷ xs) = told_item fulls i x ∷ told_from fulls (i + 1) xs

-- the last id after a document of which this came; after an item
abbrev pub last_after_document : Option BlendRefusal → Option ℕ → Doc → Option ℕ
last_after_document None last d = Some d.id
last_after_document (Some r) last d = last

abbrev pub last_after : {E : Type 0} → Option BlendRefusal → Option ℕ → Result Doc E → Option ℕ
last_after r last (Ok d) = last_after_document r last d
last_after r last (Err e) = last

unfoldable pub last_from : {E : Type 0} → List (List Bool) → ℕ → Option ℕ → List (Result Doc E) → Option ℕ
last_from fulls i last [] = last
last_from fulls i last (x ∷ xs) = last_from fulls (i + 1) (last_after (told_item fulls i x) last x) xs

-- the space is for this many parts and items, and unused
pub record IsFor (parts items : ℕ) (s : Space) : Type 0 where
  pub turns : s.turns.items ≡ []
  pub no_turns : vec_len s.turns ≡ 0
  pub turns_room : vec_capacity s.turns ≡ parts
  pub rooms : vec_len s.rooms ≡ parts
  pub long : All (λ full. length full.items ≡ items) s.rooms.items
  pub writers : s.writers.items ≡ []
  pub no_writers : vec_len s.writers ≡ 0
  pub writers_room : vec_capacity s.writers ≡ parts
  pub outcomes : s.outcomes.items ≡ []
  pub no_outcomes : vec_len s.outcomes ≡ 0
  pub outcomes_room : vec_capacity s.outcomes ≡ items
