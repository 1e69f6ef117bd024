-- What the adds of many texts come to, one after the other.
use Rattle.std.specs.Prelude.{◌≡◌, ◌≢◌, ◌⊎◌, ℕ, suc, List, [], ◌∷◌, Result, Err}
use Rattle.eb_base.specs.Document.{Doc}
use Rattle.eb_engine.specs.Tokens.{HistoryToken}
use Rattle.feed_shared.specs.Turns.{WriterToken}
use Rattle.eb_c.specs.declared.adding_many.Text.{Text}
use Rattle.eb_c.specs.declared.dialects.Reading.{Reading}
use Rattle.eb_c.specs.declared.refusal.Refusal.{Refusal}
use Rattle.eb_c.specs.declared.refusal.Refusal.TheVariants as refusal
use Rattle.eb_c.specs.Adding.{document_as, number_after, docs_after}
use Rattle.eb_c.specs.Streaming.{LeaderAdds}

-- this is read of a text; there may be no memory to read it
abbrev pub IsRead : Reading → Text → Result Doc Refusal → Type 0
IsRead how text r = (r ≡ Err refusal.NoMemory) ⊎ (r ≡ document_as how text.id text.text.now)

-- what the add of a text answers, and what the writer has then
abbrev pub WriterAddsText : Reading → Text → HistoryToken → ℕ → HistoryToken → Type 0
WriterAddsText how text old number new = (r : Result Doc Refusal) × IsRead how text r × (number ≡ number_after old.index.setting old.docs r)
    × (new ≡ record { index = old.index; docs = docs_after old.index.setting old.docs r; converted = old.converted })

-- the same of a leader
abbrev pub LeaderAddsText : Reading → Text → WriterToken → ℕ → WriterToken → Type 0
LeaderAddsText how text old number new = (r : Result Doc Refusal) × IsRead how text r × LeaderAdds r old number new

-- texts are added one after the other until one is refused: how many were added, what the refused
-- one was answered, or 0 where all were added, and what there is then
unfoldable pub AddsEach : {W : Type 0} → (Text → W → ℕ → W → Type 0) → List Text → W → ℕ → ℕ → W → Type 0
AddsEach Adds [] old added number new = (added ≡ 0) × (number ≡ 0) × (new ≡ old)
AddsEach {W = W} Adds (text ∷ texts) old added number new = ((added ≡ 0) × (number ≢ 0) × Adds text old number new)
    ⊎ ((rest : ℕ) × (next : W) × (added ≡ suc rest) × Adds text old 0 next × AddsEach Adds texts next rest number new)
