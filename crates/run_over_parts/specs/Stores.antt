-- What a blend that a run fills holds.
use Rattle.std.specs.Prelude.{◌≡◌, ℕ, ◌-◌, ◌^◌, ◌≤◌, List, ◌++◌, length, min, Option}
use Rattle.std.specs.List.{All}
use Rattle.run_store.specs.Rules.{document_outcome}
use Rattle.eb_base.specs.Document.{Doc}
use Rattle.eb_base.specs.Setting.{Setting, IsSetting}
use Rattle.eb_blend.specs.Laws.{cut_into, HasRisingIds}
use Rattle.eb_blend.specs.Parts.{WriterTokens, counted, lengths_of, history, AllConverted}
use Rattle.eb_lines.specs.declared.refusal.Refusal.{Refusal}
use Rattle.eb_lines.specs.Progress.{documents_in}
use Rattle.eb_place.specs.Room.{cut}
use Rattle.eb_table.specs.Known.{Words}
use Rattle.run_over_parts.specs.declared.store.Store.{Store}
use Rattle.run_over_parts.specs.AcceptedInParts.{last_id, refusal_in_parts}

-- these documents, cut into this many parts of this setting; and in each part each segment whose
-- following segment has a document is converted
pub record Holds (s : Store) (parts : ℕ) (σ : Setting) (docs : List Doc) : Type 0 where
  pub some : 1 ≤ parts
  pub most : parts ≤ 16
  pub allowed : IsSetting σ
  pub words : List Words
  pub number : length words ≡ parts
  pub settings : All (λ w. w.setting ≡ σ) words
  pub blend : s.blend ≡ record { setting = σ; indexes = words }
  pub writer : s.writer ≡ (let w : WriterTokens = record { indexes = words; histories = cut_into parts docs; last = last_id docs } in w)
  pub converter : s.converter.indexes ≡ words
  pub counters : length s.converter.converted ≡ parts
  pub converted : AllConverted σ (cut_into parts docs) s.converter.converted
  pub rising : HasRisingIds docs
  pub counts : counted (lengths_of (cut_into parts docs)) ≡ min (length docs) (2 ^ 64 - 1)
  pub short : (p : ℕ) → length (cut σ (history (cut_into parts docs) p)) ≤ 64

-- a document after these was placed, or refused
pub record WithPlaced (s : Store) (parts : ℕ) (σ : Setting) (docs : List Doc) (d : Doc) (r : Option Refusal) : Type 0 where
  pub refusal : r ≡ refusal_in_parts parts σ docs d
  pub holds : Holds s parts σ (docs ++ documents_in (document_outcome d r))
