-- What a blend's answer is of one history that is cut into parts.
use Rattle.std.specs.Prelude.{◌≡◌, ℕ, ◌%◌, ◌<◌, ◌≤◌, ◌==◌, List, [], ◌∷◌, map, length, filter}
use Rattle.std.specs.List.{All, range_with_len}
use Rattle.eb_base.specs.Document.{Doc}
use Rattle.eb_base.specs.Query.{Tree}
use Rattle.eb_base.specs.Match.{answer}
use Rattle.eb_blend.specs.Blended.{blended}

-- the documents of a part: those whose ids leave its number as the remainder by the number of parts
abbrev pub part : ℕ → List Doc → ℕ → List Doc
part parts docs p = filter (λ d. d.id % parts == p) docs

-- a history cut into parts
abbrev pub cut_into : ℕ → List Doc → List (List Doc)
cut_into parts docs = map (part parts docs) (range_with_len 0 parts)

-- each id is above those before it
abbrev pub HasRisingIds : List Doc → Type 0
HasRisingIds [] = Unit {0}
HasRisingIds (d ∷ ds) = All (λ e. d.id < e.id) ds × HasRisingIds ds

-- blending the parts of a history with rising ids is answering over it
abbrev pub BlendIsAnswer : Type 0
BlendIsAnswer = (q : Tree) (k parts : ℕ) (docs : List Doc) → 1 ≤ parts → HasRisingIds docs
    → blended q k (cut_into parts docs) (map length (cut_into parts docs)) ≡ answer q k docs
