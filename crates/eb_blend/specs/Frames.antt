-- What a blend's frame is to a contract.
use Rattle.std.specs.Prelude.{◌≡◌, ◌≤◌, ◌*◌, ℕ, List, length, vec_capacity}
use Rattle.std.specs.List.{All}
use Rattle.eb_base.specs.Query.{Tree}
use Rattle.eb_cursor.specs.declared.frame.Frame.{Frame}
use Rattle.eb_cursor.specs.Frames.{query_of, k_of}
use Rattle.eb_blend.specs.declared.frame.BlendFrame.{BlendFrame}

-- each frame asks this query for at most k ids
abbrev pub AllAsk : Tree → ℕ → List Frame → Type 0
AllAsk q k fs = All (λ f. (query_of f ≡ q) × (k_of f ≡ k)) fs

-- the frame asks this many parts this query, for at most k ids, and has room for what they all
-- answer
pub record Asks (f : BlendFrame) (q : Tree) (k parts : ℕ) : Type 0 where
  pub frames : AllAsk q k f.frames.items
  pub most : f.k ≡ k
  pub number : length f.frames.items ≡ parts
  pub lengths : length f.lengths.items ≡ parts
  pub room : parts * k ≤ vec_capacity f.ids

-- the ids that it holds
abbrev pub found_of : BlendFrame → List ℕ
found_of f = f.ids.items

-- the length of each part's prefix that was searched
abbrev pub searched_of : BlendFrame → List ℕ
searched_of f = f.lengths.items
