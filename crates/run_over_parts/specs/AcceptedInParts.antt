-- Which documents several indexes of one setting accept, where documents go to them by their ids.
use Rattle.std.specs.Prelude.{ℕ, ◌%◌, List, [], ◌∷◌, Option, Some, None, if◌then◌else◌, nat_le}
use Rattle.eb_base.specs.Document.{Doc}
use Rattle.eb_base.specs.Setting.{Setting}
use Rattle.eb_place.specs.Room.{has_room}
use Rattle.eb_blend.specs.declared.refusal.BlendRefusal.{BlendRefusal}
use Rattle.eb_blend.specs.declared.refusal.BlendRefusal.TheVariants as blend
use Rattle.eb_blend.specs.Laws.{part}
use Rattle.eb_lines.specs.declared.refusal.Refusal.{Refusal}
use Rattle.eb_lines.specs.declared.refusal.Refusal.TheVariants.{NotRising, Full}

-- the id of the last of these documents, if there is one
abbrev pub last_id : List Doc → Option ℕ
last_id [] = None
last_id (d ∷ []) = Some d.id
last_id (d ∷ e ∷ ds) = last_id (e ∷ ds)

-- a document goes to the part that is its id modulo the number of parts, where that has room for it
-- after those of these documents that went there; else it is refused as full
abbrev pub refusal_of_part : ℕ → Setting → List Doc → Doc → Option Refusal
refusal_of_part parts σ docs d = if has_room σ (part parts docs (d.id % parts)) d then None else Some Full

-- where its id isn't above the last accepted one, it is refused before that
abbrev pub refusal_above : Option ℕ → Doc → Option Refusal → Option Refusal
refusal_above None d r = r
refusal_above (Some last) d r = if nat_le d.id last then Some (NotRising last) else r

-- why a document is refused after these accepted ones
abbrev pub refusal_in_parts : ℕ → Setting → List Doc → Doc → Option Refusal
refusal_in_parts parts σ docs d = refusal_above (last_id docs) d (refusal_of_part parts σ docs d)

-- a document that the blend of the parts refuses
abbrev pub refused_by : BlendRefusal → Refusal
refused_by (blend.NotRising last) = NotRising last
refused_by (blend.Full part) = Full
