-- Of two moments that lie on one history, the later part of each.
use Rattle.std.specs.Prelude.{ℕ, suc, Bool, true, false, length, Option, Some, None, ltb, cond}
use Rattle.eb_base.specs.Document.{Doc}
use Rattle.eb_place.specs.declared.moment.Documents.{Documents}
use Rattle.eb_place.specs.declared.moment.Conversions.{Conversions}
use Rattle.eb_place.specs.declared.moment.Moment.{Moment}

-- how far a document is being placed
abbrev pub rank : Option (Doc × ℕ) → ℕ
rank None = 0
rank (Some c) = suc c.1

-- fewer documents are accepted in the first, or as many, and less of the next one is placed
abbrev pub is_behind : Documents → Documents → Bool
is_behind a b = cond (ltb (length a.accepted) (length b.accepted)) true (cond (ltb (length b.accepted) (length a.accepted)) false (ltb (rank a.current) (rank b.current)))

-- of two parts that lie on one history, the later
unfoldable pub later_documents : Documents → Documents → Documents
later_documents a b = cond (is_behind a b) b a

-- of two conversion parts, the later
abbrev pub later_conversions : Conversions → Conversions → Conversions
later_conversions a b = cond (ltb a.converted b.converted) b (cond (ltb b.converted a.converted) a (cond (ltb a.packed b.packed) b a))

-- the least moment after both
abbrev pub later_of : Moment → Moment → Moment
later_of m n = record { setting = m.setting; documents = later_documents m.documents n.documents; conversions = later_conversions m.conversions n.conversions }
