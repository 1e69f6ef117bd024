-- The documents of all parts, for counts, of which their order changes nothing.
use Rattle.std.specs.Prelude.{List, [], ◌∷◌, ◌++◌}
use Rattle.eb_base.specs.Document.{Doc}

-- the last part first
abbrev pub all_of : List (List Doc) → List Doc
all_of [] = []
all_of (h ∷ hs) = all_of hs ++ h
