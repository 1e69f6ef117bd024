-- Each document of a lawful history had room, by its number.
use Rattle.std.proofs.Common.{◌≡◌, ℕ, ◌<◌, true, List, length, get_or, take, slice_get, Some, subst}
use Rattle.std.proofs.lemmas.Option.{slice_get-get_or, slice_get_within, get_or_from_slice_get}
use Rattle.eb_base.specs.Document.{Doc}
use Rattle.eb_base.specs.Setting.{Setting}
use Rattle.eb_place.specs.Room.{has_room, HasRoom, IsLawful}

-- each document had room, by its number
pub rooms_at : (σ : Setting) (docs : List Doc) → IsLawful σ docs → (k : ℕ) (d : Doc) → k < length docs → has_room σ (take k docs) (get_or docs k d) ≡ true
rooms_at σ docs h k d l = h.rooms k (get_or docs k d) (slice_get-get_or docs k d l)

-- and the other way
pub rooms_by : (σ : Setting) (docs : List Doc) → ((k : ℕ) (d : Doc) → k < length docs → has_room σ (take k docs) (get_or docs k d) ≡ true)
    → (k : ℕ) (d : Doc) → slice_get docs k ≡ Some d → HasRoom σ (take k docs) d
rooms_by σ docs h k d e = subst (λ (w : Doc). has_room σ (take k docs) w ≡ true) (get_or_from_slice_get docs k d d e) (h k d (slice_get_within docs k d e))
