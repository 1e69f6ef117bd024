-- The first accepted documents of a segment, at later moments too.
use Rattle.std.proofs.Common.{◌≡◌, ℕ, ◌<◌, List, [], ◌++◌, get_or, ap, sym, ◌∙◌, subst, append_assoc}
use Rattle.eb_base.specs.Document.{Doc}
use Rattle.eb_place.specs.declared.moment.Moment.{Moment}
use Rattle.eb_place.specs.Room.{cut}
use Rattle.eb_place.specs.Later.{IsNotBefore}
use Rattle.eb_place.proofs.ReachedLater.{segments_grow}
use Rattle.eb_cursor.specs.Accepted.{accepted_in, AreFirst}

-- the segment is one of a later moment too
pub first_later : (m n : Moment) (s : ℕ) (docs : List Doc) → IsNotBefore n m → AreFirst m s docs → s < n.setting.segments
first_later m n s docs l a = subst (λ σ. s < σ.segments) l.setting a.inside

-- the first documents of a segment are so later too
pub first_on : (m n : Moment) (s : ℕ) (docs : List Doc) → IsNotBefore n m → AreFirst m s docs → AreFirst n s docs
first_on m n s docs l a =
    let p = l.documents.accepted in
    let q = segments_grow m.setting m.documents.accepted p.0 s in
    let e : accepted_in m s ++ q.0 ≡ accepted_in n s = q.1 ∙ ap (λ (z : List Doc). get_or (cut m.setting z) s []) p.1 ∙ ap (λ σ. get_or (cut σ n.documents.accepted) s []) l.setting in
    record { inside = first_later m n s docs l a; narrow = a.narrow; rest = a.rest ++ q.0; are = sym e ∙ ap (λ (z : List Doc). z ++ q.0) a.are ∙ append_assoc docs a.rest q.0 }
