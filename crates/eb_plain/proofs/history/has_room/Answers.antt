use Rattle.std.proofs.Common.{◌≡◌, ap, ◌∙◌, Bool, length, drop, arith, subst}
use Rattle.std.specs.Prelude.{IfOk}
use Rattle.std.proofs.Math.Seq.{take-length}
use Rattle.eb_place.specs.Room.{fits}
use Rattle.eb_plain.proofs.HistoryCuts.{room_further, room_last, front_from}
use Rattle.eb_plain.proofs.history.has_room.Goals as goal

pub returns-then-last-segments : goal.returns-then-last-segments
returns-then-last-segments c =
    room_further c.args.config.now c.args.documents.now c.args.document.now c.in_ok-last.last.begun c.in_ok-last.ensures.begun (omega (arith, c.segments.ensures, c.if-last-segments.true))

pub returns : goal.returns
returns c =
    let σ = c.args.config.now in
    let docs = c.args.documents.now in
    let d = c.args.document.now in
    let start = c.in_ok-last.last.start in
    let rest = front_from docs start (length docs) c.in_ok-last.ensures.within ∙ ap (drop start) (take-length docs) in
    let is = ap (λ seg. fits σ seg d) rest
    ∙ room_last σ docs d c.in_ok-last.last.begun start c.in_ok-last.ensures.begun (omega (arith, c.segments.ensures, c.if-last-segments.false)) c.in_ok-last.ensures.start in
    let P : Bool → Type 0 = λ b. IfOk c.fits.result (λ answer. answer ≡ b) in
    subst P is c.fits.ensures
