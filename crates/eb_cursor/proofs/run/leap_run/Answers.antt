use Rattle.std.proofs.Common.{◌≡◌, ◌-◌, ◌≤◌, drop, arith}
use Rattle.eb_cursor.specs.Lists.{gives}
use Rattle.eb_cursor.specs.Posted.{first_below}
use Rattle.eb_cursor.proofs.Runs.{run_told, down_told}
use Rattle.eb_cursor.proofs.Tellings.{told_on}
use Rattle.eb_cursor.proofs.run.leap_run.Goals as goal

pub ask_down-first-requires-clause-ready : goal.ask_down-first-requires-clause-ready
ask_down-first-requires-clause-ready g c = let r = c.requires.ready in
    let x = (c.ask_down-last.ensures.found r.1 r.2 r.3).told r.0 r.4 r.6 in
    (x.0, r.1, r.2, r.3, x.1, x.4)

pub returns-clause-found : goal.returns-clause-found
returns-clause-found g c = λ docs ts end r.
    told_on g.met.P.Port.lawful g.met.P.Port.keeps_on (c.ask_down-last.ensures.found docs ts end) (c.ask_down-first.ensures.found docs ts end) (λ m p. p.0) (λ l m w p x. x)
    (λ l m n w v p x y.
    let low : c.args.run.to - 1 ≤ c.ask_down-last.result.left = c.ask_down-last.ensures.low (omega (arith, c.requires.left)) in
    let last : c.ask_down-last.result.first ≡ first_below docs (drop (c.args.run.to - 1) ts) end = down_told docs ts (c.args.run.to - 1) c.ask_down-last.result.left c.ask_down-last.result.first end
    (omega (arith, c.ask_down-last.ensures.falls, c.requires.left, r.within)) low x.1 c.ask_down-last.ensures.stops in
    let first : c.ask_down-first.result.first ≡ first_below docs (drop c.args.run.from ts) end = down_told docs ts c.args.run.from c.ask_down-first.result.left c.ask_down-first.result.first end
    (omega (arith, c.ask_down-first.ensures.falls, c.ask_down-last.ensures.falls, c.requires.left, r.within))
    (c.ask_down-first.ensures.low (omega (arith, low, r.several))) y.1 c.ask_down-first.ensures.stops in
    run_told (gives n) docs ts c.ask_down-first.new.cursors c.args.run end (record { first = c.ask_down-first.result.first; last = c.ask_down-last.result.first }) r first last y.0)
