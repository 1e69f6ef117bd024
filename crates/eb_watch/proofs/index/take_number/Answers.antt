use Rattle.std.proofs.Common.{◌≡◌, length, refl, sym, ◌∙◌, rules}
use Rattle.eb_watch.proofs.Numbers.{take_found, take_last}
use Rattle.eb_watch.proofs.index.take_number.Goals as goal

pub returns-then-is_empty : goal.returns-then-is_empty
returns-then-is_empty c =
    let s' = c.remove.new.self in
    let same = c.bytes-then-is_empty.ensures ∙ sym c.bytes.ensures in
    let none : length s'.keys ≡ 0 = c.if-is_empty.ensures.0 refl in
    let gone = rw same at c.remove-then-is_empty.ensures.updates in
    rw (← c.bytes.ensures)
    (take_last c.bytes.result.now c.args.by_term.now (c.get_mut.follows.lender s') c.in-Some.numbers.now s' c.args.number c.in-Some.ensures.value c.remove-then-is_empty.new.self
    ((c.get_mut.follows.holds s').3 (search rules)) gone c.remove.ensures.updates none)

pub returns-else-is_empty : goal.returns-else-is_empty
returns-else-is_empty c =
    let s' = c.remove.new.self in
    rw (← c.bytes.ensures)
    (take_found c.bytes.result.now c.args.by_term.now (c.get_mut.follows.lender s') c.in-Some.numbers.now s' c.args.number c.in-Some.ensures.value
    ((c.get_mut.follows.holds s').3 (search rules)) c.remove.ensures.updates)
