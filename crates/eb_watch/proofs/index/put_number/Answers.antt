use Rattle.std.proofs.Common.{sym, ◌∙◌, rules}
use Rattle.eb_watch.proofs.Numbers.{put_found, same_found, put_new, on_err}
use Rattle.eb_watch.proofs.index.put_number.Goals as goal

pub returns-in_err-insert-clause-err : goal.returns-in_err-insert-clause-err
returns-in_err-insert-clause-err c =
    let s' = c.insert.new.self in
    on_err c.from_residual.result
    (same_found c.bytes.result.now c.args.by_term.now (c.get_mut.follows.lender s') c.in-Some.numbers.now s' c.args.number c.in-Some.ensures.value
    ((c.get_mut.follows.holds s').3 (search rules)) c.in_err-insert.ensures.err)

pub returns-in-Some-clause-ok : goal.returns-in-Some-clause-ok
returns-in-Some-clause-ok c =
    let s' = c.insert.new.self in
    rw (← c.bytes.ensures)
    (put_found c.bytes.result.now c.args.by_term.now (c.get_mut.follows.lender s') c.in-Some.numbers.now s' c.args.number c.in-Some.ensures.value
    ((c.get_mut.follows.holds s').3 (search rules)) c.in_ok-insert.ensures.updates)

pub returns-clause-ok : goal.returns-clause-ok
returns-clause-ok c =
    rw (← c.bytes.ensures)
    (put_new c.bytes.result.now c.in_ok-key.key c.args.by_term.now c.get_mut.follows.lender-at-none c.insert-3.new.self c.new-numbers.result c.insert-2.new.self c.args.number
    (c.in_ok-key.ensures.items ∙ c.bytes-2.ensures ∙ sym c.bytes.ensures) c.in_default.ensures.value c.get_mut.follows.holds-at-none c.new-numbers.ensures.empty
    c.in_ok-insert-3.ensures.updates c.in_ok-insert-2.ensures.updates)
