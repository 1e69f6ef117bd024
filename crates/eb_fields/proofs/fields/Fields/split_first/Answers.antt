use Rattle.std.proofs.Common.{arith}
use Rattle.std.proofs.lemmas.Str.Pattern.{split_once_first}
use Rattle.eb_fields.proofs.Listed.{names_first, names_last}
use Rattle.eb_fields.proofs.fields.Fields.split_first.Goals as goal

pub returns-in-Some-split_once : goal.returns-in-Some-split_once
returns-in-Some-split_once c =
    let parts = split_once_first 44 c.in-Some.words.now c.split_once.result c.split_once.ensures.cases (omega arith) in
    let p = rw c.in-Some-split_once.is at parts in
    rw c.in-Some.is (names_first c.in-Some.words.now c.in-Some-split_once.name.now c.in-Some-split_once.rest.now p.0 p.1 p.2)

pub returns-in-None : goal.returns-in-None
returns-in-None c =
    let parts = split_once_first 44 c.in-Some.words.now c.split_once.result c.split_once.ensures.cases (omega arith) in
    let p = rw c.in-None.is at parts in
    rw c.in-Some.is (names_last c.in-Some.words.now p)
