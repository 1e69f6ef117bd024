use Rattle.eb_fields.specs.Dialect.{dialect_of}
use Rattle.std.proofs.Common.{List, ◌*◌, subst, map, ap, arith}
use Rattle.std.specs.List.{AllZip}
use Rattle.std.proofs.lemmas.Slice.Zip.{AllZip-long}
use Rattle.eb_rounds.specs.Inputs.{ReadsLine}
use Rattle.eb_rounds.specs.Works.{asked_entry, given_entry, first_line, then_line}
use Rattle.eb_rounds.specs.declared.held.FirstLine.{FirstLine}
use Rattle.eb_rounds.specs.declared.held.ThenLine.{ThenLine}
use Rattle.eb_rounds.proofs.Rounded.{zip_map, zip_append}
use Rattle.eb_rounds.proofs.reading.read_round.Goals as goal

pub returns : goal.returns
returns g c =
    let round = c.args.round.now in
    let asked = c.in_ok-asked.asked.items in
    let given = c.in_ok-asked.given.items in
    let F : List FirstLine → Type 0 = λ ls. AllZip (λ line task. ReadsLine (dialect_of c.args.dialect) (first_line line) (asked_entry task)) ls asked in
    let T : List ThenLine → Type 0 = λ ls. AllZip (λ line task. ReadsLine (dialect_of c.args.dialect) (then_line line) (given_entry task)) ls given in
    let first = subst F c.as_slice.ensures.value c.in_ok-asked.ensures.first in
    let last = subst T c.as_slice-2.ensures.value c.in_ok-asked.ensures.then in
    let room = c.in_ok-refusals.ensures in
    record {
      read = zip_append (ReadsLine (dialect_of c.args.dialect)) (map first_line round.first.items) (map asked_entry asked) (map then_line round.last.items) (map given_entry given)
          (zip_map (ReadsLine (dialect_of c.args.dialect)) first_line asked_entry round.first.items asked first)
          (zip_map (ReadsLine (dialect_of c.args.dialect)) then_line given_entry round.last.items given last);
      refusals = (room.items, room.len, omega (arith, room.capacity, c.len.ensures, ap (λ n. n * c.len.result) c.line_room.ensures));
      asked = AllZip-long _ _ _ first;
      given = AllZip-long _ _ _ last;
    }
