use Rattle.std.proofs.Common.{rules, ◌≡◌, ◌≤◌, [], length, arith}
use Rattle.eb_image.proofs.Nexts.{shortest_last}
use Rattle.eb_image.proofs.Firsts.{begun_all, none_longer}
use Rattle.eb_image.proofs.first.first_length.Goals as goal

pub parts-init : goal.parts-init
parts-init c = record {
  order = omega arith;
  there = omega arith;
  within = omega arith;
  shortest = shortest_last [] (omega arith) (λ h. absurd (omega (arith, h)));
}

pub returns-then-next-have : goal.returns-then-next-have
returns-then-next-have c =
    let inv = c.parts.invariant in
    let all : length c.args.bytes.now ≡ c.parts.have = search rules in
    begun_all c.parts.have c.parts.whole c.args.bytes.now all (omega (arith, c.parts-test.true)) inv.shortest

pub returns-in-None : goal.returns-in-None
returns-in-None c =
    let inv = c.parts.invariant in
    let more : c.parts.have ≤ c.min-next.result = search rules in
    let within : c.min-next.result ≤ c.parts.whole = search rules in
    let there : c.min-next.result ≤ length c.args.bytes.now = search rules in
    none_longer c.parts.have c.min-next.result c.parts.whole c.args.bytes.now (omega (arith, c.parts-test.true)) more within there inv.shortest c.in-None.ensures.form
