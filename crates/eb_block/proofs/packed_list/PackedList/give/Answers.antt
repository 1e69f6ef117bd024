use Rattle.std.proofs.Common.{◌≡◌, true, [], subst}
use Rattle.std.specs.Bool.{MatchBool}
use Rattle.eb_block.proofs.Standing.{gives_none, gives_some}
use Rattle.eb_block.proofs.packed_list.PackedList.give.Goals as goal

pub returns-then-not-hold : goal.returns-then-not-hold
returns-then-not-hold g c = record {
  one = c.hold.ensures.one;
  told = λ s t rest b. record {
    told = λ m st h.
        (let n = (c.hold.ensures.told s t rest b).told m st h in
        let e = subst (λ z. MatchBool z (c.hold.new.self.held ≡ true) (rest ≡ [])) c.if-not-hold.true n.4.3 in
        (n.0, n.1, n.2, n.3, (n.4.0, gives_none n.0 s t c.hold.new.self rest n.4.0 n.4.1 e, n.4.2)));
  };
}

pub returns : goal.returns
returns g c = record {
  one = c.hold.ensures.one;
  told = λ s t rest b. record {
    told = λ m st h.
        (let n = (c.hold.ensures.told s t rest b).told m st h in
        let e = subst (λ z. MatchBool z (c.hold.new.self.held ≡ true) (rest ≡ [])) c.if-not-hold.false n.4.3 in
        (n.0, n.1, n.2, n.3, (n.4.0, gives_some n.0 s t c.hold.new.self rest n.4.0 n.4.1 e, n.4.2)));
  };
}
