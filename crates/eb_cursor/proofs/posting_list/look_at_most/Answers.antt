use Rattle.std.proofs.Common.{◌≡◌, ℕ, ◌+◌, ◌-◌, ◌<◌, ◌≤◌, List, [], ◌∷◌, length, Option, None, Some, refl, ap, sym, ◌∙◌, subst, arith}
use Rattle.eb_base.specs.Term.{Term}
use Rattle.eb_place.specs.declared.moment.Moment.{Moment}
use Rattle.eb_place.proofs.LaterMoments.{later_on}
use Rattle.eb_chain.specs.Chains.{Stands, Given}
use Rattle.eb_place.specs.Postings.{at_most}
use Rattle.eb_chain.specs.Leaps.{slices_in_use}
use Rattle.eb_chain.specs.declared.chain.Chain.{Chain}
use Rattle.eb_chain.proofs.Leaping.{at_most_in, at_most_past, slices_grow}
use Rattle.eb_cursor.proofs.Leaps.{fewer, leaps_to, next_two, walk_two}
use Rattle.eb_cursor.proofs.posting_list.look_at_most.Goals as goal

-- what was left where nothing was given, and where a posting was
none_left : (n : Moment) (s : ℕ) (t : Term) (c : Chain) (opened : ℕ) (rest : List ℕ) (r : Option ℕ) → Given n s t c opened rest r → r ≡ None → (rest ≡ []) × Stands n s t c opened []
none_left n s t c opened [] r h e = (refl, h.1)
none_left n s t c opened (x ∷ xs) r h e = absurd (cc (sym h.0 ∙ e))

some_left : (n : Moment) (s : ℕ) (t : Term) (c : Chain) (opened : ℕ) (rest : List ℕ) (r : Option ℕ) (p : ℕ) → Given n s t c opened rest r → r ≡ Some p
    → (xs : List ℕ) × (rest ≡ p ∷ xs) × Stands n s t c opened xs
some_left n s t c opened [] r p h e = absurd (cc (sym h.0 ∙ e))
some_left n s t c opened (x ∷ xs) r p h e = let same : x ≡ p = cc (sym h.0 ∙ e) in (xs, ap (λ z. z ∷ xs) same, h.1)

pub returns-in_default : goal.returns-in_default
returns-in_default g c = record {
  told = λ s t opened rest. record {
    told = λ m st h.
        let x = (c.next.ensures.told s t opened rest).told m st h in
        let k = none_left x.0 s t c.next.new.self opened rest c.next.result x.4 c.in_default.is in
        (x.0, x.1, x.2, x.3, subst (λ z. Given x.0 s t c.next.new.self opened (at_most c.args.most z) None) (sym k.0) (refl, k.1));
  };
  loads = λ m s t opened rest st h. omega (arith, c.next.ensures.steps m s t opened rest h, next_two opened (length rest));
  spans = λ m s t opened rest st h.
      let x = (c.next.ensures.told s t opened rest).told m st h in
      let k = none_left x.0 s t c.next.new.self opened rest c.next.result x.4 c.in_default.is in
      let same : length (at_most c.args.most rest) ≡ length rest = ap (λ z. length (at_most c.args.most z)) k.0 ∙ sym (ap length k.0) in
      omega (arith, c.next.ensures.steps m s t opened rest h, next_two opened (length rest), ap slices_in_use same);
}

pub returns-then-posting-most : goal.returns-then-posting-most
returns-then-posting-most g c = record {
  told = λ s t opened rest. record {
    told = λ m st h.
        let x = (c.next.ensures.told s t opened rest).told m st h in
        let k = some_left x.0 s t c.next.new.self opened rest c.next.result c.in-Some.posting x.4 c.in-Some.is in
        let low : c.in-Some.posting ≤ c.args.most = omega (arith, c.if-posting-most.true) in
        let all : at_most c.args.most rest ≡ c.in-Some.posting ∷ k.0 = ap (at_most c.args.most) k.1 ∙ at_most_in c.args.most c.in-Some.posting k.0 low in
        (x.0, x.1, x.2, x.3, subst (λ z. Given x.0 s t c.next.new.self opened z (Some c.in-Some.posting)) (sym all) (refl, k.2));
  };
  loads = λ m s t opened rest st h. omega (arith, c.next.ensures.steps m s t opened rest h, next_two opened (length rest));
  spans = λ m s t opened rest st h.
      let few : length (at_most c.args.most rest) ≤ length rest = omega (arith, ap length (leaps_to c.args.most rest), fewer (c.args.most + 1) rest) in
      omega (arith, c.next.ensures.steps m s t opened rest h, next_two opened (length rest), slices_grow (length (at_most c.args.most rest)) (length rest) few);
}

pub next_at_most-requires : goal.next_at_most-requires
next_at_most-requires g c =
    let r = c.requires in
    let x = (c.next.ensures.told r.1 r.2 r.3 r.4).told r.0 r.5 r.6 in
    let k = some_left x.0 r.1 r.2 c.next.new.self r.3 r.4 c.next.result c.in-Some.posting x.4 c.in-Some.is in
    (x.0, r.1, r.2, r.3, k.0, x.1, k.2)

pub returns : goal.returns
returns g c = record {
  told = λ s t opened rest. record {
    told = λ m st h.
        let x = (c.next.ensures.told s t opened rest).told m st h in
        let k = some_left x.0 s t c.next.new.self opened rest c.next.result c.in-Some.posting x.4 c.in-Some.is in
        let high : c.args.most < c.in-Some.posting = omega (arith, c.if-posting-most.false) in
        let past : at_most c.args.most rest ≡ at_most c.args.most k.0 = ap (at_most c.args.most) k.1 ∙ at_most_past c.args.most c.in-Some.posting k.0 high in
        let y = (c.next_at_most.ensures.told s t opened k.0).told x.0 x.1 k.2 in (
          y.0,
          y.1,
          later_on m x.0 y.0 x.2 y.2,
          g.met.P.Port.keeps_on _ _ _ m x.0 y.0 x.3 y.3,
          subst (λ z. Given y.0 s t c.next_at_most.new.self opened z c.next_at_most.result) (sym past) y.4,
        );
  };
  loads = λ m s t opened rest st h.
      let x = (c.next.ensures.told s t opened rest).told m st h in
      let k = some_left x.0 s t c.next.new.self opened rest c.next.result c.in-Some.posting x.4 c.in-Some.is in
      let high : c.args.most < c.in-Some.posting = omega (arith, c.if-posting-most.false) in
      let past : at_most c.args.most rest ≡ at_most c.args.most k.0 = ap (at_most c.args.most) k.1 ∙ at_most_past c.args.most c.in-Some.posting k.0 high in
      let left = length (at_most c.args.most k.0) in
      let few : left ≤ length k.0 = omega (arith, ap length (leaps_to c.args.most k.0), fewer (c.args.most + 1) k.0) in
      let short = c.next_at_most.ensures.short x.0 s t opened k.0 x.1 k.2 in
      omega (
        arith,
        c.next.ensures.steps m s t opened rest h,
        next_two opened (length rest),
        short,
        walk_two opened (length k.0) (length k.0 - left + 1),
        ap length k.1,
        ap length past,
        few,
      );
  spans = λ m s t opened rest st h.
      let x = (c.next.ensures.told s t opened rest).told m st h in
      let k = some_left x.0 s t c.next.new.self opened rest c.next.result c.in-Some.posting x.4 c.in-Some.is in
      let high : c.args.most < c.in-Some.posting = omega (arith, c.if-posting-most.false) in
      let past : at_most c.args.most rest ≡ at_most c.args.most k.0 = ap (at_most c.args.most) k.1 ∙ at_most_past c.args.most c.in-Some.posting k.0 high in
      let leap = c.next_at_most.ensures.leap x.0 s t opened k.0 x.1 k.2 in
      omega (
        arith,
        c.next.ensures.steps m s t opened rest h,
        next_two opened (length rest),
        leap.loads,
        leap.few,
        ap (λ z. slices_in_use (length z)) past,
        slices_grow (length k.0) (length rest) (omega (arith, ap length k.1)),
      );
}
