use Rattle.std.proofs.Common.{◌≡◌, ◌==◌, Bool, true, false, not, ◌&&◌, is_some, refl, sym, ap, ◌∙◌, subst, arith}
use Rattle.std.specs.Option.{is_none}
use Rattle.std.specs.Map.{keys_of}
use Rattle.std.proofs.lemmas.Map.Keys.{IsStrictlyIncreasing-from_sorted}
use Rattle.eb_base.specs.Query.{Tree}
use Rattle.eb_watch.specs.Key.{watch_key, is_keyless, key_has}
use Rattle.eb_watch.specs.Terms.{key_terms}
use Rattle.eb_watch.specs.Watches.{is_set, without_watch}
use Rattle.eb_watch.specs.Index.{finds}
use Rattle.eb_watch.specs.Held.{watched, AllWellFormed}
use Rattle.eb_watch.proofs.Lists.{rises_from, set_watched, watched_remove, formed_without}
use Rattle.eb_watch.proofs.Changes.{removed}
use Rattle.eb_watch.proofs.watches.Watches.remove.Goals as goal

pub returns-in_default-clause-no_watch : goal.returns-in_default-clause-no_watch
returns-in_default-clause-no_watch c =
    let es = c.args.self.now.by_number.entries in
    let free : is_set (watched es) c.args.number ≡ false = sym (set_watched es c.args.number) ∙ ap is_some (sym c.remove.ensures.value ∙ c.in_default.is) in
    (λ e. free, λ e. refl)

pub returns-clause-no_watch : goal.returns-clause-no_watch
returns-clause-no_watch c =
    let es = c.args.self.now.by_number.entries in
    let has : is_set (watched es) c.args.number ≡ true = sym (set_watched es c.args.number) ∙ ap is_some (sym c.remove.ensures.value ∙ c.in-Some.is) in
    (λ e. absurd cc, λ e. absurd cc)

pub returns-clause-ok : goal.returns-clause-ok
returns-clause-ok c =
    let s = c.args.self.now in
    ap watched c.remove.ensures.entries ∙ watched_remove s.by_number.entries c.args.number (rises_from (keys_of s.by_number.entries) s.rising)

pub invariant_of-self-2 : goal.invariant_of-self-2
invariant_of-self-2 c =
    let s = c.args.self.now in
    let es = s.by_number.entries in
    let number = c.args.number in
    let v = c.in-Some.watch in
    let rises = rises_from (keys_of es) s.rising in
    let new = c.remove.new.self.entries in
    let now : watched new ≡ without_watch (watched es) number = ap watched c.remove.ensures.entries ∙ watched_remove es number rises in
    let found = sym c.remove.ensures.value ∙ c.in-Some.is in
    record {
      rising = IsStrictlyIncreasing-from_sorted (keys_of new) c.remove.ensures.ordered;
      few = omega (arith, c.remove.ensures.len, s.few);
      formed = subst AllWellFormed (sym now) (formed_without (watched es) number s.formed);
      terms_lead = λ t n.
          let p : Tree → Bool = λ q. key_has (watch_key q) t in
          c.take_key.ensures.terms t n ∙ ap (λ (b : Bool). b && not ((n == number) && key_has (key_terms v.key) t)) (s.terms_lead t n)
          ∙ ap (λ k. finds p (watched es) n && not ((n == number) && key_has k t)) v.keyed ∙ removed p es new number v rises found c.remove.ensures.entries n;
      are_keyless = λ n.
          c.take_key.ensures.keyless n ∙ ap (λ (b : Bool). b && not ((n == number) && is_none (key_terms v.key))) (s.are_keyless n)
          ∙ ap (λ k. finds is_keyless (watched es) n && not ((n == number) && is_none k)) v.keyed ∙ removed is_keyless es new number v rises found c.remove.ensures.entries n;
    }
