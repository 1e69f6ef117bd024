use Rattle.std.proofs.Common.{◌≡◌, ◌==◌, ℕ, Bool, false, not, ◌&&◌, ◌||◌, is_some, List, length, None, refl, sym, ap, ◌∙◌, subst, arith}
use Rattle.std.specs.Option.{is_none}
use Rattle.std.specs.Map.{keys_of, lookup}
use Rattle.std.specs.BTreeMap.{is_at}
use Rattle.std.specs.BTreeSet.{contains}
use Rattle.std.specs.Ordering.{nat_cmp}
use Rattle.std.proofs.lemmas.List.{length-map}
use Rattle.std.proofs.lemmas.Map.Keys.{IsStrictlyIncreasing-from_sorted}
use Rattle.eb_base.specs.Query.{Tree, tree}
use Rattle.eb_watch.specs.declared.watch.Watch.{Watch}
use Rattle.eb_watch.specs.Key.{watch_key, is_keyless, key_has}
use Rattle.eb_watch.specs.Terms.{key_terms}
use Rattle.eb_watch.specs.Watches.{is_set, with_watch}
use Rattle.eb_watch.specs.Index.{leads, finds}
use Rattle.eb_watch.specs.Held.{watched, AllWellFormed}
use Rattle.eb_watch.proofs.Lists.{set_watched, finds_none, watched_insert, formed_with}
use Rattle.eb_watch.proofs.Numbers.{at_ok, none_from, one_at_most}
use Rattle.eb_watch.proofs.Changes.{inserted, restored}
use Rattle.eb_watch.proofs.watches.Watches.set.Goals as goal

pub returns-then-len-eq-MAX_WATCHES-clause-full : goal.returns-then-len-eq-MAX_WATCHES-clause-full
returns-then-len-eq-MAX_WATCHES-clause-full c =
    let es = c.args.self.now.by_number.entries in
    let free : is_set (watched es) c.args.number ≡ false = sym (set_watched es c.args.number) ∙ sym c.contains_key.ensures ∙ c.if-contains_key.false in
    let many = length-map es (λ e. (e.0, tree e.1.query)) ∙ sym c.len.ensures.len ∙ c.if-len-eq-MAX_WATCHES.true in
    (λ e. (free, many), λ e. refl)

pub put_key-requires : goal.put_key-requires
put_key-requires c =
    let s = c.args.self.now in
    let es = s.by_number.entries in
    let free : is_set (watched es) c.args.number ≡ false = sym (set_watched es c.args.number) ∙ sym c.contains_key.ensures ∙ c.if-contains_key.false in
    record { free = λ t. s.terms_lead t c.args.number ∙ finds_none (λ q. key_has (watch_key q) t) (watched es) c.args.number free }

pub returns-clause-ok : goal.returns-clause-ok
returns-clause-ok c =
    let es = c.args.self.now.by_number.entries in
    let none : lookup (is_at (nat_cmp c.args.number)) es ≡ None = none_from _ (sym c.contains_key.ensures ∙ c.if-contains_key.false) in
    ap watched c.in_default-insert.ensures.entries ∙ watched_insert es c.args.number _ none

pub invariant_of-self-in_default-insert : goal.invariant_of-self-in_default-insert
invariant_of-self-in_default-insert c =
    let s = c.args.self.now in
    let es = s.by_number.entries in
    let number = c.args.number in
    let key = c.in-Ok.key in
    let new = c.insert.new.self.entries in
    let none : lookup (is_at (nat_cmp number)) es ≡ None = none_from _ (sym c.contains_key.ensures ∙ c.if-contains_key.false) in
    let now : watched new ≡ with_watch (watched es) number (tree c.args.query) = ap watched c.in_default-insert.ensures.entries ∙ watched_insert es number _ none in
    let fine = sym c.is_err.ensures.value ∙ c.if-is_err.false in
    record {
      rising = IsStrictlyIncreasing-from_sorted (keys_of new) c.in_default-insert.ensures.ordered;
      few = omega (arith, c.in_default-insert.ensures.len, one_at_most (is_some c.in_default-insert.field-0), c.len.ensures.len, c.if-len-eq-MAX_WATCHES.false, s.few);
      formed = subst AllWellFormed (sym now) (formed_with (watched es) number (tree c.args.query) s.formed c.requires);
      terms_lead = λ t n.
          let p : Tree → Bool = λ q. key_has (watch_key q) t in
          at_ok c.put_key.result fine c.put_key.ensures.terms t n
          ∙ ap (λ (b : Bool). ((n == number) && key_has (key_terms key) t) || b) (s.terms_lead t n)
          ∙ ap (λ k. ((n == number) && key_has k t) || finds p (watched es) n) c.in-Ok.ensures
          ∙ inserted p es new number _ none c.in_default-insert.ensures.entries n;
      are_keyless = λ n.
          at_ok c.put_key.result fine c.put_key.ensures.keyless n
          ∙ ap (λ (b : Bool). ((n == number) && is_none (key_terms key)) || b) (s.are_keyless n)
          ∙ ap (λ k. ((n == number) && is_none k) || finds is_keyless (watched es) n) c.in-Ok.ensures
          ∙ inserted is_keyless es new number _ none c.in_default-insert.ensures.entries n;
    }

pub invariant_of-self-in-Err : goal.invariant_of-self-in-Err
invariant_of-self-in-Err c =
    let s = c.args.self.now in
    let es = s.by_number.entries in
    let number = c.args.number in
    let key = c.in-Ok.key in
    let held = c.in-Err.refused.value.1.key in
    let new = c.insert.new.self.entries in
    let free : is_set (watched es) number ≡ false = sym (set_watched es number) ∙ sym c.contains_key.ensures ∙ c.if-contains_key.false in
    let fine = sym c.is_err.ensures.value ∙ c.if-is_err.false in
    let same : key_terms held ≡ key_terms key = ap (λ pair. key_terms pair.1.key) c.in-Err.ensures.value_returned in
    record {
      rising = IsStrictlyIncreasing-from_sorted (keys_of new) c.in-Err.ensures.ordered;
      few = omega (arith, ap length c.in-Err.ensures.err, s.few);
      formed = subst (λ (l : List (ℕ × Watch)). AllWellFormed (watched l)) (sym c.in-Err.ensures.err) s.formed;
      terms_lead = λ t n.
          let p : Tree → Bool = λ q. key_has (watch_key q) t in
          c.take_key.ensures.terms t n
          ∙ ap (λ k. leads c.put_key.new.by_term t n && not ((n == number) && key_has k t)) same
          ∙ ap (λ (b : Bool). b && not ((n == number) && key_has (key_terms key) t)) (at_ok c.put_key.result fine c.put_key.ensures.terms t n)
          ∙ ap (λ (b : Bool). (((n == number) && key_has (key_terms key) t) || b) && not ((n == number) && key_has (key_terms key) t)) (s.terms_lead t n)
          ∙ restored p (watched es) number free n (key_has (key_terms key) t)
          ∙ ap (λ l. finds p (watched l) n) (sym c.in-Err.ensures.err);
      are_keyless = λ n.
          c.take_key.ensures.keyless n
          ∙ ap (λ k. contains nat_cmp c.put_key.new.keyless n && not ((n == number) && is_none k)) same
          ∙ ap (λ (b : Bool). b && not ((n == number) && is_none (key_terms key))) (at_ok c.put_key.result fine c.put_key.ensures.keyless n)
          ∙ ap (λ (b : Bool). (((n == number) && is_none (key_terms key)) || b) && not ((n == number) && is_none (key_terms key))) (s.are_keyless n)
          ∙ restored is_keyless (watched es) number free n (is_none (key_terms key))
          ∙ ap (λ l. finds is_keyless (watched l) n) (sym c.in-Err.ensures.err);
    }
