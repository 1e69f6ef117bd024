-- Each of some names in turn.
use Rattle.std.proofs.Common.{◌≡◌, ℕ, suc, ◌+◌, ◌<◌, ◌≤◌, ◌++◌, Bool, true, false, true≢false, List, [], ◌∷◌, take, drop, length, get_or, append_assoc, append-nil}
use Rattle.std.proofs.Common.{Option, Some, None, is_some, refl, sym, ap, ◌∙◌, arith}
use Rattle.std.specs.Prelude.{option_map, option_and_then}
use Rattle.std.specs.Borrow.{Bor}
use Rattle.std.specs.Str.{bytes_eq}
use Rattle.std.proofs.lemmas.Slice.Eq.{bytes_eq-Decides}
use Rattle.std.proofs.lemmas.List.{map-append, take_all, take_more, drop_all}
use Rattle.std.proofs.Math.Seq.{drop-cons}
use Rattle.clap.specs.Walk.{Text}
use Rattle.clap.specs.Simple.{with_rule}
use Rattle.eb_options.specs.Items.{is_one_of, texts, with_each}
use Rattle.eb_options.specs.Matches.{app, option}

-- ---- the command's options

module _ (names : List (Bor Text)) (i : ℕ) (d : Bor Text) (h : i < length names) where
  pub app_more : with_rule (app (texts (take i names))) (option (get_or names i d).now) ≡ app (texts (take (i + 1) names))
  app_more =
      let one : texts (take (i + 1) names) ≡ texts (take i names) ++ (get_or names i d).now ∷ [] = ap texts (take_more names i d h)
      ∙ map-append (λ (n : Bor Text). n.now) (take i names) (get_or names i d ∷ []) in
      ap (λ rules. record (app []) { top = record (app []).top { rules = rules } }) (sym (map-append option (texts (take i names)) ((get_or names i d).now ∷ []))) ∙ sym (ap app one)

pub app_all : (names : List (Bor Text)) (i : ℕ) → length names ≤ i → app (texts (take i names)) ≡ app (texts names)
app_all names i h = ap (λ (ns : List (Bor Text)). app (texts ns)) (take_all i names h)

-- ---- a value for each name

module _ {A : Type 0} (f : Text → Option A) (names : List (Bor Text)) (i : ℕ) (d : Bor Text) where
  abbrev name : Text
  name = (get_or names i d).now

  abbrev after : List (Text × A) → Option (List (Text × A)) → Option (List (Text × A))
  after done rest = option_map (λ more. done ++ more) rest

  front : i < length names → with_each f (texts (drop i names)) ≡ option_and_then (λ this. option_map (λ more. (name, this) ∷ more) (with_each f (texts (drop (i + 1) names)))) (f name)
  unfolding with_each
  front h =
      let next : suc i ≡ i + 1 = omega arith in
      ap (λ (ns : List (Bor Text)). with_each f (texts ns)) (drop-cons names i d h)
      ∙ ap (λ (j : ℕ). option_and_then (λ this. option_map (λ more. (name, this) ∷ more) (with_each f (texts (drop j names)))) (f name)) next

  pub each_stops : (all : Option (List (Text × A))) (done : List (Text × A)) → i < length names → f name ≡ None → all ≡ after done (with_each f (texts (drop i names))) → all ≡ None
  each_stops all done h none e = e ∙ ap (after done) (front h ∙ ap (option_and_then (λ this. option_map (λ more. (name, this) ∷ more) (with_each f (texts (drop (i + 1) names))))) none)

  pub each_goes : (all : Option (List (Text × A))) (done next : List (Text × A)) (this : A) → i < length names → f name ≡ Some this → next ≡ done ++ (name, this) ∷ []
      → all ≡ after done (with_each f (texts (drop i names))) → all ≡ after next (with_each f (texts (drop (i + 1) names)))
  each_goes all done next this h some grown e =
      e ∙ ap (after done) (front h ∙ ap (option_and_then (λ this. option_map (λ more. (name, this) ∷ more) (with_each f (texts (drop (i + 1) names))))) some)
      ∙ both (with_each f (texts (drop (i + 1) names))) ∙ ap (λ (xs : List (Text × A)). after xs (with_each f (texts (drop (i + 1) names)))) (sym grown)
    where
      both : (rest : Option (List (Text × A))) → after done (option_map (λ more. (name, this) ∷ more) rest) ≡ after (done ++ (name, this) ∷ []) rest
      both None = refl
      both (Some more) = ap (λ (xs : List (Text × A)). Some xs) (sym (append_assoc done ((name, this) ∷ []) more))

pub each_ends : {A : Type 0} (f : Text → Option A) (names : List (Bor Text)) (i : ℕ) (all : Option (List (Text × A))) (done : List (Text × A)) → length names ≤ i
    → all ≡ option_map (λ (more : List (Text × A)). done ++ more) (with_each f (texts (drop i names))) → all ≡ Some done
unfolding with_each
each_ends f names i all done h e = e ∙ ap (λ (ns : List (Bor Text)). option_map (λ more. done ++ more) (with_each f (texts ns))) (drop_all i names h) ∙ ap (λ xs. Some xs) (append-nil done)

-- where there is something for each, there is for one of them
pub each_has : {A : Type 0} (f : Text → Option A) (names : List Text) (all : List (Text × A)) (key : Text) → with_each f names ≡ Some all
    → is_one_of names (45 ∷ 45 ∷ key) ≡ true → is_some (f key) ≡ true
unfolding with_each
each_has f [] all key h there = absurd (true≢false (sym there))
each_has {A = A} f (name ∷ names) all key h there = go (f name) (with_each f names) (bytes_eq key name) refl refl refl (λ all e g. each_has f names all key e g)
  where
    go : (one : Option A) (rest : Option (List (Text × A))) (b : Bool) → f name ≡ one → with_each f names ≡ rest → bytes_eq key name ≡ b
        → ((all : List (Text × A)) → with_each f names ≡ Some all → is_one_of names (45 ∷ 45 ∷ key) ≡ true → is_some (f key) ≡ true) → is_some (f key) ≡ true
    go None rest b x y z more = absurd (let none : None ≡ Some all = (let is : with_each f (name ∷ names) ≡ None = rw x refl in sym is ∙ h) in cc)
    go (Some this) None b x y z more = absurd (let none : None ≡ Some all = (let is : with_each f (name ∷ names) ≡ None = rw (x, y) refl in sym is ∙ h) in cc)
    go (Some this) (Some rest) true x y z more = ap (λ (k : Text). is_some (f k)) ((bytes_eq-Decides key name).0 z) ∙ ap is_some x
    go (Some this) (Some rest) false x y z more = more rest y (let same : is_one_of (name ∷ names) (45 ∷ 45 ∷ key) ≡ is_one_of names (45 ∷ 45 ∷ key) = rw z refl in sym same ∙ there)
