-- What clap makes of words `--x=V`, each of an option that the command has: it keeps each value,
-- and refuses a second one of an option.
use Rattle.std.proofs.Common.{◌≡◌, ◌⊎◌, inl, inr, ℕ, suc, ◌+◌, ◌≤◌, ◌&&◌, Bool, true, false, true≢false, not, List, [], ◌∷◌, ◌++◌, map, length, take, drop, Option, Some, None}
use Rattle.std.proofs.Common.{refl, sym, ap, ap₂, ◌∙◌, cond, fold, arith, subst, is_some, append_assoc, append-nil, length-append}
use Rattle.std.specs.Str.{bytes_eq}
use Rattle.std.specs.List.{filter, list_any, list_all, position_or_len}
use Rattle.std.proofs.lemmas.Slice.Eq.{bytes_eq-Decides}
use Rattle.std.proofs.lemmas.List.Elements.{filter-append}
use Rattle.clap.specs.Lexer.{long_of}
use Rattle.clap.specs.Walk.{Held, Row, Rule, Text, Walk, nothing_held, settled, walked, walk_from, arg_by_long}
use Rattle.clap.specs.Walk.{is_early_multiple, has_row, at_row, more_values, with_values, without, used, finished, reading_by, with_default}
use Rattle.clap.specs.Simple.{matches_of, Shape, built, filled, filled_from, is_simple}
use Rattle.clap.specs.Kinds.{IsAmong, Kinds, or_else}
use Rattle.clap.specs.Faults.{fault_of, is_simple_and_free, turn_fault, walk_fault, settle_fault, use_fault, defaults_fault, check_fault}
use Rattle.clap.specs.declared.error.kind.ErrorKind.{ErrorKind}
use Rattle.clap.specs.declared.error.kind.ErrorKind.TheVariants.{ArgumentConflict, OutOfMemory}
use Rattle.clap.specs.declared.parser.matches.ValueSource.TheVariants.{CommandLine}
use Rattle.clap.specs.Takes.{is_given}
use Rattle.clap.proofs.FaultLemmas.{leaf_fault}
use Rattle.eb_options.specs.Items.{AreNames, Value, is_equals, is_name, is_one_of, name_in, number_in, one_number, with_each, value_in}
use Rattle.eb_options.specs.Parts.{AreWordsOf, are_options, word_of}
use Rattle.eb_options.specs.Matches as options
use Rattle.eb_options.proofs.Eachs.{each_has}

-- an option once clap has filled it in
abbrev pub rule : Text → Rule
rule name = filled (options.option name)

pub differ : (xs ys : Text) → bytes_eq xs ys ≡ false → bytes_eq ys xs ≡ false
differ xs ys h = go (bytes_eq ys xs) refl
  where
    go : (b : Bool) → bytes_eq ys xs ≡ b → bytes_eq ys xs ≡ false
    go false e = e
    go true e = absurd (true≢false (sym ((bytes_eq-Decides xs ys).1 (sym ((bytes_eq-Decides ys xs).0 e))) ∙ h))

pub bytes_same : (name : Text) → bytes_eq name name ≡ true
bytes_same name = (bytes_eq-Decides name name).1 refl

-- ---- the options by their names

abbrev pub rules : List Text → List Rule
rules names = filled_from 1 (map options.option names)

long_is : (names : List Text) (name : Text) → arg_by_long (rules names) name ≡ cond (is_one_of names (45 ∷ 45 ∷ name)) (Some (rule name)) None
long_is [] name = refl
long_is (n ∷ names) name = go (bytes_eq name n) refl (long_is names name)
  where
    go : (b : Bool) → bytes_eq name n ≡ b → arg_by_long (rules names) name ≡ cond (is_one_of names (45 ∷ 45 ∷ name)) (Some (rule name)) None
        → arg_by_long (rules (n ∷ names)) name ≡ cond (is_one_of (n ∷ names) (45 ∷ 45 ∷ name)) (Some (rule name)) None
    go true e more = subst (λ (m : Text). arg_by_long (rules (n ∷ names)) m ≡ cond (is_one_of (n ∷ names) (45 ∷ 45 ∷ m)) (Some (rule m)) None) (sym
        ((bytes_eq-Decides name n).0 e)) (rw (bytes_same n) refl)
    go false e more = rw (differ name n e, e) more

none_required : (names : List Text) (rows : List Row) → list_any (λ a. a.required && not (is_given a.id rows)) (rules names) ≡ false
none_required [] rows = refl
none_required (n ∷ names) rows = none_required names rows

-- the command is simple, and no option has a rule on another

rules_simple : (names : List Text) → list_all (λ a. a.is_simple) (map options.option names) ≡ true
rules_simple [] = refl
rules_simple (n ∷ names) = rules_simple names

filled_simple : (names : List Text) → list_all (λ a. a.is_simple) (rules names) ≡ true
filled_simple [] = refl
filled_simple (n ∷ names) = filled_simple names

filled_free : (names : List Text) → list_all (λ a. a.is_free) (rules names) ≡ true
filled_free [] = refl
filled_free (n ∷ names) = filled_free names

none_early : (names : List Text) (n : ℕ) → list_any (is_early_multiple n) (rules names) ≡ false
none_early [] n = refl
none_early (name ∷ names) n = none_early names n

pub simple_is : (names : List Text) → is_simple (options.app names) ≡ true
simple_is names = rw (rules_simple names, filled_simple names, none_early names _) refl

pub free_is : (names : List Text) → is_simple_and_free (options.app names) ≡ true
free_is names = rw (rules_simple names, filled_simple names, none_early names _, filled_free names) refl

-- a name among the names
pub record IsAmongNames (names : List Text) (word : Text) : Type 0 where
  pub key : Text
  pub dashed : word ≡ 45 ∷ 45 ∷ key
  pub is_name : is_name key ≡ true

pub both : (a b : Bool) → (a && b) ≡ true → (a ≡ true) × (b ≡ true)
both true b h = (refl, h)
both false b h = absurd (true≢false (sym h))

pub among : (names : List Text) (word : Text) → AreNames names → is_one_of names word ≡ true → IsAmongNames names word
among [] word ok h = absurd (true≢false (sym h))
among (n ∷ names) word ok h = go (bytes_eq word (45 ∷ 45 ∷ n)) refl (λ e. among names word (both _ _ ok).1 e)
  where
    go : (b : Bool) → bytes_eq word (45 ∷ 45 ∷ n) ≡ b → (is_one_of names word ≡ true → IsAmongNames names word) → IsAmongNames (n ∷ names) word
    go true e more = record { key = n; dashed = (bytes_eq-Decides word (45 ∷ 45 ∷ n)).0 e; is_name = (both _ _ ok).0 }
    go false e more = let r = more (let same : is_one_of (n ∷ names) word ≡ is_one_of names word = rw e refl in sym same ∙ h) in record { key = r.key; dashed = r.dashed; is_name = r.is_name }

-- ---- words with `=`

pub name_front : (b : ℕ) (word : Text) → is_equals b ≡ false → name_in (b ∷ word) ≡ b ∷ name_in word
name_front b word h =
    let next : 1 + position_or_len is_equals word ≡ suc (position_or_len is_equals word) = omega arith in
    rw h (ap (λ (n : ℕ). take n (b ∷ word)) next)

value_front : (b : ℕ) (word : Text) → is_equals b ≡ false → value_in (b ∷ word) ≡ value_in word
value_front b word h =
    let next : 1 + position_or_len is_equals word + 1 ≡ suc (position_or_len is_equals word + 1) = omega arith in
    rw h (ap (λ (n : ℕ). cond (list_any is_equals word) (Some (drop n (b ∷ word))) None) next)

-- what comes before and after a first `=`
cut : (key value : Text) → list_any is_equals key ≡ false → (name_in (key ++ 61 ∷ value) ≡ key) × (value_in (key ++ 61 ∷ value) ≡ Some value)
cut [] value h = (refl, refl)
cut (b ∷ key) value h = go (λ e. cut key value e) (is_equals b) refl
  where
    go : (list_any is_equals key ≡ false → (name_in (key ++ 61 ∷ value) ≡ key) × (value_in (key ++ 61 ∷ value) ≡ Some value)) → (x : Bool) → is_equals b ≡ x
        → (name_in (b ∷ key ++ 61 ∷ value) ≡ b ∷ key) × (value_in (b ∷ key ++ 61 ∷ value) ≡ Some value)
    go cut_more true e = absurd (true≢false (let some : list_any is_equals (b ∷ key) ≡ true = rw e refl in sym some ∙ h))
    go cut_more false e =
        let more = cut_more (let same : list_any is_equals (b ∷ key) ≡ list_any is_equals key = rw e refl in sym same ∙ h) in
        (name_front b (key ++ 61 ∷ value) e ∙ ap (λ (t : Text). b ∷ t) more.0, value_front b (key ++ 61 ∷ value) e ∙ more.1)

is_not : (b : Bool) → not b ≡ true → b ≡ false
is_not true h = absurd (true≢false (sym h))
is_not false h = refl

-- the word of an option, as clap reads it
long_word : (key value : Text) → is_name key ≡ true → long_of (45 ∷ 45 ∷ key ++ 61 ∷ value) ≡ Some (key, Some value)
long_word [] value h = absurd (true≢false (sym h))
long_word (x ∷ key) value h =
    let c = cut (x ∷ key) value (is_not _ (both _ _ h).1) in
    ap₂ (λ (k : Text) (v : Option Text). Some (k, v)) c.0 c.1

module _ (names : List Text) (ok : AreNames names) where
  abbrev pub top : Shape
  top = (built (options.app names)).top

  -- what clap keeps of an option with its value
  abbrev pub row : Text → Text → Row
  row name value = record { id = name; values = value ∷ []; count = None; source = Some CommandLine; reading = reading_by (rule name) }

  -- between two words
  abbrev pub at : List Row → Walk
  at rows = walk_from (record nothing_held { rows = rows })

  abbrev pub row_of : Value → Row
  row_of item = row (drop 2 item.0) item.1

  -- no option has a value already
  abbrev pub are_new : List Row → List Value → Bool
  are_new rows [] = true
  are_new rows (item ∷ items) = not (has_row (drop 2 item.0) rows) && are_new (rows ++ row_of item ∷ []) items

  -- ---- clap's rows at the end, if nothing fails

  abbrev pub rows_if : Kinds → List Row → Option (List Row)
  rows_if [] rows = Some rows
  rows_if (k ∷ ks) rows = None

  abbrev end_fault : Held → Kinds
  end_fault h = or_else (settle_fault top.rules false h) (or_else (defaults_fault (settled top.rules h).rows top.rules) (check_fault top (finished top.rules h) false))

  abbrev end_of : Walk → List Text → Held
  end_of w words = (fold (walked top.rules []) w words).held

  abbrev fault_from : Walk → List Text → Kinds
  fault_from w words = or_else (walk_fault top [] w words) (end_fault (end_of w words))

  abbrev rows_from : Walk → List Text → Option (List Row)
  rows_from w words = rows_if (fault_from w words) (finished top.rules (end_of w words))

  fault_is : (words : List Text) → fault_of (options.app names) words ≡ fault_from (at []) words
  fault_is words = leaf_fault (built (options.app names)) nothing_held words refl

  no_defaults : (ns : List Text) (rows : List Row) → defaults_fault rows (rules ns) ≡ []
  unfolding defaults_fault
  no_defaults [] rows = refl
  no_defaults (n ∷ ns) rows = go (has_row n rows) refl (no_defaults ns rows)
    where
      go : (b : Bool) → has_row n rows ≡ b → defaults_fault rows (rules ns) ≡ [] → defaults_fault rows (rules (n ∷ ns)) ≡ []
      go true e more = rw e more
      go false e more = rw e more

  same_rows : (ns : List Text) (rows : List Row) → fold with_default rows (rules ns) ≡ rows
  same_rows [] rows = refl
  same_rows (n ∷ ns) rows = ap (λ (xs : List Row). fold with_default xs (rules ns)) (go (has_row n rows) refl) ∙ same_rows ns rows
    where
      go : (b : Bool) → has_row n rows ≡ b → with_default rows (rule n) ≡ rows
      go true e = rw e refl
      go false e = rw e refl

  none_missing : (rows : List Row) → check_fault top rows false ≡ []
  none_missing rows = rw (none_required names rows) refl

  at_end : (rows : List Row) → rows_from (at rows) [] ≡ Some rows
  unfolding walk_fault
  at_end rows = λ i. rows_if (or_else (no_defaults names rows i) (none_missing (fold with_default rows top.rules) i)) (same_rows names rows i)

  -- ---- one word

  absent : (name : Text) (change : Row → List Row) (missing rows : List Row) → has_row name rows ≡ false → at_row name change missing rows ≡ rows ++ missing
  absent name change missing [] h = refl
  absent name change missing (r ∷ rs) h = go (λ e. absent name change missing rs e) (bytes_eq r.id name) refl
    where
      go : (has_row name rs ≡ false → at_row name change missing rs ≡ rs ++ missing) → (b : Bool) → bytes_eq r.id name ≡ b → at_row name change missing (r ∷ rs) ≡ (r ∷ rs) ++ missing
      go more true e = absurd (true≢false (let some : has_row name (r ∷ rs) ≡ true = rw e refl in sym some ∙ h))
      go more false e = rw e (ap (λ (xs : List Row). r ∷ xs) (more (let same : has_row name (r ∷ rs) ≡ has_row name rs = rw e refl in sym same ∙ h)))

  used_new : (rows : List Row) (name value : Text) → has_row name rows ≡ false → used (rule name) (value ∷ []) rows ≡ rows ++ row name value ∷ []
  used_new rows name value h =
      let gone : without name rows ≡ rows = absent name (λ r. []) [] rows h ∙ append-nil rows in
      ap (λ (xs : List Row). with_values name (reading_by (rule name)) CommandLine (value ∷ []) xs) gone ∙ absent name (more_values CommandLine (value ∷ [])) (row name value ∷ []) rows h

  abbrev unless : Kinds → Option (List Row) → Option (List Row)
  unless [] rows = rows
  unless (k ∷ ks) rows = None

  module _ (rows : List Row) (key value : Text) (long : long_of (45 ∷ 45 ∷ key ++ 61 ∷ value) ≡ Some (key, Some value)) (known : arg_by_long top.rules key ≡ Some (rule key))
      (plain : bytes_eq (45 ∷ 45 ∷ key ++ 61 ∷ value) (45 ∷ 45 ∷ []) ≡ false) where
    abbrev word : Text
    word = 45 ∷ 45 ∷ key ++ 61 ∷ value

    turn : turn_fault top [] (at rows) word ≡ use_fault false (rule key) (value ∷ []) rows
    turn = rw (plain, long, known) (or_nothing _)
      where
        or_nothing : (k : Kinds) → or_else k [] ≡ k
        or_nothing [] = refl
        or_nothing (x ∷ xs) = refl

    walk : walked top.rules [] (at rows) word ≡ at (used (rule key) (value ∷ []) rows)
    unfolding walked
    walk = rw (plain, long, known) refl

    -- one more row, if the option has none
    one_word : (rest : List Text) → rows_from (at rows) (word ∷ rest) ≡ cond (has_row key rows) None (rows_from (at (rows ++ row key value ∷ [])) rest)
    unfolding walk_fault
    one_word rest = first (turn_fault top [] (at rows) word) _ _ _ ∙ (λ i. unless (turn i) (rows_from (walk i) rest)) ∙ go (has_row key rows) refl
      where
        first : (a b c : Kinds) (out : List Row) → rows_if (or_else (or_else a b) c) out ≡ unless a (rows_if (or_else b c) out)
        first [] b c out = refl
        first (k ∷ ks) b c out = refl

        go : (b : Bool) → has_row key rows ≡ b → unless (use_fault false (rule key) (value ∷ []) rows) (rows_from (at (used (rule key) (value ∷ []) rows)) rest)
            ≡ cond (has_row key rows) None (rows_from (at (rows ++ row key value ∷ [])) rest)
        go true e =
            let twice : use_fault false (rule key) (value ∷ []) rows ≡ ArgumentConflict ∷ [] = rw e refl in
            ap (λ k. unless k (rows_from (at (used (rule key) (value ∷ []) rows)) rest)) twice ∙ sym (ap (λ (b : Bool). cond b None (rows_from (at (rows ++ row key value ∷ [])) rest)) e)
        go false e =
            let once : use_fault false (rule key) (value ∷ []) rows ≡ [] = rw e refl in
            (λ i. unless (once i) (rows_from (at (used_new rows key value e i)) rest)) ∙ sym (ap (λ (b : Bool). cond b None (rows_from (at (rows ++ row key value ∷ [])) rest)) e)

  -- ---- all words

  abbrev Walks : List Row → List Value → Type 0
  Walks rows values = rows_from (at rows) (map word_of values) ≡ cond (are_new rows values) (Some (rows ++ map row_of values)) None

  walks_on : (rows : List Row) (key value : Text) (values : List Value) → is_name key ≡ true → is_one_of names (45 ∷ 45 ∷ key) ≡ true → Walks (rows ++ row key value ∷ []) values
      → Walks rows ((45 ∷ 45 ∷ key, value) ∷ values)
  walks_on rows key value values name known more =
      let rule_is = long_is names key ∙ ap (λ (b : Bool). cond b (Some (rule key)) None) known in
      one_word rows key value (long_word key value name) rule_is (plain key name) (map word_of values) ∙ go (has_row key rows) refl
    where
      plain : (key : Text) → is_name key ≡ true → bytes_eq (45 ∷ 45 ∷ key ++ 61 ∷ value) (45 ∷ 45 ∷ []) ≡ false
      plain [] h = absurd (true≢false (sym h))
      plain (x ∷ k) h = refl

      go : (b : Bool) → has_row key rows ≡ b → cond (has_row key rows) None (rows_from (at (rows ++ row key value ∷ [])) (map word_of values))
          ≡ cond (are_new rows ((45 ∷ 45 ∷ key, value) ∷ values)) (Some (rows ++ row key value ∷ map row_of values)) None
      go true e = ap (λ (b : Bool). cond b None (rows_from (at (rows ++ row key value ∷ [])) (map word_of values))) e
          ∙ sym (ap (λ (b : Bool). cond (not b && are_new (rows ++ row key value ∷ []) values) (Some (rows ++ row key value ∷ map row_of values)) None) e)
      go false e = ap (λ (b : Bool). cond b None (rows_from (at (rows ++ row key value ∷ [])) (map word_of values))) e ∙ more
          ∙ ap (λ (out : List Row). cond (are_new (rows ++ row key value ∷ []) values) (Some out) None) (append_assoc rows (row key value ∷ []) (map row_of values))
          ∙ sym (ap (λ (b : Bool). cond (not b && are_new (rows ++ row key value ∷ []) values) (Some (rows ++ row key value ∷ map row_of values)) None) e)

  walks : (rows : List Row) (values : List Value) → are_options names values ≡ true → Walks rows values
  walks rows [] known = at_end rows ∙ ap (λ (xs : List Row). Some xs) (sym (append-nil rows))
  walks rows (item ∷ values) known =
      let k = both _ _ known in
      let a = among names item.0 ok k.0 in
      subst (λ (n : Text). Walks rows ((n, item.1) ∷ values)) (sym a.dashed)
      (walks_on rows a.key item.1 values a.is_name (ap (is_one_of names) (sym a.dashed) ∙ k.0) (walks (rows ++ row a.key item.1 ∷ []) values k.1))

  -- ---- how often an option has a value

  abbrev uses : Text → List Row → ℕ
  uses key rows = length (filter (λ (r : Row). bytes_eq r.id key) rows)

  abbrev mine : Text → List Value → List Value
  mine key values = filter (λ (item : Value). bytes_eq item.0 (45 ∷ 45 ∷ key)) values

  uses_append : (key : Text) (xs ys : List Row) → uses key (xs ++ ys) ≡ uses key xs + uses key ys
  uses_append key xs ys = ap length (filter-append (λ (r : Row). bytes_eq r.id key) xs ys) ∙ length-append (filter (λ (r : Row). bytes_eq r.id key) xs) (filter (λ (r : Row). bytes_eq r.id key) ys)

  unused : (key : Text) (rows : List Row) → has_row key rows ≡ false → uses key rows ≡ 0
  unused key [] h = refl
  unused key (r ∷ rs) h = go (λ e. unused key rs e) (bytes_eq r.id key) refl
    where
      go : (has_row key rs ≡ false → uses key rs ≡ 0) → (b : Bool) → bytes_eq r.id key ≡ b → uses key (r ∷ rs) ≡ 0
      go more true e = absurd (true≢false (let some : has_row key (r ∷ rs) ≡ true = rw e refl in sym some ∙ h))
      go more false e = rw e (more (let same : has_row key (r ∷ rs) ≡ has_row key rs = rw e refl in sym same ∙ h))

  is_used : (key : Text) (rows : List Row) → has_row key rows ≡ true → 1 ≤ uses key rows
  is_used key [] h = absurd (true≢false (sym h))
  is_used key (r ∷ rs) h = go (λ e. is_used key rs e) (bytes_eq r.id key) refl
    where
      go : (has_row key rs ≡ true → 1 ≤ uses key rs) → (b : Bool) → bytes_eq r.id key ≡ b → 1 ≤ uses key (r ∷ rs)
      go more true e = rw e (omega arith)
      go more false e = rw e (more (let same : has_row key (r ∷ rs) ≡ has_row key rs = rw e refl in sym same ∙ h))

  -- new values are one of each option at most
  once : (key : Text) (values : List Value) (rows : List Row) → are_new rows values ≡ true → uses key rows ≤ 1 → uses key (rows ++ map row_of values) ≤ 1
  once key [] rows new few = subst (λ (xs : List Row). uses key xs ≤ 1) (sym (append-nil rows)) few
  once key (item ∷ values) rows new few =
      subst (λ (xs : List Row). uses key xs ≤ 1) (append_assoc rows (row_of item ∷ []) (map row_of values))
      (once key values (rows ++ row_of item ∷ []) (both _ _ new).1 (go (bytes_eq (drop 2 item.0) key) refl))
    where
      go : (b : Bool) → bytes_eq (drop 2 item.0) key ≡ b → uses key (rows ++ row_of item ∷ []) ≤ 1
      go true e =
          let same : drop 2 item.0 ≡ key = (bytes_eq-Decides (drop 2 item.0) key).0 e in
          let none = unused key rows (ap (λ (k : Text). has_row k rows) (sym same) ∙ is_not _ (both _ _ new).0) in
          let one : uses key (row_of item ∷ []) ≡ 1 = rw e refl in
          omega (arith, uses_append key rows (row_of item ∷ []), none, one)
      go false e = let none : uses key (row_of item ∷ []) ≡ 0 = rw e refl in omega (arith, uses_append key rows (row_of item ∷ []), none, few)

  -- and of others one option has two
  pub record IsTwice (rows : List Row) (values : List Value) : Type 0 where
    pub name : Text
    pub known : is_one_of names name ≡ true
    pub two : 2 ≤ uses (drop 2 name) (rows ++ map row_of values)

  twice : (values : List Value) (rows : List Row) → are_options names values ≡ true → are_new rows values ≡ false → IsTwice rows values
  twice [] rows known old = absurd (true≢false old)
  twice (item ∷ values) rows known old = go (λ e. twice values (rows ++ row_of item ∷ []) (both _ _ known).1 e) (has_row (drop 2 item.0) rows) refl
    where
      here : bytes_eq (drop 2 item.0) (drop 2 item.0) ≡ true
      here = bytes_same (drop 2 item.0)

      go : (are_new (rows ++ row_of item ∷ []) values ≡ false → IsTwice (rows ++ row_of item ∷ []) values) → (b : Bool) → has_row (drop 2 item.0) rows ≡ b → IsTwice rows (item ∷ values)
      go further true e = record {
        name = item.0;
        known = (both _ _ known).0;
        two = (let one : uses (drop 2 item.0) (row_of item ∷ map row_of values) ≡ suc (uses (drop 2 item.0) (map row_of values)) = rw here refl in
            omega (arith, uses_append (drop 2 item.0) rows (row_of item ∷ map row_of values), one, is_used (drop 2 item.0) rows e));
      }
      go further false e =
          let more = further (let same : are_new rows (item ∷ values) ≡ are_new (rows ++ row_of item ∷ []) values = rw e refl in sym same ∙ old) in
          record { name = more.name; known = more.known; two = subst (λ (xs : List Row). 2 ≤ uses (drop 2 more.name) xs) (append_assoc rows (row_of item ∷ []) (map row_of values)) more.two }

  -- an item's row has the name of the item
  same_name : (item : Value) (key : Text) → is_one_of names item.0 ≡ true → bytes_eq (drop 2 item.0) key ≡ bytes_eq item.0 (45 ∷ 45 ∷ key)
  same_name item key h = rw (among names item.0 ok h).dashed refl

  as_many : (key : Text) (values : List Value) → are_options names values ≡ true → length (mine key values) ≡ uses key (map row_of values)
  as_many key [] known = refl
  as_many key (item ∷ values) known = go (bytes_eq item.0 (45 ∷ 45 ∷ key)) refl (as_many key values (both _ _ known).1)
    where
      go : (b : Bool) → bytes_eq item.0 (45 ∷ 45 ∷ key) ≡ b → length (mine key values) ≡ uses key (map row_of values)
          → length (mine key (item ∷ values)) ≡ uses key (map row_of (item ∷ values))
      go true e more = let here = same_name item key (both _ _ known).0 ∙ e in rw (e, here) (omega (arith, more))
      go false e more = let other = same_name item key (both _ _ known).0 ∙ e in rw (e, other) more

  number_is : (key : Text) (values : List Value) → are_options names values ≡ true → length (mine key values) ≤ 1 → options.number_at (map row_of values) key ≡ number_in values key
  number_is key [] known few = refl
  number_is key (item ∷ values) known few = go (λ n. number_is key values (both _ _ known).1 n) (bytes_eq item.0 (45 ∷ 45 ∷ key)) refl
    where
      go : (length (mine key values) ≤ 1 → options.number_at (map row_of values) key ≡ number_in values key) → (b : Bool) → bytes_eq item.0 (45 ∷ 45 ∷ key) ≡ b
          → options.number_at (map row_of (item ∷ values)) key ≡ number_in (item ∷ values) key
      go more true e =
          let here = same_name item key (both _ _ known).0 ∙ e in
          let all : mine key (item ∷ values) ≡ item ∷ mine key values = rw e refl in
          let none : mine key values ≡ [] = empty (mine key values) (let n = ap length all in omega (arith, n, few)) in
          rw (here, e, none) refl
        where
          empty : (xs : List Value) → length xs ≤ 0 → xs ≡ []
          empty [] h = refl
          empty (x ∷ xs) h = absurd (omega (arith, h))
      go more false e =
          let other = same_name item key (both _ _ known).0 ∙ e in
          rw (other, e) (more (let same : mine key (item ∷ values) ≡ mine key values = rw e refl in subst (λ (xs : List Value). length xs ≤ 1) same few))

  -- ---- the numbers

  module _ (values : List Value) (known : are_options names values ≡ true) where
    abbrev faults : Kinds
    faults = fault_of (options.app names) (map word_of values)

    abbrev found : List Row
    found = matches_of (options.app names) (map word_of values)

    -- clap faults nothing exactly where the values are new, and then finds them
    found_new : faults ≡ [] → (are_new [] values ≡ true) × (found ≡ map row_of values)
    found_new h = go (are_new [] values) refl
      where
        all : Some found ≡ cond (are_new [] values) (Some (map row_of values)) None
        all = sym (ap (λ (k : Kinds). rows_if k found) (sym (fault_is (map word_of values)) ∙ h)) ∙ walks [] values known

        go : (b : Bool) → are_new [] values ≡ b → (are_new [] values ≡ true) × (found ≡ map row_of values)
        go true e = let same : Some found ≡ Some (map row_of values) = all ∙ ap (λ (b : Bool). cond b (Some (map row_of values)) None) e in (e, cc)
        go false e = absurd (let none : Some found ≡ None = all ∙ ap (λ (b : Bool). cond b (Some (map row_of values)) None) e in cc)

    numbers_found : faults ≡ [] → with_each (number_in values) names ≡ with_each (options.number_at found) names
    numbers_found h =
        let f = found_new h in
        sym (λ i. with_each (λ key. number_is key values known (few key f.0) i) names) ∙ ap (λ (rows : List Row). with_each (options.number_at rows) names) (sym f.1)
      where
        few : (key : Text) → are_new [] values ≡ true → length (mine key values) ≤ 1
        few key new = let n = once key values [] new (omega arith) in omega (arith, n, as_many key values known)

    none_found : (faults ≡ [] → ⊥) → with_each (number_in values) names ≡ None
    none_found never = go (are_new [] values) refl
      where
        no_fault : (k : Kinds) (rows out : List Row) → rows_if k rows ≡ Some out → k ≡ []
        no_fault [] rows out h = refl
        no_fault (k ∷ ks) rows out h = absurd (let none : None ≡ Some out = h in cc)

        two_numbers : (xs : List Value) → 2 ≤ length xs → one_number xs ≡ None
        two_numbers [] h = absurd (omega (arith, h))
        two_numbers (x ∷ []) h = absurd (omega (arith, h))
        two_numbers (x ∷ y ∷ xs) h = refl

        missing : IsTwice [] values → (o : Option (List (Text × Option ℕ))) → with_each (number_in values) names ≡ o → with_each (number_in values) names ≡ None
        missing t None e = e
        missing t (Some all) e =
            let a = among names t.name ok t.known in
            let bare : drop 2 t.name ≡ a.key = ap (drop 2) a.dashed in
            let some = each_has (number_in values) names all a.key e (ap (is_one_of names) (sym a.dashed) ∙ t.known) in
            let two : 2 ≤ uses a.key (map row_of values) = subst (λ (k : Text). 2 ≤ uses k (map row_of values)) bare t.two in
            let none : number_in values a.key ≡ None = two_numbers (mine a.key values) (omega (arith, two, as_many a.key values known)) in
            absurd (true≢false (sym some ∙ ap is_some none))

        go : (b : Bool) → are_new [] values ≡ b → with_each (number_in values) names ≡ None
        go true e = absurd (never (fault_is (map word_of values) ∙ no_fault (fault_from (at []) (map word_of values)) _ (map row_of values)
            (walks [] values known ∙ ap (λ (b : Bool). cond b (Some (map row_of values)) None) e)))
        go false e = missing (twice values [] known e) (with_each (number_in values) names) refl

  module _ (values : List Value) (words : List Text) (are : AreWordsOf names values words) where
    -- where clap faults nothing, its rows have the numbers
    pub found_are : fault_of (options.app names) words ≡ [] → with_each (number_in values) names ≡ with_each (options.number_at (matches_of (options.app names) words)) names
    found_are = subst (λ (ws : List Text). fault_of (options.app names) ws ≡ [] → with_each (number_in values) names ≡ with_each (options.number_at (matches_of (options.app names) ws)) names) are.1
        (numbers_found values are.0)

    -- and else there are none
    pub faults_none : (k : ErrorKind) → (k ≡ OutOfMemory) ⊎ IsAmong k (fault_of (options.app names) words) → (k ≡ OutOfMemory → ⊥) → with_each (number_in values) names ≡ None
    faults_none k is other = none_found values are.0 (λ none. elim is [
      | inl memory ↦ other memory
      | inr among ↦ (let bad : IsAmong k [] = subst (IsAmong k) (sym (ap (fault_of (options.app names)) are.1) ∙ none) among in bad)
    ])
