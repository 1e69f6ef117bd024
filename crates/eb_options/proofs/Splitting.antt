-- Words read one after the other, and the items that their parts are.
use Rattle.std.proofs.Common.{◌≡◌, ℕ, suc, ◌+◌, ◌≤◌, ◌++◌, Bool, true, false, true≢false, List, [], ◌∷◌, append_assoc, append-nil, map, drop, length, cond, arith}
use Rattle.std.proofs.Common.{Option, Some, None, is_some, refl, sym, ap, ap₂, ◌∙◌, String, Global, string_bytes}
use Rattle.std.proofs.lemmas.List.{drop_all}
use Rattle.std.specs.Prelude.{option_map, option_and_then, Err, IsErrOf}
use Rattle.std.specs.List.{list_any, position_or_len}
use Rattle.std.specs.Option.{option_map_or}
use Rattle.clap.specs.Walk.{Text}
use Rattle.eb_options.specs.Items.{Items, Parts, Value, flag_in, flags_and_values, is_equals, is_one_of, items_of, name_in, number_in, value_in, with_each, with_flag, with_option}
use Rattle.eb_options.specs.Parts.{are_options, in_front, with_flag_last, with_value_last}
use Rattle.eb_options.proofs.Walking.{name_front}

-- ---- a word without `=` is a name

pub no_equals : (word : Text) → list_any is_equals word ≡ false → name_in word ≡ word
no_equals [] h = refl
no_equals (b ∷ word) h = go (is_equals b) (list_any is_equals word) refl refl (λ e. no_equals word e)
  where
    go : (x y : Bool) → is_equals b ≡ x → list_any is_equals word ≡ y → (list_any is_equals word ≡ false → name_in word ≡ word) → name_in (b ∷ word) ≡ b ∷ word
    go true y e f more = absurd (true≢false (let some : list_any is_equals (b ∷ word) ≡ true = rw e refl in sym some ∙ h))
    go false true e f more = absurd (true≢false (let some : list_any is_equals (b ∷ word) ≡ true = rw (e, f) refl in sym some ∙ h))
    go false false e f more = name_front b word e ∙ ap (λ (t : Text). b ∷ t) (more f)

pub lacks : (word : Text) → position_or_len is_equals word ≡ length word → list_any is_equals word ≡ false
lacks [] h = refl
lacks (b ∷ word) h = go (is_equals b) refl (λ e. lacks word e)
  where
    go : (x : Bool) → is_equals b ≡ x → (position_or_len is_equals word ≡ length word → list_any is_equals word ≡ false) → list_any is_equals (b ∷ word) ≡ false
    go true e more = absurd (let none : 0 ≡ suc (length word) = (let is : position_or_len is_equals (b ∷ word) ≡ 0 = rw e refl in sym is ∙ h) in omega arith)
    go false e more =
        let rest : position_or_len is_equals word ≡ length word = (let is : position_or_len is_equals (b ∷ word) ≡ 1 + position_or_len is_equals word = rw e refl in
        let all : 1 + position_or_len is_equals word ≡ suc (length word) = sym is ∙ h in omega arith) in
        rw (e, more rest) refl

pub bare_item : (options : List Text) (word : Text) → position_or_len is_equals word ≡ length word → is_one_of options word ≡ true
    → ◌≡◌ {A = Option (Text × Option Text)} (Some (word, None)) (cond (is_one_of options (name_in word)) (Some (name_in word, value_in word)) None)
bare_item options word h is = let none = lacks word h in rw (no_equals word none, none, is) refl

-- ---- one more word

pub flag_last : (done : Parts) (word : Text) (further : Option Parts) → in_front done (option_map (with_flag word) further) ≡ in_front (with_flag_last done word) further
flag_last done word None = refl
flag_last done word (Some p) = ap (λ (ws : List Text). Some (record { flags = ws; values = done.values ++ p.values })) (sym (append_assoc done.flags (word ∷ []) p.flags))

pub value_last : (done : Parts) (value : Value) (further : Option Parts) → in_front done (option_map (with_option value) further) ≡ in_front (with_value_last done value) further
value_last done value None = refl
value_last done value (Some p) = ap (λ (vs : List Value). Some (record { flags = done.flags ++ p.flags; values = vs })) (sym (append_assoc done.values (value ∷ []) p.values))

some_if : {X : Type 0} (o : Bool) (x y : X) → Some x ≡ cond o (Some y) None → (o ≡ true) × (x ≡ y)
some_if true x y h = (refl, cc)
some_if false x y h = absurd (let none : Some x ≡ None = h in cc)

none_if : {X : Type 0} (o : Bool) (y : X) → None ≡ cond o (Some y) None → o ≡ false
none_if true y h = absurd (let none : None ≡ Some y = h in cc)
none_if false y h = refl

module _ (flags options : List Text) (old new : Parts) (waits : Option Text) (word : Text) (rest : List Text) where
  abbrev read : Option Text → List Text → Option Parts
  read w words = flags_and_values flags options w words

  abbrev item : Option (Text × Option Text)
  item = cond (is_one_of options (name_in word)) (Some (name_in word, value_in word)) None

  now : (p : Parts) (w : Option Text) → new ≡ p → waits ≡ w → in_front p (read w rest) ≡ in_front new (read waits rest)
  now p w e f = ap₂ (λ (q : Parts) (v : Option Text). in_front q (read v rest)) (sym e) (sym f)

  pub took_value : (name : Text) → new ≡ with_value_last old (name, word) → waits ≡ None → in_front old (read (Some name) (word ∷ rest)) ≡ in_front new (read waits rest)
  unfolding flags_and_values
  took_value name e f = value_last old (name, word) (read None rest) ∙ now (with_value_last old (name, word)) None e f

  pub took_flag : is_one_of flags word ≡ true → new ≡ with_flag_last old word → waits ≡ None → in_front old (read None (word ∷ rest)) ≡ in_front new (read waits rest)
  unfolding flags_and_values
  took_flag is e f = rw is (flag_last old word (read None rest)) ∙ now (with_flag_last old word) None e f

  pub took_option : (name text : Text) → is_one_of flags word ≡ false → Some (name, Some text) ≡ item → new ≡ with_value_last old (name, text) → waits ≡ None
      → in_front old (read None (word ∷ rest)) ≡ in_front new (read waits rest)
  unfolding flags_and_values
  took_option name text plain is e f =
      let s = some_if (is_one_of options (name_in word)) (name, Some text) (name_in word, value_in word) is in
      let v : value_in word ≡ Some text = sym (ap (λ (p : Text × Option Text). p.1) s.1) in
      rw (plain, s.0, v) (value_last old (name_in word, text) (read None rest))
      ∙ now (with_value_last old (name_in word, text)) None (e ∙ ap (λ (p : Text × Option Text). with_value_last old (p.0, text)) s.1) f

  pub now_waits : (name : Text) → is_one_of flags word ≡ false → Some (name, None) ≡ item → new ≡ old → waits ≡ Some name
      → in_front old (read None (word ∷ rest)) ≡ in_front new (read waits rest)
  unfolding flags_and_values
  now_waits name plain is e f =
      let s = some_if (is_one_of options (name_in word)) (name, None) (name_in word, value_in word) is in
      let v : value_in word ≡ None = sym (ap (λ (p : Text × Option Text). p.1) s.1) in
      rw (plain, s.0, v) (now old (Some (name_in word)) e (f ∙ ap (λ (p : Text × Option Text). Some p.0) s.1))

  pub no_item : is_one_of flags word ≡ false → None ≡ item → read None (word ∷ rest) ≡ None
  unfolding flags_and_values
  no_item plain is = rw (plain, none_if (is_one_of options (name_in word)) (name_in word, value_in word) is) refl

-- ---- all words read

module _ (flags options : List Text) (words : List (String Global)) (i : ℕ) (h : length words ≤ i) (all : Option Parts) (done : Parts) (waits : Option (String Global))
    (e : all ≡ in_front done (flags_and_values flags options (option_map string_bytes waits) (map string_bytes (drop i words)))) where
  at_end : all ≡ in_front done (flags_and_values flags options (option_map string_bytes waits) [])
  at_end = e ∙ ap (λ (ws : List (String Global)). in_front done (flags_and_values flags options (option_map string_bytes waits) (map string_bytes ws))) (drop_all i words h)

  pub still_waits : is_some waits ≡ true → all ≡ None
  unfolding flags_and_values
  still_waits s = at_end ∙ go waits s
    where
      go : (w : Option (String Global)) → is_some w ≡ true → in_front done (flags_and_values flags options (option_map string_bytes w) []) ≡ None
      go None s = absurd (true≢false (sym s))
      go (Some name) s = refl

  pub all_read : is_some waits ≡ false → all ≡ Some done
  unfolding flags_and_values
  all_read s = at_end ∙ go waits s
    where
      go : (w : Option (String Global)) → is_some w ≡ false → in_front done (flags_and_values flags options (option_map string_bytes w) []) ≡ Some done
      go None s = ap₂ (λ (ws : List Text) (vs : List Value). Some (record { flags = ws; values = vs })) (append-nil done.flags) (append-nil done.values)
      go (Some name) s = absurd (true≢false s)

-- ---- the items, by the flags and the numbers

-- each value is of one of the options
module _ (flags options : List Text) where
  abbrev Known : Option Parts → Type 0
  Known parts = option_map_or (λ (p : Parts). are_options options p.values) parts true ≡ true

  value_known : (value : Value) (parts : Option Parts) → is_one_of options value.0 ≡ true → Known parts → Known (option_map (with_option value) parts)
  value_known value None is k = refl
  value_known value (Some p) is k = rw (is, k) refl

  flag_known : (word : Text) (parts : Option Parts) → Known parts → Known (option_map (with_flag word) parts)
  flag_known word None k = refl
  flag_known word (Some p) k = k

  pub known : (waits : Option Text) (words : List Text) → option_map_or (is_one_of options) waits true ≡ true → Known (flags_and_values flags options waits words)
  unfolding flags_and_values
  known None [] h = refl
  known (Some name) [] h = refl
  known (Some name) (word ∷ rest) h = value_known (name, word) (flags_and_values flags options None rest) h (known None rest refl)
  known None (word ∷ rest) h = go (is_one_of flags word) (is_one_of options (name_in word)) (value_in word) refl refl refl (λ w e. known w rest e)
    where
      go : (f o : Bool) (v : Option Text) → is_one_of flags word ≡ f → is_one_of options (name_in word) ≡ o → value_in word ≡ v
          → ((w : Option Text) → option_map_or (is_one_of options) w true ≡ true → Known (flags_and_values flags options w rest)) → Known (flags_and_values flags options None (word ∷ rest))
      go true o v x y z more = rw x (flag_known word (flags_and_values flags options None rest) (more None refl))
      go false false v x y z more = rw (x, y) refl
      go false true None x y z more = rw (x, y, z) (more (Some (name_in word)) y)
      go false true (Some text) x y z more = rw (x, y, z) (value_known (name_in word, text) (flags_and_values flags options None rest) y (more None refl))

  abbrev joined : Option (List (Text × Bool)) → Option (List (Text × Option ℕ)) → Option Items
  joined there numbers = option_and_then (λ there. option_map (λ numbers. record { flags = there; numbers = numbers }) numbers) there

  abbrev items_in : Parts → Option Items
  items_in p = joined (with_each (flag_in p.flags) flags) (with_each (number_in p.values) options)

  pub no_parts : (words : List Text) → flags_and_values flags options None words ≡ None → items_of flags options words ≡ None
  no_parts words e = ap (option_and_then items_in) e

  module _ (words : List Text) (parts : Parts) (e : flags_and_values flags options None words ≡ Some parts) where
    pub values_known : are_options options parts.values ≡ true
    values_known = sym (ap (λ (p : Option Parts). option_map_or (λ (q : Parts). are_options options q.values) p true) e) ∙ known None words refl

    pub items_are : (there : Option (List (Text × Bool))) (numbers : Option (List (Text × Option ℕ))) → with_each (flag_in parts.flags) flags ≡ there
        → with_each (number_in parts.values) options ≡ numbers → items_of flags options words ≡ joined there numbers
    items_are there numbers f n = ap (option_and_then items_in) e ∙ ap₂ joined f n

    pub no_numbers : with_each (number_in parts.values) options ≡ None → items_of flags options words ≡ None
    no_numbers n = items_are (with_each (flag_in parts.flags) flags) None refl n ∙ none (with_each (flag_in parts.flags) flags)
      where
        none : (there : Option (List (Text × Bool))) → joined there None ≡ None
        none None = refl
        none (Some there) = refl

-- an error is the same with values of any type
pub err_same : {T U E : Type 0} (f u : E) → IsErrOf {T = T} (Err f) u → IsErrOf {T = U} (Err f) u
err_same f u e = (let same : f ≡ u = cc in rw same refl)
