-- The words of a command without an option that has a text.
use Rattle.std.proofs.Common.{◌≡◌, ℕ, suc, ◌+◌, ◌-◌, ◌<◌, ◌≤◌, take, String, Global, get_or, map, drop, string_bytes, ◌++◌, ◌&&◌, Bool, true}
use Rattle.std.proofs.Common.{false, not, List, [], ◌∷◌, length, append_assoc, append-nil, Option, Some, None, refl, sym, ap, ap₂, ◌∙◌, arith}
use Rattle.std.specs.Prelude.{if◌then◌else◌}
use Rattle.std.specs.List.{position_or_len}
use Rattle.std.specs.Option.{option_map_or}
use Rattle.std.specs.Str.{bytes_eq}
use Rattle.std.proofs.lemmas.List.{drop_all, length-drop, take_all}
use Rattle.std.proofs.Math.Seq.{drop-cons}
use Rattle.clap.specs.Walk.{Text}
use Rattle.eb_options.specs.Items.{dashed, is_equals, is_one_of}
use Rattle.eb_options.specs.Texts.{Apart, behind, taken_value, text_from, value_of}
use Rattle.eb_options.proofs.Splitting.{lacks, no_equals}

-- a word without `=` that is the option has no value in it
pub bare_value : (name word : Text) → position_or_len is_equals word ≡ length word → bytes_eq word (dashed name) ≡ true → value_of name word ≡ Some None
bare_value name word h e = let none = lacks word h in rw (no_equals word none, e, none) refl

pub behind_behind : (xs ys : List Text) (apart : Option Apart) → behind xs (behind ys apart) ≡ behind (xs ++ ys) apart
behind_behind xs ys None = refl
behind_behind xs ys (Some a) = ap (λ (ws : List Text). Some (record { text = a.text; others = ws })) (sym (append_assoc xs ys a.others))

module _ (name : Text) (options : List Text) (all : Option Apart) (others : List Text) (word : Text) (rest words : List Text) (is : words ≡ word ∷ rest) where
  -- another word is skipped
  pub passes : (waits : Bool) (next : List Text) (w : Bool) → (if waits then None else value_of name word) ≡ None → next ≡ others ++ word ∷ [] → w ≡ (not waits && is_one_of options word)
      → all ≡ behind others (text_from name options waits words) → all ≡ behind next (text_from name options w rest)
  unfolding text_from
  passes true next w none e f h =
      h ∙ ap (λ ws. behind others (text_from name options true ws)) is ∙ behind_behind others (word ∷ []) (text_from name options false rest)
      ∙ ap₂ (λ ws b. behind ws (text_from name options b rest)) (sym e) (sym f)
  passes false next w none e f h =
      h ∙ ap (λ ws. behind others (text_from name options false ws)) is
      ∙ ap (λ v. behind others (option_map_or (λ value. taken_value value rest) v (behind (word ∷ []) (text_from name options (is_one_of options word) rest)))) none
      ∙ behind_behind others (word ∷ []) (text_from name options (is_one_of options word) rest) ∙ ap₂ (λ ws b. behind ws (text_from name options b rest)) (sym e) (sym f)

  -- the option is taken
  pub takes : (waits : Bool) (value : Option Text) → (if waits then None else value_of name word) ≡ Some value → all ≡ behind others (text_from name options waits words)
      → all ≡ behind others (taken_value value rest)
  unfolding text_from
  takes true value some h = absurd (let none : None ≡ Some value = some in cc)
  takes false value some h = h ∙ ap (λ ws. behind others (text_from name options false ws)) is
      ∙ ap (λ v. behind others (option_map_or (λ value. taken_value value rest) v (behind (word ∷ []) (text_from name options (is_one_of options word) rest)))) some

pub none_behind : (others : List Text) (apart : Option Apart) → apart ≡ None → behind others apart ≡ None
none_behind others apart e = rw e refl

-- the words from one on
pub after_word : (words : List (String Global)) (i : ℕ) (word : String Global) → word ≡ get_or words i word → i < length words
    → map string_bytes (drop i words) ≡ string_bytes word ∷ map string_bytes (drop (i + 1) words)
after_word words i word e h =
    let next : suc i ≡ i + 1 = omega arith in
    ap (map string_bytes) (drop-cons words i word h) ∙ ap₂ (λ (w : String Global) (j : ℕ). string_bytes w ∷ map string_bytes (drop j words)) (sym e) next

pub rest_of : (words : List (String Global)) (i : ℕ) → drop i words ≡ take (length words - i) (drop i words)
rest_of words i = sym (take_all (length words - i) (drop i words) (let is : length (drop i words) ≡ length words - i = length-drop i words in omega arith))

-- no word is left
pub at_end : (name : Text) (options : List Text) (all : Option Apart) (others : List Text) (words : List (String Global)) (i : ℕ) (waits : Bool) → length words ≤ i
    → all ≡ behind others (text_from name options waits (map string_bytes (drop i words))) → all ≡ Some (record { text = None; others = others })
unfolding text_from
at_end name options all others words i waits h e =
    e ∙ ap (λ (ws : List (String Global)). behind others (text_from name options waits (map string_bytes ws))) (drop_all i words h)
    ∙ ap (λ (ws : List Text). Some (record { text = None; others = ws })) (append-nil others)
