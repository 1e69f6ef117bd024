-- Where the values of fields begin and end in a line.
use Rattle.eb_fields.specs.Dialect.{Dialect}
use Rattle.std.proofs.Common.{◌≡◌, ℕ, ◌+◌, ◌-◌, ◌<◌, ◌≤◌, nat_lt, Bool, true, false, true≢false, List, ◌∷◌, length, take, drop, get_or, Some, None, refl, sym}
use Rattle.std.proofs.Common.{ap, ◌∙◌, arith, ne_eqb, lt-ltb, le-ltb, ltb-false, length-drop}
use Rattle.std.proofs.lemmas.Bool.{ltb-true, eqb-true}
use Rattle.std.proofs.lemmas.List.{get_or-drop, drop_all, drop-drop}
use Rattle.std.proofs.lemmas.List.Sums.{passes_at_first}
use Rattle.std.proofs.lemmas.Str.{IsCharBoundary-before_ascii, IsCharBoundary-after_ascii}
use Rattle.std.specs.List.{position_or_len}
use Rattle.std.specs.Str.{IsUtf8, IsCharBoundary}
use Rattle.eb_fields.specs.Fields.{begun_name}
use Rattle.eb_fields.proofs.Listed.{begun_colon}
use Rattle.eb_query.specs.Grammar.{broken}
use Rattle.eb_query.specs.Lexemes.{ends_run, is_quote, first, field_leaf, bare_value, quoted_value, has_quote, value_lexeme, first_with}
use Rattle.eb_query.proofs.Cuts.{placed_at, is_quote_small}
use Rattle.eb_query.proofs.Leaves.{bytes_rest}
use Rattle.eb_fields.proofs.Found.{found_within}

pub found_from : (p : ℕ → Bool) (bytes line : List ℕ) (from n : ℕ) → bytes ≡ line
    → n ≡ position_or_len p (take (length bytes - from) (drop from bytes)) → n ≡ position_or_len p (drop from line)
found_from p bytes line from n e h = h ∙ ap (position_or_len p) (bytes_rest bytes line from e)

pub within_from : (p : ℕ → Bool) (line : List ℕ) (from n : ℕ) → from ≤ length line → n ≡ position_or_len p (drop from line) → from + n ≤ length line
within_from p line from n w e = let l = found_within p (drop from line) n e in omega (arith, length-drop from line)

pub boundary_from : (p : ℕ → Bool) (line : List ℕ) (from n : ℕ) → ((b : ℕ) → p b ≡ true → b < 128) → from ≤ length line
    → n ≡ position_or_len p (drop from line) → IsCharBoundary line (from + n)
boundary_from p line from n small w e = go (nat_lt (from + n) (length line)) refl
  where
    within : from + n ≤ length line
    within = within_from p line from n w e

    ascii : (from + n < length line) → get_or line (from + n) 0 < 128
    ascii l =
        let k : position_or_len p (drop from line) < length (drop from line) = omega (arith, length-drop from line) in
        let t = passes_at_first p (drop from line) 0 k in
        let s : get_or (drop from line) n 0 < 128 = rw e (small _ t) in
        rw get_or-drop at s

    go : (b : Bool) → nat_lt (from + n) (length line) ≡ b → IsCharBoundary line (from + n)
    go true t = IsCharBoundary-before_ascii line (from + n) (ltb-true _ _ t) (ascii (ltb-true _ _ t))
    go false f = let k = ltb-false _ _ f in (within, λ l. absurd (omega arith))

-- after the quotation mark that ends a value
pub behind_quote : (line : List ℕ) (from n : ℕ) → IsUtf8 line → from ≤ length line → n ≡ position_or_len is_quote (drop from line)
    → n < length line - from → IsCharBoundary line (from + n + 1)
behind_quote line from n u w e l =
    let k : position_or_len is_quote (drop from line) < length (drop from line) = omega (arith, length-drop from line) in
    let t : is_quote (get_or (drop from line) n 0) ≡ true = rw e (passes_at_first is_quote (drop from line) 0 k) in
    let s : get_or (drop from line) n 0 < 128 = is_quote_small _ t in
    let small : get_or line (from + n) 0 < 128 = rw get_or-drop at s in
    IsCharBoundary-after_ascii line (from + n) u (omega arith) small

pub value_part : (line part : List ℕ) (from n : ℕ) → part ≡ take (from + n - from) (drop from line) → part ≡ take n (drop from line)
value_part line part from n h = let e : from + n - from ≡ n = omega arith in h ∙ ap (λ (k : ℕ). take k (drop from line)) e

pub bare_none : (name bs : List ℕ) (n : ℕ) → n ≡ position_or_len ends_run bs → n ≡ 0 → bare_value name bs ≡ (broken, 0)
unfolding bare_value
bare_none name bs n e z = rw (← e, z) refl

pub bare_some : (name bs part : List ℕ) (n : ℕ) → n ≡ position_or_len ends_run bs → (n ≡ 0 → ⊥) → part ≡ take n bs → bare_value name bs ≡ (field_leaf name part, n)
unfolding bare_value
bare_some name bs part n e z p = rw (← e, ne_eqb n 0 z, ← p) refl

pub quoted_value_none : (name bs : List ℕ) (n : ℕ) → n ≡ position_or_len is_quote bs → n ≡ length bs → quoted_value name bs ≡ (broken, length bs)
unfolding quoted_value
quoted_value_none name bs n e h = rw (le-ltb (position_or_len is_quote bs) (length bs) (omega arith)) refl

pub quoted_value_some : (name bs part : List ℕ) (n : ℕ) → n ≡ position_or_len is_quote bs → n < length bs → part ≡ take n bs
    → quoted_value name bs ≡ (field_leaf name part, n + 1)
unfolding quoted_value
quoted_value_some name bs part n e h p = rw (← e, lt-ltb n (length bs) h, ← p) refl

-- where there is a quotation mark
pub quote_here : (line : List ℕ) (k : ℕ) → k ≤ length line → has_quote (drop k line) ≡ true → (k < length line) × (get_or line k 0 < 128)
quote_here line k w h = go (nat_lt k (length line)) refl
  where
    go : (b : Bool) → nat_lt k (length line) ≡ b → (k < length line) × (get_or line k 0 < 128)
    go true e =
        let less = ltb-true _ _ e in
        let is : get_or line k 0 ≡ 34 = eqb-true _ _ (sym (ap has_quote (placed_at line k less)) ∙ h) in
        (less, omega arith)
    go false e = let more = ltb-false _ _ e in absurd (true≢false (sym h ∙ ap has_quote (drop_all k line more)))

pub value_quoted : (name line : List ℕ) (from : ℕ) → has_quote (drop from line) ≡ true
    → value_lexeme name (drop from line) ≡ ((quoted_value name (drop (from + 1) line)).0, 1 + (quoted_value name (drop (from + 1) line)).1)
unfolding value_lexeme
value_quoted name line from h = rw (h, drop-drop 1 from line) refl

pub value_bare : (name bs : List ℕ) → has_quote bs ≡ false → value_lexeme name bs ≡ bare_value name bs
unfolding value_lexeme
value_bare name bs h = rw h refl

-- the field that the line names at a place
module _ (how : Dialect) (line part : List ℕ) (at : ℕ) (w : at < length line) (r : part ≡ drop at line) where
  begun_is : begun_name how.names part ≡ begun_name how.names (get_or line at 0 ∷ drop (at + 1) line)
  begun_is = ap (begun_name how.names) (r ∙ placed_at line at w)

  pub first_unnamed : None ≡ begun_name how.names part → first_with how (get_or line at 0) (drop (at + 1) line) ≡ first how (get_or line at 0) (drop (at + 1) line)
  unfolding first_with
  first_unnamed e = rw (← begun_is, ← e) refl

  pub first_named : (name : List ℕ) → Some name ≡ begun_name how.names part
      → first_with how (get_or line at 0) (drop (at + 1) line)
      ≡ ((value_lexeme name (drop (at + length name + 1) line)).0, length name + (value_lexeme name (drop (at + length name + 1) line)).1)
  unfolding first_with
  first_named name e =
      let d : at + 1 + length name ≡ at + length name + 1 = omega arith in
      rw (← begun_is, ← e, drop-drop (length name) (at + 1) line, d) refl

  pub named_within : (name : List ℕ) → Some name ≡ begun_name how.names part → (at + length name < length line) × (get_or line (at + length name) 0 < 128)
  named_within name e =
      let p = begun_colon how.names (drop at line) name (sym (ap (begun_name how.names) r) ∙ sym e) in
      let l = p.0 in
      let b : get_or line (at + length name) 0 ≡ 58 = rw get_or-drop at p.1 in
      (omega (arith, length-drop at line), omega arith)
