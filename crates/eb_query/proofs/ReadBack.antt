-- The line of a number and a query reads back.
use Rattle.eb_fields.specs.Dialect.{plain}
use Rattle.std.proofs.Common.{◌≡◌, ℕ, suc, ◌+◌, ◌≤◌, List, [], ◌∷◌, ◌++◌, length, take, drop, refl, sym, ap, ◌∙◌, arith, subst, decimal}
use Rattle.eb_base.specs.Query.{Tree, IsWellFormed}
use Rattle.eb_query.specs.Grammar.{Lexeme, GivesTree}
use Rattle.eb_query.specs.Nesting.{NestsWithin}
use Rattle.eb_query.specs.Lexemes.{Placed, lexemes}
use Rattle.eb_query.specs.declared.ask.Ask.TheVariants.{Newest}
use Rattle.eb_query.proofs.Asks.{text_lexemes}
use Rattle.eb_fields.specs.Digits.{decimal_after}
use Rattle.eb_query.specs.Number.{digits_len, number_in_line, is_blank_or_end, HasQueryNumber, lexemes_of_line}
use Rattle.eb_query.specs.Reading.{asks, IsOutcome, ReadsAs, with_number}
use Rattle.eb_query.specs.Writing.{line_text, query_text, AreNamed}
use Rattle.eb_query.specs.Laws.{kinds_of_line}
use Rattle.eb_query.proofs.Cuts.{at_blank}
use Rattle.eb_fields.proofs.Decimals.{IsDecimal, decimal_is, digits_first, front_taken, front_dropped}
use Rattle.eb_query.proofs.WrittenLexemes.{query_lexemes}
use Rattle.eb_query.proofs.Written.{kinds, written_lexemes}
use Rattle.eb_query.proofs.Derived.{query_derives, reads}
use Rattle.eb_base.specs.Match.{most_matches}

module _ (k : ℕ) (ds text : List ℕ) (d : IsDecimal 4 k ds) where
  line_digits : digits_len (63 ∷ ds ++ 32 ∷ text) ≡ length ds
  unfolding digits_len
  line_digits = digits_first ds (32 ∷ text) d.digits refl

  line_number : number_in_line (63 ∷ ds ++ 32 ∷ text) ≡ k
  unfolding number_in_line
  line_number = ap (λ (n : ℕ). decimal_after 0 (take n (ds ++ 32 ∷ text))) line_digits ∙ ap (decimal_after 0) (front_taken ds (32 ∷ text)) ∙ d.value

  line_rest : drop (1 + digits_len (63 ∷ ds ++ 32 ∷ text)) (63 ∷ ds ++ 32 ∷ text) ≡ 32 ∷ text
  line_rest =
      let e : 1 + digits_len (63 ∷ ds ++ 32 ∷ text) ≡ suc (length ds) = omega (arith, line_digits) in
      ap (λ (n : ℕ). drop n (63 ∷ ds ++ 32 ∷ text)) e ∙ front_dropped ds (32 ∷ text)

  line_has : 1 ≤ k → k ≤ most_matches → HasQueryNumber (63 ∷ ds ++ 32 ∷ text)
  line_has h i = let e = line_digits in let n = line_number in let s = d.some in let f = d.few in
      record {
        up_to = record { some = omega arith; few = omega arith; within = omega arith; apart = ap is_blank_or_end line_rest };
        positive = omega arith;
      }

  line_lexemes : (c : ℕ) × (lexemes_of_line plain (63 ∷ ds ++ 32 ∷ text) ≡ lexemes plain 0 c text)
  unfolding lexemes_of_line
  line_lexemes =
      let c = 2 + digits_len (63 ∷ ds ++ 32 ∷ text) in
      (suc c, ap (lexemes plain 0 c) line_rest ∙ at_blank plain c 32 text refl)

pub read_back : (k : ℕ) (t : Tree) → 1 ≤ k → k ≤ most_matches → IsWellFormed t → AreNamed t → NestsWithin (kinds_of_line (line_text k t)) → ReadsAs (line_text k t) (asks (Newest k) t)
read_back k t low high w named nests =
    let ds = decimal k in
    let text = query_text t in
    let line = line_text k t in
    let d = decimal_is 4 k (omega arith) (omega arith) (omega arith) in
    let l = line_lexemes k ds text d in
    let e : kinds (lexemes_of_line plain line) ≡ query_lexemes t = ap kinds l.1 ∙ written_lexemes t l.0 w.formed named in
    let m = 1 + digits_len line in
    let number : Newest (number_in_line line) ≡ Newest k = ap (λ n. Newest n) (line_number k ds text d) in
    let r = reads line (Newest k) t w.within [] (lexemes_of_line plain line) (subst (λ (ks : List Lexeme). GivesTree ks t) (sym e) (query_derives t w.formed)) nests in
    with_number m (line_has k ds text d low high, sym number, refl)
    (subst (λ (ps : List Placed). IsOutcome line (Newest k) [] ps (asks (Newest k) t)) (sym (text_lexemes plain line m refl)) r)
