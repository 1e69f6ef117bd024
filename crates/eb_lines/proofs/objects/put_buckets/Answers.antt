use Rattle.std.proofs.Common.{◌≡◌, List, ℕ, [], ◌∷◌, ◌++◌, length, refl, ap, sym, ◌∙◌, arith, append_assoc}
use Rattle.std.specs.Prelude.{codes}
use Rattle.eb_lines.specs.JsonTexts.{listed, buckets_text}
use Rattle.eb_lines.proofs.objects.put_buckets.Goals as goal

-- where there are some
some_buckets : (bs : List ℕ) → (bs ≡ [] → ⊥) → buckets_text bs ≡ codes ",\"buckets\":[" ++ (listed bs ++ codes "]}\n")
some_buckets [] none = absurd (none refl)
some_buckets (b ∷ bs) none = refl

to_the_right : (a b c d : List ℕ) → ((a ++ b) ++ c) ++ d ≡ a ++ (b ++ (c ++ d))
to_the_right a b c d = simp append_assoc

pub returns-clause-text : goal.returns-clause-text
returns-clause-text c =
    let bs = c.args.buckets.now in
    let some : bs ≡ [] → ⊥ = λ e. grind (arith, ap length e, c.if-is_empty.ensures, c.if-is_empty.false) in
    c.put-3.ensures.text ∙ ap (λ t. t ++ codes "]}\n") (c.put_id_list.ensures.text ∙ ap (λ t. t ++ listed bs) c.put-2.ensures.text)
    ∙ to_the_right c.args.text.now.items (codes ",\"buckets\":[") (listed bs) (codes "]}\n") ∙ ap (λ t. c.args.text.now.items ++ t) (sym (some_buckets bs some))
