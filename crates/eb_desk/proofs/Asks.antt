-- What is asked is known by its numbers.
use Rattle.std.proofs.Common.{◌≡◌, ℕ, List, [], ◌∷◌, ◌++◌, length, refl, ap, ap₂, arith}
use Rattle.eb_base.specs.Query.{Tree, Trees, word, phrase, window, since, negation, conjunction, disjunction, no_trees, trees}
use Rattle.eb_desk.specs.Asks.{words_before, tree_before, trees_before, asks_of}

abbrev first : List ℕ → ℕ
first [] = 0
first (x ∷ xs) = x

abbrev rest : List ℕ → List ℕ
rest [] = []
rest (x ∷ xs) = xs

same_parts : (xs ys more less : List ℕ) → length xs ≡ length ys → xs ++ more ≡ ys ++ less → (xs ≡ ys) × (more ≡ less)
same_parts [] [] more less n e = (refl, e)
same_parts [] (y ∷ ys) more less n e = absurd (omega (arith, n))
same_parts (x ∷ xs) [] more less n e = absurd (omega (arith, n))
same_parts (x ∷ xs) (y ∷ ys) more less n e =
    let h = same_parts xs ys more less (omega (arith, n)) (ap rest e) in
    (ap₂ (λ a (l : List ℕ). a ∷ l) (ap first e) h.0, h.1)

same_words : (ws vs : List (List ℕ)) (more less : List ℕ) → words_before ws more ≡ words_before vs less → (ws ≡ vs) × (more ≡ less)
same_words [] [] more less e = (refl, ap rest e)
same_words [] (v ∷ vs) more less e = let no : 0 ≡ 1 = ap first e in absurd (omega (arith, no))
same_words (w ∷ ws) [] more less e = let no : 1 ≡ 0 = ap first e in absurd (omega (arith, no))
same_words (w ∷ ws) (v ∷ vs) more less e =
    let one = same_parts w v (words_before ws more) (words_before vs less) (ap (λ l. first (rest l)) e) (ap (λ l. rest (rest l)) e) in
    let all = same_words ws vs more less one.1 in
    (ap₂ (λ x (l : List (List ℕ)). x ∷ l) one.0 all.0, all.1)

mutual
  same_tree : (t u : Tree) (more less : List ℕ) → tree_before t more ≡ tree_before u less → (t ≡ u) × (more ≡ less)
  same_tree (word w) (word v) more less e = let h = same_parts w v more less (ap (λ l. first (rest l)) e) (ap (λ l. rest (rest l)) e) in (ap word h.0, h.1)
  same_tree (phrase ws) (phrase vs) more less e = let h = same_words ws vs more less (ap rest e) in (ap phrase h.0, h.1)
  same_tree (window ws m) (window vs n) more less e =
      let h = same_words ws vs more less (ap (λ l. rest (rest l)) e) in
      (ap₂ (λ (l : List (List ℕ)) x. window l x) h.0 (ap (λ l. first (rest l)) e), h.1)
  same_tree (since m) (since n) more less e = (ap since (ap (λ l. first (rest l)) e), ap (λ l. rest (rest l)) e)
  same_tree (negation t) (negation u) more less e = let h = same_tree t u more less (ap rest e) in (ap negation h.0, h.1)
  same_tree (conjunction ts) (conjunction us) more less e = let h = same_trees ts us more less (ap rest e) in (ap conjunction h.0, h.1)
  same_tree (disjunction ts) (disjunction us) more less e = let h = same_trees ts us more less (ap rest e) in (ap disjunction h.0, h.1)
  same_tree t u more less e = let no = ap first e in absurd (omega (arith, no))

  same_trees : (ts us : Trees) (more less : List ℕ) → trees_before ts more ≡ trees_before us less → (ts ≡ us) × (more ≡ less)
  same_trees no_trees no_trees more less e = (refl, ap rest e)
  same_trees no_trees (trees u us) more less e = let no : 0 ≡ 1 = ap first e in absurd (omega (arith, no))
  same_trees (trees t ts) no_trees more less e = let no : 1 ≡ 0 = ap first e in absurd (omega (arith, no))
  same_trees (trees t ts) (trees u us) more less e =
      let one = same_tree t u (trees_before ts more) (trees_before us less) (ap rest e) in
      let all = same_trees ts us more less one.1 in
      (ap₂ (λ x (l : Trees). trees x l) one.0 all.0, all.1)

-- the query and the k
pub same_asks : (t u : Tree) (k m : ℕ) → asks_of t k ≡ asks_of u m → (t ≡ u) × (k ≡ m)
same_asks t u k m e = let h = same_tree t u (k ∷ []) (m ∷ []) e in (h.0, ap first h.1)
