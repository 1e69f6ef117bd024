-- What lines are read as, one after the other and piece by piece.
use Rattle.std.proofs.Common.{◌≡◌, ℕ, ◌+◌, ◌<◌, List, [], ◌∷◌, ◌++◌, length, take, drop, get_or, sym, ap, ap₂, subst, ◌∙◌, arith, take-append-drop, length-drop}
use Rattle.std.specs.Prelude.{Some, slice_get}
use Rattle.std.specs.List.{AllZip}
use Rattle.std.proofs.lemmas.List.{take-take, drop-take, take_more, get_or-drop}
use Rattle.std.proofs.lemmas.Option.{get_or_from_slice_get}
use Rattle.rayon.proofs.ListFacts.{AllZip-append}

module _ {X Y : Type 0} (R : X → Y → Type 0) where
  take_both : (n m : ℕ) (xs : List X) → take n xs ++ take m (drop n xs) ≡ take (n + m) xs
  take_both n m xs =
      let all = take (n + m) xs in
      ap₂ (λ zs ws. zs ++ ws) (sym (take-take n (n + m) xs (omega arith))) (sym (drop-take n m xs)) ∙ take-append-drop n all

  -- one more piece
  pub next_piece : (n m : ℕ) (xs : List X) (ys zs : List Y) → AllZip R (take n xs) ys → AllZip R (take m (drop n xs)) zs → AllZip R (take (n + m) xs) (ys ++ zs)
  next_piece n m xs ys zs h k = subst (λ ws. AllZip R ws (ys ++ zs)) (take_both n m xs) (AllZip-append R (take n xs) (take m (drop n xs)) ys zs h k)

  -- one more, from a place on
  pub next_one : (xs : List X) (from k : ℕ) (x : X) (y : Y) (ys : List Y) → from + k < length xs → slice_get xs (from + k) ≡ Some x → R x y
      → AllZip R (take k (drop from xs)) ys → AllZip R (take (k + 1) (drop from xs)) (ys ++ y ∷ [])
  next_one xs from k x y ys low is one h =
      let at : get_or (drop from xs) k x ≡ x = get_or-drop from xs k x ∙ get_or_from_slice_get xs (from + k) x x is in
      let more : take (k + 1) (drop from xs) ≡ take k (drop from xs) ++ x ∷ [] =
      take_more (drop from xs) k x (omega (arith, length-drop from xs, low)) ∙ ap (λ z. take k (drop from xs) ++ z ∷ []) at in
      subst (λ ws. AllZip R ws (ys ++ y ∷ [])) (sym more) (AllZip-append R (take k (drop from xs)) (x ∷ []) ys (y ∷ []) h (one, tt))
