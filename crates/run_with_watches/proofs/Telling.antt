-- A document matches no more watches than are set.
use Rattle.std.proofs.Common.{◌≡◌, ◌≤◌, ℕ, List, length, refl, ap, arith}
use Rattle.std.specs.Prelude.{◌^◌, not, IfOk, Result, Ok, Err}
use Rattle.std.specs.declared.vec.Vec.{Vec}
use Rattle.std.proofs.lemmas.List.{length-map}
use Rattle.std.proofs.lemmas.List.Filters.{length-filter_both}
use Rattle.eb_base.specs.Document.{Doc}
use Rattle.eb_base.specs.Match.{is_match}
use Rattle.eb_watch.specs.Watches.{Watched, numbers_of, matching}

told_few : (ws : List Watched) (d : Doc) (ns : List ℕ) → ns ≡ numbers_of (matching ws d) → length ns ≤ length ws
told_few ws d ns e =
    let both = length-filter_both (λ (w : Watched). is_match w.1 d) (λ (w : Watched). not (is_match w.1 d)) (λ w. refl) ws in
    omega (arith, ap length e, length-map (matching ws d) (λ (w : Watched). w.0), both)

pub told_most : {Z E : Type 0} (ws : List Watched) (d : Doc) (r : Result (Vec ℕ Z) E) → IfOk r (λ v. v.items ≡ numbers_of (matching ws d)) → length ws ≤ 10000 → IfOk r (λ v. length v.items ≤ 2 ^ 32)
told_most ws d (Ok v) e few = let n = told_few ws d v.items e in omega (arith, n, few)
told_most ws d (Err x) e few = tt
