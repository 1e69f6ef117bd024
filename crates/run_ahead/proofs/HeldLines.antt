-- Lines that wait stay where they are while others are put after them.
use Rattle.std.proofs.Common.{◌≡◌, ℕ, suc, ◌-◌, ◌≤◌, List, [], ◌∷◌, ◌++◌, length, map, take, drop, Option, Some, None, refl, ap, ap₂, ◌∙◌, arith, length-drop}
use Rattle.std.specs.List.{All}
use Rattle.std.proofs.lemmas.List.{drop-append-le, take-append-le, map-append}
use Rattle.eb_io.specs.Lines.{line}
use Rattle.run_ahead.specs.declared.lines.Span.{Span}
use Rattle.run_ahead.specs.Held.{line_in, IsWithin}

line_still : (bytes more : List ℕ) (len : ℕ) → len ≤ length bytes → (s : Option Span) → IsWithin len s → line_in (bytes ++ more) s ≡ line_in bytes s
line_still bytes more len few None h = refl
line_still bytes more len few (Some s) h =
    ap line (ap (take (s.to - s.from)) (drop-append-le s.from bytes more (omega (arith, h.0, h.1, few)))
    ∙ take-append-le (s.to - s.from) (drop s.from bytes) more (omega (arith, h.0, h.1, few, length-drop s.from bytes)))

lines_still : (bytes more : List ℕ) (len : ℕ) → len ≤ length bytes → (ss : List (Option Span)) → All (IsWithin len) ss → map (line_in (bytes ++ more)) ss ≡ map (line_in bytes) ss
lines_still bytes more len few [] h = refl
lines_still bytes more len few (s ∷ ss) h =
    ap₂ (λ x xs. x ∷ xs) (line_still bytes more len few s (h 0 s (omega arith))) (lines_still bytes more len few ss (λ k d l. h (suc k) d (omega arith)))

-- one more line
pub put_behind : (bytes more : List ℕ) (len : ℕ) → len ≤ length bytes → (ss : List (Option Span)) (s : Option Span) → All (IsWithin len) ss
    → map (line_in (bytes ++ more)) (ss ++ s ∷ []) ≡ map (line_in bytes) ss ++ line_in (bytes ++ more) s ∷ []
put_behind bytes more len few ss s h =
    map-append (line_in (bytes ++ more)) ss (s ∷ []) ∙ ap (λ xs. xs ++ line_in (bytes ++ more) s ∷ []) (lines_still bytes more len few ss h)
