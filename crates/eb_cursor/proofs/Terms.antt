-- A round over the terms of a phrase: the first is asked, and then the others from where it
-- stopped.
use Rattle.std.proofs.Common.{◌≡◌, ℕ, ◌+◌, ◌-◌, ◌≤◌, List, [], ◌∷◌, length, get_or, set, refl, sym, subst, arith}
use Rattle.eb_place.specs.declared.moment.Moment.{Moment}
use Rattle.eb_place.proofs.LaterMoments.{later_on}
use Rattle.eb_cursor.specs.Asked.{CanAskLeaf, CanAskLeaves}
use Rattle.eb_cursor.specs.Finds.{FindsLeaf, GoesOver}
use Rattle.eb_cursor.specs.Lists.{gives}
use Rattle.eb_cursor.specs.Posted.{is_posting}
use Rattle.eb_cursor.specs.declared.cursor.Cursor.{Cursor}
use Rattle.eb_cursor.proofs.Phrases.{run_end, run_none, run_asks, run_step, front_leaf, front_rest}
use Rattle.eb_cursor.proofs.Tellings.{IsLater, IsLawfulPort, KeepsItself, KeepsOn, gives_later, told_itself}
use Rattle.eb_cursor.proofs.Tops.{top_le}

-- ---- what may be asked

-- the first term
pub first_can : {S : Type 0} (stands : S → Moment → Type 0) (p : S) (cursors : List Cursor) (own : Cursor) (rest : List Cursor) (at end y : ℕ)
    → cursors ≡ own ∷ rest → y ≡ end + at → CanAskLeaves stands p cursors at end → CanAskLeaf stands p own y
first_can stands p cursors own rest at end y e same r =
    let a = run_asks (gives r.0) r.1 r.2 cursors own rest (r.3 + at) e r.6 in
    subst (λ z. CanAskLeaf stands p own z) (sym same)
    (r.0, is_posting r.1 a.0, r.4, front_leaf (gives r.0) r.1 r.2 own rest at end r.3 r.5 a)

-- then the others, from what it finds
pub others_can : {S : Type 0} {stands : S → Moment → Type 0} {keeps : S → Moment → S → Moment → Type 0} {p p1 : S} (cursors : List Cursor) (own own' : Cursor)
    (rest : List Cursor) (at end y reach found : ℕ) → IsLawfulPort stands → cursors ≡ own ∷ rest → y ≡ end + at → found ≡ reach - at
    → CanAskLeaves stands p cursors at end → FindsLeaf stands keeps p p1 own own' y reach → (found ≤ end) × CanAskLeaves stands p1 rest (at + 1) found
others_can {S} {stands} {keeps} {p} {p1} cursors own own' rest at end y reach found lawful e same minus r first =
    let one : FindsLeaf stands keeps p p1 own own' (end + at) reach = subst (λ z. FindsLeaf stands keeps p p1 own own' z reach) same first in
    let a = run_asks (gives r.0) r.1 r.2 cursors own rest (r.3 + at) e r.6 in
    let x = (one (is_posting r.1 a.0)).told r.0 r.4 (front_leaf (gives r.0) r.1 r.2 own rest at end r.3 r.5 a) in
    let w : IsLater r.0 x.0 = record { is = lawful _ r.0 r.4; later = x.2 } in
    let falls : found ≤ end = omega (arith, minus, x.4.0, top_le (is_posting r.1 a.0) (end + at)) in
    (falls, (x.0, r.1, a.1, r.3, x.1, omega (arith, falls, r.5), front_rest (gives r.0) (gives x.0) (gives_later r.0 x.0 w) r.1 r.2 own rest at r.3 a))

-- ---- what is found

pub over_found : {S : Type 0} {stands : S → Moment → Type 0} {keeps : S → Moment → S → Moment → Type 0} {p p1 p2 : S} (cursors : List Cursor) (own own' : Cursor)
    (rest rest' : List Cursor) (at end y reach between found : ℕ) → IsLawfulPort stands → KeepsOn keeps → cursors ≡ own ∷ rest → y ≡ end + at → between ≡ reach - at
    → FindsLeaf stands keeps p p1 own own' y reach → GoesOver stands keeps p1 p2 rest rest' (at + 1) between found
    → GoesOver stands keeps p p2 cursors (own' ∷ rest') at end found
over_found {S} {stands} {keeps} {p} {p1} cursors own own' rest rest' at end y reach between found lawful on e same minus first others =
    let one : FindsLeaf stands keeps p p1 own own' (end + at) reach = subst (λ z. FindsLeaf stands keeps p p1 own own' z reach) same first in
    λ docs ts last h. record {
      told = λ m st r.
          let a = run_asks (gives m) docs ts cursors own rest (last + at) e r in
          let x = (one (is_posting docs a.0)).told m st (front_leaf (gives m) docs ts own rest at end last h a) in
          let w : IsLater m x.0 = record { is = lawful _ m st; later = x.2 } in
          let falls : between ≤ end = omega (arith, minus, x.4.0, top_le (is_posting docs a.0) (end + at)) in
          let z = (others docs a.1 last (omega (arith, falls, h))).told x.0 x.1 (front_rest (gives m) (gives x.0) (gives_later m x.0 w) docs ts own rest at last a) in
          let w2 : IsLater x.0 z.0 = record { is = lawful _ x.0 x.1; later = z.2 } in (
            z.0,
            z.1,
            later_on m x.0 z.0 x.2 z.2,
            on _ _ _ m x.0 z.0 x.3 z.3,
            run_step (gives x.0) (gives z.0) docs ts a.0 a.1 own' rest' at end reach between found a.2 (gives_later x.0 z.0 w2) x.4.0 minus x.4.1 z.4,
          );
    }

-- nothing is left to pass
pub none_found : {S : Type 0} {stands : S → Moment → Type 0} {keeps : S → Moment → S → Moment → Type 0} {p : S} (cursors : List Cursor) (at end : ℕ)
    → KeepsItself stands keeps → end ≡ 0 → GoesOver stands keeps p p cursors cursors at end 0
none_found cursors at end itself e = λ docs ts last h. told_itself itself (λ m r. run_none (gives m) docs ts cursors at end last e r)

-- no term is left to ask
pub end_found : {S : Type 0} {stands : S → Moment → Type 0} {keeps : S → Moment → S → Moment → Type 0} {p : S} (cursors : List Cursor) (at end : ℕ)
    → KeepsItself stands keeps → length cursors ≡ 0 → GoesOver stands keeps p p cursors cursors at end end
end_found cursors at end itself n = λ docs ts last h. told_itself itself (λ m r. run_end (gives m) docs ts cursors at end last n h r)

-- ---- two terms

-- the first may be asked
pub front_can : {S : Type 0} (stands : S → Moment → Type 0) (p : S) (cursors : List Cursor) (d : Cursor) (end : ℕ)
    → length cursors ≡ 2 → CanAskLeaves stands p cursors 0 end → CanAskLeaf stands p (get_or cursors 0 d) end
front_can stands p [] d end two r = absurd (omega arith)
front_can stands p (a ∷ rest) d end two r = first_can stands p (a ∷ rest) a rest 0 end end refl (omega arith) r

-- then the second, from after what the first finds
pub second_can : {S : Type 0} {stands : S → Moment → Type 0} {keeps : S → Moment → S → Moment → Type 0} {p p1 : S} (cursors : List Cursor) (d a' : Cursor)
    (end between : ℕ) → IsLawfulPort stands → length cursors ≡ 2 → CanAskLeaves stands p cursors 0 end
    → FindsLeaf stands keeps p p1 (get_or cursors 0 d) a' end between → (between ≤ end) × CanAskLeaf stands p1 (get_or (set cursors 0 a') 1 d) (between + 1)
second_can [] d a' end between lawful two r first = absurd (omega arith)
second_can (a ∷ []) d a' end between lawful two r first = absurd (omega arith)
second_can {S} {stands} {keeps} {p} {p1} (a ∷ b ∷ rest) d a' end between lawful two r first =
    let more = others_can (a ∷ b ∷ rest) a a' (b ∷ rest) 0 end end between between lawful refl (omega arith) (omega arith) r first in
    (more.0, first_can stands p1 (b ∷ rest) b rest 1 between (between + 1) refl refl more.1)

-- the first finds nothing
pub front_found : {S : Type 0} {stands : S → Moment → Type 0} {keeps : S → Moment → S → Moment → Type 0} {p p1 : S} (cursors : List Cursor) (d a' : Cursor)
    (end between : ℕ) → IsLawfulPort stands → KeepsItself stands keeps → KeepsOn keeps → length cursors ≡ 2
    → FindsLeaf stands keeps p p1 (get_or cursors 0 d) a' end between → between ≡ 0 → GoesOver stands keeps p p1 cursors (set cursors 0 a') 0 end 0
front_found [] d a' end between lawful itself on two first none = absurd (omega arith)
front_found (a ∷ rest) d a' end between lawful itself on two first none =
    over_found (a ∷ rest) a a' rest rest 0 end end between between 0 lawful on refl (omega arith) (omega arith) first (none_found rest 1 between itself none)

-- both are asked
pub two_found : {S : Type 0} {stands : S → Moment → Type 0} {keeps : S → Moment → S → Moment → Type 0} {p p1 p2 : S} (cursors : List Cursor) (d a' b' : Cursor)
    (end between reach found : ℕ) → IsLawfulPort stands → KeepsItself stands keeps → KeepsOn keeps → length cursors ≡ 2
    → FindsLeaf stands keeps p p1 (get_or cursors 0 d) a' end between → FindsLeaf stands keeps p1 p2 (get_or (set cursors 0 a') 1 d) b' (between + 1) reach
    → found ≡ reach - 1 → GoesOver stands keeps p p2 cursors (set (set cursors 0 a') 1 b') 0 end found
two_found [] d a' b' end between reach found lawful itself on two first second minus = absurd (omega arith)
two_found (a ∷ []) d a' b' end between reach found lawful itself on two first second minus = absurd (omega arith)
two_found (a ∷ b ∷ rest) d a' b' end between reach found lawful itself on two first second minus =
    over_found (a ∷ b ∷ rest) a a' (b ∷ rest) (b' ∷ rest) 0 end end between between found lawful on refl (omega arith) (omega arith) first
    (over_found (b ∷ rest) b b' rest rest 1 between (between + 1) reach found found lawful on refl refl minus second
    (end_found rest 2 found itself (omega arith)))
