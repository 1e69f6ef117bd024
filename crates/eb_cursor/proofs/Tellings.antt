-- Calls that load words, one after the other.
use Rattle.std.proofs.Common.{ℕ, List}
use Rattle.eb_base.specs.Document.{Doc}
use Rattle.eb_place.specs.declared.moment.Moment.{Moment}
use Rattle.eb_place.specs.Moments.{IsMoment}
use Rattle.eb_place.specs.Later.{IsNotBefore}
use Rattle.eb_place.proofs.LaterMoments.{later_self, later_on}
use Rattle.eb_chain.proofs.Walks.{stands_later}
use Rattle.eb_block.proofs.Standing.{list_stands_later}
use Rattle.eb_place.specs.Told.{Told}
use Rattle.eb_cursor.specs.Lists.{Gives, gives, list_gives}
use Rattle.eb_cursor.proofs.Firsts.{first_on}
use Rattle.eb_cursor.specs.declared.posting_list.PostingList.{PostingList}
use Rattle.eb_cursor.specs.declared.posting_list.PostingList.TheVariants.{Empty, Live, Packed}

-- a moment, and one that is not before it
pub record IsLater (m n : Moment) : Type 0 where
  pub is : IsMoment m
  pub later : IsNotBefore n m

-- what is read by the first is read by the second
pub record Later (g g' : Gives) : Type 0 where
  pub lists : (list : PostingList) (xs : List ℕ) → g.lists list xs → g'.lists list xs
  pub firsts : (s : ℕ) (docs : List Doc) → g.firsts s docs → g'.firsts s docs

pub later_same : (g : Gives) → Later g g
later_same g = record { lists = λ list xs h. h; firsts = λ s docs h. h }

-- a list still gives the same at a later moment
lists_later : (m n : Moment) → IsLater m n → (list : PostingList) (xs : List ℕ) → list_gives m list xs → list_gives n list xs
lists_later m n l Empty xs h = h
lists_later m n l (Live c) xs h = (h.0, h.1, h.2, stands_later m n h.0 h.1 c h.2 xs l.is l.later h.3)
lists_later m n l (Packed p) xs h = (h.0, h.1, h.2, list_stands_later m n h.0 h.1 p xs h.2 l.is l.later h.3)

-- and the first documents of a segment are so later too
pub gives_later : (m n : Moment) → IsLater m n → Later (gives m) (gives n)
gives_later m n l = record { lists = lists_later m n l; firsts = λ s docs a. first_on m n s docs l.later a }

-- the laws of a port that are used here
abbrev pub IsLawfulPort : {S : Type 0} → (S → Moment → Type 0) → Type 0
IsLawfulPort {S} stands = (s : S) (m : Moment) → stands s m → IsMoment m

abbrev pub KeepsItself : {S : Type 0} → (S → Moment → Type 0) → (S → Moment → S → Moment → Type 0) → Type 0
KeepsItself {S} stands keeps = (s : S) (m : Moment) → stands s m → keeps s m s m

abbrev pub KeepsOn : {S : Type 0} → (S → Moment → S → Moment → Type 0) → Type 0
KeepsOn {S} keeps = (s t u : S) (l m n : Moment) → keeps s l t m → keeps t m u n → keeps s l u n

-- no load
pub told_itself : {S : Type 0} {stands : S → Moment → Type 0} {keeps : S → Moment → S → Moment → Type 0} {s : S} {P Q : Moment → Type 0}
    → KeepsItself stands keeps → ((m : Moment) → P m → Q m) → Told stands keeps s s P Q
told_itself {S} {stands} {keeps} {s} {P} {Q} itself f = record { told = λ m st p. (m, st, later_self m, itself s m st, f m p) }

-- one call, asked and answered otherwise
pub told_as : {S : Type 0} {stands : S → Moment → Type 0} {keeps : S → Moment → S → Moment → Type 0} {s t : S} {A B P Q : Moment → Type 0}
    → IsLawfulPort stands → Told stands keeps s t A B → ((m : Moment) → P m → A m) → ((m n : Moment) → IsLater m n → P m → B n → Q n) → Told stands keeps s t P Q
told_as {S} {stands} {keeps} {s} {t} {A} {B} {P} {Q} lawful a f k = record {
  told = λ m st p.
      let x = a.told m st (f m p) in
      (x.0, x.1, x.2, x.3, k m x.0 (record { is = lawful s m st; later = x.2 }) p x.4);
}

-- one call after the other
pub told_on : {S : Type 0} {stands : S → Moment → Type 0} {keeps : S → Moment → S → Moment → Type 0} {s t u : S} {A B C D P Q : Moment → Type 0}
    → IsLawfulPort stands → KeepsOn keeps → Told stands keeps s t A B → Told stands keeps t u C D
    → ((l : Moment) → P l → A l) → ((l m : Moment) → IsLater l m → P l → B m → C m)
    → ((l m n : Moment) → IsLater l m → IsLater m n → P l → B m → D n → Q n) → Told stands keeps s u P Q
told_on {S} {stands} {keeps} {s} {t} {u} {A} {B} {C} {D} {P} {Q} lawful on a b f g k = record {
  told = λ l st p.
      let x = a.told l st (f l p) in
      let w : IsLater l x.0 = record { is = lawful s l st; later = x.2 } in
      let y = b.told x.0 x.1 (g l x.0 w p x.4) in
      (y.0, y.1, later_on l x.0 y.0 x.2 y.2, on s t u l x.0 y.0 x.3 y.3, k l x.0 y.0 w (record { is = lawful t x.0 x.1; later = y.2 }) p x.4 y.4);
}
