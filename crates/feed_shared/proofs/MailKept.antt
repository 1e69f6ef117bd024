-- Each step keeps the rule of a mailbox.
use Rattle.std.proofs.Common.{◌≡◌, ◌≢◌, ℕ, zero, suc, inl, inr, ⊎_elim, List, [], ◌∷◌, ◌++◌, set, Bool, true, false, true≢false, refl, ap, sym, ◌∙◌, subst}
use Rattle.std.proofs.lemmas.List.Elements.{All-push, All-head, All-tail, All-nil}
use mathlib.Core.Option.{some, some-injective, some-ne-none}
use lib.ListN.{get_elem?}
use Rattle.crossbeam_queue.specs.Fifo.{Pushes, Pops, Forks}
use Rattle.crossbeam_queue.proofs.Lists.{at_set}
use Rattle.logbook.specs.Pages.{Book}
use Rattle.feed_shared.specs.declared.mail.Ticket.{Ticket}
use Rattle.feed_shared.specs.declared.mail.Ticket.TheVariants.{Opening, At}
use Rattle.feed_shared.specs.Turns.{FeedToken}
use Rattle.feed_shared.specs.Mail.{book_of, MailOf, IsOpening, KeepsMail, IsMoved}

pub mail_begins : KeepsMail [] (Opening ∷ [])
mail_begins = inl (refl, refl)

abbrev pub is_at : Ticket → Bool
is_at Opening = false
is_at (At book) = true

alone_at : (x v : Ticket) (i : ℕ) → get_elem? (x ∷ []) i ≡ some v → (i ≡ 0) × (x ≡ v)
alone_at x v zero e = (refl, some-injective x v e)
alone_at x v (suc i) e = absurd (some-ne-none v (sym e))

two_at : (x v : Ticket) (i : ℕ) → get_elem? (x ∷ x ∷ []) i ≡ some v → v ≡ x
two_at x v zero e = sym (some-injective x v e)
two_at x v (suc i) e = sym (alone_at x v i e).1

mail_at : (items : List FeedToken) (views : List Ticket) (by : ℕ) (book : Book) → KeepsMail items views → get_elem? views by ≡ some (At book) → MailOf book items views
mail_at items views by book keeps at =
    ⊎_elim
    (λ (o : IsOpening items views).
    let e = alone_at Opening (At book) by (ap (λ (l : List Ticket). get_elem? l by) (sym o.1) ∙ at) in
    absurd (true≢false (sym (ap is_at e.1))))
    (λ (x : (d : Book) × MailOf d items views).
    subst (λ (d : Book). MailOf d items views) (sym (ap book_of (x.1.seated by (At book) at))) x.1)
    keeps

seats_set : (book : Book) (views : List Ticket) (by : ℕ) → ((j : ℕ) (v : Ticket) → get_elem? views j ≡ some v → v ≡ At book)
    → (j : ℕ) (v : Ticket) → get_elem? (set views by (At book)) j ≡ some v → v ≡ At book
seats_set book views by old j u e =
    ⊎_elim
    (λ (x : (j ≡ by) × (At book ≡ u)). sym x.1)
    (λ (x : (j ≢ by) × (get_elem? views j ≡ some u)). old j u x.1)
    (at_set views by j (At book) u e)

pub puts : (n by : ℕ) (v : Ticket) (x : FeedToken) → v ≡ At x.book → Pushes KeepsMail n by v x (IsMoved v x)
puts n by v x is = subst (λ (u : Ticket). Pushes KeepsMail n by u x (IsMoved u x)) (sym is) (λ items views room keeps at.
    let b = mail_at items views by x.book keeps at in (
      At x.book,
      inr (x.book, record { made = All-push (λ (m : FeedToken). m.book ≡ x.book) items x b.made refl; seated = seats_set x.book views by b.seated }),
      (refl, λ book e. ap book_of e),
    ))

pub takes : (by : ℕ) (v : Ticket) (book : Book) → v ≡ At book → Pops KeepsMail by v (IsMoved v)
takes by v book is = subst (λ (u : Ticket). Pops KeepsMail by u (IsMoved u)) (sym is) (λ x items views keeps at.
    let b = mail_at (x ∷ items) views by book keeps at in (
      At book,
      inr (book, record { made = All-tail (λ (m : FeedToken). m.book ≡ book) x items b.made; seated = seats_set book views by b.seated }),
      (refl, λ d e. All-head (λ (m : FeedToken). m.book ≡ book) x items b.made ∙ ap book_of e),
    ))

pub splits : (by : ℕ) (v : Ticket) (book : Book) → v ≡ Opening → Forks KeepsMail by v (At book) (At book)
splits by v book is items views keeps at = ⊎_elim
    (λ (o : IsOpening items views).
    let here = alone_at Opening v by (ap (λ (l : List Ticket). get_elem? l by) (sym o.1) ∙ at) in
    let all : KeepsMail [] (At book ∷ At book ∷ []) = inr (book, record { made = All-nil (λ (m : FeedToken). m.book ≡ book); seated = λ j u e. two_at (At book) u j e }) in
    subst (λ (y : (List FeedToken × List Ticket) × ℕ). KeepsMail y.0.0 (set y.0.1 y.1 (At book) ++ At book ∷ []))
    (λ i. ((sym o.0 i, sym o.1 i), sym here.0 i)) all)
    (λ (x : (d : Book) × MailOf d items views). absurd (true≢false (ap is_at (sym (x.1.seated by v at) ∙ is))))
    keeps
