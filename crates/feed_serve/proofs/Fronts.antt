-- A reader that knows more of the newest generation knows more of the history; and what the readers
-- of a feed's writer are.
use Rattle.std.proofs.Common.{◌≡◌, suc, ◌≤◌, ◌⊎◌, inl, inr, ⊎_elim, List, [], ◌∷◌, length, reverse, min, ap, ◌∙◌, sym, subst, refl, arith, length-append}
use Rattle.std.proofs.lemmas.List.{length-reverse}
use mathlib.Core.List.{IsPrefix}
use Rattle.eb_base.specs.Document.{Doc}
use Rattle.eb_base.specs.Setting.{Setting}
use Rattle.eb_feed.specs.Generations.{joined_generations, generations}
use Rattle.eb_feed.proofs.Generations.{HasNewest, has_newest}
use Rattle.feed_shared.specs.declared.turn.Turn.{Turn}
use Rattle.feed_shared.specs.Turns.{FeedToken, WriterToken, past_of, history_of, counted, HasTaken}
use Rattle.feed_serve.specs.Feeds.{FeedName, feed_name, IsReaderOf}

longer : (docs docs' : List Doc) (ts : List Turn) → IsPrefix docs docs' → length (joined_generations (past_of docs ts)) ≤ length (joined_generations (past_of docs' ts))
longer docs docs' [] p = omega arith
longer docs docs' (t ∷ ts) p =
    let before = joined_generations (past_of t.before ts) in
    omega (arith, length-append before docs, length-append before docs', length-append docs p.0, ap length p.1)

pub counted_more : (docs docs' : List Doc) (log : List Turn) → IsPrefix docs docs' → counted (history_of log docs) ≤ counted (history_of log docs')
counted_more docs docs' log p = let l = longer docs docs' (reverse log) p in omega (arith, l)

-- a reader that goes on is still one of its feed
pub reads_on : (f : FeedName) (old new : FeedToken) → new.book ≡ old.book → new.log ≡ old.log → new.held ≡ old.held → IsPrefix old.docs new.docs
    → IsReaderOf f old → IsReaderOf f new
reads_on f old new book log held p is = record {
  book = book ∙ is.book;
  held = held ∙ is.held ∙ ap (λ l. min f.keep (length l)) (sym log);
  begun = ⊎_elim (λ few. inl (omega (arith, few, ap length log))) (λ some. inr (omega (arith, some, length-append old.docs p.0, ap length p.1))) is.begun;
}

past_count : (docs : List Doc) (ts : List Turn) → length (past_of docs ts) ≡ length ts
past_count docs [] = refl
past_count docs (t ∷ ts) = ap suc (past_count t.before ts)

-- the newest generation of a history has a document, where it isn't the first
begun_past : (σ : Setting) (history docs : List Doc) (ts : List Turn)
    → (past_of docs ts ≡ generations σ history) ⊎ ((history ≡ []) × (past_of docs ts ≡ [] ∷ [])) → (length ts ≤ 1) ⊎ (1 ≤ length docs)
begun_past σ history docs [] is = inl (omega arith)
begun_past σ history docs (t ∷ ts) is = ⊎_elim
    (λ (e : past_of docs (t ∷ ts) ≡ generations σ history). inr (subst HasNewest (sym e) (has_newest σ history)))
    (λ (e : (history ≡ []) × (past_of docs (t ∷ ts) ≡ [] ∷ [])). inl (omega (arith, ap length e.1, past_count docs (t ∷ ts))))
    is

-- what the writer of a feed knows is what a reader of it may know
pub begun_taken : (w : WriterToken) (history : List Doc) → HasTaken w history → (length w.feed.log ≤ 1) ⊎ (1 ≤ length w.feed.docs)
begun_taken w history is = ⊎_elim (λ few. inl (omega (arith, few, length-reverse w.feed.log))) (λ some. inr some)
    (begun_past w.setting history w.feed.docs (reverse w.feed.log) is)

pub reader_made : (w : WriterToken) (history : List Doc) → HasTaken w history → w.feed.held ≡ min w.keep (length w.feed.log) → IsReaderOf (feed_name w) w.feed
reader_made w history is held = record { book = refl; held = held; begun = begun_taken w history is }
