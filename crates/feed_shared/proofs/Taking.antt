-- The generations of a writer are those of its history.
use Rattle.std.proofs.Common.{◌≡◌, ◌⊎◌, ⊎_elim, true, List, [], ◌∷◌, ◌++◌, ap, sym, ◌∙◌}
use Rattle.eb_base.specs.Document.{Doc}
use Rattle.eb_base.specs.Setting.{Setting, IsSetting}
use Rattle.eb_place.specs.Room.{has_room}
use Rattle.eb_feed.specs.Generations.{generations, with_generation, joined_generations}
use Rattle.eb_feed.proofs.Generations.{generations_push, generations_none, empty_room, joined_all}
use Rattle.feed_shared.specs.Turns.{WriterToken, generations_of, history_of, HasTaken}

first_taken : (σ : Setting) (d : Doc) → IsSetting σ → with_generation σ ([] ∷ []) d ≡ generations σ (d ∷ [])
first_taken σ d k =
    let e : has_room σ [] d ≡ true = empty_room σ d k in
    let all : generations σ (d ∷ []) ≡ (d ∷ []) ∷ [] = generations_push σ [] d ∙ ap (λ (z : List (List Doc)). with_generation σ z d) (generations_none σ) in
    rw e (sym all)

pub taken_on : (σ : Setting) (g g' : List (List Doc)) (history : List Doc) (d : Doc) → IsSetting σ → (g ≡ generations σ history) ⊎ ((history ≡ []) × (g ≡ [] ∷ []))
    → g' ≡ with_generation σ g d → g' ≡ generations σ (history ++ d ∷ [])
taken_on σ g g' history d k h e =
    ⊎_elim
    (λ (x : g ≡ generations σ history). e ∙ ap (λ (z : List (List Doc)). with_generation σ z d) x ∙ sym (generations_push σ history d))
    (λ (x : (history ≡ []) × (g ≡ [] ∷ [])). e ∙ ap (λ (z : List (List Doc)). with_generation σ z d) x.1 ∙ first_taken σ d k ∙ ap (λ (z : List Doc). generations σ (z ++ d ∷ [])) (sym x.0))
    h

-- so what the writer holds is what a feed keeps
pub taken_all : (w : WriterToken) (history : List Doc) → HasTaken w history → history_of w.feed.log w.feed.docs ≡ history
taken_all w history h =
    ⊎_elim
    (λ (x : generations_of w.feed.log w.feed.docs ≡ generations w.setting history). ap joined_generations x ∙ joined_all w.setting history)
    (λ (x : (history ≡ []) × (generations_of w.feed.log w.feed.docs ≡ [] ∷ [])). ap joined_generations x.1 ∙ sym x.0)
    h
