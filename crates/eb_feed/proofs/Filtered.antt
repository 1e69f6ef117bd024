-- What is searched of a generation, where its filters cover it.
use Rattle.std.proofs.Common.{◌≡◌, ℕ, ◌≤◌, Bool, true, false, List, [], length, get_or, ap, sym, ◌∙◌, arith}
use Rattle.eb_base.specs.Document.{Doc}
use Rattle.eb_base.specs.Match.{answer}
use Rattle.eb_base.specs.Query.{Tree}
use Rattle.eb_base.specs.Setting.{Setting}
use Rattle.eb_place.specs.declared.moment.Moment.{Moment}
use Rattle.eb_place.specs.Later.{IsNotBefore}
use Rattle.eb_place.specs.Room.{cut}
use Rattle.eb_place.proofs.Prefixes.{prefix_self, prefix_whole, prefix_length}
use Rattle.eb_search.specs.Visible.{AreNone}
use Rattle.eb_search.proofs.Beginnings.{cut_short}
use Rattle.eb_feed.specs.declared.generation.Generation.{Generation}
use Rattle.eb_feed.specs.Held.{HoldsExactly}

-- no more segments are begun than there are filters
pub few_begun : (g : Generation) (σ : Setting) (docs : List Doc) (h : HoldsExactly g σ docs) (begun : ℕ) → begun ≡ length (cut h.moment.setting h.moment.documents.accepted)
    → begun ≤ g.filters.setting.segments
few_begun g σ docs h begun e =
    omega (
      arith,
      e,
      cut_short h.moment h.moment.documents.accepted h.words.moment (prefix_self h.moment.documents.accepted),
      ap (λ (τ : Setting). τ.segments) h.setting,
      ap (λ (τ : Setting). τ.segments) h.filters.setting,
    )

-- a search that changes no word finds the documents that are there
pub there : (m n l : Moment) (docs : List Doc) → n ≡ m → IsNotBefore l m → IsNotBefore n l → m.documents.accepted ≡ docs → l.documents.accepted ≡ docs
there m n l docs same after before e =
    sym (prefix_whole m.documents.accepted l.documents.accepted after.documents.accepted
    (omega (arith, prefix_length _ _ before.documents.accepted, ap (λ (x : Moment). length x.documents.accepted) same))) ∙ e

pub none_there : (q r : Tree) (σ τ : Setting) (docs all : List Doc) (likely : List Bool) → q ≡ r → τ ≡ σ → all ≡ docs
    → ((s k : ℕ) → get_or likely s true ≡ false → answer q k (get_or (cut σ docs) s []) ≡ []) → AreNone r (cut τ all) likely
none_there q r σ τ docs all likely e f g none = λ s k off. sym (λ i. answer (e i) k (get_or (cut (sym f i) (sym g i)) s [])) ∙ none s k off
