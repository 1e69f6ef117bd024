-- The bounds on the loads of a search by a reader.
use Rattle.std.proofs.Common.{◌≡◌, ℕ, ◌≤◌, Bool, List, length, take, sym, subst, arith}
use Rattle.std.proofs.lemmas.List.{length-take-le}
use mathlib.Core.List.{IsPrefix}
use Rattle.eb_base.specs.Document.{Doc}
use Rattle.eb_base.specs.Setting.{Setting}
use Rattle.eb_base.specs.Term.{Term}
use Rattle.eb_place.specs.declared.moment.Moment.{Moment}
use Rattle.eb_place.specs.Moments.{IsMoment}
use Rattle.eb_place.specs.Later.{IsNotBefore}
use Rattle.eb_place.proofs.Prefixes.{prefix_length}
use Rattle.eb_engine.specs.Loads.{IsWithinBound, IsWithinAndBound, IsBounded, IsAndBounded}
use Rattle.eb_engine.proofs.Knows.{front_of}

-- as many as were counted at a moment are accepted later
pub counted_then : (m l : Moment) (n : ℕ) → n ≡ length l.documents.accepted → IsNotBefore m l → n ≤ length m.documents.accepted
counted_then m l n count later = omega (arith, count, prefix_length _ _ later.documents.accepted)

-- of a search from one moment to another, at which this many documents are accepted
module _ (likely : List Bool) (was now : Moment) (σ : Setting) (n : ℕ) (is : IsMoment now) (here : now.setting ≡ σ) (long : n ≤ length now.documents.accepted) where
  same : n ≡ length (take n now.documents.accepted)
  same = sym (length-take-le n now.documents.accepted long)

  pub bounded : (knew : List Doc) (converted : ℕ) (t : Term) (ids before after : ℕ) → IsNotBefore now was → IsPrefix knew was.documents.accepted → converted ≤ was.conversions.converted
      → IsWithinBound likely was now t n ids before after → IsBounded likely σ knew converted (take n now.documents.accepted) t ids before after
  bounded knew converted t ids before after later then packed loads = record {
    was = was;
    now = now;
    is = is;
    later = later;
    setting = here;
    knew_then = then;
    packed_then = packed;
    knows_now = front_of n now.documents.accepted;
    loads = subst (λ k. IsWithinBound likely was now t k ids before after) same loads;
  }

  pub and_bounded : (ts : List Term) (ids before after : ℕ) → IsWithinAndBound likely now ts n ids before after
      → IsAndBounded likely σ (take n now.documents.accepted) ts ids before after
  and_bounded ts ids before after loads = record {
    now = now;
    is = is;
    setting = here;
    knows_now = front_of n now.documents.accepted;
    loads = subst (λ k. IsWithinAndBound likely now ts k ids before after) same loads;
  }
