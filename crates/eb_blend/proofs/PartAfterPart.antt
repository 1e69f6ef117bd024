-- What goes part after part goes on with one part more. The bounds of a part are those of its
-- history among the others.
use Rattle.std.proofs.Common.{◌≡◌, ℕ, ◌+◌, ◌<◌, ◌≤◌, true, false, nat_le, if◌then◌else◌, refl, ap, sym, ◌∙◌, subst, arith, inl, inr}
use Rattle.std.proofs.Common.{List, [], length, set}
use Rattle.std.proofs.lemmas.Bool.{cases_lt, le-leb, lt-leb}
use Rattle.std.proofs.lemmas.List.{map-set, get_or-set_same, get_or-set_other}
use mathlib.Core.List.{IsPrefix}
use Rattle.eb_base.specs.Document.{Doc}
use Rattle.eb_base.specs.Setting.{Setting}
use Rattle.eb_base.specs.Term.{Term}
use Rattle.eb_place.proofs.Prefixes.{prefix_trans}
use Rattle.eb_engine.specs.Loads.{IsBounded, IsAndBounded, IsBoundedAlone, IsAndBoundedAlone, IsWithinBound, IsWithinAndBound}
use Rattle.eb_engine.specs.Tokens.{HistoryToken}
use Rattle.eb_blend.specs.Bounded.{PartAfterPart}
use Rattle.eb_blend.specs.Parts.{histories_of, history}
use Rattle.eb_blend.proofs.Each.{length_histories}

-- f up to n, and this number from there on
abbrev up_to : ℕ → (ℕ → ℕ) → ℕ → ℕ → ℕ
up_to n f after i = if nat_le i n then f i else after

low : (n : ℕ) (f : ℕ → ℕ) (after i : ℕ) → i ≤ n → up_to n f after i ≡ f i
low n f after i h = let e : nat_le i n ≡ true = le-leb i n h in rw e refl

high : (n : ℕ) (f : ℕ → ℕ) (after i : ℕ) → n < i → up_to n f after i ≡ after
high n f after i h = let e : nat_le i n ≡ false = lt-leb i n h in rw e refl

pub none_yet : (W : ℕ → ℕ → ℕ → Type 0) (before : ℕ) → PartAfterPart W 0 before before
none_yet W before = record { sum = λ _. before; begins = refl; ends = refl; each = λ p h. absurd (omega (arith, h)) }

pub one_more : (W V : ℕ → ℕ → ℕ → Type 0) (n before mid after : ℕ) → PartAfterPart W n before mid
    → ((p from to : ℕ) → p < n → W p from to → V p from to) → V n mid after → PartAfterPart V (n + 1) before after
one_more W V n before mid after g old new = record {
  sum = up_to n g.sum after;
  begins = low n g.sum after 0 (omega arith) ∙ g.begins;
  ends = high n g.sum after (n + 1) (omega arith);
  each = λ p h. elim (cases_lt p n) [
    | inl less ↦ subst (λ z. V p z (up_to n g.sum after (p + 1))) (sym (low n g.sum after p (omega (arith, less))))
        (subst (λ z. V p (g.sum p) z) (sym (low n g.sum after (p + 1) (omega (arith, less)))) (old p (g.sum p) (g.sum (p + 1)) less (g.each p less)))
    | inr not ↦ let e : p ≡ n = omega (arith, h, not) in
        subst (λ z. V z (up_to n g.sum after z) (up_to n g.sum after (z + 1))) (sym e)
        (subst (λ z. V n z (up_to n g.sum after (n + 1))) (sym (low n g.sum after n (omega arith) ∙ g.ends))
        (subst (λ z. V n mid z) (sym (high n g.sum after (n + 1) (omega arith))) new))
  ];
}

-- ---- a part's history after one of the tokens was changed

pub here : (ts : List HistoryToken) (n : ℕ) (new : HistoryToken) → n < length ts → history (histories_of (set ts n new)) n ≡ new.docs
here ts n new lt = ap (λ (z : List (List Doc)). history z n) (map-set (λ (x : HistoryToken). x.docs) ts n new)
    ∙ get_or-set_same (histories_of ts) n new.docs [] (omega (arith, lt, length_histories ts))

pub there : (ts : List HistoryToken) (n p : ℕ) (new : HistoryToken) → p < n → history (histories_of (set ts n new)) p ≡ history (histories_of ts) p
there ts n p new lt = ap (λ (z : List (List Doc)). history z p) (map-set (λ (x : HistoryToken). x.docs) ts n new)
    ∙ get_or-set_other (histories_of ts) n p new.docs [] (let ne : p ≡ n → ⊥ = λ e. omega (arith, lt, e) in ne)

-- ---- the bounds of a part, by its place among the histories

pub bounded_by : (σ τ : Setting) (knew docs : List Doc) (converted : ℕ) (knows told : List Doc) (t : Term) (ids few before after : ℕ)
    → τ ≡ σ → IsPrefix knew docs → knows ≡ told → ids ≡ few
    → IsBounded [] τ docs converted knows t ids before after → IsBounded [] σ knew 0 told t few before after
bounded_by σ τ knew docs converted knows told t ids few before after s pre k e b = subst (λ (z : List Doc). IsBounded [] σ knew 0 z t few before after) k (record {
  was = b.was;
  now = b.now;
  is = b.is;
  later = b.later;
  setting = b.setting ∙ s;
  knew_then = prefix_trans knew docs b.was.documents.accepted pre b.knew_then;
  packed_then = omega arith;
  knows_now = b.knows_now;
  loads = subst (λ (z : ℕ). IsWithinBound [] b.was b.now t (length knows) z before after) e b.loads;
})

pub and_bounded_by : (σ τ : Setting) (knows told : List Doc) (ts : List Term) (ids few before after : ℕ) → τ ≡ σ → knows ≡ told → ids ≡ few
    → IsAndBounded [] τ knows ts ids before after → IsAndBounded [] σ told ts few before after
and_bounded_by σ τ knows told ts ids few before after s k e b = subst (λ (z : List Doc). IsAndBounded [] σ z ts few before after) k (record {
  now = b.now;
  is = b.is;
  setting = b.setting ∙ s;
  knows_now = b.knows_now;
  loads = subst (λ (z : ℕ). IsWithinAndBound [] b.now ts (length knows) z before after) e b.loads;
})

pub alone_by : (σ τ : Setting) (docs told : List Doc) (converted : ℕ) (t : Term) (ids few before after : ℕ) → τ ≡ σ → docs ≡ told → ids ≡ few
    → IsBoundedAlone [] τ docs converted t ids before after → IsBoundedAlone [] σ told 0 t few before after
alone_by σ τ docs told converted t ids few before after s k e b = subst (λ (z : List Doc). IsBoundedAlone [] σ z 0 t few before after) k (record {
  was = b.was;
  now = b.now;
  is = b.is;
  later = b.later;
  setting = b.setting ∙ s;
  documents_then = b.documents_then;
  documents = b.documents;
  packed_then = omega arith;
  loads = subst (λ (z : ℕ). IsWithinBound [] b.was b.now t (length docs) z before after) e b.loads;
})

pub and_alone_by : (σ τ : Setting) (docs told : List Doc) (ts : List Term) (ids few before after : ℕ) → τ ≡ σ → docs ≡ told → ids ≡ few
    → IsAndBoundedAlone [] τ docs ts ids before after → IsAndBoundedAlone [] σ told ts few before after
and_alone_by σ τ docs told ts ids few before after s k e b = subst (λ (z : List Doc). IsAndBoundedAlone [] σ z ts few before after) k (record {
  now = b.now;
  is = b.is;
  setting = b.setting ∙ s;
  documents = b.documents;
  loads = subst (λ (z : ℕ). IsWithinAndBound [] b.now ts (length docs) z before after) e b.loads;
})
