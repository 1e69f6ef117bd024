-- What is counted, and what a count reports.
use Rattle.std.proofs.Common.{◌≡◌, ◌⊎◌, ℕ, zero, suc, ◌<◌, ◌≤◌, max, List, length, get_or, replicate, inl, inr, refl, ap, ◌∙◌, arith}
use Rattle.std.proofs.lemmas.List.{length-replicate, get_or-replicate}
use Rattle.eb_base.specs.Document.{Doc}
use Rattle.eb_base.specs.Query.{Tree}
use Rattle.eb_count.specs.Counts.{match_count, bucket_count}
use Rattle.eb_count.specs.Tallies.{Numbers, HasCounted, raised}
use Rattle.eb_c.specs.declared.counting.Axis.{Axis}
use Rattle.eb_c.specs.declared.counting.Count.{Count}
use Rattle.eb_c.specs.declared.refusal.Refusal.TheVariants as refusal
use Rattle.eb_c.specs.Asking.{Asked, asks, refused}
use Rattle.eb_c.specs.Counting.{in_buckets, IsCounted, IsFresh, CountsOver}

pub fresh_is : (axis : Axis) (n : ℕ) (t : Numbers) → ((0 < n) → 1 ≤ axis.width)
    → t ≡ record { start = axis.start; width = max axis.width 1; total = 0; buckets = replicate n 0 } → IsFresh axis n t
fresh_is axis n t some e = record {
  total = ap (λ (x : Numbers). x.total) e;
  long = ap (λ (x : Numbers). length x.buckets) e ∙ length-replicate n 0;
  none = λ i low. ap (λ (x : Numbers). get_or x.buckets i 0) e ∙ get_or-replicate n i 0 0 low;
  start = ap (λ (x : Numbers). x.start) e;
  width = λ low. (let w = some low in ap (λ (x : Numbers). x.width) e ∙ omega (arith, w));
}

pub no_width : (w n k : ℕ) (q : Tree) → w ≡ 0 → 0 < n → refused refusal.BadNumber 0 ≡ in_buckets w n (asks k q)
no_width zero zero k q e low = absurd (omega (arith, low))
no_width zero (suc n) k q e low = refl
no_width (suc w) n k q e low = absurd (omega (arith, e))

pub some_width : (w n k : ℕ) (q : Tree) → ((w ≡ 0) × (0 < n) → ⊥) → asks k q ≡ in_buckets w n (asks k q)
some_width zero zero k q never = refl
some_width zero (suc n) k q never = absurd (never (refl, omega arith))
some_width (suc w) n k q never = refl

pub counted_as : (IsAsked : Asked → Type 0) (w n : ℕ) (x y : Asked) → (y ≡ refused refusal.NoMemory 0) ⊎ IsAsked y
    → (x ≡ refused refusal.NoMemory 0) ⊎ (x ≡ in_buckets w n y) → IsCounted IsAsked w n x
counted_as IsAsked w n x y asked (inl none) = inl none
counted_as IsAsked w n x y (inl none) (inr e) = inl (e ∙ ap (in_buckets w n) none)
counted_as IsAsked w n x y (inr asked) (inr e) = inr (y, asked, e)

pub counted_over : (axis : Axis) (n s seen k : ℕ) (docs : List Doc) (q : Tree) (a b : Numbers) (c : Count) (old new : List ℕ)
    → IsFresh axis n a → n ≡ length old → HasCounted q docs a b → seen ≡ s
    → c ≡ record { seen = seen; total = b.total; column = 0 } → new ≡ b.buckets → CountsOver s docs axis (asks k q) 0 c old new
counted_over axis n s seen k docs q a b c old new fresh number counted same told put =
    let long : length new ≡ length old = ap length put ∙ counted.long ∙ fresh.long ∙ number in (
      refl,
      told ∙ (λ i. record { seen = same i; total = (counted.total ∙ ap (λ t. raised t (match_count q docs)) fresh.total) i; column = 0 }),
      long,
      λ i low.
          let inside : i < n = omega (arith, low, number) in
          let there : i < length a.buckets = omega (arith, inside, fresh.long) in
          ap (λ (xs : List ℕ). get_or xs i 0) put ∙ counted.buckets i there
          ∙ ap (λ t. raised t (bucket_count q a.start a.width i docs)) (fresh.none i inside)
          ∙ (λ j. raised 0 (bucket_count q (fresh.start j) (fresh.width (omega (arith, inside)) j) i docs)),
    )
