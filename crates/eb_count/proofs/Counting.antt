-- Counts of documents one by one and list by list, and the tallies that hold them.
use Rattle.std.proofs.Common.{◌≡◌, ℕ, zero, suc, ◌+◌, ◌-◌, ◌<◌, ◌≤◌, ◌*◌, ◌/◌, ◌%◌, ◌^◌, ◌≢◌, leb, nat_lt, set, inl, inr, Bool, true, false, cond, ◌&&◌, List, [], ◌∷◌, ◌++◌}
use Rattle.std.proofs.Common.{length, get_or, replicate, refl, ap, sym, ◌∙◌, arith}
use Rattle.std.proofs.lemmas.Bool.{cases_Bool, cases_lt, cases_eq, and_left, and_right, le-leb, lt-leb, lt-ltb, le-ltb}
use Rattle.std.proofs.Math.Nat.{div-add-mod, mul-le-mul_left, mul-suc}
use Rattle.std.proofs.lemmas.List.{length-set, get_or-set_same, get_or-set_other, length-replicate, get_or-replicate}
use Rattle.std.proofs.lemmas.List.Sums.{sum_by-cons, sum_by-append, count_by-le-length}
use Rattle.std.specs.List.{count_by}
use Rattle.eb_base.specs.Document.{Doc}
use Rattle.eb_base.specs.Query.{Tree}
use Rattle.eb_base.specs.Match.{is_match}
use Rattle.eb_count.specs.Counts.{match_count, bucket_count, is_in_bucket}
use Rattle.eb_count.specs.Tallies.{Numbers, raised, HasAdded, HasCounted, AreCounts}

-- ---- numbers

pub raised_none : (a : ℕ) → raised a 0 ≡ a
raised_none a = omega arith

pub raised_on : (a m n : ℕ) → raised (raised a m) n ≡ raised a (n + m)
raised_on a m n = omega arith

-- ---- counts by a test

abbrev bit : Bool → ℕ
bit b = cond b 1 0

pub count_cons : (p : Doc → Bool) (d : Doc) (ds : List Doc) → count_by p (d ∷ ds) ≡ cond (p d) 1 0 + count_by p ds
count_cons p d ds = sum_by-cons {X = Doc} (λ x. cond (p x) 1 0) d ds

pub count_append : (p : Doc → Bool) (xs ys : List Doc) → count_by p (xs ++ ys) ≡ count_by p xs + count_by p ys
count_append p xs ys = sum_by-append {X = Doc} (λ x. cond (p x) 1 0) xs ys

-- the further documents are those before
pub raise_on : (p : Doc → Bool) (older newer : List Doc) (a b c : ℕ) → b ≡ raised a (count_by p newer) → c ≡ raised b (count_by p older) → c ≡ raised a (count_by p (older ++ newer))
raise_on p older newer a b c e f =
    f ∙ ap (λ z. raised z (count_by p older)) e ∙ raised_on a (count_by p newer) (count_by p older) ∙ ap (raised a) (sym (count_append p older newer))

pub raise_one : (p : Doc → Bool) (d : Doc) (docs : List Doc) (a b c k : ℕ) → cond (p d) 1 0 ≡ k → b ≡ raised a (count_by p docs) → c ≡ raised b k → c ≡ raised a (count_by p (d ∷ docs))
raise_one p d docs a b c k is e f =
    f ∙ ap (λ z. raised z k) e ∙ raised_on a (count_by p docs) k ∙ ap (λ z. raised a (z + count_by p docs)) (sym is) ∙ ap (raised a) (sym (count_cons p d docs))

pub raise_other : (p : Doc → Bool) (d : Doc) (docs : List Doc) (a b : ℕ) → p d ≡ false → b ≡ raised a (count_by p docs) → b ≡ raised a (count_by p (d ∷ docs))
raise_other p d docs a b off e =
    let same : count_by p (d ∷ docs) ≡ count_by p docs = omega (arith, count_cons p d docs, ap bit off) in
    e ∙ ap (raised a) (sym same)

-- a narrower test passes no more
and_le : (p r : Doc → Bool) (docs : List Doc) → count_by (λ d. p d && r d) docs ≤ count_by p docs
and_le p r [] = omega arith
and_le p r (d ∷ docs) =
    let both = count_cons (λ x. p x && r x) d docs in
    let one = count_cons p d docs in
    let less = and_le p r docs in
    elim (cases_Bool (p d)) [
      | inl y ↦ elim (cases_Bool (r d)) [
        | inl z ↦ let k : bit (p d && r d) ≡ 1 = rw (y, z) refl in omega (arith, both, one, less, k, ap bit y)
        | inr z ↦ let k : bit (p d && r d) ≡ 0 = rw (y, z) refl in omega (arith, both, one, less, k)
      ]
      | inr n ↦ let k : bit (p d && r d) ≡ 0 = rw n refl in omega (arith, both, one, less, k)
    ]

pub bucket_le : (q : Tree) (x w i : ℕ) (docs : List Doc) → bucket_count q x w i docs ≤ match_count q docs
bucket_le q x w i docs = and_le (is_match q) (λ d. is_in_bucket x w i d.id) docs

-- ---- buckets

-- inside a list it doesn't matter what comes after it
pub inside_same : (xs : List ℕ) (i a b : ℕ) → i < length xs → get_or xs i a ≡ get_or xs i b
inside_same [] i a b h = absurd (omega (arith, h))
inside_same (x ∷ xs) zero a b h = refl
inside_same (x ∷ xs) (suc i) a b h = inside_same xs i a b (omega (arith, h))

-- an id below the start lies in none
pub below_start : (x w i id : ℕ) → id < x → is_in_bucket x w i id ≡ false
below_start x w i id h = and_left (leb (x + w * i) id) (nat_lt id (x + w * i + w)) (lt-leb (x + w * i) id (omega arith))

-- an id lies in the bucket of its whole widths
pub in_own : (x w id at : ℕ) → 1 ≤ w → x ≤ id → at ≡ (id - x) / w → is_in_bucket x w at id ≡ true
in_own x w id at some above e =
    let whole : w * at + (id - x) % w ≡ id - x = ap (λ z. w * z + (id - x) % w) e ∙ div-add-mod (id - x) w in
    let part : (id - x) % w < w = omega arith in
    let low : leb (x + w * at) id ≡ true = le-leb (x + w * at) id (omega arith) in
    let high : nat_lt id (x + w * at + w) ≡ true = lt-ltb id (x + w * at + w) (omega arith) in
    ap (λ b. b && nat_lt id (x + w * at + w)) low ∙ high

-- and in no other one
pub in_no_other : (x w id at i : ℕ) → 1 ≤ w → x ≤ id → at ≡ (id - x) / w → i ≢ at → is_in_bucket x w i id ≡ false
in_no_other x w id at i some above e other =
    let whole : w * at + (id - x) % w ≡ id - x = ap (λ z. w * z + (id - x) % w) e ∙ div-add-mod (id - x) w in
    let part : (id - x) % w < w = omega arith in
    elim (cases_lt i at) [
      | inl less ↦
          let m : w * suc i ≤ w * at = mul-le-mul_left w (omega arith) in
          let n : w * suc i ≡ w * i + w = mul-suc w i in
          and_right (leb (x + w * i) id) (nat_lt id (x + w * i + w)) (le-ltb id (x + w * i + w) (omega arith))
      | inr more ↦
          let m : w * suc at ≤ w * i = mul-le-mul_left w (omega arith) in
          let n : w * suc at ≡ w * at + w = mul-suc w at in
          and_left (leb (x + w * i) id) (nat_lt id (x + w * i + w)) (lt-leb (x + w * i) id (omega arith))
    ]

-- an id that lies in none of the buckets, or in one of them
pub added_out : (id x w t n : ℕ) (bs : List ℕ) → ((i : ℕ) → i < length bs → is_in_bucket x w i id ≡ false) → n ≡ raised t 1
    → HasAdded id (record { start = x; width = w; total = t; buckets = bs }) (record { start = x; width = w; total = n; buckets = bs })
added_out id x w t n bs none e = record {
  start = refl;
  width = refl;
  total = e;
  long = refl;
  buckets = λ i low. sym (ap (λ b. raised (get_or bs i 0) (bit b)) (none i low) ∙ raised_none (get_or bs i 0));
}

pub added_in : (id x w t n at more : ℕ) (bs : List ℕ) → 1 ≤ w → x ≤ id → at ≡ (id - x) / w → at < length bs → n ≡ raised t 1 → more ≡ raised (get_or bs at 0) 1
    → HasAdded id (record { start = x; width = w; total = t; buckets = bs }) (record { start = x; width = w; total = n; buckets = set bs at more })
added_in id x w t n at more bs some above e inside f k = record {
  start = refl;
  width = refl;
  total = f;
  long = length-set {A = ℕ} bs at more;
  buckets = λ i low. elim (cases_eq i at) [
    | inl same ↦
        let yes_in : is_in_bucket x w i id ≡ true = in_own x w id i some above (same ∙ e) in
        ap (λ z. get_or (set bs at more) z 0) same ∙ get_or-set_same {A = ℕ} bs at more 0 inside ∙ k ∙ ap (λ z. raised (get_or bs z 0) 1) (sym same)
        ∙ sym (ap (λ b. raised (get_or bs i 0) (bit b)) yes_in)
    | inr other ↦
        let no_in : is_in_bucket x w i id ≡ false = in_no_other x w id at i some above e other in
        get_or-set_other {A = ℕ} bs at i more 0 other ∙ sym (ap (λ b. raised (get_or bs i 0) (bit b)) no_in ∙ raised_none (get_or bs i 0))
  ];
}

-- ---- tallies

pub counted_none : (q : Tree) (t : Numbers) → HasCounted q [] t t
counted_none q t = record {
  start = refl;
  width = refl;
  total = sym (raised_none t.total);
  long = refl;
  buckets = λ i h. sym (raised_none (get_or t.buckets i 0));
}

pub counted_on : (q : Tree) (older newer : List Doc) (a b c : Numbers) → HasCounted q newer a b → HasCounted q older b c → HasCounted q (older ++ newer) a c
counted_on q older newer a b c h k = record {
  start = k.start ∙ h.start;
  width = k.width ∙ h.width;
  total = raise_on (is_match q) older newer a.total b.total c.total h.total k.total;
  long = k.long ∙ h.long;
  buckets = λ i low.
      let later : get_or c.buckets i 0 ≡ raised (get_or b.buckets i 0) (bucket_count q a.start a.width i older) =
      k.buckets i (omega (arith, h.long)) ∙ (λ j. raised (get_or b.buckets i 0) (bucket_count q (h.start j) (h.width j) i older)) in
      raise_on (λ d. is_match q d && is_in_bucket a.start a.width i d.id) older newer (get_or a.buckets i 0) (get_or b.buckets i 0) (get_or c.buckets i 0) (h.buckets i low) later;
}

pub counted_match : (q : Tree) (d : Doc) (docs : List Doc) (a b c : Numbers) → is_match q d ≡ true → HasAdded d.id b c → HasCounted q docs a b → HasCounted q (d ∷ docs) a c
counted_match q d docs a b c yes_is k h = record {
  start = k.start ∙ h.start;
  width = k.width ∙ h.width;
  total = raise_one (is_match q) d docs a.total b.total c.total 1 (ap bit yes_is) h.total k.total;
  long = k.long ∙ h.long;
  buckets = λ i low.
      let one : ℕ = cond (is_in_bucket a.start a.width i d.id) 1 0 in
      let here : cond (is_match q d && is_in_bucket a.start a.width i d.id) 1 0 ≡ one = ap (λ z. cond (z && is_in_bucket a.start a.width i d.id) 1 0) yes_is in
      let later : get_or c.buckets i 0 ≡ raised (get_or b.buckets i 0) one =
      k.buckets i (omega (arith, h.long)) ∙ (λ j. raised (get_or b.buckets i 0) (cond (is_in_bucket (h.start j) (h.width j) i d.id) 1 0)) in
      raise_one (λ x. is_match q x && is_in_bucket a.start a.width i x.id) d docs (get_or a.buckets i 0) (get_or b.buckets i 0) (get_or c.buckets i 0) one here (h.buckets i low) later;
}

pub counted_other : (q : Tree) (d : Doc) (docs : List Doc) (a b : Numbers) → is_match q d ≡ false → HasCounted q docs a b → HasCounted q (d ∷ docs) a b
counted_other q d docs a b no_is h = record {
  start = h.start;
  width = h.width;
  total = raise_other (is_match q) d docs a.total b.total no_is h.total;
  long = h.long;
  buckets = λ i low.
      raise_other (λ x. is_match q x && is_in_bucket a.start a.width i x.id) d docs (get_or a.buckets i 0) (get_or b.buckets i 0)
      (ap (λ z. z && is_in_bucket a.start a.width i d.id) no_is) (h.buckets i low);
}

-- documents of which none matches
pub counted_skip : (q : Tree) (older newer : List Doc) (a b : Numbers) → match_count q older ≡ 0 → HasCounted q newer a b → HasCounted q (older ++ newer) a b
counted_skip q older newer a b none h = record {
  start = h.start;
  width = h.width;
  total =
      let same : match_count q (older ++ newer) ≡ match_count q newer = omega (arith, count_append (is_match q) older newer, none) in
      h.total ∙ ap (raised a.total) (sym same);
  long = h.long;
  buckets = λ i low.
      let p : Doc → Bool = λ d. is_match q d && is_in_bucket a.start a.width i d.id in
      let nothing = bucket_le q a.start a.width i older in
      let same : bucket_count q a.start a.width i (older ++ newer) ≡ bucket_count q a.start a.width i newer = omega (arith, count_append p older newer, none, nothing) in
      h.buckets i low ∙ ap (raised (get_or a.buckets i 0)) (sym same);
}

-- after a cleared tally the numbers are the counts
pub counts_are : (q : Tree) (docs : List Doc) (a b : Numbers) (n : ℕ) → length docs < 2 ^ 64 → a.total ≡ 0 → a.buckets ≡ replicate n 0 → HasCounted q docs a b → AreCounts q docs b
counts_are q docs a b n few none zeros h = record {
  total = let m : match_count q docs ≤ length docs = count_by-le-length {X = Doc} (is_match q) docs in omega (arith, h.total, none, few, m);
  buckets = λ i low.
      let inside : i < n = omega (arith, low, h.long, ap length zeros, length-replicate {A = ℕ} n 0) in
      let zero_there : get_or a.buckets i 0 ≡ 0 = ap (λ (z : List ℕ). get_or z i 0) zeros ∙ get_or-replicate {A = ℕ} n i 0 0 inside in
      let m : match_count q docs ≤ length docs = count_by-le-length {X = Doc} (is_match q) docs in
      let l = bucket_le q a.start a.width i docs in
      let here : i < length a.buckets = omega (arith, low, h.long) in
      let e : get_or b.buckets i 0 ≡ bucket_count q a.start a.width i docs = omega (arith, h.buckets i here, zero_there, few, m, l) in
      e ∙ sym (λ j. bucket_count q (h.start j) (h.width j) i docs);
}

-- without buckets the id doesn't count
pub added_any : (x id : ℕ) (b c : Numbers) → length b.buckets ≡ 0 → HasAdded x b c → HasAdded id b c
added_any x id b c none h = record {
  start = h.start;
  width = h.width;
  total = h.total;
  long = h.long;
  buckets = λ i low. absurd (omega (arith, low, none));
}
