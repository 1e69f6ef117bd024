-- The stores of a document: within the table, and apart from the words of other segments.
use Rattle.std.proofs.Common.{◌≡◌, ◌≢◌, ℕ, suc, ◌+◌, ◌-◌, ◌<◌, ◌==◌, ◌&&◌, List, [], ◌∷◌, ◌++◌, length, take, refl, ap, sym}
use Rattle.std.proofs.Common.{◌∙◌, subst, arith, inl, inr, if◌then◌else◌, nat_le, append-nil, append_assoc, sum_by, lit<}
use Rattle.std.proofs.lemmas.Bool.{cases_lt}
use Rattle.std.proofs.lemmas.List.{take-append-le}
use Rattle.eb_base.specs.Term.{Term}
use Rattle.eb_base.specs.Document.{Doc}
use Rattle.eb_base.specs.Setting.{Setting}
use Rattle.eb_place.specs.Layout.{Slot, Region, pool_slot, size}
use Rattle.eb_place.specs.Layout.Slot.{published, slot}
use Rattle.eb_place.specs.Layout.Region.{first_region, text_region, text_place_region, cell_region, tail_region, id_region}
use Rattle.eb_place.specs.Postings.{count_of, distinct, posting_of, terms_of}
use Rattle.eb_place.specs.Room.{text_words}
use Rattle.eb_place.specs.Address.{pool_at, begins, address_of}
use Rattle.eb_place.specs.Placing.{Store, in_row, text_of, enter_stores, append_stores, token_stores, tokens_stores, stores_in}
use Rattle.eb_place.proofs.FreshPoolWords.{is_pool, Each, Each-append, Each-if}
use Rattle.eb_place.proofs.FreshPoolWords.Each.{none, more}
use Rattle.eb_place.proofs.StoresWithinTable.{IsWithin, token_within}
use Rattle.eb_place.proofs.WordsOfTokens.{Reached, Apart, Room, reached_keeps, plain_apart, is_tail, Each-map, Each-take}
use Rattle.eb_place.proofs.StoringTokens.{Agrees, tokens_done, tokens_begun, Some_stored, room_before, take_over}

-- ---- in another segment

segment_number : Slot → ℕ
segment_number published = 0
segment_number (slot s r i) = suc s

-- the store is of another segment than v
abbrev pub Elsewhere : ℕ → Store → Type 0
Elsewhere s y = (r : Region) (i : ℕ) → y.0 ≡ slot s r i → ⊥

pub elsewhere_at : (s v : ℕ) (q : Region) (j w : ℕ) → s ≢ v → Elsewhere v (slot s q j, w)
unfolding segment_number
elsewhere_at s v q j w h r i e = h (let k : suc s ≡ suc v = ap segment_number e in omega arith)

elsewhere_pool : (s v a w : ℕ) → s ≢ v → Elsewhere v (pool_slot s a, w)
unfolding pool_slot
elsewhere_pool s v a w h = elsewhere_at s v _ _ w h

row_elsewhere : (s v i : ℕ) (vs : List ℕ) → s ≢ v → Each (Elsewhere v) (in_row s text_region i vs)
row_elsewhere s v i [] h = none
row_elsewhere s v i (x ∷ vs) h = more (elsewhere_at s v text_region i x h) (row_elsewhere s v (i + 1) vs h)

token_elsewhere : (σ : Setting) (s v : ℕ) (ts : List Term) (u : Term) (p : ℕ) → s ≢ v → Each (Elsewhere v) (token_stores σ s ts u p)
unfolding token_stores enter_stores append_stores
token_elsewhere σ s v ts u p h =
    Each-append
    (Each-if (count_of u ts == 0) (λ z. Each-append (row_elsewhere s v (sum_by text_words (distinct ts)) (text_of u) h)
    (more (elsewhere_at s v text_place_region _ (sum_by text_words (distinct ts)) h) (more (elsewhere_at s v cell_region _ (length (distinct ts) + 1) h) none))))
    (Each-append (Each-if (begins (count_of u ts) && nat_le 1 (pool_at (count_of u ts))) (λ z. more (elsewhere_pool s v _ (address_of u (count_of u ts - 1) ts) h) none))
    (more (elsewhere_pool s v _ p h) (more (elsewhere_at s v tail_region _ (address_of u (count_of u ts) ts + 1) h) none)))

tokens_elsewhere : (σ : Setting) (s v n p : ℕ) (ts us : List Term) → s ≢ v → Each (Elsewhere v) (tokens_stores σ s n p ts us)
unfolding tokens_stores
tokens_elsewhere σ s v n p ts [] h = none
tokens_elsewhere σ s v n p ts (u ∷ us) h = Each-append (token_elsewhere σ s v ts u (posting_of n p) h) (tokens_elsewhere σ s v n (p + 1) (ts ++ u ∷ []) us h)

published_elsewhere : (v w : ℕ) → Elsewhere v (published, w)
unfolding segment_number
published_elsewhere v w r i e = let k : 0 ≡ suc v = ap segment_number e in absurd (omega arith)

-- a document stores in its own segment alone
pub doc_elsewhere : (σ : Setting) (s v : ℕ) (seg : List Doc) (count : ℕ) (d : Doc) → s ≢ v → Each (Elsewhere v) (stores_in σ s seg count d)
unfolding stores_in
doc_elsewhere σ s v seg count d h =
    Each-append (Each-append (Each-if (length seg == 0) (λ z. more (elsewhere_at s v first_region 0 (count + 1) h) none))
    (tokens_elsewhere σ s v (length seg) 0 (terms_of seg) d.terms h)) (more (elsewhere_at s v id_region (length seg) d.id h) (more (published_elsewhere v (count + 1)) none))

elsewhere_apart : (v : ℕ) (ts : List Term) (y : Store) → Elsewhere v y → Apart v ts y
unfolding pool_slot
elsewhere_apart v ts y h = record {
  post = λ t f l e. h _ _ e;
  link = λ t f l b o e. h _ _ e;
  tail = λ k e. h tail_region k e;
}

-- and so leaves the postings of the others
pub doc_apart : (σ : Setting) (s v : ℕ) (seg : List Doc) (count : ℕ) (d : Doc) (ts : List Term) → s ≢ v → Each (Apart v ts) (stores_in σ s seg count d)
doc_apart σ s v seg count d ts h = Each-map (elsewhere_apart v ts) (doc_elsewhere σ s v seg count d h)

-- ---- within the table

tokens_within : (σ : Setting) (s n p : ℕ) (ts us : List Term) → Room σ s (ts ++ us) → Each (IsWithin σ) (tokens_stores σ s n p ts us)
unfolding tokens_stores
tokens_within σ s n p ts [] room = none
tokens_within σ s n p ts (u ∷ us) room =
    let room' : Room σ s ((ts ++ u ∷ []) ++ us) = subst (Room σ s) (sym (append_assoc ts (u ∷ []) us)) room in
    let r = room_before σ s (ts ++ u ∷ []) us room' in
    Each-append (token_within σ s ts u (posting_of n p) r.inside r.small r.some r.fits) (tokens_within σ s n (p + 1) (ts ++ u ∷ []) us room')

-- its stores are within the index
pub doc_within : (σ : Setting) (s : ℕ) (seg : List Doc) (count : ℕ) (d : Doc) → Room σ s (terms_of seg ++ d.terms) → length seg < σ.docs → Each (IsWithin σ) (stores_in σ s seg count d)
unfolding stores_in size
doc_within σ s seg count d room h =
    Each-append (Each-append (Each-if (length seg == 0) (λ z. more (room.inside, lit< tt) none))
    (tokens_within σ s (length seg) 0 (terms_of seg) d.terms room)) (more (room.inside, h) (more tt none))

-- ---- its own segment

-- its first-document word, where it begins the segment
unfoldable pub first_stores : ℕ → List Doc → ℕ → List Store
first_stores s seg count = if length seg == 0 then ((slot s first_region 0, count + 1) ∷ []) else []

pub first_plain : (s : ℕ) (seg : List Doc) (count : ℕ) (ts : List Term) → Each (Apart s ts) (first_stores s seg count)
unfolding first_stores is_pool is_tail
first_plain s seg count ts = Each-if (length seg == 0) (λ z. more (plain_apart s ts (slot s first_region 0, count + 1) refl refl) none)

pub first_within : (σ : Setting) (s : ℕ) (seg : List Doc) (count : ℕ) → s < σ.segments → Each (IsWithin σ) (first_stores s seg count)
unfolding first_stores size
first_within σ s seg count h = Each-if (length seg == 0) (λ z. more (h, lit< tt) none)

last_plain : (s : ℕ) (n count id : ℕ) (ts : List Term) → Each (Apart s ts) ((slot s id_region n, id) ∷ (published, count + 1) ∷ [])
unfolding is_pool is_tail
last_plain s n count id ts = more (plain_apart s ts (slot s id_region n, id) refl refl) (more (plain_apart s ts (published, count + 1) refl refl) none)

pub last_within : (σ : Setting) (s n count id : ℕ) → s < σ.segments → n < σ.docs → Each (IsWithin σ) ((slot s id_region n, id) ∷ (published, count + 1) ∷ [])
unfolding size
last_within σ s n count id h l = more (h, l) (more tt none)

-- its stores are the first-document word, those of its tokens, the id and the count
pub stores_split : (σ : Setting) (s : ℕ) (seg : List Doc) (count : ℕ) (d : Doc)
    → stores_in σ s seg count d ≡ first_stores s seg count ++ (tokens_stores σ s (length seg) 0 (terms_of seg) d.terms ++ (slot s id_region (length seg), d.id) ∷ (published, count + 1) ∷ [])
unfolding stores_in first_stores
stores_split σ s seg count d = append_assoc (first_stores s seg count) (tokens_stores σ s (length seg) 0 (terms_of seg) d.terms) ((slot s id_region (length seg), d.id) ∷ (published, count + 1) ∷ [])

-- all stores of a document
pub doc_done : (σ : Setting) (s : ℕ) (seg : List Doc) (count : ℕ) (d : Doc) (P : Term → ℕ → ℕ) (L : List Store) → Room σ s (terms_of seg ++ d.terms) → length seg < σ.docs
    → Agrees P (length seg) 0 (terms_of seg) d.terms → Reached σ s (terms_of seg) P L → Reached σ s (terms_of seg ++ d.terms) P (L ++ stores_in σ s seg count d)
doc_done σ s seg count d P L room few a h =
    let ts = terms_of seg in
    let F = first_stores s seg count in
    let T = tokens_stores σ s (length seg) 0 ts d.terms in
    let Z : List Store = (slot s id_region (length seg), d.id) ∷ (published, count + 1) ∷ [] in
    let one = reached_keeps σ s ts P L F (room_before σ s ts d.terms room) (first_within σ s seg count room.inside) (first_plain s seg count ts) h in
    let two = tokens_done σ s (length seg) 0 ts d.terms P (L ++ F) room a one in
    let three = reached_keeps σ s (ts ++ d.terms) P ((L ++ F) ++ T) Z room (last_within σ s (length seg) count d.id room.inside few) (last_plain s (length seg) count d.id (ts ++ d.terms)) two in
    subst (Reached σ s (ts ++ d.terms) P) (append_assoc (L ++ F) T Z ∙ append_assoc L F (T ++ Z) ∙ ap (λ z. L ++ z) (sym (stores_split σ s seg count d))) three

-- the first r of them
pub doc_begun : (σ : Setting) (s : ℕ) (seg : List Doc) (count : ℕ) (d : Doc) (P : Term → ℕ → ℕ) (L : List Store) (r : ℕ) → Room σ s (terms_of seg ++ d.terms) → length seg < σ.docs
    → Agrees P (length seg) 0 (terms_of seg) d.terms → Reached σ s (terms_of seg) P L → Some_stored σ s (terms_of seg) d.terms P (L ++ take r (stores_in σ s seg count d))
doc_begun σ s seg count d P L r room few a h =
    let ts = terms_of seg in
    let F = first_stores s seg count in
    let T = tokens_stores σ s (length seg) 0 ts d.terms in
    let Z : List Store = (slot s id_region (length seg), d.id) ∷ (published, count + 1) ∷ [] in
    let before = room_before σ s ts d.terms room in
    let e = ap (take r) (stores_split σ s seg count d) in
    elim (cases_lt r (length F)) [
      | inl l ↦ record {
        stored = [];
        left = d.terms;
        all = refl;
        reached = subst (λ z. Reached σ s z P (L ++ take r (stores_in σ s seg count d))) (sym (append-nil ts))
            (subst (λ z. Reached σ s ts P (L ++ z)) (sym (e ∙ take-append-le r F (T ++ Z) (omega arith)))
            (reached_keeps σ s ts P L (take r F) before (Each-take r (first_within σ s seg count room.inside)) (Each-take r (first_plain s seg count ts)) h));
      }
      | inr l ↦
          let one = reached_keeps σ s ts P L F before (first_within σ s seg count room.inside) (first_plain s seg count ts) h in
          let q = r - length F in
          elim (cases_lt q (length T)) [
            | inl k ↦
                let some = tokens_begun σ s (length seg) 0 q ts d.terms P (L ++ F) room a one in
                record {
                  stored = some.stored;
                  left = some.left;
                  all = some.all;
                  reached = subst (Reached σ s (ts ++ some.stored) P) (append_assoc L F (take q T)
                      ∙ ap (λ z. L ++ (F ++ z)) (sym (take-append-le q T Z (omega arith))) ∙ ap (λ z. L ++ z) (sym (e ∙ take_over r F (T ++ Z) l))) some.reached;
                }
            | inr k ↦
                let two = tokens_done σ s (length seg) 0 ts d.terms P (L ++ F) room a one in
                let Y = take (q - length T) Z in
                let three = reached_keeps σ s (ts ++ d.terms) P ((L ++ F) ++ T) Y room (Each-take (q - length T) (last_within σ s (length seg) count d.id room.inside few))
                (Each-take (q - length T) (last_plain s (length seg) count d.id (ts ++ d.terms))) two in
                record {
                  stored = d.terms;
                  left = [];
                  all = sym (append-nil d.terms);
                  reached = subst (Reached σ s (ts ++ d.terms) P) (append_assoc (L ++ F) T Y ∙ append_assoc L F (T ++ Y)
                      ∙ ap (λ z. L ++ (F ++ z)) (sym (take_over q T Z k)) ∙ ap (λ z. L ++ z) (sym (e ∙ take_over r F (T ++ Z) l))) three;
                }
          ]
    ]
