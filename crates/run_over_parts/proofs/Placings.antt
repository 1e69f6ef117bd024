-- What a document comes to in the parts, and what is searched in them.
use Rattle.std.proofs.Common.{◌≡◌, ℕ, ◌+◌, ◌-◌, ◌%◌, ◌<◌, ◌≤◌, zero, suc, inl, inr, get_or, Bool, true, false, List, []}
use Rattle.std.proofs.Common.{◌∷◌, ◌++◌, length, Option, Some, None, refl, ap, sym, ◌∙◌, subst, arith, append-nil}
use Rattle.std.specs.Prelude.{min, ◌^◌, nat_le, if◌then◌else◌, replicate, map}
use Rattle.std.specs.List.{All, range_with_len}
use Rattle.std.proofs.lemmas.Bool.{cases_lt, cases_eq, le-leb, lt-leb}
use Rattle.std.proofs.Math.Nat.{mod-lt}
use Rattle.eb_base.specs.Document.{Doc}
use Rattle.eb_base.specs.Match.{answer, matches}
use Rattle.eb_base.proofs.Answering.{answer_is, ids_of}
use Rattle.std.proofs.lemmas.List.{length-take}
use Rattle.eb_base.specs.Query.{Tree}
use Rattle.eb_base.specs.Setting.{Setting, IsSetting}
use Rattle.eb_blend.specs.Blended.{blended}
use Rattle.eb_blend.specs.declared.refusal.BlendRefusal.{BlendRefusal}
use Rattle.eb_blend.specs.declared.refusal.BlendRefusal.TheVariants as blend
use Rattle.eb_blend.specs.Laws.{part, cut_into}
use Rattle.eb_blend.specs.Parts.{Parts, WriterTokens, ConverterTokens, history, part_of, with_document, IsAbove, counted, lengths_of, AllConverted, IsCaughtUp}
use Rattle.eb_blend.specs.Refused.{Refuses}
use Rattle.eb_blend.proofs.Law.{is_answer, own_part, other_part}
use Rattle.eb_blend.proofs.Each.{no_lengths}
use Rattle.eb_lines.specs.declared.refusal.Refusal.{Refusal}
use Rattle.eb_lines.specs.declared.refusal.Refusal.TheVariants.{NotRising, Full}
use Rattle.eb_place.specs.Room.{cut, has_room, HasRoom}
use Rattle.eb_table.specs.Known.{Words}
use Rattle.run_over_parts.specs.declared.store.Store.{Store}
use Rattle.run_over_parts.specs.AcceptedInParts.{last_id, refusal_of_part, refusal_above, refusal_in_parts, refused_by}
use Rattle.run_over_parts.specs.Stores.{Holds, WithPlaced}
use Rattle.run_over_parts.proofs.Histories.{cut_length, history_of, history_past, histories_push, last-push, rising-push, short_push, short_none, counts_push}

-- the parts of no documents
replicated : (parts a n : ℕ) → replicate {A = List Doc} n [] ≡ map (part parts []) (range_with_len a n)
replicated parts a zero = refl
replicated parts a (suc n) = ap (λ (hs : List (List Doc)). [] ∷ hs) (replicated parts (a + 1) n)

pub parts_none : (parts : ℕ) → replicate parts [] ≡ cut_into parts []
parts_none parts = replicated parts 0 parts

length_replicated : {A : Type 0} (n : ℕ) (x : A) → length (replicate n x) ≡ n
length_replicated zero x = refl
length_replicated (suc n) x = ap suc (length_replicated n x)

counted_none : (parts : ℕ) → counted (lengths_of (cut_into parts [])) ≡ min (length {A = Doc} []) (2 ^ 64 - 1)
counted_none parts = ap (λ (hs : List (List Doc)). counted (lengths_of hs)) (sym (parts_none parts)) ∙ sym (no_lengths parts)

short_parts : (parts p : ℕ) (σ : Setting) → length (cut σ (history (cut_into parts []) p)) ≤ 64
short_parts parts p σ = elim (cases_lt p parts) [
  | inl lt ↦ subst (λ (h : List Doc). length (cut σ h) ≤ 64) (sym (history_of parts p [] lt)) (short_none σ)
  | inr le ↦ subst (λ (h : List Doc). length (cut σ h) ≤ 64) (sym (history_past parts p [] le)) (short_none σ)
]

-- ---- a document is placed or refused

admit_rising : (o : Option ℕ) (d : Doc) (r : Option Refusal) → IsAbove o d.id → refusal_above o d r ≡ r
admit_rising None d r above = refl
admit_rising (Some last) d r above = let e : nat_le d.id last ≡ false = lt-leb d.id last above in rw e refl

pub part_is : (parts : ℕ) (docs : List Doc) (d : Doc) → 1 ≤ parts → history (cut_into parts docs) (part_of (cut_into parts docs) d) ≡ part parts docs (d.id % parts)
part_is parts docs d some =
    let below : d.id % parts < parts = mod-lt d.id (omega (arith, some)) in
    ap (λ n. history (cut_into parts docs) (d.id % n)) (cut_length parts docs) ∙ history_of parts (d.id % parts) docs below

-- a document whose id rises, where its part has room or has none
admit_roomy : (parts : ℕ) (σ : Setting) (docs : List Doc) (d : Doc) → 1 ≤ parts → IsAbove (last_id docs) d.id
    → has_room σ (history (cut_into parts docs) (part_of (cut_into parts docs) d)) d ≡ true → refusal_in_parts parts σ docs d ≡ None
admit_roomy parts σ docs d some above room =
    let here : has_room σ (part parts docs (d.id % parts)) d ≡ true = ap (λ h. has_room σ h d) (sym (part_is parts docs d some)) ∙ room in
    admit_rising (last_id docs) d (refusal_of_part parts σ docs d) above ∙ ap (λ (b : Bool). if b then None else Some Full) here

admit_full : (parts : ℕ) (σ : Setting) (docs : List Doc) (d : Doc) (p : ℕ) → 1 ≤ parts → IsAbove (last_id docs) d.id → p ≡ part_of (cut_into parts docs) d
    → has_room σ (history (cut_into parts docs) p) d ≡ false → refusal_in_parts parts σ docs d ≡ Some Full
admit_full parts σ docs d p some above is room =
    let here : has_room σ (part parts docs (d.id % parts)) d ≡ false = ap (λ h. has_room σ h d) (sym (ap (history (cut_into parts docs)) is ∙ part_is parts docs d some)) ∙ room in
    admit_rising (last_id docs) d (refusal_of_part parts σ docs d) above ∙ ap (λ (b : Bool). if b then None else Some Full) here

admit_low : (parts : ℕ) (σ : Setting) (docs : List Doc) (d : Doc) (last : ℕ) → last_id docs ≡ Some last → d.id ≤ last → refusal_in_parts parts σ docs d ≡ Some (NotRising last)
admit_low parts σ docs d last is low =
    let e : nat_le d.id last ≡ true = le-leb d.id last low in
    ap (λ o. refusal_above o d (refusal_of_part parts σ docs d)) is ∙ ap (λ (b : Bool). if b then Some (NotRising last) else refusal_of_part parts σ docs d) e

-- ---- the store after it

pub short_more : (parts : ℕ) (σ : Setting) (docs : List Doc) (d : Doc) (p : ℕ) → 1 ≤ parts → σ.segments ≤ 64 → has_room σ (part parts docs (d.id % parts)) d ≡ true
    → length (cut σ (history (cut_into parts docs) p)) ≤ 64 → length (cut σ (history (cut_into parts (docs ++ d ∷ [])) p)) ≤ 64
short_more parts σ docs d p some few room short = elim (cases_lt p parts) [
  | inl lt ↦
      let old = history_of parts p docs lt in
      let new = history_of parts p (docs ++ d ∷ []) lt in
      let low : length (cut σ (part parts docs p)) ≤ 64 = subst (λ (h : List Doc). length (cut σ h) ≤ 64) old short in
      subst (λ (h : List Doc). length (cut σ h) ≤ 64) (sym new) (elim (cases_eq p (d.id % parts)) [
        | inl e ↦
            let here : length (cut σ (part parts docs (d.id % parts))) ≤ 64 = subst (λ m. length (cut σ (part parts docs m)) ≤ 64) e low in
            subst (λ m. length (cut σ (part parts (docs ++ d ∷ []) m)) ≤ 64) (sym e)
            (subst (λ (h : List Doc). length (cut σ h) ≤ 64) (sym (own_part parts docs d)) (short_push σ (part parts docs (d.id % parts)) d few here room))
        | inr ne ↦ subst (λ (h : List Doc). length (cut σ h) ≤ 64) (sym (other_part parts docs d p ne)) low
      ])
  | inr le ↦ subst (λ (h : List Doc). length (cut σ h) ≤ 64) (sym (history_past parts p (docs ++ d ∷ []) le)) (short_none σ)
]

-- of all parts but that of the document the segments were converted before, and that part is caught
-- up with
converted_more : (parts : ℕ) (σ : Setting) (docs : List Doc) (d : Doc) (old new : ConverterTokens) → 1 ≤ parts → AllConverted σ (cut_into parts docs) old.converted
    → IsCaughtUp σ (cut_into parts (docs ++ d ∷ [])) (d.id % parts) old new → AllConverted σ (cut_into parts (docs ++ d ∷ [])) new.converted
converted_more parts σ docs d old new some are caught = record {
  each = λ p s lt low. elim (cases_eq p (d.id % parts)) [
    | inl e ↦
        let here : s + 1 < length (cut σ (history (cut_into parts (docs ++ d ∷ [])) (d.id % parts))) =
        subst (λ m. s + 1 < length (cut σ (history (cut_into parts (docs ++ d ∷ [])) m))) e low in
        subst (λ m. s < get_or new.converted m 0) (sym e) (caught.converted s here)
    | inr ne ↦
        let below : p < parts = omega (arith, lt, cut_length parts (docs ++ d ∷ [])) in
        let same : history (cut_into parts (docs ++ d ∷ [])) p ≡ history (cut_into parts docs) p =
        history_of parts p (docs ++ d ∷ []) below ∙ other_part parts docs d p ne ∙ sym (history_of parts p docs below) in
        let before : s + 1 < length (cut σ (history (cut_into parts docs) p)) = subst (λ (h : List Doc). s + 1 < length (cut σ h)) same low in
        subst (λ n. s < n) (sym (caught.others p ne).1) (are.each p s (omega (arith, below, cut_length parts docs)) before)
  ];
}

pub placed : (old new : Store) (parts : ℕ) (σ : Setting) (docs : List Doc) (d : Doc) → Holds old parts σ docs → IsAbove old.writer.last d.id
    → HasRoom old.blend.setting (history old.writer.histories (part_of old.writer.histories d)) d → new.blend ≡ old.blend
    → new.writer ≡ (let w : WriterTokens = record { indexes = old.writer.indexes; histories = with_document old.writer.histories d; last = Some d.id } in w)
    → new.converter.indexes ≡ old.converter.indexes → length new.converter.converted ≡ length old.converter.converted
    → IsCaughtUp old.blend.setting new.writer.histories (d.id % length new.writer.histories) old.converter new.converter → WithPlaced new parts σ docs d None
placed old new parts σ docs d h above room blend writer converter counters caught =
    let hs = cut_into parts docs in
    let last : old.writer.last ≡ last_id docs = ap (λ (w : WriterTokens). w.last) h.writer in
    let hist : old.writer.histories ≡ hs = ap (λ (w : WriterTokens). w.histories) h.writer in
    let setting : old.blend.setting ≡ σ = ap (λ (b : Parts). b.setting) h.blend in
    let low : IsAbove (last_id docs) d.id = subst (λ o. IsAbove o d.id) last above in
    let roomy : has_room σ (history hs (part_of hs d)) d ≡ true = sym (λ i. has_room (setting i) (history (hist i) (part_of (hist i) d)) d) ∙ room in
    let own : has_room σ (part parts docs (d.id % parts)) d ≡ true = ap (λ (x : List Doc). has_room σ x d) (sym (part_is parts docs d h.some)) ∙ roomy in
    let holds : new.writer ≡ (let w : WriterTokens = record { indexes = h.words; histories = cut_into parts (docs ++ d ∷ []); last = last_id (docs ++ d ∷ []) } in w) =
    writer ∙ (λ i. record { indexes = (h.writer i).indexes; histories = with_document (hist i) d; last = Some d.id })
    ∙ (λ i. record { indexes = h.words; histories = sym (histories_push parts docs d h.some) i; last = sym (last-push docs d) i }) in
    let parted : new.writer.histories ≡ cut_into parts (docs ++ d ∷ []) = ap (λ (w : WriterTokens). w.histories) holds in
    let number : length new.writer.histories ≡ parts = ap length parted ∙ cut_length parts (docs ++ d ∷ []) in
    record {
      refusal = sym (admit_roomy parts σ docs d h.some low roomy);
      holds = record {
        some = h.some;
        most = h.most;
        allowed = h.allowed;
        words = h.words;
        number = h.number;
        settings = h.settings;
        blend = blend ∙ h.blend;
        writer = holds;
        converter = converter ∙ h.converter;
        counters = counters ∙ h.counters;
        converted = converted_more parts σ docs d old.converter new.converter h.some h.converted
            (subst (λ (x : Setting × List (List Doc) × ℕ). IsCaughtUp x.0 x.1 (d.id % x.2) old.converter new.converter) (λ i. (setting i, parted i, number i)) caught);
        rising = rising-push docs d h.rising low;
        counts = counts_push parts docs d h.some h.counts;
        short = λ p. short_more parts σ docs d p h.some h.allowed.segments.1 own (h.short p);
      };
    }

unplaced : (old new : Store) (parts : ℕ) (σ : Setting) (docs : List Doc) (d : Doc) (r : Refusal) → Holds old parts σ docs → new ≡ old → refusal_in_parts parts σ docs d ≡ Some r
    → WithPlaced new parts σ docs d (Some r)
unplaced old new parts σ docs d r h same is = record {
  refusal = sym is;
  holds = subst (Holds new parts σ) (sym (append-nil docs)) (subst (λ (s : Store). Holds s parts σ docs) (sym same) h);
}

-- a document that is refused
pub not_placed : (old new : Store) (parts : ℕ) (σ : Setting) (docs : List Doc) (d : Doc) (b : BlendRefusal) → Holds old parts σ docs → Refuses old.blend.setting old.writer d b → new ≡ old
    → WithPlaced new parts σ docs d (Some (refused_by b))
not_placed old new parts σ docs d (blend.NotRising last) h r same =
    let is : last_id docs ≡ Some last = sym (ap (λ (w : WriterTokens). w.last) h.writer) ∙ r.0 in
    unplaced old new parts σ docs d (NotRising last) h same (admit_low parts σ docs d last is r.1)
not_placed old new parts σ docs d (blend.Full p) h r same =
    let hs = cut_into parts docs in
    let last : old.writer.last ≡ last_id docs = ap (λ (w : WriterTokens). w.last) h.writer in
    let hist : old.writer.histories ≡ hs = ap (λ (w : WriterTokens). w.histories) h.writer in
    let setting : old.blend.setting ≡ σ = ap (λ (x : Parts). x.setting) h.blend in
    let low : IsAbove (last_id docs) d.id = subst (λ o. IsAbove o d.id) last r.0 in
    let is : p ≡ part_of hs d = r.1 ∙ ap (λ (x : List (List Doc)). part_of x d) hist in
    let full : has_room σ (history hs p) d ≡ false = sym (λ i. has_room (setting i) (history (hist i) p) d) ∙ r.2 in
    unplaced old new parts σ docs d Full h same (admit_full parts σ docs d p h.some low is full)

-- ---- the store at first

-- nothing is closed
cut_none : (σ : Setting) → length (cut σ []) ≡ 0
unfolding cut
cut_none σ = refl

none_closed : (parts : ℕ) (σ : Setting) (converted : List ℕ) → AllConverted σ (cut_into parts []) converted
none_closed parts σ converted = record {
  each = λ p s lt low.
      let none = ap (λ (h : List Doc). length (cut σ h)) (history_of parts p [] (omega (arith, lt, cut_length parts []))) ∙ cut_none σ in
      absurd (omega (arith, low, none));
}

pub holds_none : (s : Store) (parts : ℕ) (σ : Setting) (ws : List Words) → 1 ≤ parts → parts ≤ 16 → IsSetting σ → length ws ≡ parts → All (λ w. w.setting ≡ σ) ws
    → s.blend ≡ (let b : Parts = record { setting = σ; indexes = ws } in b)
    → s.writer ≡ (let w : WriterTokens = record { indexes = ws; histories = replicate parts []; last = None } in w)
    → s.converter ≡ (let c : ConverterTokens = record { indexes = ws; histories = replicate parts []; converted = replicate parts 0 } in c) → Holds s parts σ []
holds_none s parts σ ws some most allowed number settings blend writer converter = record {
  some = some;
  most = most;
  allowed = allowed;
  words = ws;
  number = number;
  settings = settings;
  blend = blend;
  writer = writer ∙ (λ i. record { indexes = ws; histories = parts_none parts i; last = None });
  converter = ap (λ (c : ConverterTokens). c.indexes) converter;
  counters = ap (λ (c : ConverterTokens). length c.converted) converter ∙ length_replicated parts 0;
  converted = none_closed parts σ s.converter.converted;
  rising = tt;
  counts = counted_none parts;
  short = λ p. short_parts parts p σ;
}

-- ---- a search over all documents

pub answers_all : (s : Store) (parts : ℕ) (σ : Setting) (docs : List Doc) (q : Tree) (k : ℕ) (found : List ℕ) → Holds s parts σ docs
    → found ≡ blended q k s.writer.histories (lengths_of s.writer.histories) → found ≡ answer q k docs
answers_all s parts σ docs q k found h is =
    let hist : s.writer.histories ≡ cut_into parts docs = ap (λ (w : WriterTokens). w.histories) h.writer in
    is ∙ (λ i. blended q k (hist i) (lengths_of (hist i))) ∙ is_answer q k parts docs h.some h.rising

pub counts_all : (s : Store) (parts : ℕ) (σ : Setting) (docs : List Doc) (n : ℕ) → Holds s parts σ docs → length docs < 2 ^ 64 → n ≡ counted (lengths_of s.writer.histories) → n ≡ length docs
counts_all s parts σ docs n h few is =
    let hist : s.writer.histories ≡ cut_into parts docs = ap (λ (w : WriterTokens). w.histories) h.writer in
    let all : n ≡ min (length docs) (2 ^ 64 - 1) = is ∙ ap (λ (hs : List (List Doc)). counted (lengths_of hs)) hist ∙ h.counts in
    omega (arith, all, few)

answer_few : (q : Tree) (k : ℕ) (docs : List Doc) → length (answer q k docs) ≤ k
answer_few q k docs = let e = ap length (answer_is q k docs) ∙ length-take k (ids_of (matches q docs)) in omega (arith, e)

pub found_few : (q : Tree) (k : ℕ) (docs : List Doc) (found : List ℕ) → found ≡ answer q k docs → length found ≤ k
found_few q k docs found is = let e = ap length is in let few = answer_few q k docs in omega (arith, e, few)
