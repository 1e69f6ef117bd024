-- Where a document goes, and what a placer keeps.
use Rattle.std.proofs.Common.{◌≡◌, ℕ, suc, ◌+◌, ◌-◌, ◌*◌, ◌/◌, ◌<◌, ◌≤◌, ◌&&◌, ◌||◌, Bool, true, false, nat_lt, nat_le, List, [], ◌∷◌, ◌++◌, length}
use Rattle.std.proofs.Common.{take, get_or, sum_by, refl, ap, sym, ◌∙◌, subst, arith, inl, inr, append-nil, IsTrue, lit<, None, if◌then◌else◌}
use Rattle.std.proofs.lemmas.Bool.{cases_Bool, lt-ltb, le-ltb, or_right, or_left}
use Rattle.std.proofs.lemmas.List.{length_push, take_all, get_or_past}
use Rattle.eb_base.specs.Term.{Term}
use Rattle.eb_base.specs.Document.{Doc, IsDocument}
use Rattle.eb_base.specs.Setting.{Setting}
use Rattle.eb_place.specs.declared.moment.Documents.{Documents}
use Rattle.eb_place.specs.declared.moment.Moment.{Moment}
use Rattle.eb_place.specs.declared.used.Used.{Used}
use Rattle.eb_place.specs.Postings.{terms_of, distinct}
use Rattle.eb_place.specs.Room.{text_words, all_slices, holds, fits, cut, with_doc, last_of, has_room, HasRoom}
use Rattle.eb_place.specs.Address.{begun_after}
use Rattle.eb_place.specs.Placing.{segment_before}
use Rattle.eb_place.specs.Moments.{empty_moment, IsMoment}
use Rattle.eb_place.specs.Seen.{entered, tokens_seen, stores_in_region}
use Rattle.eb_place.specs.Later.{IsNotBefore}
use Rattle.eb_place.specs.Tells.{TellsSegment}
use Rattle.eb_place.proofs.TermCounts.{begun_is}
use Rattle.eb_place.proofs.CutSegments.{cut_push, with_doc_last}
use Rattle.eb_place.proofs.WordsOfHistories.{goes, terms_push}
use Rattle.eb_place.proofs.FirstDocumentWords.{cut_nonempty}
use Rattle.eb_place.proofs.WordsAtMoment.{placed_all}
use Rattle.eb_place.proofs.LaterMoments.{later_on}
use Rattle.eb_place.proofs.UsedAtFirst.{tells_nothing}
use Rattle.eb_place.proofs.NextStore.{accepted_lawful}
use Rattle.eb_writer.specs.declared.plan.Found.{Found}
use Rattle.eb_writer.specs.declared.plan.Plan.{Plan}
use Rattle.eb_writer.specs.Counting.{IsIdle, tokens_in, IsUsedBy, IsReady, AreFound, IsPlan}
use Rattle.eb_writer.specs.Storing.{before_it, tokens_until, IsPlaced, HasComeTo, IsAccepted, HasStoredMore, BeginsSegment, with_accepted}
use Rattle.eb_writer.specs.Progress.{PlacerProgress, PlacerStands, IsLastFull, HasNoRoom}
use Rattle.eb_writer.proofs.Idle.{idle_entered, idle_tokens, told_used, used_tells, tokens_same}
use Rattle.eb_writer.proofs.Ends.{join_first, nothing_tokens}
use Rattle.eb_writer.proofs.Coming.{joined}

-- nothing is used
abbrev pub nothing : Used
nothing = record { documents = 0; terms = 0; text = 0; pool0 = 0; pool1 = 0; pool2 = 0; pool3 = 0 }

-- a new placer stands for the moment without a document
pub stands_first : (σ : Setting) → PlacerStands record { setting = σ; segments = 0; documents = 0; used = nothing } (empty_moment σ)
unfolding cut
stands_first σ = record { setting = refl; idle = refl; segments = refl; documents = refl; used = tells_nothing σ (0 - 1) }

pub segments_few : (m : Moment) → IsMoment m → length (cut m.setting m.documents.accepted) ≤ m.setting.segments
segments_few m is = (placed_all m.setting m.documents.accepted is.setting (accepted_lawful m is)).short

-- the last segment
last_is : (xs : List (List Doc)) → 1 ≤ length xs → get_or xs (length xs - 1) [] ≡ last_of xs
last_is [] h = absurd (omega arith)
last_is (x ∷ []) h = refl
last_is (x ∷ y ∷ ys) h = ap (λ k. get_or (x ∷ y ∷ ys) k []) (let e : suc (suc (length ys)) - 1 ≡ suc (length ys) = omega arith in e)
    ∙ ap (λ k. get_or (y ∷ ys) k []) (let e : length ys ≡ suc (length ys) - 1 = omega arith in e) ∙ last_is (y ∷ ys) (omega arith)

pub last_at : (p : PlacerProgress) (m : Moment) → PlacerStands p m → 1 ≤ p.segments → get_or (cut m.setting m.documents.accepted) (p.segments - 1) [] ≡ last_of (cut m.setting m.documents.accepted)
last_at p m h some = ap (λ k. get_or (cut m.setting m.documents.accepted) (k - 1) []) h.segments ∙ last_is (cut m.setting m.documents.accepted) (omega (arith, h.segments))

-- it is ready for one more document
pub last_ready : (p : PlacerProgress) (m : Moment) → IsMoment m → PlacerStands p m → 1 ≤ p.segments → IsReady m (p.segments - 1) p.used
last_ready p m is h some = record { idle = h.idle; inside = omega (arith, segments_few m is, h.segments); tells = h.used }

used_nothing : IsUsedBy nothing []
unfolding distinct begun_after
used_nothing = record { terms = refl; text = refl; pool0 = refl; pool1 = refl; pool2 = refl; pool3 = refl }

-- so is the next segment
pub next_ready : (p : PlacerProgress) (m : Moment) → IsMoment m → PlacerStands p m → length (cut m.setting m.documents.accepted) < m.setting.segments → IsReady m p.segments nothing
next_ready p m is h low =
    let s = p.segments in
    let none = get_or_past (cut m.setting m.documents.accepted) s [] (omega (arith, h.segments)) in
    let empty : tokens_in m s ≡ [] = nothing_tokens (get_or (cut m.setting m.documents.accepted) s []) none in
    record {
      idle = h.idle;
      inside = omega (arith, h.segments);
      tells = used_tells m s nothing [] (idle_entered m s is h.idle ∙ ap distinct empty) (idle_tokens m s is h.idle ∙ empty) (sym (ap length none)) used_nothing;
    }

-- ---- whether the document fits

-- the numbers that are tested
abbrev pub is_room : Setting → Used → Bool
is_room σ v = nat_le (v.documents + 1) σ.docs && nat_le v.terms σ.terms && nat_le v.text (4 * σ.terms)
    && nat_le v.pool0 σ.terms && nat_le v.pool1 (σ.terms / 2) && nat_le v.pool2 (σ.terms / 16) && nat_le v.pool3 (σ.terms / 128)

pub fits_is : (σ : Setting) (seg : List Doc) (d : Doc) (v : Used) → IsUsedBy v (terms_of seg ++ d.terms) → v.documents ≡ length seg → is_room σ v ≡ fits σ seg d
unfolding holds
fits_is σ seg d v h n =
    let e : terms_of seg ++ d.terms ≡ terms_of (seg ++ d ∷ []) = sym (terms_push seg d) in
    let ts = terms_of (seg ++ d ∷ []) in
    let docs : v.documents + 1 ≡ length (seg ++ d ∷ []) = omega (arith, n, length_push seg d) in
    let terms : v.terms ≡ length (distinct ts) = h.terms ∙ ap (λ z. length (distinct z)) e in
    let text : v.text ≡ sum_by text_words (distinct ts) = h.text ∙ ap (λ z. sum_by text_words (distinct z)) e in
    let p0 : v.pool0 ≡ all_slices 0 ts = h.pool0 ∙ begun_is 0 (lit< tt) (terms_of seg ++ d.terms) ∙ ap (all_slices 0) e in
    let p1 : v.pool1 ≡ all_slices 1 ts = h.pool1 ∙ begun_is 1 (lit< tt) (terms_of seg ++ d.terms) ∙ ap (all_slices 1) e in
    let p2 : v.pool2 ≡ all_slices 2 ts = h.pool2 ∙ begun_is 2 (lit< tt) (terms_of seg ++ d.terms) ∙ ap (all_slices 2) e in
    let p3 : v.pool3 ≡ all_slices 3 ts = h.pool3 ∙ begun_is 3 (lit< tt) (terms_of seg ++ d.terms) ∙ ap (all_slices 3) e in
    λ i. nat_le (docs i) σ.docs && nat_le (terms i) σ.terms && nat_le (text i) (4 * σ.terms) && nat_le (p0 i) σ.terms
    && nat_le (p1 i) (σ.terms / 2) && nat_le (p2 i) (σ.terms / 16) && nat_le (p3 i) (σ.terms / 128)

true_is : (b : Bool) → b ≡ true → IsTrue b
true_is b e = e

joins_length : (σ : Setting) (segs : List (List Doc)) (d : Doc) → 1 ≤ length segs → fits σ (last_of segs) d ≡ true → length (with_doc σ segs d) ≡ length segs
joins_length σ [] d l f = absurd (omega arith)
joins_length σ (x ∷ xs) d l f = elim (with_doc_last σ x xs d) [
  | inl w ↦ w.1
  | inr w ↦ absurd (cc (w.0, f))
]

begins_length : (σ : Setting) (segs : List (List Doc)) (d : Doc) → (1 ≤ length segs → fits σ (last_of segs) d ≡ false) → length (with_doc σ segs d) ≡ length segs + 1
begins_length σ [] d f = omega arith
begins_length σ (x ∷ xs) d f = elim (with_doc_last σ x xs d) [
  | inl w ↦ absurd (cc (w.0, f (omega arith)))
  | inr w ↦ w.1
]

-- the document joins the last segment
pub record JoinsLast (m : Moment) (d : Doc) (s : ℕ) : Type 0 where
  pub placed : IsPlaced m d s
  pub before : before_it m d ≡ get_or (cut m.setting m.documents.accepted) s []
  pub some : 1 ≤ length (before_it m d)

pub joins_last : (p : PlacerProgress) (m : Moment) (d : Doc) → IsMoment m → IsDocument d → PlacerStands p m → 1 ≤ p.segments
    → fits m.setting (last_of (cut m.setting m.documents.accepted)) d ≡ true → JoinsLast m d (p.segments - 1)
unfolding has_room
joins_last p m d is limits h some f =
    let σ = m.setting in
    let docs = m.documents.accepted in
    let segs = cut σ docs in
    let l : 1 ≤ length segs = omega (arith, h.segments) in
    let before : before_it m d ≡ get_or segs (p.segments - 1) [] = (λ i. if f i then last_of segs else []) ∙ sym (last_at p m h some) in
    record {
      placed = record {
        limits = limits;
        room = true_is _ (or_right (nat_lt (length segs) σ.segments) (fits σ (last_of segs) d) f);
        current = subst (λ c. Rattle.eb_place.specs.NextStores.IsCurrent c d) (sym h.idle) tt;
        place = omega (arith, h.segments, joins_length σ segs d l f);
      };
      before = before;
      some = subst (λ z. 1 ≤ length z) (sym before) (cut_nonempty σ docs (p.segments - 1) (omega (arith, h.segments)));
    }

empty_before : (σ : Setting) (segs : List (List Doc)) (d : Doc) → (1 ≤ length segs → fits σ (last_of segs) d ≡ false) → (if fits σ (last_of segs) d then last_of segs else []) ≡ []
empty_before σ [] d f = elim (cases_Bool (fits σ [] d)) [
  | inl e ↦ rw e refl
  | inr e ↦ rw e refl
]
empty_before σ (x ∷ xs) d f = λ i. if f (omega arith) i then last_of (x ∷ xs) else []

-- or begins the next one
pub begins_next : (p : PlacerProgress) (m : Moment) (d : Doc) → IsMoment m → IsDocument d → PlacerStands p m → IsLastFull m d
    → length (cut m.setting m.documents.accepted) < m.setting.segments → BeginsSegment m d p.segments
unfolding has_room
begins_next p m d is limits h f low =
    let σ = m.setting in
    let docs = m.documents.accepted in
    let segs = cut σ docs in
    record {
      idle = h.idle;
      placed = record {
        limits = limits;
        room = true_is _ (or_left (nat_lt (length segs) σ.segments) (fits σ (last_of segs) d) (lt-ltb _ _ low));
        current = subst (λ c. Rattle.eb_place.specs.NextStores.IsCurrent c d) (sym h.idle) tt;
        place = omega (arith, h.segments, begins_length σ segs d f);
      };
      first = empty_before σ segs d f;
    }

-- or has no room
pub no_room : (m : Moment) (d : Doc) → IsMoment m → length (cut m.setting m.documents.accepted) ≡ m.setting.segments → IsLastFull m d → HasNoRoom m d
unfolding has_room
no_room m d is e f =
    let σ = m.setting in
    let segs = cut σ m.documents.accepted in
    let none : nat_lt (length segs) σ.segments ≡ false = le-ltb (length segs) σ.segments (omega arith) in
    let some = is.setting.segments.0 in
    λ i. none i || f (omega arith) i

-- ---- afterwards

-- what is used describes the segment with the document
pub tells_accepted : (m k n : Moment) (d : Doc) (s : ℕ) (u v : Used) → IsMoment m → IsMoment n → IsPlaced m d s → HasComeTo k d s (length d.terms)
    → TellsSegment u k s → before_it k d ≡ before_it m d → IsAccepted m n d → u.documents ≡ length (before_it m d)
    → v ≡ record u { documents = u.documents + 1 } → TellsSegment v n s
tells_accepted m k n d s u v is last p h tells same a count e =
    let j = joined m d s is p in
    let idle : IsIdle n = ap (λ (x : Documents). x.current) a.documents in
    let seg : get_or (cut n.setting n.documents.accepted) s [] ≡ before_it m d ++ d ∷ [] = (λ i. get_or (cut (sym a.later.setting i) ((a.documents i).accepted)) s []) ∙ j.here in
    let ts : tokens_until k d (length d.terms) ≡ tokens_in n s = ap (λ (z : List Doc). terms_of z ++ take (length d.terms) d.terms) same
    ∙ ap (λ z. terms_of (before_it m d) ++ z) (take_all (length d.terms) d.terms (omega arith)) ∙ sym (terms_push (before_it m d) d) ∙ ap terms_of (sym seg) in
    let used : IsUsedBy u (tokens_in n s) = subst (IsUsedBy u) ts (told_used k s u (tokens_until k d (length d.terms)) h.entered h.seen tells) in
    subst (λ z. TellsSegment z n s) (sym e) (used_tells n s record u { documents = u.documents + 1 } (tokens_in n s) (idle_entered n s last idle) (idle_tokens n s last idle)
    (omega (arith, count, ap length seg, length_push (before_it m d) d))
    (record { terms = used.terms; text = used.text; pool0 = used.pool0; pool1 = used.pool1; pool2 = used.pool2; pool3 = used.pool3 }))

-- and the placer stands for that moment
pub stands_accepted : (p q : PlacerProgress) (m n : Moment) (d : Doc) (s : ℕ) → PlacerStands p m → IsPlaced m d s → IsAccepted m n d
    → q.setting ≡ p.setting → q.segments ≡ s + 1 → q.documents ≡ p.documents + 1 → TellsSegment q.used n s → PlacerStands q n
stands_accepted p q m n d s h placed a e segments documents tells =
    let σ = m.setting in
    let docs = m.documents.accepted in
    let new : cut n.setting n.documents.accepted ≡ with_doc σ (cut σ docs) d = (λ i. cut (sym a.later.setting i) ((a.documents i).accepted)) ∙ cut_push σ docs d in
    let most = (goes σ (cut σ docs) d).most in
    record {
      setting = e ∙ h.setting ∙ a.later.setting;
      idle = ap (λ (x : Documents). x.current) a.documents;
      segments = omega (arith, segments, placed.place, most, ap length new);
      documents = omega (arith, documents, h.documents, length_push docs d, ap (λ (x : Documents). length x.accepted) a.documents);
      used = subst (TellsSegment q.used n) (let k : s ≡ q.segments - 1 = omega arith in k) tells;
    }

-- ---- from one moment to another with the same documents part

pub tells_same : (m n : Moment) (s : ℕ) (u : Used) → IsNotBefore n m → n.documents ≡ m.documents → TellsSegment u m s → TellsSegment u n s
unfolding entered tokens_seen stores_in_region
tells_same m n s u l e h =
    let P : Setting → Documents → Type 0 = λ σ x. TellsSegment u record { setting = σ; documents = x; conversions = n.conversions } s in
    let at : P m.setting m.documents = record { documents = h.documents; terms = h.terms; text = h.text; pool0 = h.pool0; pool1 = h.pool1; pool2 = h.pool2; pool3 = h.pool3 } in
    subst (λ (z : Setting × Documents). P z.0 z.1) (λ i. (l.setting i, sym e i)) at

pub stands_same : (p : PlacerProgress) (m n : Moment) → IsNotBefore n m → n.documents ≡ m.documents → PlacerStands p m → PlacerStands p n
stands_same p m n l e h = record {
  setting = h.setting ∙ l.setting;
  idle = ap (λ (x : Documents). x.current) e ∙ h.idle;
  segments = h.segments ∙ (λ i. length (cut (l.setting i) ((sym e i).accepted)));
  documents = h.documents ∙ (λ i. length ((sym e i).accepted));
  used = tells_same m n (p.segments - 1) p.used l e h.used;
}

pub full_same : (m n : Moment) (d : Doc) → IsNotBefore n m → n.documents ≡ m.documents → IsLastFull m d → IsLastFull n d
full_same m n d l e h = subst (λ (z : Setting × Documents). 1 ≤ length (cut z.0 z.1.accepted) → fits z.0 (last_of (cut z.0 z.1.accepted)) d ≡ false) (λ i. (l.setting i, sym e i)) h

-- what holds of the accepted documents
pub accepted_same : (m n k : Moment) (d : Doc) → IsNotBefore n m → n.documents ≡ m.documents → IsAccepted n k d → IsAccepted m k d
accepted_same m n k d l e a = record { later = later_on m n k l a.later; documents = a.documents ∙ ap (λ x. with_accepted x d) e }

pub accepted_on : (m n k : Moment) (d : Doc) → HasStoredMore m n → IsAccepted n k d → IsAccepted m k d
accepted_on m n k d l a = record { later = later_on m n k l.later a.later; documents = a.documents ∙ ap (λ z. record { accepted = z ++ d ∷ []; current = None }) l.accepted }

pub before_same : (m n : Moment) (d : Doc) → IsNotBefore n m → n.documents.accepted ≡ m.documents.accepted → before_it n d ≡ before_it m d
before_same m n d l e = λ i. segment_before (sym l.setting i) (e i) d

-- ---- the document's first token

-- whether the document fits the last segment
pub fits_last : (p : PlacerProgress) (m : Moment) (d : Doc) (plan : Plan) → PlacerStands p m → 1 ≤ p.segments → IsPlan m (p.segments - 1) p.used d plan
    → is_room p.setting plan.used ≡ fits m.setting (last_of (cut m.setting m.documents.accepted)) d
fits_last p m d plan h some q =
    let seg = get_or (cut m.setting m.documents.accepted) (p.segments - 1) [] in
    (λ i. is_room (h.setting i) plan.used) ∙ fits_is m.setting seg d plan.used q.used (q.documents ∙ h.used.documents) ∙ ap (λ z. fits m.setting z d) (last_at p m h some)

-- what is known where the first token comes next, in segment s
pub record Starts (m n : Moment) (d : Doc) (s : ℕ) (u : Used) (found : List Found) (count : ℕ) : Type 0 where
  pub room : HasRoom m.setting m.documents.accepted d
  pub placed : IsPlaced n d s
  pub come : HasComeTo n d s 0
  pub tells : TellsSegment u n s
  pub tokens : AreFound (terms_of (before_it n d)) d.terms found (length d.terms)
  pub counted : count ≡ length n.documents.accepted

pub starts_last : (p : PlacerProgress) (m n : Moment) (d : Doc) (plan : Plan) → IsMoment m → IsMoment n → IsNotBefore n m → n.documents ≡ m.documents → PlacerStands p m → 1 ≤ p.segments
    → IsPlan m (p.segments - 1) p.used d plan → is_room p.setting plan.used ≡ true → Starts m n d (p.segments - 1) p.used plan.found p.documents
starts_last p m n d plan is js l e h some q f =
    let s = p.segments - 1 in
    let fit = sym (fits_last p m d plan h some q) ∙ f in
    let hn = stands_same p m n l e h in
    let fit_n : fits n.setting (last_of (cut n.setting n.documents.accepted)) d ≡ true = (λ i. fits (sym l.setting i) (last_of (cut (sym l.setting i) ((e i).accepted))) d) ∙ fit in
    let j = joins_last p n d js q.limits hn some fit_n in
    record {
      room = (joins_last p m d is q.limits h some fit).placed.room;
      placed = j.placed;
      come = join_first n d s js hn.idle j.placed j.some;
      tells = hn.used;
      tokens = subst (λ (z : List Term). AreFound z d.terms plan.found (length d.terms)) (sym (ap terms_of j.before ∙ tokens_same m n s l e)) q.found;
      counted = hn.documents;
    }

pub begins_same : (p : PlacerProgress) (m n : Moment) (d : Doc) → IsMoment n → IsNotBefore n m → n.documents ≡ m.documents → IsDocument d
    → PlacerStands p m → IsLastFull m d → length (cut m.setting m.documents.accepted) < m.setting.segments → BeginsSegment n d p.segments
begins_same p m n d js l e limits h f low =
    let hn = stands_same p m n l e h in
    begins_next p n d js limits hn (full_same m n d l e f) (subst (λ (σ : Setting). length (cut n.setting n.documents.accepted) < σ.segments) l.setting (omega (arith, low, h.segments, hn.segments)))

pub starts_next : (p : PlacerProgress) (m n k : Moment) (d : Doc) (plan : Plan) → IsMoment m → IsMoment n → IsNotBefore n m
    → n.documents ≡ m.documents → PlacerStands p m → IsLastFull m d → length (cut m.setting m.documents.accepted) < m.setting.segments
    → IsPlan m p.segments nothing d plan → HasStoredMore n k → HasComeTo k d p.segments 0 → Starts m k d p.segments nothing plan.found p.documents
starts_next p m n k d plan is js l e h f low q on come =
    let s = p.segments in
    let b = begins_same p m n d js l e q.limits h f low in
    let hn = stands_same p m n l e h in
    let before : before_it k d ≡ [] = before_same n k d on.later on.accepted ∙ b.first in
    let none = get_or_past (cut m.setting m.documents.accepted) s [] (omega (arith, h.segments)) in
    let empty : tokens_in m s ≡ [] = nothing_tokens (get_or (cut m.setting m.documents.accepted) s []) none in
    let until : tokens_until k d 0 ≡ [] = append-nil (terms_of (before_it k d)) ∙ nothing_tokens (before_it k d) before in
    let same : get_or (cut k.setting k.documents.accepted) s [] ≡ [] = (λ i. get_or (cut (sym on.later.setting i) (on.accepted i)) s [])
    ∙ (λ i. get_or (cut (sym l.setting i) ((e i).accepted)) s []) ∙ none in
    record {
      room = (begins_next p m d is q.limits h f low).placed.room;
      placed = come.placed;
      come = come;
      tells = used_tells k s nothing [] (come.entered ∙ ap distinct until) (come.seen ∙ until) (sym (ap length same)) used_nothing;
      tokens = subst (λ (z : List Term). AreFound z d.terms plan.found (length d.terms)) (empty ∙ sym (nothing_tokens (before_it k d) before)) q.found;
      counted = hn.documents ∙ sym (ap length on.accepted);
    }
