-- An office of a feed goes by the rules of the feed.
use Rattle.eb_fields.specs.Dialect.{Dialect}
use Rattle.std.proofs.Common.{◌≡◌, ℕ, ◌+◌, ◌-◌, ◌^◌, ◌<◌, ◌≤◌, inr, List, [], ◌∷◌, ◌++◌, length, take, min, refl, sym, ap, ap₂, subst, ◌∙◌, arith}
use Rattle.std.specs.Prelude.{Option, Some, None, Result, Ok, Err, OnOk}
use Rattle.run_store.specs.Rules.{Rules}
use Rattle.run_store.specs.Stores.{IsHolding, Places, Keeps as KeepsAll}
use Rattle.eb_base.specs.Document.{Doc}
use Rattle.eb_base.specs.Match.{answer}
use Rattle.eb_base.specs.Query.{Tree}
use Rattle.eb_count.specs.Tallies.{Numbers, HasCounted, AreCounts}
use Rattle.eb_base.specs.Setting.{Setting}
use Rattle.eb_cursor.specs.Frames.{query_of, k_of, ids_of}
use Rattle.eb_desk.specs.Desk.{Queues, ClerkBook}
use Rattle.eb_feed.specs.Generations.{joined_generations, kept}
use Rattle.eb_feed.proofs.Generations.{kept_few}
use Rattle.feed_serve.specs.Desk.{new_clerk}
use Rattle.feed_serve.specs.Feeds.{FeedName, feed_name, feed_of}
use Rattle.eb_lines.specs.declared.form.Tail.TheVariants.{Kept}
use Rattle.feed_shared.specs.Turns.{WriterToken, generations_of, counted, stretch_of, HasTaken}
use Rattle.run_with_workers.specs.declared.office.Settled.{Settled}
use Rattle.run_with_workers.specs.Offices.{Settles, CountsAll, Opens}
use Rattle.run_with_workers.proofs.Tallies.{cleared_of, cleared_counts}
use Rattle.feed_with_workers.specs.declared.feed_office.FeedOffice.{FeedOffice}
use Rattle.feed_with_workers.specs.declared.feed_office.Side.{Side}
use Rattle.feed_with_workers.specs.FeedRules.{workers_rules}
use Rattle.feed_with_workers.specs.Offices.{docs_of, taken_by, IsStaffed, HoldsFeed, Keeps, IsNewSide}
use Rattle.feed_with_workers.proofs.Fronts.{taken_is, counted_is, writer_keeps}

pub ok_any : {T E P : Type 0} (r : Result T E) → P → OnOk r P
ok_any (Ok x) p = p
ok_any (Err e) p = tt

-- ---- before the first line

pub new_side : (q : Queues) (σ : Setting) (keep : ℕ) (o : Option Side) (s : Side) → IsNewSide q σ keep o → Some s ≡ o
    → (s.clerk ≡ new_clerk q (feed_name s.feed)) × (s.feed.setting ≡ σ) × (s.feed.keep ≡ keep) × (generations_of s.feed.feed.log s.feed.feed.docs ≡ [] ∷ [])
new_side q σ keep o s h e = subst (IsNewSide q σ keep) (sym e) h

-- a feed without a document
taken_none : (w : WriterToken) → generations_of w.feed.log w.feed.docs ≡ [] ∷ [] → (taken_by w ≡ []) × HasTaken w (taken_by w)
taken_none w e = let none : taken_by w ≡ [] = ap joined_generations e in (none, inr (none, e))

pub opens_feed : (o : FeedOffice) (how : Dialect) (σ : Setting) (keep : ℕ) → o.clerk ≡ new_clerk o.desk.now.queues (feed_name o.feed) → o.feed.setting ≡ σ → o.feed.keep ≡ keep
    → generations_of o.feed.feed.log o.feed.feed.docs ≡ [] ∷ [] → Opens HoldsFeed (λ (x : FeedOffice). x.clerk.put) how o (workers_rules how σ keep o.form)
opens_feed o how σ keep clerk setting keeps empty =
    let taken = taken_none o.feed empty in
    record {
      dialect = refl;
      office = record {
        dialect = how;
        by_rules = ap₂ (λ s n. workers_rules how s n o.form) (sym setting) (sym keeps);
        staffed = record {
          clerk = (ap (λ (k : ClerkBook (List ℕ)). k.queues) clerk, ap (λ (k : ClerkBook (List ℕ)). feed_of k.home) clerk, ap (λ (k : ClerkBook (List ℕ)). k.stops) clerk);
          taken = taken.1;
        };
        documents = taken.0;
      };
      start = refl;
      silent = λ d. refl;
      unasked = ap (λ (k : ClerkBook (List ℕ)). k.put) clerk;
    }

-- ---- what it does

pub staffed_of : (o : FeedOffice) → IsHolding HoldsFeed o → IsStaffed o
staffed_of o h = h.is.staffed

few_docs : (o : FeedOffice) (rules : Rules (Unit {0})) (docs : List Doc) (ws : Unit {0}) → HoldsFeed o rules docs ws → length docs ≤ length rules.start + 2 ^ 41 → length (docs_of o) < 2 ^ 64 - 1
few_docs o rules docs ws h few =
    let start : length rules.start ≡ 0 = ap (λ (r : Rules (Unit {0})). length r.start) h.by_rules in
    omega (arith, few, start, ap length h.documents)

holds_on : (old new : FeedOffice) → Keeps old new → (rules : Rules (Unit {0})) (docs more : List Doc) (ws : Unit {0}) → HoldsFeed old rules docs ws → docs_of new ≡ more → HoldsFeed new rules more ws
holds_on old new k rules docs more ws h e = record {
  dialect = h.dialect;
  by_rules = h.by_rules ∙ (λ i. workers_rules h.dialect (sym k.setting i) (sym (ap (λ (n : FeedName). n.keep) k.name) i) (sym k.form i));
  staffed = k.staffed;
  documents = e;
}

pub keeps_all : (old new : FeedOffice) → Keeps old new → new.feed ≡ old.feed → KeepsAll HoldsFeed old new
keeps_all old new k feed = λ rules docs ws h. holds_on old new k rules docs docs ws h (ap taken_by feed ∙ h.documents)

pub keeps_same : (old new : FeedOffice) → new ≡ old → KeepsAll HoldsFeed old new
keeps_same old new same = λ rules docs ws h. subst (λ (o : FeedOffice). HoldsFeed o rules docs ws) (sym same) h

pub places_one : (old new : FeedOffice) (d : Doc) → Keeps old new → docs_of new ≡ docs_of old ++ d ∷ [] → Places HoldsFeed old new d None
places_one old new d k placed = λ rules docs ws h.
    (sym (ap (λ (r : Rules (Unit {0})). r.refusal docs d) h.by_rules), holds_on old new k rules docs (docs ++ d ∷ []) ws h (placed ∙ ap (λ ds. ds ++ d ∷ []) h.documents))

pub settles : (o : FeedOffice) (s : Settled) → (length (docs_of o) < 2 ^ 64 - 1 → s.seen ≤ length (docs_of o))
    → (length (docs_of o) < 2 ^ 64 - 1 → ids_of s.frame ≡ answer (query_of s.frame) (k_of s.frame) (kept o.feed.setting o.feed.keep (take s.seen (docs_of o))))
    → (rules : Rules (Unit {0})) (docs : List Doc) (ws : Unit {0}) → HoldsFeed o rules docs ws → length docs ≤ length rules.start + 2 ^ 41 → Settles rules docs s
settles o s within ids = λ rules docs ws h few.
    let short = few_docs o rules docs ws h few in
    let sees : rules.sees (take s.seen docs) ≡ kept o.feed.setting o.feed.keep (take s.seen (docs_of o)) =
    ap (λ (r : Rules (Unit {0})). r.sees (take s.seen docs)) h.by_rules ∙ ap (λ ds. kept o.feed.setting o.feed.keep (take s.seen ds)) (sym h.documents) in
    (omega (arith, within short, ap length h.documents), ids short ∙ ap (answer (query_of s.frame) (k_of s.frame)) (sym sees))

pub counts : (o : FeedOffice) (n : ℕ) → n ≡ counted (docs_of o) → (rules : Rules (Unit {0})) (docs : List Doc) (ws : Unit {0}) → HoldsFeed o rules docs ws → length docs ≤ length rules.start + 2 ^ 41
    → n ≡ length docs
counts o n is = λ rules docs ws h few. is ∙ counted_is (docs_of o) (few_docs o rules docs ws h few) ∙ ap length h.documents

-- a count over what is kept
pub counts_all : (o : FeedOffice) (q : Tree) (seen : ℕ) (old cleared t : Numbers) → cleared ≡ cleared_of old → seen ≡ counted (docs_of o)
    → o.feed.feed.held ≡ min o.feed.keep (length o.feed.feed.log) → HasCounted q (stretch_of o.feed.feed.held o.feed.feed.log o.feed.feed.docs) cleared t
    → (rules : Rules (Unit {0})) (docs : List Doc) (ws : Unit {0}) → HoldsFeed o rules docs ws → length docs ≤ length rules.start + 2 ^ 41 → CountsAll rules docs q seen t
counts_all o q seen old cleared t is count most counts = λ rules docs ws h few.
    let w = o.feed in
    let all = docs_of o in
    let stretch = stretch_of w.feed.held w.feed.log w.feed.docs in
    let short = few_docs o rules docs ws h few in
    let keeps_of : stretch ≡ kept w.setting w.keep all = writer_keeps w h.staffed.taken most in
    let small : length stretch < 2 ^ 64 = omega (arith, short, ap length keeps_of, kept_few w.setting w.keep all) in
    let sees : stretch ≡ rules.sees docs = keeps_of ∙ ap (kept w.setting w.keep) h.documents ∙ sym (ap (λ (r : Rules (Unit {0})). r.sees docs) h.by_rules) in
    (count ∙ counted_is all short ∙ ap length h.documents, subst (λ (ds : List Doc). AreCounts q ds t) sees (cleared_counts q stretch old cleared t is small counts))

pub closes : (o : FeedOffice) (n : ℕ) → n ≡ counted (stretch_of o.feed.feed.held o.feed.feed.log o.feed.feed.docs) → o.feed.feed.held ≡ min o.feed.keep (length o.feed.feed.log)
    → (rules : Rules (Unit {0})) (docs : List Doc) (ws : Unit {0}) → HoldsFeed o rules docs ws → length docs ≤ length rules.start + 2 ^ 41 → Kept n ≡ rules.tail docs
closes o n held most = λ rules docs ws h few.
    let w = o.feed in
    let all = docs_of o in
    let short = few_docs o rules docs ws h few in
    let keeps_of : stretch_of w.feed.held w.feed.log w.feed.docs ≡ kept w.setting w.keep all = writer_keeps w h.staffed.taken most in
    let left = ap counted keeps_of ∙ counted_is (kept w.setting w.keep all) (omega (arith, short, kept_few w.setting w.keep all)) in
    ap Kept (held ∙ left ∙ ap (λ ds. length (kept w.setting w.keep ds)) h.documents) ∙ sym (ap (λ (r : Rules (Unit {0})). r.tail docs) h.by_rules)

-- a document more was taken
pub keeps_added : (old new : FeedOffice) (d : Doc) → IsStaffed old → new.desk.now.queues ≡ old.desk.now.queues → new.clerk ≡ old.clerk → new.form ≡ old.form
    → (new.feed.setting ≡ old.feed.setting) × (new.feed.keep ≡ old.feed.keep) × (new.feed.feed.book ≡ old.feed.feed.book) → HasTaken new.feed (docs_of old ++ d ∷ [])
    → Keeps old new × (docs_of new ≡ docs_of old ++ d ∷ [])
keeps_added old new d staffed desk clerk form same taken =
    let history = docs_of old ++ d ∷ [] in
    let is : docs_of new ≡ history = taken_is new.feed history taken in
    let name : feed_name new.feed ≡ feed_name old.feed = λ i. record { book = same.2 i; keep = same.1 i } in (
      record {
        staffed = record {
          clerk = (
            ap (λ (k : ClerkBook (List ℕ)). k.queues) clerk ∙ staffed.clerk.0 ∙ sym desk,
            ap (λ (k : ClerkBook (List ℕ)). feed_of k.home) clerk ∙ staffed.clerk.1 ∙ sym name,
            ap (λ (k : ClerkBook (List ℕ)). k.stops) clerk ∙ staffed.clerk.2,
          );
          taken = subst (HasTaken new.feed) (sym is) taken;
        };
        name = name;
        setting = same.0;
        form = form;
      },
      is,
    )
