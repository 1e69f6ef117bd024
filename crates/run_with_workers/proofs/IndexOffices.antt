-- An office of an index goes by the rules of the index.
use Rattle.eb_fields.specs.Dialect.{Dialect}
use Rattle.std.proofs.Common.{◌≡◌, ℕ, ◌+◌, ◌<◌, ◌≤◌, Bool, true, false, List, [], ◌∷◌, ◌++◌, length, take, refl, sym, ap, ap₂, subst, ◌∙◌, arith, append-nil, length-append}
use Rattle.std.specs.Prelude.{◌^◌, Option, Some, None, if◌then◌else◌}
use Rattle.std.proofs.Math.Seq.{take-append_seam}
use mathlib.Core.List.{IsPrefix}
use Rattle.run_store.specs.Rules.{Rules}
use Rattle.run_store.specs.Stores.{IsHolding, Places, Keeps as KeepsAll}
use Rattle.eb_base.specs.Document.{Doc}
use Rattle.eb_base.specs.Match.{answer}
use Rattle.eb_base.specs.Query.{Tree}
use Rattle.eb_count.specs.Tallies.{Numbers, HasCounted, AreCounts}
use Rattle.eb_base.specs.Setting.{Setting}
use Rattle.eb_cursor.specs.Frames.{query_of, k_of, ids_of}
use Rattle.eb_desk.specs.Desk.{Queues, ClerkBook}
use Rattle.eb_engine.specs.Tokens.{HistoryToken}
use Rattle.run_index.specs.Conversions.{AreConverted, most_converted}
use Rattle.run_index.specs.IndexRules.{index_rules, segments_tail}
use Rattle.eb_lines.specs.declared.form.Form.{Form}
use Rattle.eb_lines.specs.declared.form.Tail.{Tail}
use Rattle.eb_lines.specs.declared.refusal.Refusal.{Refusal}
use Rattle.eb_lines.specs.declared.refusal.Refusal.TheVariants.{Full}
use Rattle.eb_place.specs.Room.{cut, has_room}
use Rattle.eb_serve.specs.Desk.{new_clerk}
use Rattle.eb_serve.specs.Jobs.{index_of}
use Rattle.eb_table.specs.Known.{Words}
use Rattle.run_with_workers.specs.declared.index_office.IndexOffice.{IndexOffice}
use Rattle.run_with_workers.specs.declared.index_office.Side.{Side}
use Rattle.run_with_workers.specs.declared.office.Settled.{Settled}
use Rattle.run_with_workers.specs.IndexOffices.{IsStaffed, HoldsIndex, Keeps, WithPlaced, IsNewSide}
use Rattle.run_with_workers.specs.Offices.{Settles, CountsAll, Opens}
use Rattle.run_with_workers.proofs.Tallies.{cleared_of, cleared_counts}

pub new_side : (q : Queues) (w : Words) (o : Option Side) (s : Side) → IsNewSide q w o → Some s ≡ o
    → (s.clerk ≡ new_clerk q w) × (s.writer.index ≡ w) × (s.writer.docs ≡ []) × (s.converter.index ≡ w)
new_side q w o s h e = subst (IsNewSide q w) (sym e) h

-- nothing is closed
none_closed : (σ : Setting) (n : ℕ) → AreConverted σ [] n
unfolding cut
none_closed σ n = record { each = λ s h. absurd (omega (arith, h)) }

pub opens_index : (o : IndexOffice) (how : Dialect) → o.clerk ≡ new_clerk o.desk.now.queues o.index.now → o.writer.index ≡ o.index.now → o.writer.docs ≡ [] → o.converter.index ≡ o.index.now
    → Opens HoldsIndex (λ (x : IndexOffice). x.clerk.put) how o (index_rules how o.index.now.setting o.form [])
opens_index o how clerk writer docs converter = record {
  dialect = refl;
  office = record {
    dialect = how;
    by_rules = refl;
    staffed = record {
      clerk = (ap (λ (k : ClerkBook (List ℕ)). k.queues) clerk, ap (λ (k : ClerkBook (List ℕ)). index_of k.home) clerk, ap (λ (k : ClerkBook (List ℕ)). k.stops) clerk);
      writer = writer;
      converter = converter;
      converted = subst (λ (ds : List Doc). AreConverted o.index.now.setting ds o.converter.converted) (sym docs) (none_closed o.index.now.setting o.converter.converted);
    };
    documents = docs;
  };
  start = refl;
  silent = λ d. refl;
  unasked = ap (λ (k : ClerkBook (List ℕ)). k.put) clerk;
}

pub staffed_of : (o : IndexOffice) → IsHolding HoldsIndex o → IsStaffed o
staffed_of o h = h.is.staffed

holds_on : (old new : IndexOffice) → Keeps old new → (rules : Rules (Unit {0})) (docs more : List Doc) (ws : Unit {0}) → HoldsIndex old rules docs ws
    → new.writer.docs ≡ more → HoldsIndex new rules more ws
holds_on old new k rules docs more ws h e = record {
  dialect = h.dialect;
  by_rules = h.by_rules ∙ ap₂ (λ (w : Words) (f : Form). index_rules h.dialect w.setting f []) (sym k.index) (sym k.form);
  staffed = k.staffed;
  documents = e;
}

-- the writer holds what it held
pub keeps_all : (old new : IndexOffice) → Keeps old new → new.writer ≡ old.writer → KeepsAll HoldsIndex old new
keeps_all old new k writer = λ rules docs ws h. holds_on old new k rules docs docs ws h (ap (λ (t : HistoryToken). t.docs) writer ∙ h.documents)

-- what the rules refuse, by whether there is room
abbrev refused_by : Bool → Option Refusal
refused_by b = if b then None else Some Full

pub places_one : (old new : IndexOffice) (d : Doc) → Keeps old new → WithPlaced old new d true → Places HoldsIndex old new d None
places_one old new d k p = λ rules docs ws h.
    let room : has_room old.index.now.setting docs d ≡ true = subst (λ ds. has_room old.index.now.setting ds d ≡ true) h.documents p.0 in
    (sym (ap (λ (r : Rules (Unit {0})). r.refusal docs d) h.by_rules ∙ ap refused_by room), holds_on old new k rules docs (docs ++ d ∷ []) ws h (p.1 ∙ ap (λ ds. ds ++ d ∷ []) h.documents))

pub places_none : (old new : IndexOffice) (d : Doc) → Keeps old new → WithPlaced old new d false → Places HoldsIndex old new d (Some Full)
places_none old new d k p = λ rules docs ws h.
    let room : has_room old.index.now.setting docs d ≡ false = subst (λ ds. has_room old.index.now.setting ds d ≡ false) h.documents p.0 in
    (sym (ap (λ (r : Rules (Unit {0})). r.refusal docs d) h.by_rules ∙ ap refused_by room), holds_on old new k rules docs (docs ++ []) ws h (p.1 ∙ h.documents ∙ sym (append-nil docs)))

-- an answer over what is known of the front of a history
pub settles : (o : IndexOffice) (s : Settled) (known : List Doc) → s.seen ≡ length known → IsPrefix known o.writer.docs → ids_of s.frame ≡ answer (query_of s.frame) (k_of s.frame) known
    → (rules : Rules (Unit {0})) (docs : List Doc) (ws : Unit {0}) → HoldsIndex o rules docs ws → length docs ≤ length rules.start + 2 ^ 41 → Settles rules docs s
settles o s known count prefix ids = λ rules docs ws h few.
    let whole : known ++ prefix.0 ≡ docs = prefix.1 ∙ h.documents in
    let front : take s.seen docs ≡ known = ap₂ (λ n (ds : List Doc). take n ds) count (sym whole) ∙ take-append_seam known prefix.0 in
    let sees : rules.sees (take s.seen docs) ≡ known = ap (λ (r : Rules (Unit {0})). r.sees (take s.seen docs)) h.by_rules ∙ front in
    (omega (arith, count, ap length whole, length-append known prefix.0), ids ∙ ap (answer (query_of s.frame) (k_of s.frame)) (sym sees))

-- a count over the history
pub counts_all : (o : IndexOffice) (q : Tree) (seen : ℕ) (old cleared t : Numbers) → cleared ≡ cleared_of old → seen ≡ length o.writer.docs → HasCounted q o.writer.docs cleared t
    → (rules : Rules (Unit {0})) (docs : List Doc) (ws : Unit {0}) → HoldsIndex o rules docs ws → length docs ≤ length rules.start + 2 ^ 41 → CountsAll rules docs q seen t
counts_all o q seen old cleared t is count counted = λ rules docs ws h few.
    let start : length rules.start ≡ 0 = ap (λ (r : Rules (Unit {0})). length r.start) h.by_rules in
    let short : length o.writer.docs < 2 ^ 64 = omega (arith, few, start, ap length h.documents) in
    let sees : o.writer.docs ≡ rules.sees docs = h.documents ∙ sym (ap (λ (r : Rules (Unit {0})). r.sees docs) h.by_rules) in
    (count ∙ ap length h.documents, subst (λ (ds : List Doc). AreCounts q ds t) sees (cleared_counts q o.writer.docs old cleared t is short counted))

pub closes : (o : IndexOffice) (begun converted : ℕ) (tail : Tail) → tail ≡ segments_tail o.form begun converted → begun ≡ length (cut o.index.now.setting o.writer.docs)
    → converted ≡ most_converted (length (cut o.index.now.setting o.writer.docs)) → (rules : Rules (Unit {0})) (docs : List Doc) (ws : Unit {0}) → HoldsIndex o rules docs ws
    → length docs ≤ length rules.start + 2 ^ 41 → tail ≡ rules.tail docs
closes o begun converted tail is segments packed = λ rules docs ws h few.
    let cuts : length (cut o.index.now.setting o.writer.docs) ≡ length (cut o.index.now.setting docs) = ap (λ ds. length (cut o.index.now.setting ds)) h.documents in
    is ∙ ap₂ (segments_tail o.form) (segments ∙ cuts) (packed ∙ ap most_converted cuts) ∙ sym (ap (λ (r : Rules (Unit {0})). r.tail docs) h.by_rules)
