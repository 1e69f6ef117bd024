-- Lines that wait, where documents come, answers come, and lines come.
use Rattle.std.proofs.Common.{◌≡◌, ℕ, zero, suc, ◌+◌, ◌≤◌, List, [], ◌∷◌, ◌++◌, length, take, set, slice_get, Some, refl, sym, ap, subst, ◌∙◌, arith, append-nil, length-append}
use Rattle.std.specs.Prelude.{Contains}
use Rattle.std.proofs.lemmas.List.{take_all, take-append-le}
use Rattle.eb_base.specs.Document.{Doc}
use Rattle.eb_base.specs.Match.{answer}
use Rattle.eb_base.specs.Query.{Tree}
use Rattle.eb_count.specs.Tallies.{Numbers, AreCounts}
use Rattle.eb_cursor.specs.declared.frame.Frame.{Frame}
use Rattle.eb_cursor.specs.Frames.{query_of, k_of, ids_of}
use Rattle.eb_desk.specs.Rule.{HaveRisingNumbers}
use Rattle.eb_desk.specs.declared.rule.Pair.{Pair}
use Rattle.eb_desk.proofs.Asking.{asked_once}
use Rattle.eb_desk.proofs.Asks.{same_asks}
use Rattle.eb_query.specs.declared.ask.Ask.TheVariants.{Newest, Counts}
use Rattle.eb_lines.specs.Progress.{documents_in, accepted}
use Rattle.eb_lines.specs.Reading.{Reading, query}
use Rattle.run_store.specs.Rules.{Rules}
use Rattle.run_with_workers.specs.declared.waiting.Counted.{Counted}
use Rattle.run_with_workers.specs.declared.waiting.Waiting.{Waiting}
use Rattle.run_with_workers.specs.declared.waiting.Waiting.TheVariants as waits
use Rattle.run_with_workers.specs.Offices.{HasBucketsOf, CountsAll, WasAsked}
use Rattle.run_with_workers.specs.Waiting.{Awaits, WaitsAs, AreWaiting}

module _ (rules : Rules (Unit {0})) where
  -- ---- more documents, and more that is asked

  module _ (ps qs : List Pair) (keeps : (p : Pair) → Contains ps p → Contains qs p) where
    as_grown : (docs more : List Doc) (told n : ℕ) (r : Reading) (w : Waiting) → WaitsAs rules docs ps told n r w → WaitsAs rules (docs ++ more) qs told n r w
    as_grown docs more told n r waits.Nothing h = h
    as_grown docs more told n r (waits.Refused x) h = h
    as_grown docs more told n r (waits.Asked t) h = (h.0, h.1, h.2, h.3, (h.4.0, keeps _ h.4.1))
    as_grown docs more told n r (waits.Answered seen frame) h =
        (h.0, h.1, omega (arith, h.2, length-append docs more), h.3 ∙ ap (λ ds. answer (query_of frame) (k_of frame) (rules.sees ds)) (sym (take-append-le seen docs more h.2)))
    as_grown docs more told n r (waits.Counted c) h =
        let front : take c.seen docs ≡ take c.seen (docs ++ more) = sym (take-append-le c.seen docs more h.3) in
        (h.0, h.1, h.2, omega (arith, h.3, length-append docs more), subst (λ (ds : List Doc). AreCounts h.0 (rules.sees ds) c.tally) front h.4)

    pub waiting_grown : (docs more : List Doc) (told n : ℕ) (rs : List Reading) (ws : List Waiting) → AreWaiting rules docs ps told n rs ws → AreWaiting rules (docs ++ more) qs told n rs ws
    waiting_grown docs more told n [] [] h = tt
    waiting_grown docs more told n [] (w ∷ ws) h = absurd h
    waiting_grown docs more told n (r ∷ rs) [] h = absurd h
    waiting_grown docs more told n (r ∷ rs) (w ∷ ws) h = (as_grown docs more told n r w h.0, waiting_grown docs more (told + length (documents_in r)) (suc n) rs ws h.1)

  module _ (docs : List Doc) (ps : List Pair) where
    -- ---- a line more

    pub waiting_push : (told n : ℕ) (rs : List Reading) (ws : List Waiting) (r : Reading) (w : Waiting) → AreWaiting rules docs ps told n rs ws
        → WaitsAs rules docs ps (told + length (accepted rs)) (n + length rs) r w
        → AreWaiting rules docs ps told n (rs ++ r ∷ []) (ws ++ w ∷ [])
    unfolding accepted
    waiting_push told n [] [] r w h e =
        let none : told + 0 ≡ told = omega arith in
        let first : n + 0 ≡ n = omega arith in
        (subst (λ m. WaitsAs rules docs ps told m r w) first (subst (λ t. WaitsAs rules docs ps t (n + 0) r w) none e), tt)
    waiting_push told n [] (x ∷ ws) r w h e = absurd h
    waiting_push told n (s ∷ rs) [] r w h e = absurd h
    waiting_push told n (s ∷ rs) (x ∷ ws) r w h e =
        let sum : told + length (accepted (s ∷ rs)) ≡ told + length (documents_in s) + length (accepted rs) = omega (arith, length-append (documents_in s) (accepted rs)) in
        let next : n + length (s ∷ rs) ≡ suc n + length rs = omega arith in (
          h.0,
          waiting_push (told + length (documents_in s)) (suc n) rs ws r w h.1
              (subst (λ m. WaitsAs rules docs ps (told + length (documents_in s) + length (accepted rs)) m r w) next (subst (λ t. WaitsAs rules docs ps t (n + length (s ∷ rs)) r w) sum e)),
        )

    pub waiting_long : (told n : ℕ) (rs : List Reading) (ws : List Waiting) → AreWaiting rules docs ps told n rs ws → length rs ≡ length ws
    waiting_long told n [] [] h = refl
    waiting_long told n [] (w ∷ ws) h = absurd h
    waiting_long told n (r ∷ rs) [] h = absurd h
    waiting_long told n (r ∷ rs) (w ∷ ws) h = ap suc (waiting_long (told + length (documents_in r)) (suc n) rs ws h.1)

    -- ---- an answer

    -- another line waits in the place of one of this number
    pub waiting_set : (m told n : ℕ) (rs : List Reading) (ws : List Waiting) (at : ℕ) (w v : Waiting) → m ≡ n + at → slice_get ws at ≡ Some w
        → ((t : ℕ) (r : Reading) → WaitsAs rules docs ps t m r w → WaitsAs rules docs ps t m r v) → AreWaiting rules docs ps told n rs ws → AreWaiting rules docs ps told n rs (set ws at v)
    waiting_set m told n [] [] at w v is e f h = tt
    waiting_set m told n [] (x ∷ ws) at w v is e f h = absurd h
    waiting_set m told n (r ∷ rs) [] at w v is e f h = absurd h
    waiting_set m told n (r ∷ rs) (x ∷ ws) zero w v is e f h =
        let same : x ≡ w = cc in
        let here : n ≡ m = omega (arith, is) in
        (subst (λ i. WaitsAs rules docs ps told i r v) (sym here) (f told r (subst (λ i. WaitsAs rules docs ps told i r w) here (subst (WaitsAs rules docs ps told n r) same h.0))), h.1)
    waiting_set m told n (r ∷ rs) (x ∷ ws) (suc at) w v is e f h = (h.0, waiting_set m (told + length (documents_in r)) (suc n) rs ws at w v (omega (arith, is)) e f h.1)

    -- an answer under a line's number is one to its query: one alone was asked under it
    pub as_answered : (t n : ℕ) (r : Reading) (w : Waiting) (frame : Frame) (seen : ℕ) → HaveRisingNumbers ps → WasAsked ps n (query_of frame) (k_of frame) → Awaits w seen → seen ≤ length docs
        → ids_of frame ≡ answer (query_of frame) (k_of frame) (rules.sees (take seen docs)) → WaitsAs rules docs ps t n r w → WaitsAs rules docs ps t n r (waits.Answered seen frame)
    as_answered t n r waits.Nothing frame seen rising was a le ids h = absurd a
    as_answered t n r (waits.Refused x) frame seen rising was a le ids h = absurd a
    as_answered t n r (waits.Asked told) frame seen rising was a le ids h =
        let same = asked_once ps _ _ rising h.4.1 was.1 refl in
        let both = same_asks h.0 (query_of frame) h.1 (k_of frame) (ap (λ (p : Pair). p.asks) same) in
        (h.2 ∙ (λ i. query (Newest (both.1 i)) (both.0 i)), omega (arith, a, h.3), le, ids)
    as_answered t n r (waits.Answered s f) frame seen rising was a le ids h = absurd a
    as_answered t n r (waits.Counted c) frame seen rising was a le ids h = absurd a

  -- ---- a count

  -- over all documents, in buckets of which this is asked
  pub as_counted : (docs : List Doc) (ps : List Pair) (m : ℕ) (q : Tree) (x w n : ℕ) (old : Numbers) (c : Counted) → old.start ≡ x → old.width ≡ w → length old.buckets ≡ n → HasBucketsOf old c.tally
      → CountsAll rules docs q c.seen c.tally → WaitsAs rules (docs ++ []) ps (length docs) m (query (Counts x w n) q) (waits.Counted c)
  as_counted docs ps m q x w n old c start width long same counts =
      let all : docs ≡ take c.seen (docs ++ []) = sym (ap (take c.seen) (append-nil docs) ∙ take_all c.seen docs (omega (arith, counts.0))) in
      let first = same.start ∙ start in
      let wide = same.width ∙ width in
      let many = same.long ∙ long in (
        q,
        λ i. query (Counts (sym first i) (sym wide i) (sym many i)) q,
        omega (arith, counts.0),
        omega (arith, counts.0, length-append {A = Doc} docs []),
        subst (λ (ds : List Doc). AreCounts q (rules.sees ds) c.tally) all counts.1,
      )
