-- What each kind of query says of its answer.
use Rattle.std.proofs.Common.{◌≡◌, Box, Global, ℕ, zero, suc, ◌-◌, ◌*◌, ◌<◌, ◌≤◌, Bool, true, false, not, max, min, List}
use Rattle.std.proofs.Common.{[], ◌∷◌, ◌++◌, take, drop, get_or, set, refl, sym, ap, ◌∙◌, subst, inl, inr, arith, rules}
use Rattle.std.proofs.lemmas.Bool.{cases_lt, and_parts}
use Rattle.eb_base.specs.Document.{Doc}
use Rattle.eb_base.specs.Query.{Tree, Trees, size, word, phrase, window, since, negation, conjunction, disjunction, no_trees, trees, tree, queries_of}
use Rattle.eb_base.specs.declared.query.Query.{Query, And, Or, Not, Word, Phrase, Window, Since, the_lemmas}
use Rattle.eb_base.specs.declared.query.Query.TheOpen.{Query-F}
use Rattle.eb_base.specs.declared.query.Query.TheViews.{out-Query, roll-Query, roll-out-Query, rolls-Word, rolls-Phrase, rolls-Window, rolls-Since, rolls-Not, rolls-And, rolls-Or}
use Rattle.eb_base.specs.declared.query.Queries.{Queries}
use Rattle.eb_place.specs.Postings.{places}
use Rattle.eb_cursor.specs.Tops.{top}
use Rattle.eb_cursor.specs.Lists.{Gives}
use Rattle.eb_cursor.specs.Posted.{is_posting, match_at, each_at, some_at, document_end}
use Rattle.eb_cursor.specs.Ready.{IsLeaf, IsOnly, IsPassed, Ready, AllReady}
use Rattle.eb_cursor.specs.Asked.{IsLed, IsRound, AreUnder, trees_in}
use Rattle.eb_cursor.specs.declared.cursor.Cursor.{Cursor}
use Rattle.eb_cursor.proofs.Tellings.{Later}
use Rattle.eb_cursor.proofs.Tops.{top_le, top_up, top_between, top_twice, top_skips, top_implied, top_and, top_or, top_not_here, top_not_past, top_here}
use Rattle.eb_cursor.proofs.Leaves.{leaf_lower}
use Rattle.eb_cursor.proofs.Readies.{ready_lower, all_lower, ready_later, all_later, all_front, all_join}
use Rattle.eb_cursor.proofs.Documents.{word_top}

pub tree_And : (qs : Queries) → tree (And qs) ≡ conjunction (trees_in (queries_of qs))
tree_And qs = search (rules, the_lemmas)

pub tree_Or : (qs : Queries) → tree (Or qs) ≡ disjunction (trees_in (queries_of qs))
tree_Or qs = search (rules, the_lemmas)

pub tree_Word : (t : List ℕ) → tree (Word t) ≡ word t
tree_Word t = search (rules, the_lemmas)

pub tree_Phrase : (ts : List (List ℕ)) → tree (Phrase ts) ≡ phrase ts
tree_Phrase ts = search (rules, the_lemmas)

pub tree_Window : (ts : List (List ℕ)) (w : ℕ) → tree (Window ts w) ≡ window ts w
tree_Window ts w = search (rules, the_lemmas)

pub tree_Since : (x : ℕ) → tree (Since x) ≡ since x
tree_Since x = search (rules, the_lemmas)

pub tree_Not : (b : Box Query Global) → tree (Not b) ≡ negation (tree b.value)
tree_Not b = search (rules, the_lemmas)

-- only a word's tree is a word
word_layer : (x : Query-F Query Queries) (q : Query) (t : List ℕ) → q ≡ roll-Query x → tree q ≡ word t → q ≡ Word t
word_layer (Query-F.Word u) q t r e = let i : q ≡ Word u = r ∙ rolls-Word u in i ∙ ap Word (cc (sym (ap tree i ∙ tree_Word u) ∙ e))
word_layer (Query-F.Phrase us) q t r e = absurd (cc (sym (ap tree (r ∙ rolls-Phrase us) ∙ tree_Phrase us) ∙ e))
word_layer (Query-F.Window us w) q t r e = absurd (cc (sym (ap tree (r ∙ rolls-Window us w) ∙ tree_Window us w) ∙ e))
word_layer (Query-F.Since x) q t r e = absurd (cc (sym (ap tree (r ∙ rolls-Since x) ∙ tree_Since x) ∙ e))
word_layer (Query-F.Not b) q t r e = absurd (cc (sym (ap tree (r ∙ rolls-Not b) ∙ tree_Not b) ∙ e))
word_layer (Query-F.And qs) q t r e = absurd (cc (sym (ap tree (r ∙ rolls-And qs) ∙ tree_And qs) ∙ e))
word_layer (Query-F.Or qs) q t r e = absurd (cc (sym (ap tree (r ∙ rolls-Or qs) ∙ tree_Or qs) ∙ e))

pub word_is : (q : Query) (t : List ℕ) → tree q ≡ word t → q ≡ Word t
word_is q t e = word_layer (out-Query q) q t (sym (roll-out-Query q)) e

-- nothing is left to pass
pub ended : (g : Gives) (docs : List Doc) (q : Tree) (cursors : List Cursor) (end last : ℕ) → end ≡ 0 → Ready g docs q cursors last → (0 ≡ top (match_at docs q) end) × Ready g docs q cursors end
ended g docs q cursors zero last e r = (refl, ready_lower g docs q cursors zero last (omega arith) r)
ended g docs q cursors (suc end) last e r = absurd (omega arith)

-- ---- words

pub word_asks : (g : Gives) (docs : List Doc) (t : List ℕ) (cursors : List Cursor) (d : Cursor) (end last : ℕ)
    → end ≤ last → IsOnly g docs t cursors last → IsLeaf g (is_posting docs t) (get_or cursors 0 d) (places * end)
word_asks g docs t [] d end last h r = absurd r
word_asks g docs t (s ∷ ss) d end last h r = leaf_lower g (is_posting docs t) s (places * end) (places * last) (omega arith) r.2

pub word_told : (g g' : Gives) (docs : List Doc) (t : List ℕ) (cursors : List Cursor) (s' : Cursor) (end last found : ℕ) → found ≡ top (is_posting docs t) (places * end)
    → IsLeaf g' (is_posting docs t) s' (places * end) → IsOnly g docs t cursors last → (document_end found ≡ top (match_at docs (word t)) end) × IsOnly g' docs t (set cursors 0 s') end
word_told g g' docs t [] s' end last found e leaf r = absurd r
word_told g g' docs t (s ∷ ss) s' end last found e leaf r = (ap document_end e ∙ sym (word_top docs r.1 t end), (r.0, r.1, leaf))

-- ---- what is passed

pub passed_min : (f : ℕ → Bool) (low end last : ℕ) → end ≤ last → IsPassed f low last → top f (min end low) ≡ top f end
passed_min f low end last h p = elim (cases_lt low end) [
  | inl k ↦ let e : min end low ≡ low = omega arith in
      let same : top f last ≡ top f low = p.same (omega arith) in
      let le : top f last ≤ end = omega (arith, top_le f low) in
      rw e (sym same ∙ sym (top_between f end last le h))
  | inr k ↦ let e : min end low ≡ end = omega arith in rw e refl
]

pub passed_again : (f : ℕ → Bool) (found end : ℕ) → found ≡ top f end → IsPassed f found end
passed_again f found end e = record { same = λ h. subst (λ x. top f end ≡ top f x) (sym e) (sym (top_twice f end)) }

-- ---- not

pub not_asks : (g : Gives) (docs : List Doc) (q' q : Tree) (cursors : List Cursor) (s : Cursor) (rest : List Cursor) (last : ℕ)
    → q' ≡ negation q → cursors ≡ s ∷ rest → Ready g docs q' cursors last → Ready g docs q rest s.upto
not_asks g docs q' q cursors s rest last i e r =
    let r1 : Ready g docs (negation q) cursors last = subst (λ x. Ready g docs x cursors last) i r in
    let r2 : Ready g docs (negation q) (s ∷ rest) last = subst (λ x. Ready g docs (negation q) x last) e r1 in r2.2

pub not_told : (g g' : Gives) (docs : List Doc) (q' q : Tree) (cursors : List Cursor) (s s' : Cursor) (rest rest' : List Cursor) (start end last found : ℕ)
    → q' ≡ negation q → cursors ≡ s ∷ rest → s'.upto ≡ found → end ≤ last → start ≡ min end s.upto
    → (found ≡ top (λ n. not (match_at docs q n)) start) × Ready g' docs q rest' found
    → Ready g docs q' cursors last → (found ≡ top (match_at docs q') end) × Ready g' docs q' (s' ∷ rest') end
not_told g g' docs q' q cursors s s' rest rest' start end last found i e u h least w r =
    let r1 : Ready g docs (negation q) cursors last = subst (λ x. Ready g docs x cursors last) i r in
    let r2 : Ready g docs (negation q) (s ∷ rest) last = subst (λ x. Ready g docs (negation q) x last) e r1 in
    let f : ℕ → Bool = λ n. not (match_at docs q n) in
    let top_is : found ≡ top f end = w.0 ∙ ap (top f) least ∙ passed_min f s.upto end last h r2.1 in
    let again : IsPassed f s'.upto end = subst (λ x. IsPassed f x end) (sym u) (passed_again f found end top_is) in
    let ready : Ready g' docs q rest' s'.upto = subst (λ x. Ready g' docs q rest' x) (sym u) w.1 in
    let all : Ready g' docs (negation q) (s' ∷ rest') end = (omega arith, again, ready) in
    (top_is ∙ ap (λ (x : Tree). top (match_at docs x) end) (sym i), subst (λ x. Ready g' docs x (s' ∷ rest') end) (sym i) all)

pub not_here : (f : ℕ → Bool) (place : ℕ) → 0 < place → top f place < place → place ≡ top (λ n. not (f n)) place
not_here f zero h k = absurd (omega arith)
not_here f (suc n) h k = sym (top_not_here f n (omega arith))

pub not_past : (f : ℕ → Bool) (place : ℕ) → 0 < place → place ≤ top f place → top (λ n. not (f n)) place ≡ top (λ n. not (f n)) (place - 1)
not_past f zero h k = absurd (omega arith)
not_past f (suc n) h k = let e : top f (suc n) ≡ suc n = omega (arith, top_le f (suc n)) in let m : suc n - 1 ≡ n = omega arith in rw m (top_not_past f n e)

-- ---- and

pub each_told : (g g' : Gives) (docs : List Doc) (q' : Tree) (qs : Trees) (cursors : List Cursor) (s s' : Cursor) (rest rest' : List Cursor) (start end last found : ℕ)
    → q' ≡ conjunction qs → cursors ≡ s ∷ rest → s'.upto ≡ found → end ≤ last → start ≡ min end s.upto
    → (found ≡ top (each_at docs qs) start) × AllReady g' docs qs rest' found
    → Ready g docs q' cursors last → (found ≡ top (match_at docs q') end) × Ready g' docs q' (s' ∷ rest') end
each_told g g' docs q' qs cursors s s' rest rest' start end last found i e u h least w r =
    let r1 : Ready g docs (conjunction qs) cursors last = subst (λ x. Ready g docs x cursors last) i r in
    let r2 : Ready g docs (conjunction qs) (s ∷ rest) last = subst (λ x. Ready g docs (conjunction qs) x last) e r1 in
    let top_is : found ≡ top (each_at docs qs) end = w.0 ∙ ap (top (each_at docs qs)) least ∙ passed_min (each_at docs qs) s.upto end last h r2.1 in
    let again : IsPassed (each_at docs qs) s'.upto end = subst (λ x. IsPassed (each_at docs qs) x end) (sym u) (passed_again (each_at docs qs) found end top_is) in
    let ready : AllReady g' docs qs rest' s'.upto = subst (λ x. AllReady g' docs qs rest' x) (sym u) w.1 in
    let all : Ready g' docs (conjunction qs) (s' ∷ rest') end = (omega arith, again, ready) in
    (top_is ∙ ap (λ (x : Tree). top (match_at docs x) end) (sym i), subst (λ x. Ready g' docs x (s' ∷ rest') end) (sym i) all)

pub each_asks : (g : Gives) (docs : List Doc) (q' : Tree) (qs : Trees) (cursors : List Cursor) (s : Cursor) (rest : List Cursor) (last : ℕ)
    → q' ≡ conjunction qs → cursors ≡ s ∷ rest → Ready g docs q' cursors last → AllReady g docs qs rest s.upto
each_asks g docs q' qs cursors s rest last i e r =
    let r1 : Ready g docs (conjunction qs) cursors last = subst (λ x. Ready g docs x cursors last) i r in
    let r2 : Ready g docs (conjunction qs) (s ∷ rest) last = subst (λ x. Ready g docs (conjunction qs) x last) e r1 in r2.2

pub top_all : (f : ℕ → Bool) → ((n : ℕ) → f n ≡ true) → (n : ℕ) → top f n ≡ n
top_all f w zero = refl
top_all f w (suc n) = top_here f n (w n)

under_up : (docs : List Doc) (qs : Trees) (a b found : ℕ) → a ≤ b → AreUnder docs qs a found → AreUnder docs qs b found
under_up docs no_trees a b found h k = tt
under_up docs (trees q qs) a b found h k = (omega (arith, k.0, top_up (match_at docs q) a b h), under_up docs qs a b found h k.1)

pub round_end : (g : Gives) (docs : List Doc) (qs : Trees) (cursors : List Cursor) (end last : ℕ) → qs ≡ no_trees → end ≤ last → AllReady g docs qs cursors last → IsRound g docs qs cursors end end
round_end g docs qs cursors end last e h r = record {
  falls = omega arith;
  same = refl;
  all = λ _. ap (λ (x : Trees). top (each_at docs x) end) e ∙ top_all (each_at docs no_trees) (λ n. refl) end;
  under = subst (λ x. AreUnder docs x end end) (sym e) tt;
  ready = all_lower g docs qs cursors end last h r;
}

pub round_step : (g1 g' : Gives) (docs : List Doc) (qs : Trees) (q : Tree) (qs' : Trees) (a b' : List Cursor) (end found1 found : ℕ)
    → qs ≡ trees q qs' → Later g1 g' → found1 ≡ top (match_at docs q) end → Ready g1 docs q a end → IsRound g' docs qs' b' found1 found → IsRound g' docs qs (a ++ b') end found
round_step g1 g' docs qs q qs' a b' end found1 found e w told ready more =
    let f : ℕ → Bool = match_at docs q in
    let h : ℕ → Bool = each_at docs qs' in
    let both : ℕ → Bool = each_at docs (trees q qs') in
    let skip : top both end ≡ top both found1 = subst (λ x. top both end ≡ top both x) (sym told) (top_skips f both (λ n p. (and_parts (f n) (h n) p).0) end) in
    let under : top both found1 ≤ found = omega (arith, top_implied h both (λ n p. (and_parts (f n) (h n) p).1) found1, more.same, top_le h found) in
    let same : top both end ≡ top both found = skip ∙ sym (top_between both found found1 under more.falls) in
    let le : found1 ≤ end = omega (arith, top_le f end) in
    let back : (x : Trees) → x ≡ trees q qs' → IsRound g' docs x (a ++ b') end found = λ x i. record {
      falls = omega (arith, more.falls);
      same = subst (λ y. top (each_at docs y) end ≡ top (each_at docs y) found) (sym i) same;
      all = λ k. let k1 : found1 ≡ end = omega (arith, more.falls) in
          let p : top f end ≡ end = sym told ∙ k1 in
          let p1 : top h found1 ≡ found1 = more.all (k ∙ sym k1) ∙ refl in
          let p2 : top h end ≡ end = subst (λ y. top h y ≡ y) k1 p1 in
          subst (λ y. top (each_at docs y) end ≡ end) (sym i) (top_and f h end p p2);
      under = subst (λ y. AreUnder docs y end found) (sym i) (omega (arith, told, more.falls), under_up docs qs' found1 end found le more.under);
      ready = all_join g' docs x q qs' a b' found i (ready_lower g' docs q a found end (omega (arith, more.falls)) (ready_later g1 g' w docs q a end ready)) more.ready;
    } in
    back qs e

under_down : (docs : List Doc) (qs : Trees) (end a b : ℕ) → b ≤ a → AreUnder docs qs end a → AreUnder docs qs end b
under_down docs no_trees end a b h k = tt
under_down docs (trees q qs) end a b h k = (omega (arith, k.0), under_down docs qs end a b h k.1)

-- the first part is asked after the others
pub round_behind : (g1 g' : Gives) (docs : List Doc) (qs : Trees) (q : Tree) (qs' : Trees) (a b' : List Cursor) (end found1 found : ℕ)
    → qs ≡ trees q qs' → Later g1 g' → IsRound g1 docs qs' b' end found1 → found ≡ top (match_at docs q) found1 → Ready g' docs q a found1 → IsRound g' docs qs (a ++ b') end found
round_behind g1 g' docs qs q qs' a b' end found1 found e w more told ready =
    let f : ℕ → Bool = match_at docs q in
    let h : ℕ → Bool = each_at docs qs' in
    let both : ℕ → Bool = each_at docs (trees q qs') in
    let under : top both end ≤ found1 = omega (arith, top_implied h both (λ n p. (and_parts (f n) (h n) p).1) end, more.same, top_le h found1) in
    let first : top both end ≡ top both found1 = sym (top_between both found1 end under more.falls) in
    let skip : top both found1 ≡ top both found = subst (λ x. top both found1 ≡ top both x) (sym told) (top_skips f both (λ n p. (and_parts (f n) (h n) p).0) found1) in
    let le : found ≤ found1 = omega (arith, told, top_le f found1) in
    let back : (x : Trees) → x ≡ trees q qs' → IsRound g' docs x (a ++ b') end found = λ x i. record {
      falls = omega (arith, more.falls);
      same = subst (λ y. top (each_at docs y) end ≡ top (each_at docs y) found) (sym i) (first ∙ skip);
      all = λ k. let k1 : found1 ≡ end = omega (arith, more.falls) in
          let p : top f end ≡ end = ap (top f) (sym k1) ∙ sym told ∙ k in
          subst (λ y. top (each_at docs y) end ≡ end) (sym i) (top_and f h end p (more.all k1));
      under = subst (λ y. AreUnder docs y end found) (sym i) (omega (arith, told, top_up f found1 end more.falls), under_down docs qs' end found1 found le more.under);
      ready = all_join g' docs x q qs' a b' found i (ready_lower g' docs q a found found1 le ready) (all_later g1 g' w docs qs' b' found (all_lower g1 docs qs' b' found found1 le more.ready));
    } in
    back qs e

-- no part leads
pub led_none : (g : Gives) (docs : List Doc) (qs : Trees) (cursors : List Cursor) (end last : ℕ) → end ≤ last → AllReady g docs qs cursors last → IsLed g docs qs cursors end end
led_none g docs qs cursors end last h r = record { falls = omega arith; most = top_le (each_at docs qs) end; ready = all_lower g docs qs cursors end last h r }

-- the first part leads
pub led_here : (g : Gives) (docs : List Doc) (qs : Trees) (q : Tree) (qs' : Trees) (a b : List Cursor) (end found : ℕ)
    → qs ≡ trees q qs' → found ≡ top (match_at docs q) end → Ready g docs q a end → AllReady g docs qs' b end → IsLed g docs qs (a ++ b) end found
led_here g docs qs q qs' a b end found e told ready others =
    let f : ℕ → Bool = match_at docs q in
    let h : ℕ → Bool = each_at docs qs' in
    let both : ℕ → Bool = each_at docs (trees q qs') in
    let under : top both end ≤ top f end = top_implied f both (λ n p. (and_parts (f n) (h n) p).0) end in
    let le : found ≤ end = omega (arith, top_le f end) in
    let most : top both end ≤ found = omega (arith, under, told) in
    record {
      falls = le;
      most = subst (λ y. top (each_at docs y) end ≤ found) (sym e) most;
      ready = all_join g docs qs q qs' a b found e (ready_lower g docs q a found end le ready) (all_lower g docs qs' b found end le others);
    }

-- a part after the first leads
pub led_there : (g : Gives) (docs : List Doc) (qs : Trees) (q : Tree) (qs' : Trees) (a b : List Cursor) (end last found : ℕ)
    → qs ≡ trees q qs' → end ≤ last → Ready g docs q a last → IsLed g docs qs' b end found → IsLed g docs qs (a ++ b) end found
led_there g docs qs q qs' a b end last found e i ready more =
    let f : ℕ → Bool = match_at docs q in
    let h : ℕ → Bool = each_at docs qs' in
    let both : ℕ → Bool = each_at docs (trees q qs') in
    let under : top both end ≤ top h end = top_implied h both (λ n p. (and_parts (f n) (h n) p).1) end in
    let most : top both end ≤ found = omega (arith, under, more.most) in
    record {
      falls = more.falls;
      most = subst (λ y. top (each_at docs y) end ≤ found) (sym e) most;
      ready = all_join g docs qs q qs' a b found e (ready_lower g docs q a found last (omega (arith, more.falls)) ready) more.ready;
    }

-- the leading part passed no match of all
pub led_top : (g : Gives) (docs : List Doc) (qs : Trees) (cursors : List Cursor) (end found : ℕ) → IsLed g docs qs cursors end found → top (each_at docs qs) found ≡ top (each_at docs qs) end
led_top g docs qs cursors end found led = top_between (each_at docs qs) found end led.most led.falls

-- ---- or

top_no : (f : ℕ → Bool) → ((n : ℕ) → f n ≡ false) → (n : ℕ) → 0 ≡ top f n
top_no f w zero = refl
top_no f w (suc n) = rw (w n) (top_no f w n)

pub some_end : (g : Gives) (docs : List Doc) (qs : Trees) (cursors : List Cursor) (end last : ℕ) → qs ≡ no_trees
    → end ≤ last → AllReady g docs qs cursors last → (0 ≡ top (some_at docs qs) end) × AllReady g docs qs cursors end
some_end g docs qs cursors end last e h r = (top_no (some_at docs no_trees) (λ n. refl) end ∙ ap (λ (x : Trees). top (some_at docs x) end) (sym e), all_lower g docs qs cursors end last h r)

pub some_step : (g1 g' : Gives) (docs : List Doc) (qs : Trees) (q : Tree) (qs' : Trees) (a b' : List Cursor) (end found1 found2 found : ℕ)
    → qs ≡ trees q qs' → Later g1 g' → found ≡ max found1 found2 → found1 ≡ top (match_at docs q) end → Ready g1 docs q a end → found2 ≡ top (some_at docs qs') end → AllReady g' docs qs' b' end
    → (found ≡ top (some_at docs qs) end) × AllReady g' docs qs (a ++ b') end
some_step g1 g' docs qs q qs' a b' end found1 found2 found e w m told ready told2 ready2 =
    let is : found ≡ top (some_at docs (trees q qs')) end = omega (arith, top_or (match_at docs q) (some_at docs qs') end) in
    (is ∙ ap (λ (x : Trees). top (some_at docs x) end) (sym e), all_join g' docs qs q qs' a b' end e (ready_later g1 g' w docs q a end ready) ready2)

pub some_asks : (g : Gives) (docs : List Doc) (q' : Tree) (qs : Trees) (cursors : List Cursor) (s : Cursor) (rest : List Cursor) (last : ℕ)
    → q' ≡ disjunction qs → cursors ≡ s ∷ rest → Ready g docs q' cursors last → AllReady g docs qs rest last
some_asks g docs q' qs cursors s rest last i e r =
    let r1 : Ready g docs (disjunction qs) cursors last = subst (λ x. Ready g docs x cursors last) i r in
    let r2 : Ready g docs (disjunction qs) (s ∷ rest) last = subst (λ x. Ready g docs (disjunction qs) x last) e r1 in r2.1

pub some_told : (g' : Gives) (docs : List Doc) (q' : Tree) (qs : Trees) (s' : Cursor) (rest' : List Cursor) (end found : ℕ)
    → q' ≡ disjunction qs → (found ≡ top (some_at docs qs) end) × AllReady g' docs qs rest' end → (found ≡ top (match_at docs q') end) × Ready g' docs q' (s' ∷ rest') end
some_told g' docs q' qs s' rest' end found i w =
    let all : Ready g' docs (disjunction qs) (s' ∷ rest') end = (omega arith, w.1) in
    (w.0 ∙ ap (λ (x : Tree). top (match_at docs x) end) (sym i), subst (λ x. Ready g' docs x (s' ∷ rest') end) (sym i) all)

-- ---- the first part, and those after it

-- the cursors of the first part, and those of the others
pub record IsFront (qs : Trees) (q : Tree) (qs' : Trees) (cursors own rest : List Cursor) : Type 0 where
  pub parts : qs ≡ trees q qs'
  pub front : own ≡ take (size q) cursors
  pub back : rest ≡ drop (size q) cursors

pub front_asks : (g : Gives) (docs : List Doc) (qs : Trees) (q : Tree) (qs' : Trees) (cursors own rest : List Cursor) (last : ℕ)
    → IsFront qs q qs' cursors own rest → AllReady g docs qs cursors last → Ready g docs q own last
front_asks g docs qs q qs' cursors own rest last e r = subst (λ x. Ready g docs q x last) (sym e.front) (all_front g docs qs q qs' cursors last e.parts r).0

pub others_ask : (g g' : Gives) (docs : List Doc) (qs : Trees) (q : Tree) (qs' : Trees) (cursors own rest : List Cursor) (end last : ℕ)
    → IsFront qs q qs' cursors own rest → Later g g' → end ≤ last → AllReady g docs qs cursors last → AllReady g' docs qs' rest end
others_ask g g' docs qs q qs' cursors own rest end last e w h r =
    let back = all_lower g' docs qs' (drop (size q) cursors) end last h (all_later g g' w docs qs' (drop (size q) cursors) last (all_front g docs qs q qs' cursors last e.parts r).1) in
    subst (λ x. AllReady g' docs qs' x end) (sym e.back) back

pub front_of : (qs : List Query) (q : Query) (qs' : List Query) (cursors own rest : List Cursor) (n : ℕ) → qs ≡ q ∷ qs'
    → n ≡ size (tree q) → own ≡ take n cursors → rest ≡ drop n cursors → IsFront (trees_in qs) (tree q) (trees_in qs') cursors own rest
front_of qs q qs' cursors own rest n e m a b = record {
  parts = ap trees_in e;
  front = a ∙ ap (λ (k : ℕ). take k cursors) m;
  back = b ∙ ap (λ (k : ℕ). drop k cursors) m;
}
