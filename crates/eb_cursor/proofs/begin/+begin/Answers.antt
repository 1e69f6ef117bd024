use Rattle.std.proofs.Common.{◌≡◌, ℕ, ◌+◌, ◌*◌, ◌-◌, ◌≤◌, List, length, Option, None, Some, ap, sym, subst, ◌∙◌, arith, rules, Bool, false, is_some, if◌then◌else◌, refl, [], ◌∷◌, slice_set}
use Rattle.std.proofs.lemmas.Bool.{false≢true}
use Rattle.eb_base.specs.Query.{Tree, tree, word, phrase, window, since, negation, conjunction, size, sizes, IsFormed, AreFormed}
use Rattle.eb_base.specs.declared.query.Query.{Query}
use Rattle.eb_place.specs.Postings.{places}
use Rattle.eb_cursor.specs.Asked.{trees_in}
use Rattle.eb_cursor.specs.Begun.{BegunLeaves, Begun}
use Rattle.eb_cursor.proofs.Tellings.{told_itself, told_as, told_on}
use Rattle.eb_cursor.proofs.Openings.{read_on}
use Rattle.eb_cursor.proofs.Steps.{tree_Word, tree_Phrase, tree_Window, tree_Since, tree_Not, tree_And, front_of}
use Rattle.eb_cursor.proofs.Begins.{begun_word, begun_phrase, begun_since, begun_not, begun_and, each_ends, each_goes, some_none, some_goes, front_clear, back_clear}
use Rattle.eb_place.proofs.LaterMoments.{later_on}
use Rattle.eb_cursor.specs.AndCosts.{all_opening_loads, rounds_cost}
use Rattle.eb_cursor.specs.Costs.{AllSpan, IsPaid, opening_loads}
use Rattle.eb_cursor.specs.declared.cursor.Cursor.{Cursor}
use Rattle.eb_cursor.proofs.AndLoads.{words_split, spans_join, cost_low, cost_most, leaf_span, no_spans, clear_spans, sizes_words, if_under}
use Rattle.eb_cursor.proofs.Owing.{all_span_later, opening_later, read_as_later}
use Rattle.eb_cursor.proofs.begin.+begin.Goals as goal

none_of : (o : Option ℕ) → is_some o ≡ false → o ≡ None
none_of None e = refl
none_of (Some x) e = absurd (false≢true (sym e))

pub begin-returns-in-Word-clause-begun : goal.begin-returns-in-Word-clause-begun
begin-returns-in-Word-clause-begun g t c = λ docs same.
    let i : tree c.args.query.now ≡ word c.in-Word.term = ap tree c.in-Word.is ∙ tree_Word c.in-Word.term in
    told_as g.met.P.Port.lawful (c.open_leaf-leaf.ensures.leaf docs) (λ m a. a)
    (λ m n w a leaf. begun_word n docs (tree c.args.query.now) c.in-Word.term c.args.cursors.now c.open_leaf-leaf.result c.is_some-some.result i (c.requires.fits ∙ ap size i) a.first.narrow
    (λ h. none_of c.open_leaf-leaf.result.current (sym c.is_some-some.ensures ∙ h)) leaf)

pub begin-returns-in-Phrase-clause-begun : goal.begin-returns-in-Phrase-clause-begun
begin-returns-in-Phrase-clause-begun g t c = λ docs same.
    let ts : List (List ℕ) = c.in-Phrase.terms in
    let i : tree c.args.query.now ≡ phrase ts = ap tree c.in-Phrase.is ∙ tree_Phrase ts in
    let slice : c.as_slice.result.now ≡ ts = c.as_slice.ensures in
    let few : length c.args.cursors.now ≡ length ts = c.requires.fits ∙ ap size i in
    let kept : length c.begin_leaves-all.new.cursors ≡ length c.args.cursors.now = c.begin_leaves-all.auto.cursors in
    let formed : 2 ≤ length ts = subst IsFormed i c.requires.formed in
    told_as g.met.P.Port.lawful (c.begin_leaves-all.ensures docs) (λ m a. a)
    (λ m n w a begun. begun_phrase n docs (tree c.args.query.now) ts c.begin_leaves-all.new.cursors _ c.end_if-upto.result _ _
    (places * length docs + 1 - length ts) c.begin_leaves-all.result i formed (omega (arith, few, c.requires.small.1)) (omega (arith, same, c.requires.small.0)) refl
    (c.end_if-upto.ensures ∙ ap (λ (k : ℕ). if c.begin_leaves-all.result then k else 0) (omega (arith, same, c.from-end.ensures, c.len.ensures))) (kept ∙ few) a.first.narrow
    (subst (λ (z : List (List ℕ)). BegunLeaves docs z c.begin_leaves-all.new.cursors c.begin_leaves-all.result n) slice begun))

pub begin-begin_window-requires : goal.begin-begin_window-requires
begin-begin_window-requires g t c =
    let ts : List (List ℕ) = c.in-Window.terms in
    let i : tree c.args.query.now ≡ window ts c.in-Window.field-1 = ap tree c.in-Window.is ∙ tree_Window ts c.in-Window.field-1 in
    let slice : length c.as_slice-in-Window.result.now ≡ length ts = ap length c.as_slice-in-Window.ensures in
    let formed : IsFormed (window ts c.in-Window.field-1) = subst IsFormed i c.requires.formed in
    let few : length c.args.cursors.now ≡ length ts = c.requires.fits ∙ ap size i in
    record { some = omega (arith, slice, formed.0); fits = few ∙ sym slice; first = c.requires.first }

pub begin-returns-in-Window-clause-begun : goal.begin-returns-in-Window-clause-begun
begin-returns-in-Window-clause-begun g t c = λ docs same.
    let i : tree c.args.query.now ≡ window c.as_slice-in-Window.result.now c.in-Window.field-1 = ap tree c.in-Window.is
    ∙ tree_Window c.in-Window.terms c.in-Window.field-1 ∙ ap (λ (z : List (List ℕ)). window z c.in-Window.field-1) (sym c.as_slice-in-Window.ensures) in
    told_as g.met.P.Port.lawful (c.begin_window.ensures c.in-Window.field-1 docs same) (λ m a. a)
    (λ m n w a begun. subst (λ (x : Tree). Begun docs x c.begin_window.new.cursors c.begin_window.result n) (sym i) begun)

pub begin-returns-in-Since-clause-begun : goal.begin-returns-in-Since-clause-begun
begin-returns-in-Since-clause-begun g t c = λ docs same.
    let i : tree c.args.query.now ≡ since c.in-Since.field-0 = ap tree c.in-Since.is ∙ tree_Since c.in-Since.field-0 in
    told_itself g.met.P.Port.keeps_itself (λ m a. begun_since m docs (tree c.args.query.now) c.in-Since.field-0 c.args.cursors.now c.begin_bound.new.cursor i
    (c.requires.fits ∙ ap size i) (c.begin_bound.ensures m docs c.in-Since.field-0 same a.first))

pub begin-begin_and-requires : goal.begin-begin_and-requires
begin-begin_and-requires g t c = λ κs lv.
    let i : tree c.args.query.now ≡ conjunction (trees_in c.as_slice-in-And.result.now) = ap tree c.in-And.is
    ∙ tree_And c.in-And.parts ∙ ap (λ (x : List Query). conjunction (trees_in x)) (sym c.as_slice-in-And.ensures) in (
      search rules,
      (search rules, (search rules, (c.requires.small, (c.requires.fits ∙ ap size i, (subst IsFormed i c.requires.formed, (c.requires.clear, c.requires.first)))))),
    )

pub begin-returns-in-And-clause-begun : goal.begin-returns-in-And-clause-begun
begin-returns-in-And-clause-begun g t c = λ docs same.
    let i : tree c.args.query.now ≡ conjunction (trees_in c.as_slice-in-And.result.now) = ap tree c.in-And.is
    ∙ tree_And c.in-And.parts ∙ ap (λ (x : List Query). conjunction (trees_in x)) (sym c.as_slice-in-And.ensures) in
    told_as g.met.P.Port.lawful (c.begin_and.ensures.begun docs same) (λ m a. a)
    (λ m n w a begun. subst (λ (x : Tree). Begun docs x c.begin_and.new.cursors c.begin_and.result n) (sym i) begun)

pub begin-returns-in-Some-clause-begun : goal.begin-returns-in-Some-clause-begun
begin-returns-in-Some-clause-begun g t c = λ docs same.
    let i : tree c.args.query.now ≡ negation (tree c.deref.result.now) = ap tree c.in-Not.is ∙ tree_Not c.in-Not.part ∙ ap (λ (x : Query). negation (tree x)) (sym c.deref.ensures) in
    told_as g.met.P.Port.lawful (c.begin.ensures.begun docs same) (λ m a. a)
    (λ m n w a begun. begun_not n docs (tree c.args.query.now) (tree c.deref.result.now) _ c.begin.new.cursors c.begin.result i (c.from-end.ensures ∙ sym same) begun)

-- ---- the parts of an and

pub begin_and-returns-clause-begun : goal.begin_and-returns-clause-begun
begin_and-returns-clause-begun g t c = λ docs same.
    let own = c.in-Some.own.now in
    let begins : Cursor = record { upto = c.end_if-own.result; lead = c.rarest_number-own.result; segment = own.segment; current = own.current; list = own.list } in
    told_as g.met.P.Port.lawful (c.begin_each-all.ensures.begun docs same) (λ m a. a)
    (λ m n w a begun. begun_and n docs (conjunction (trees_in c.args.parts.now)) (trees_in c.args.parts.now)
    begins c.begin_each-all.new.cursors c.from-end.result c.begin_each-all.result refl (c.from-end.ensures ∙ sym same) c.end_if-own.ensures begun)

pub begin_each-begin-requires : goal.begin_each-begin-requires
begin_each-begin-requires g t c = λ κs lv.
    let e = front_of c.args.parts.now c.in-Some.part.now c.in-Some.others.now c.args.cursors.now c.split_at_mut-own.result.0.now c.split_at_mut-own.result.1.now
    c.size.result c.in-Some.ensures.cases.0 c.size.ensures c.split_at_mut-own.ensures.front c.split_at_mut-own.ensures.back in
    let formed = subst AreFormed e.parts c.requires.formed in (
      search rules,
      (
        search rules,
        (
          search rules,
          (
            omega (arith, c.requires.small.0, c.requires.small.1, c.split_at_mut-own.ensures.front_len, c.split_at_mut-own.ensures.back_len),
            (
              omega (arith, c.split_at_mut-own.ensures.front_len, c.size.ensures),
              (
                formed.0,
                (
                  front_clear (trees_in c.args.parts.now) (tree c.in-Some.part.now)
                      (trees_in c.in-Some.others.now) c.args.cursors.now c.split_at_mut-own.result.0.now c.split_at_mut-own.result.1.now e c.requires.clear,
                  c.requires.first,
                ),
              ),
            ),
          ),
        ),
      ),
    )

pub begin_each-returns-then-not-begin-clause-begun : goal.begin_each-returns-then-not-begin-clause-begun
begin_each-returns-then-not-begin-clause-begun g t c = λ docs same.
    let e = front_of c.args.parts.now c.in-Some.part.now c.in-Some.others.now c.args.cursors.now c.split_at_mut-own.result.0.now c.split_at_mut-own.result.1.now
    c.size.result c.in-Some.ensures.cases.0 c.size.ensures c.split_at_mut-own.ensures.front c.split_at_mut-own.ensures.back in
    let formed = subst AreFormed e.parts c.requires.formed in
    let ended : c.begin.result ≡ false = c.if-not-begin.true in
    told_as g.met.P.Port.lawful (c.begin.ensures.begun docs same) (λ m a. a)
    (λ m n w a begun. each_ends n docs (trees_in c.args.parts.now) (tree c.in-Some.part.now)
    (trees_in c.in-Some.others.now) c.args.cursors.now c.split_at_mut-own.result.0.now c.split_at_mut-own.result.1.now c.begin.new.cursors e a.first.narrow formed.1
    (omega (arith, c.split_at_mut-own.ensures.back_len, c.size.ensures, c.requires.fits, ap sizes e.parts)) (back_clear (trees_in c.args.parts.now)
    (tree c.in-Some.part.now) (trees_in c.in-Some.others.now) c.args.cursors.now c.split_at_mut-own.result.0.now c.split_at_mut-own.result.1.now e c.requires.clear)
    (subst (λ (b : Bool). Begun docs (tree c.in-Some.part.now) c.begin.new.cursors b n) ended begun))

pub begin_each-begin_each-requires : goal.begin_each-begin_each-requires
begin_each-begin_each-requires g t c = λ κs lv.
    let r = c.requires.first in
    let x = (c.begin.ensures.begun r.1 r.4).told r.0 r.2 r.3 in
    let e = front_of c.args.parts.now c.in-Some.part.now c.in-Some.others.now c.args.cursors.now c.split_at_mut-own.result.0.now c.split_at_mut-own.result.1.now
    c.size.result c.in-Some.ensures.cases.0 c.size.ensures c.split_at_mut-own.ensures.front c.split_at_mut-own.ensures.back in
    let formed = subst AreFormed e.parts c.requires.formed in (
      search rules,
      (
        search rules,
        (
          search rules,
          (
            omega (arith, c.requires.small.0, c.requires.small.1, c.split_at_mut-own.ensures.front_len, c.split_at_mut-own.ensures.back_len),
            (
              omega (arith, c.split_at_mut-own.ensures.back_len, c.size.ensures, c.requires.fits, ap sizes e.parts),
              (
                formed.1,
                (
                  back_clear (trees_in c.args.parts.now) (tree c.in-Some.part.now)
                      (trees_in c.in-Some.others.now) c.args.cursors.now c.split_at_mut-own.result.0.now c.split_at_mut-own.result.1.now e c.requires.clear,
                  (x.0, r.1, x.1, read_on r.0 x.0 c.args.segment r.1 c.args.packed x.2 r.3, r.4),
                ),
              ),
            ),
          ),
        ),
      ),
    )

pub begin_each-returns-clause-begun : goal.begin_each-returns-clause-begun
begin_each-returns-clause-begun g t c = λ docs same.
    let e = front_of c.args.parts.now c.in-Some.part.now c.in-Some.others.now c.args.cursors.now c.split_at_mut-own.result.0.now c.split_at_mut-own.result.1.now
    c.size.result c.in-Some.ensures.cases.0 c.size.ensures c.split_at_mut-own.ensures.front c.split_at_mut-own.ensures.back in
    told_on g.met.P.Port.lawful g.met.P.Port.keeps_on (c.begin.ensures.begun docs same) (c.begin_each.ensures.begun docs same)
    (λ l a. a) (λ l m w a begun. read_on l m c.args.segment docs c.args.packed w.later a)
    (λ l m n w1 w2 a begun more. each_goes m n docs (trees_in c.args.parts.now) (tree c.in-Some.part.now) (trees_in c.in-Some.others.now)
    c.args.cursors.now c.split_at_mut-own.result.0.now c.split_at_mut-own.result.1.now c.begin.new.cursors c.begin_each.new.cursors c.begin.result c.begin_each.result e w2 begun more)

-- ---- the parts of an or

nil_of : (qs : List Query) → length qs ≡ 0 → qs ≡ []
nil_of [] e = refl
nil_of (q ∷ qs) e = absurd (omega arith)

pub begin_some-returns-in_default : goal.begin_some-returns-in_default
begin_some-returns-in_default g t c =
    λ docs same. told_itself g.met.P.Port.keeps_itself (λ m a. some_none m docs (trees_in c.args.parts.now) c.args.cursors.now (ap trees_in (nil_of _ c.in_default.ensures.cases)) c.requires.fits)

pub begin_some-begin-some-requires : goal.begin_some-begin-some-requires
begin_some-begin-some-requires g t c = λ κs lv.
    let e = front_of c.args.parts.now c.in-Some.part.now c.in-Some.others.now c.args.cursors.now c.split_at_mut-own.result.0.now c.split_at_mut-own.result.1.now
    c.size.result c.in-Some.ensures.cases.0 c.size.ensures c.split_at_mut-own.ensures.front c.split_at_mut-own.ensures.back in
    let formed = subst AreFormed e.parts c.requires.formed in (
      search rules,
      (
        search rules,
        (
          search rules,
          (
            omega (arith, c.requires.small.0, c.requires.small.1, c.split_at_mut-own.ensures.front_len, c.split_at_mut-own.ensures.back_len),
            (
              omega (arith, c.split_at_mut-own.ensures.front_len, c.size.ensures),
              (
                formed.0,
                (
                  front_clear (trees_in c.args.parts.now) (tree c.in-Some.part.now)
                      (trees_in c.in-Some.others.now) c.args.cursors.now c.split_at_mut-own.result.0.now c.split_at_mut-own.result.1.now e c.requires.clear,
                  c.requires.first,
                ),
              ),
            ),
          ),
        ),
      ),
    )

pub begin_some-begin_some-other-requires : goal.begin_some-begin_some-other-requires
begin_some-begin_some-other-requires g t c = λ κs lv.
    let r = c.requires.first in
    let x = (c.begin-some.ensures.begun r.1 r.4).told r.0 r.2 r.3 in
    let e = front_of c.args.parts.now c.in-Some.part.now c.in-Some.others.now c.args.cursors.now c.split_at_mut-own.result.0.now c.split_at_mut-own.result.1.now
    c.size.result c.in-Some.ensures.cases.0 c.size.ensures c.split_at_mut-own.ensures.front c.split_at_mut-own.ensures.back in
    let formed = subst AreFormed e.parts c.requires.formed in (
      search rules,
      (
        search rules,
        (
          search rules,
          (
            omega (arith, c.requires.small.0, c.requires.small.1, c.split_at_mut-own.ensures.front_len, c.split_at_mut-own.ensures.back_len),
            (
              omega (arith, c.split_at_mut-own.ensures.back_len, c.size.ensures, c.requires.fits, ap sizes e.parts),
              (
                formed.1,
                (
                  back_clear (trees_in c.args.parts.now) (tree c.in-Some.part.now)
                      (trees_in c.in-Some.others.now) c.args.cursors.now c.split_at_mut-own.result.0.now c.split_at_mut-own.result.1.now e c.requires.clear,
                  (x.0, r.1, x.1, read_on r.0 x.0 c.args.segment r.1 c.args.packed x.2 r.3, r.4),
                ),
              ),
            ),
          ),
        ),
      ),
    )

pub begin_some-returns-then-some : goal.begin_some-returns-then-some
begin_some-returns-then-some g t c = λ docs same.
    let e = front_of c.args.parts.now c.in-Some.part.now c.in-Some.others.now c.args.cursors.now c.split_at_mut-own.result.0.now c.split_at_mut-own.result.1.now
    c.size.result c.in-Some.ensures.cases.0 c.size.ensures c.split_at_mut-own.ensures.front c.split_at_mut-own.ensures.back in
    told_on g.met.P.Port.lawful g.met.P.Port.keeps_on (c.begin-some.ensures.begun docs same) (c.begin_some-other.ensures docs same)
    (λ l a. a) (λ l m w a begun. read_on l m c.args.segment docs c.args.packed w.later a)
    (λ l m n w1 w2 a begun more. some_goes m n docs (trees_in c.args.parts.now) (tree c.in-Some.part.now) (trees_in c.in-Some.others.now) c.args.cursors.now c.split_at_mut-own.result.0.now
    c.split_at_mut-own.result.1.now c.begin-some.new.cursors c.begin_some-other.new.cursors c.begin-some.result c.begin_some-other.result c.begin-some.result e
    (λ h. absurd (false≢true (sym h ∙ c.if-some.true))) w2 begun more)

pub begin_some-returns-else-some : goal.begin_some-returns-else-some
begin_some-returns-else-some g t c = λ docs same.
    let e = front_of c.args.parts.now c.in-Some.part.now c.in-Some.others.now c.args.cursors.now c.split_at_mut-own.result.0.now c.split_at_mut-own.result.1.now
    c.size.result c.in-Some.ensures.cases.0 c.size.ensures c.split_at_mut-own.ensures.front c.split_at_mut-own.ensures.back in
    told_on g.met.P.Port.lawful g.met.P.Port.keeps_on (c.begin-some.ensures.begun docs same) (c.begin_some-other.ensures docs same)
    (λ l a. a) (λ l m w a begun. read_on l m c.args.segment docs c.args.packed w.later a)
    (λ l m n w1 w2 a begun more. some_goes m n docs (trees_in c.args.parts.now) (tree c.in-Some.part.now) (trees_in c.in-Some.others.now) c.args.cursors.now c.split_at_mut-own.result.0.now
    c.split_at_mut-own.result.1.now c.begin-some.new.cursors c.begin_some-other.new.cursors c.begin-some.result c.begin_some-other.result c.begin_some-other.result e
    (λ h. (c.if-some.false, h)) w2 begun more)

-- ---- what the words of an and owe

pub begin-returns-in-Word-clause-spans : goal.begin-returns-in-Word-clause-spans
begin-returns-in-Word-clause-spans g t c = λ u e.
    let i : tree c.args.query.now ≡ word c.in-Word.term = ap tree c.in-Word.is ∙ tree_Word c.in-Word.term in
    let q : c.in-Word.term ≡ u = cc (sym i ∙ e) in
    let s = c.args.segment in
    record {
      told = λ m st h.
          let x = c.open_leaf-leaf.ensures.spans.told m st h in (
            x.0,
            x.1,
            x.2,
            x.3,
            subst (λ v. IsPaid (AllSpan x.0 s (v ∷ []) (slice_set c.args.cursors.now 0 c.open_leaf-leaf.result)) c.args.steps.now (opening_loads x.0 s v + 2) c.open_leaf-leaf.new.steps) q
                (x.4.0, leaf_span x.0 s c.in-Word.term c.args.cursors.now c.open_leaf-leaf.result x.4.0 (c.requires.fits ∙ ap size i) x.4.1, x.4.2),
          );
    }

pub begin_and-returns-in_default-clause-rounds : goal.begin_and-returns-in_default-clause-rounds
begin_and-returns-in_default-clause-rounds g t c = λ docs ts u e same. absurd (omega (arith, c.requires.fits, c.in_default.ensures.cases))

pub begin_and-returns-clause-rounds : goal.begin_and-returns-clause-rounds
begin_and-returns-clause-rounds g t c = λ docs ts u e same. record {
  told = λ m st h.
      let x = (c.begin_each-all.ensures.spans ts e).told m st h in
      let at : c.end_if-own.result ≤ length docs = omega (arith, c.end_if-own.ensures, if_under c.begin_each-all.result c.from-end.result, c.from-end.ensures, same) in
      let low = cost_low docs ts u c.end_if-own.result (length docs) at in
      (x.0, x.1, x.2, x.3, (x.4.0 + rounds_cost docs ts u c.end_if-own.result, (x.4.0, x.4.1, omega arith), omega (arith, x.4.2, low, cost_most docs ts u)));
}

pub begin_each-returns-in_default-clause-spans : goal.begin_each-returns-in_default-clause-spans
begin_each-returns-in_default-clause-spans g t c = λ ts e. told_itself g.met.P.Port.keeps_itself
    (λ m h. (0, no_spans m c.args.segment ts (trees_in c.args.parts.now) c.args.cursors.now (ap trees_in (nil_of _ c.in_default.ensures.cases)) e c.requires.fits, omega arith))

pub begin_each-returns-then-not-begin-clause-spans : goal.begin_each-returns-then-not-begin-clause-spans
begin_each-returns-then-not-begin-clause-spans g t c = λ ts e. record {
  told = λ m st h.
      let s = c.args.segment in
      let f = front_of c.args.parts.now c.in-Some.part.now c.in-Some.others.now c.args.cursors.now c.split_at_mut-own.result.0.now c.split_at_mut-own.result.1.now
      c.size.result c.in-Some.ensures.cases.0 c.size.ensures c.split_at_mut-own.ensures.front c.split_at_mut-own.ensures.back in
      let k = words_split ts (tree c.in-Some.part.now) (trees_in c.in-Some.others.now) (sym f.parts ∙ e) in
      let clear = back_clear (trees_in c.args.parts.now) (tree c.in-Some.part.now)
      (trees_in c.in-Some.others.now) c.args.cursors.now c.split_at_mut-own.result.0.now c.split_at_mut-own.result.1.now f c.requires.clear in
      let few : length c.split_at_mut-own.result.1.now ≡ length k.1 = omega (
        arith,
        c.split_at_mut-own.ensures.back_len,
        c.size.ensures,
        c.requires.fits,
        ap sizes f.parts,
        ap sizes k.4,
        sizes_words k.1,
      ) in
      let x = (c.begin.ensures.spans k.0 k.3).told m st h in
      let others = clear_spans x.0 s k.1 c.split_at_mut-own.result.1.now clear few in (
        x.0,
        x.1,
        x.2,
        x.3,
        (
          x.4.0 + 0,
          spans_join x.0 s ts k.0 k.1 c.begin.new.cursors c.split_at_mut-own.result.1.now x.4.0 0 k.2 x.4.1 others,
          omega (arith, x.4.2, ap (all_opening_loads x.0 s) k.2),
        ),
      );
}

pub begin_each-returns-clause-spans : goal.begin_each-returns-clause-spans
begin_each-returns-clause-spans g t c = λ ts e. record {
  told = λ m st h.
      let s = c.args.segment in
      let f = front_of c.args.parts.now c.in-Some.part.now c.in-Some.others.now c.args.cursors.now c.split_at_mut-own.result.0.now c.split_at_mut-own.result.1.now
      c.size.result c.in-Some.ensures.cases.0 c.size.ensures c.split_at_mut-own.ensures.front c.split_at_mut-own.ensures.back in
      let k = words_split ts (tree c.in-Some.part.now) (trees_in c.in-Some.others.now) (sym f.parts ∙ e) in
      let x = (c.begin.ensures.spans k.0 k.3).told m st h in
      let read = read_as_later m x.0 s c.args.packed x.2 h in
      let y = (c.begin_each.ensures.spans k.1 k.4).told x.0 x.1 read in
      let own = all_span_later x.0 y.0 s (k.0 ∷ []) c.begin.new.cursors x.4.0 (g.met.P.Port.lawful _ x.0 x.1) y.2 x.4.1 in
      let more = opening_later x.0 y.0 s k.0 (g.met.P.Port.lawful _ x.0 x.1) (g.met.P.Port.lawful _ y.0 y.1) y.2 read.inside in (
        y.0,
        y.1,
        later_on m x.0 y.0 x.2 y.2,
        g.met.P.Port.keeps_on _ _ _ m x.0 y.0 x.3 y.3,
        (
          x.4.0 + y.4.0,
          spans_join y.0 s ts k.0 k.1 c.begin.new.cursors c.begin_each.new.cursors x.4.0 y.4.0 k.2 own y.4.1,
          omega (arith, x.4.2, y.4.2, more, ap (all_opening_loads y.0 s) k.2),
        ),
      );
}
