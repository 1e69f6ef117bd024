-- How far a call for the next line has come, and what was given then.
use Rattle.std.proofs.Common.{◌≡◌, ◌≢◌, ◌⊎◌, inl, inr, ℕ, ◌+◌, ◌<◌, ◌≤◌, Bool, true, false, List, [], ◌∷◌, ◌++◌, length, map, take, drop}
use Rattle.std.proofs.Common.{Option, refl, sym, ap, ◌∙◌, subst, le_refl, le_trans, append_assoc, append-nil, length-append, arith}
use Rattle.std.specs.Prelude.{if◌then◌else◌}
use Rattle.std.specs.List.{Contains}
use Rattle.std.proofs.lemmas.List.{take-append-drop, length-take-le, drop_at, get_or_append_left}
use Rattle.std.proofs.lemmas.List.Elements.{All-nil, All-append, Contains-append_right}
use Rattle.std.proofs.Math.Seq.{take-length, drop-length}
use Rattle.eb_io.specs.declared.lines.Next.{Next}
use Rattle.eb_io.specs.declared.lines.Next.TheVariants.{Line as ALine, LongLine, End, ReadFault, InputTooLong}
use Rattle.eb_io.specs.Source.{after, IsEmpty}
use Rattle.eb_io.specs.Lines.{Line, line_from, lines_of, whole_lines, are_too_many, IsUncut, IsFirstLf}
use Rattle.eb_io.specs.Held.{Part, kept_part, no_part, Held, IsDone, HasGiven, HasNoLine, HasAllLines, Tells, GivesLine}
use Rattle.eb_io.proofs.Bytes.{after-nil, after-after}
use Rattle.eb_io.proofs.Pieces.{pieces-uncut, lines_of-cut, lines_of-append, whole_lines-open}

-- the first bytes of the rest are gone
pub rest_dropped : (held now : Held) (p : Part) (t : List ℕ) (n : ℕ) → t ≡ drop n held.rest → held ≡ now
    → record held { part = p; rest = t } ≡ record now { part = p; rest = drop n now.rest }
rest_dropped held now p t n e same = ap (λ t. record held { part = p; rest = t }) e ∙ ap (λ (h : Held). record h { part = p; rest = drop n h.rest }) same

both_nil : (a b : List ℕ) → a ++ b ≡ [] → (a ≡ []) × (b ≡ [])
both_nil [] b e = (refl, e)
both_nil (x ∷ xs) b e = let no : ⊥ = cc in absurd no

-- how far a call has come: `seen` was taken from the source, and `before` went into the part
pub record Comes (first now : Held) (seen before : List ℕ) : Type 0 where
  pub taken : now.taken ≡ first.taken + length seen
  pub limit : now.limit ≡ first.limit
  pub uncut : IsUncut before
  pub bytes : first.rest ++ seen ≡ before ++ now.rest
  pub part : (begun : List ℕ) → first.part ≡ kept_part begun → now.part ≡ kept_part (begun ++ before)
  pub quiet : first.is_ended ≡ true → (seen ≡ []) × (now.is_ended ≡ true)
  pub line : now.line ≡ first.line

-- what the call did to the source
pub record Reads {S : Type 0} (old new : S) (left_old left_new : Option (List ℕ)) (faults_old faults_new : ℕ) (first now : Held) (seen : List ℕ) : Type 0 where
  pub left : left_old ≡ after seen left_new
  pub later : faults_old ≤ faults_new
  pub ended : now.is_ended ≡ true → (first.is_ended ≡ true) ⊎ IsEmpty left_new
  pub quiet : first.is_ended ≡ true → new ≡ old
  pub whole : Contains first.rest 10 → new ≡ old
  pub full : first.taken ≡ first.limit → new ≡ old

-- one iteration of the call after another
pub record Progress {S : Type 0} (old new : S) (left_old left_new : Option (List ℕ)) (faults_old faults_new : ℕ) (first now : Held) : Type 0 where
  pub seen : List ℕ
  pub before : List ℕ
  pub comes : Comes first now seen before
  pub reads : Reads old new left_old left_new faults_old faults_new first now seen

pub comes_first : (first : Held) → Comes first first [] []
comes_first first = record {
  taken = omega arith;
  limit = refl;
  uncut = All-nil (λ b. b ≢ 10);
  bytes = append-nil first.rest;
  part = λ begun e. e ∙ ap kept_part (sym (append-nil begun));
  quiet = λ e. (refl, e);
  line = refl;
}

pub reads_first : {S : Type 0} (s : S) (left : Option (List ℕ)) (faults : ℕ) (first : Held) → Reads s s left left faults faults first first []
reads_first s left faults first = record {
  left = sym (after-nil left);
  later = le_refl faults;
  ended = λ e. inl e;
  quiet = λ _. refl;
  whole = λ _. refl;
  full = λ _. refl;
}

-- the first bytes of the rest, none of them a LF, went into the part
pub comes_joined : (first now joined : Held) (seen before : List ℕ) (n : ℕ) → Comes first now seen before → IsUncut (take n now.rest)
    → now.rest ≡ take n now.rest ++ drop n now.rest
    → joined ≡ record now { part = joined.part; rest = drop n now.rest }
    → ((begun : List ℕ) → now.part ≡ kept_part begun → joined.part ≡ kept_part (begun ++ take n now.rest))
    → Comes first joined seen (before ++ take n now.rest)
comes_joined first now joined seen before n c uncut cut held part = record {
  taken = ap (λ (h : Held). h.taken) held ∙ c.taken;
  limit = ap (λ (h : Held). h.limit) held ∙ c.limit;
  uncut = All-append (λ b. b ≢ 10) before (take n now.rest) c.uncut uncut;
  bytes = c.bytes ∙ (ap (λ t. before ++ t) (cut ∙ ap (λ t. take n now.rest ++ t) (sym (ap (λ (h : Held). h.rest) held))) ∙ sym (append_assoc before (take n now.rest) joined.rest));
  part = λ begun e. part (begun ++ before) (c.part begun e) ∙ ap kept_part (append_assoc begun before (take n now.rest));
  quiet = λ e. ((c.quiet e).0, ap (λ (h : Held). h.is_ended) held ∙ (c.quiet e).1);
  line = ap (λ (h : Held). h.line) held ∙ c.line;
}

-- and then a read gave more, or the end
pub comes_filled : (first now filled : Held) (seen before : List ℕ) → Comes first now seen before → now.rest ≡ [] → now.is_ended ≡ false
    → filled ≡ record now { rest = filled.rest; taken = now.taken + length filled.rest; is_ended = filled.is_ended }
    → Comes first filled (seen ++ filled.rest) before
comes_filled first now filled seen before c none open_end held = record {
  taken = ap (λ (h : Held). h.taken) held ∙ omega (arith, c.taken, length-append seen filled.rest);
  limit = ap (λ (h : Held). h.limit) held ∙ c.limit;
  uncut = c.uncut;
  bytes = sym (append_assoc first.rest seen filled.rest) ∙ ap (λ t. t ++ filled.rest) (c.bytes ∙ (ap (λ t. before ++ t) none ∙ append-nil before));
  part = λ begun e. ap (λ (h : Held). h.part) held ∙ c.part begun e;
  quiet = λ e. let no : ⊥ = true_no_false (sym (c.quiet e).1 ∙ open_end) in absurd no;
  line = ap (λ (h : Held). h.line) held ∙ c.line;
}
  where
    true_no_false : true ≡ false → ⊥
    true_no_false e = cc

-- the bytes taken so far, with what this call took
pub has_given_so_far : (first now : Held) (taken seen before : List ℕ) (given : List Line) → HasGiven taken given first → Comes first now seen before
    → HasGiven (taken ++ seen) given now
has_given_so_far first now taken seen before given h c = record {
  front = h.front;
  begun = h.begun ++ before;
  bytes = ap (λ t. t ++ seen) h.bytes ∙ (regroup h.front h.begun first.rest seen ∙ (ap (λ t. h.front ++ (h.begun ++ t)) c.bytes ∙ ap (λ t. h.front ++ t) (sym (append_assoc h.begun before now.rest))));
  lines = h.lines;
  uncut = All-append (λ b. b ≢ 10) h.begun before h.uncut c.uncut;
  part = c.part h.begun h.part;
  whole = elim h.whole [ inl w ↦ inl w | inr d ↦ inr (still_done d) ];
  count = c.taken ∙ omega (arith, h.count, length-append taken seen);
}
  where
    regroup : (a b c d : List ℕ) → (a ++ (b ++ c)) ++ d ≡ a ++ (b ++ (c ++ d))
    regroup a b c d = simp append_assoc

    still_done : IsDone h.begun first → IsDone (h.begun ++ before) now
    still_done d =
        let none : first.rest ++ seen ≡ [] = ap (λ t. t ++ seen) d.rest ∙ (c.quiet d.ended).0 in
        let nothing = both_nil before now.rest (sym c.bytes ∙ none) in
        record { ended = (c.quiet d.ended).1; none = ap (λ t. t ++ before) d.none ∙ nothing.0; rest = nothing.1 }

-- the line that has begun ends at the LF that comes next
pub line_ended : (h after : Held) (taken : List ℕ) (given : List Line) (g : HasGiven taken given h) → h.rest ≡ 10 ∷ after.rest → after.part ≡ no_part
    → after.taken ≡ h.taken → HasGiven taken (given ++ line_from g.begun ∷ []) after
line_ended h after taken given g lf none same = elim g.whole [
  | inl w ↦ record {
    front = g.front ++ (g.begun ++ 10 ∷ []);
    begun = [];
    bytes = g.bytes ∙ (ap (λ t. g.front ++ (g.begun ++ t)) lf ∙ regroup g.front g.begun after.rest);
    lines = lines_of-append g.front (g.begun ++ 10 ∷ []) w ∙ (ap (λ t. t ++ lines_of (g.begun ++ 10 ∷ [])) g.lines ∙ ap (λ t. given ++ t) (lines_of-cut g.begun [] g.uncut));
    uncut = All-nil (λ b. b ≢ 10);
    part = none;
    whole = inl (inr (g.front ++ g.begun, sym (append_assoc g.front g.begun (10 ∷ []))));
    count = same ∙ g.count;
  }
  | inr d ↦ let no : ⊥ = cc in absurd no
]
  where
    regroup : (a b c : List ℕ) → a ++ (b ++ 10 ∷ c) ≡ (a ++ (b ++ 10 ∷ [])) ++ c
    regroup a b c = simp append_assoc

-- something of a line is kept as something
kept_some : (b : ℕ) (bs : List ℕ) → kept_part (b ∷ bs) ≡ no_part → ⊥
kept_some b bs e = cases (are_too_many (b ∷ bs)) e
  where
    cases : (t : Bool) → (if t then record { is_long = true; bytes = [] } else record { is_long = false; bytes = b ∷ bs }) ≡ no_part → ⊥
    cases true e = let f = ap (λ (p : Part). p.is_long) e in cc
    cases false e = let f = ap (λ (p : Part). p.bytes) e in cc

lines_of-begun : (begun : List ℕ) → begun ≢ [] → IsUncut begun → lines_of begun ≡ line_from begun ∷ []
lines_of-begun [] some uncut = absurd (some refl)
lines_of-begun (b ∷ bs) some uncut = ap (map line_from) (pieces-uncut b bs uncut)

-- the last line, which no LF ends
pub last_line : (h after : Held) (taken : List ℕ) (given : List Line) (g : HasGiven taken given h) → h.rest ≡ [] → (h.part ≡ no_part → ⊥)
    → after.part ≡ no_part → after.rest ≡ [] → after.is_ended ≡ true → after.taken ≡ h.taken → HasGiven taken (given ++ line_from g.begun ∷ []) after
last_line h after taken given g rest some none empty ended same =
    let begun : g.begun ≢ [] = λ e. some (g.part ∙ ap kept_part e) in
    let bytes : taken ≡ g.front ++ g.begun = g.bytes ∙ ap (λ t. g.front ++ t) (ap (λ t. g.begun ++ t) rest ∙ append-nil g.begun) in
    elim g.whole [
      | inl w ↦ record {
        front = taken;
        begun = [];
        bytes = sym (append-nil taken) ∙ ap (λ t. taken ++ t) (sym empty);
        lines = ap lines_of bytes ∙ (lines_of-append g.front g.begun w ∙ (ap (λ t. t ++ lines_of g.begun) g.lines ∙ ap (λ t. given ++ t) (lines_of-begun g.begun begun g.uncut)));
        uncut = All-nil (λ b. b ≢ 10);
        part = none;
        whole = inr (record { ended = ended; none = refl; rest = empty });
        count = same ∙ g.count;
      }
      | inr d ↦ absurd (begun d.none)
    ]

-- an answer that gives the line says which line it is
pub given_tells : (r : Next) (h : Held) (taken : List ℕ) (given : List Line) (l : Line) → GivesLine r h.line l → HasGiven taken (given ++ l ∷ []) h
    → Tells r taken given h
given_tells ALine h taken given l e g = subst (λ l. HasGiven taken (given ++ l ∷ []) h) e g
given_tells LongLine h taken given l e g = subst (λ l. HasGiven taken (given ++ l ∷ []) h) e g
given_tells End h taken given l never g = absurd never
given_tells ReadFault h taken given l never g = absurd never
given_tells InputTooLong h taken given l never g = absurd never

-- nothing is held at the end
pub has_all_lines : (h : Held) (taken : List ℕ) (given : List Line) → HasGiven taken given h → h.rest ≡ [] → ((h.part ≡ no_part → ⊥) → ⊥) → h.is_ended ≡ true
    → HasAllLines taken given h
has_all_lines h taken given g rest none ended =
    let bytes : taken ≡ g.front ++ g.begun = g.bytes ∙ ap (λ t. g.front ++ t) (ap (λ t. g.begun ++ t) rest ∙ append-nil g.begun) in
    let begun : g.begun ≡ [] = nothing g.begun (λ some. none (λ e. some (sym g.part ∙ e))) in
    record {
      has = g;
      all = ap lines_of (bytes ∙ (ap (λ t. g.front ++ t) begun ∙ append-nil g.front)) ∙ g.lines;
      ended = ended;
    }
  where
    nothing : (begun : List ℕ) → ((kept_part begun ≡ no_part → ⊥) → ⊥) → begun ≡ []
    nothing [] some = refl
    nothing (b ∷ bs) some = absurd (some (kept_some b bs))

-- nothing is held but a line that has begun
pub has_no_line : (h : Held) (taken : List ℕ) (given : List Line) → HasGiven taken given h → h.rest ≡ [] → h.is_ended ≡ false → HasNoLine taken given h
has_no_line h taken given g rest open_end =
    let bytes : taken ≡ g.front ++ g.begun = g.bytes ∙ ap (λ t. g.front ++ t) (ap (λ t. g.begun ++ t) rest ∙ append-nil g.begun) in
    elim g.whole [
      | inl w ↦ record { has = g; whole = ap whole_lines bytes ∙ (whole_lines-open g.front g.begun w g.uncut ∙ g.lines); open_end = open_end }
      | inr d ↦ let no : ⊥ = cc (d.ended, open_end) in absurd no
    ]

-- all that was held, which has no LF, went into the part
pub comes_all : (first now joined : Held) (seen before : List ℕ) (n : ℕ) → Comes first now seen before → n ≡ length now.rest → IsUncut now.rest
    → joined ≡ record now { part = joined.part; rest = drop n now.rest }
    → ((begun : List ℕ) → now.part ≡ kept_part begun → joined.part ≡ kept_part (begun ++ take n now.rest))
    → Comes first joined seen (before ++ take n now.rest) × (joined.rest ≡ [])
comes_all first now joined seen before n c all uncut held part =
    let whole : take n now.rest ≡ now.rest = ap (λ n. take n now.rest) all ∙ take-length now.rest in (
      comes_joined first now joined seen before n c (subst IsUncut (sym whole) uncut) (sym (take-append-drop n now.rest)) held part,
      ap (λ (h : Held). h.rest) held ∙ (ap (λ n. drop n now.rest) all ∙ drop-length now.rest),
    )

pub reads_filled : {S : Type 0} (old mid new : S) (left_old left_mid left_new : Option (List ℕ)) (faults_old faults_mid faults_new : ℕ) (first now filled : Held) (seen more : List ℕ)
    → Reads old mid left_old left_mid faults_old faults_mid first now seen → left_mid ≡ after more left_new → faults_mid ≤ faults_new
    → (filled.is_ended ≡ true → IsEmpty left_new) → (first.is_ended ≡ true → ⊥) → (Contains first.rest 10 → ⊥) → (first.taken ≡ first.limit → ⊥)
    → Reads old new left_old left_new faults_old faults_new first filled (seen ++ more)
reads_filled old mid new left_old left_mid left_new faults_old faults_mid faults_new first now filled seen more r left later ended open_end uncut room = record {
  left = r.left ∙ (ap (after seen) left ∙ after-after seen more left_new);
  later = le_trans r.later later;
  ended = λ e. inr (ended e);
  quiet = λ e. absurd (open_end e);
  whole = λ e. absurd (uncut e);
  full = λ e. absurd (room e);
}

-- where all that was held went into the part, no LF was held
pub none_held : (first now : Held) (seen before : List ℕ) → Comes first now seen before → now.rest ≡ [] → Contains first.rest 10 → ⊥
none_held first now seen before c none (k, within, is) =
    let all : first.rest ++ seen ≡ before = c.bytes ∙ (ap (λ t. before ++ t) none ∙ append-nil before) in
    let uncut = subst IsUncut (sym all) c.uncut in
    uncut k 10 (omega (arith, within, length-append first.rest seen)) (get_or_append_left first.rest seen 10 k within ∙ is)

-- where the line is found in what is held, the rest begins with its LF
pub lf_next : (rest : List ℕ) (n : ℕ) → n < length rest → rest ≡ take n rest ++ 10 ∷ drop (n + 1) rest → drop n rest ≡ 10 ∷ drop (n + 1) rest
lf_next rest n lt e =
    let len : length (take n rest) ≡ n = length-take-le n rest (omega arith) in
    ap (drop n) e ∙ drop_at (take n rest) (10 ∷ drop (n + 1) rest) n len

-- the line that was found is given
pub tells_whole : (joined passed new : Held) (r : Next) (taken : List ℕ) (given : List Line) (rest : List ℕ) → HasGiven taken given joined → joined.rest ≡ 10 ∷ rest
    → passed ≡ record joined { rest = drop 1 joined.rest } → new ≡ record passed { part = no_part; line = new.line }
    → ((begun : List ℕ) → passed.part ≡ kept_part begun → GivesLine r new.line (line_from begun)) → Tells r taken given new
tells_whole joined passed new r taken given rest g lf pass held gives =
    let after_lf : new.rest ≡ rest = ap (λ (h : Held). h.rest) held ∙ (ap (λ (h : Held). h.rest) pass ∙ ap (drop 1) lf) in
    given_tells r new taken given _ (gives g.begun (ap (λ (h : Held). h.part) pass ∙ g.part))
    (line_ended joined new taken given g (lf ∙ ap (λ t. 10 ∷ t) (sym after_lf)) (ap (λ (h : Held). h.part) held)
    (ap (λ (h : Held). h.taken) held ∙ ap (λ (h : Held). h.taken) pass))

-- the last line, which no LF ends, is given
pub tells_last : (joined new : Held) (r : Next) (taken : List ℕ) (given : List Line) → HasGiven taken given joined → joined.rest ≡ [] → joined.is_ended ≡ true
    → joined.part ≢ no_part → new ≡ record joined { part = no_part; line = new.line }
    → ((begun : List ℕ) → joined.part ≡ kept_part begun → GivesLine r new.line (line_from begun)) → Tells r taken given new
tells_last joined new r taken given g rest ended some held gives =
    given_tells r new taken given _ (gives g.begun g.part)
    (last_line joined new taken given g rest some (ap (λ (h : Held). h.part) held) (ap (λ (h : Held). h.rest) held ∙ rest)
    (ap (λ (h : Held). h.is_ended) held ∙ ended) (ap (λ (h : Held). h.taken) held))

-- where as many bytes were taken as may be when the call began, it has taken none
none_seen : (first now : Held) (seen before : List ℕ) → Comes first now seen before → first.taken ≡ first.limit → now.taken ≤ now.limit → seen ≡ []
none_seen first now [] before c full within = refl
none_seen first now (b ∷ bs) before c full within = let t = c.taken in let l = c.limit in absurd (omega (arith, t, l, full, within))

-- and where its place of a LF was held, it is held from the beginning
pub lf_held : (first now : Held) (seen before : List ℕ) (n : ℕ) → Comes first now seen before → first.taken ≡ first.limit → now.taken ≤ now.limit → n < length now.rest
    → now.rest ≡ take n now.rest ++ 10 ∷ drop (n + 1) now.rest → Contains first.rest 10
lf_held first now seen before n c full within lt cut =
    let none = none_seen first now seen before c full within in
    let held : first.rest ≡ (before ++ take n now.rest) ++ 10 ∷ drop (n + 1) now.rest =
    sym (append-nil first.rest) ∙ ap (λ t. first.rest ++ t) (sym none) ∙ c.bytes ∙ ap (λ t. before ++ t) cut ∙ sym (append_assoc before (take n now.rest) (10 ∷ drop (n + 1) now.rest)) in
    subst (λ xs. Contains xs 10) (sym held) (Contains-append_right (before ++ take n now.rest) (10 ∷ drop (n + 1) now.rest) 10 (0, omega arith, refl))

-- bytes with a first LF have one, and uncut bytes have none
pub lf_contained : (rest : List ℕ) (n : ℕ) → IsFirstLf rest n → Contains rest 10
lf_contained rest n lf = subst (λ xs. Contains xs 10) (sym lf.cut) (Contains-append_right (take n rest) (10 ∷ drop (n + 1) rest) 10 (0, omega arith, refl))

pub uncut_contains : (rest : List ℕ) → IsUncut rest → Contains rest 10 → ⊥
uncut_contains rest uncut (k, within, is) = uncut k 10 within is
