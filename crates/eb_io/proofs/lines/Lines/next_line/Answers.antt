use Rattle.std.proofs.Common.{◌≡◌, ◌≢◌, ◌+◌, inl, inr, false, [], ◌∷◌, ◌++◌, length, take, drop, sym, ap, ◌∙◌, arith}
use Rattle.std.proofs.lemmas.List.{take-append-drop}
use Rattle.eb_io.specs.Source.{after}
use Rattle.eb_io.specs.Held.{Held}
use Rattle.eb_io.proofs.Bytes.{after-after}
use Rattle.eb_io.proofs.Given.{lf_held, comes_first, reads_first, comes_joined, comes_all, comes_filled, reads_filled}
use Rattle.eb_io.proofs.Given.{none_held, has_given_so_far, lf_next, tells_whole, tells_last, has_all_lines, has_no_line}
use Rattle.eb_io.proofs.lines.Lines.next_line.Goals as goal

pub pieces-init : goal.pieces-init
pieces-init g c =
    record { seen = []; before = []; comes = comes_first c.args.self.now; reads = reads_first _ _ _ _ }

pub returns-in-Some-clause-told : goal.returns-in-Some-clause-told
returns-in-Some-clause-told g c = λ before given has.
    let inv = c.pieces.invariant in
    let now = c.pieces.self in
    let joined = c.join.new.self in
    let n = c.in-Some.count in
    let place = c.in-Some.ensures.place in
    let comes = comes_joined c.args.self.now now joined inv.seen inv.before n inv.comes place.uncut (sym (take-append-drop n now.rest)) c.join.ensures.held c.join.ensures.part in
    let lf : joined.rest ≡ 10 ∷ drop (n + 1) now.rest = ap (λ (h : Held). h.rest) c.join.ensures.held ∙ lf_next now.rest n place.within place.cut in (
      inv.seen,
      inv.reads.left,
      tells_whole joined c.pass.new.self c.give.new.self c.give.result (before ++ inv.seen) given _
          (has_given_so_far _ _ before inv.seen _ given has comes) lf c.pass.ensures c.give.ensures.held c.give.ensures.given,
    )

pub returns-then-has_part-clause-told : goal.returns-then-has_part-clause-told
returns-then-has_part-clause-told g c = λ before given has.
    let inv = c.pieces.invariant in
    let joined = c.join-in-pieces.new.self in
    let comes =
    comes_all c.args.self.now c.pieces.self joined inv.seen inv.before _ inv.comes c.rest_len-all.ensures c.in_default.ensures.place c.join-in-pieces.ensures.held c.join-in-pieces.ensures.part in
    let give = c.give-then-has_part in (
      inv.seen,
      inv.reads.left,
      tells_last joined give.new.self give.result (before ++ inv.seen) given (has_given_so_far _ _ before inv.seen _ given has comes.0) comes.1
          (sym c.is_ended.ensures.ended ∙ c.if-is_ended.true) (c.has_part.ensures.0 c.if-has_part.true) give.ensures.held give.ensures.given,
    )

pub returns-else-has_part-clause-told : goal.returns-else-has_part-clause-told
returns-else-has_part-clause-told g c = λ before given has.
    let inv = c.pieces.invariant in
    let joined = c.join-in-pieces.new.self in
    let comes =
    comes_all c.args.self.now c.pieces.self joined inv.seen inv.before _ inv.comes c.rest_len-all.ensures c.in_default.ensures.place c.join-in-pieces.ensures.held c.join-in-pieces.ensures.part in
    let so_far = has_given_so_far _ _ before inv.seen _ given has comes.0 in
    let ended = sym c.is_ended.ensures.ended ∙ c.if-is_ended.true in (
      inv.seen,
      inv.reads.left,
      (
        has_all_lines joined (before ++ inv.seen) given so_far comes.1
            (λ some. let yes = c.has_part.ensures.1 some in cc (yes, c.if-has_part.false)) ended,
        omega (arith, so_far.count, c.is_ended.ensures.short ended),
      ),
    )

pub returns-then-is_full-clause-told : goal.returns-then-is_full-clause-told
returns-then-is_full-clause-told g c = λ before given has.
    let inv = c.pieces.invariant in
    let joined = c.join-in-pieces.new.self in
    let comes =
    comes_all c.args.self.now c.pieces.self joined inv.seen inv.before _ inv.comes c.rest_len-all.ensures c.in_default.ensures.place c.join-in-pieces.ensures.held c.join-in-pieces.ensures.part in
    let so_far = has_given_so_far _ _ before inv.seen _ given has comes.0 in (
      inv.seen,
      inv.reads.left,
      (
        has_no_line joined (before ++ inv.seen) given so_far comes.1 (sym c.is_ended.ensures.ended ∙ c.if-is_ended.false),
        sym so_far.count ∙ c.is_full.ensures.full.0 c.if-is_full.true,
      ),
    )

pub returns-in-Failed-clause-told : goal.returns-in-Failed-clause-told
returns-in-Failed-clause-told g c = λ before given has.
    let inv = c.pieces.invariant in
    let first = c.args.self.now in
    let joined = c.join-in-pieces.new.self in
    let more = c.fill.new.self in
    let comes = comes_all first c.pieces.self joined inv.seen inv.before _ inv.comes c.rest_len-all.ensures c.in_default.ensures.place c.join-in-pieces.ensures.held c.join-in-pieces.ensures.part in
    let open_end : joined.is_ended ≡ false = sym c.is_ended.ensures.ended ∙ c.if-is_ended.false in
    let filled = comes_filled first joined more inv.seen _ comes.0 comes.1 open_end c.fill.ensures.held in
    let so_far = has_given_so_far _ _ before _ _ given has filled in
    let failed = c.fill.ensures.failed c.in-Failed.is in
    let still_open : more.is_ended ≡ false = c.fill.ensures.open_end (λ end. cc (end, c.in-Failed.is)) ∙ open_end in
    let room : joined.taken ≢ joined.limit = λ e. let full = c.is_full.ensures.full.1 e in cc (full, c.if-is_full.false) in
    let taken = ap (λ (h : Held). h.taken) c.fill.ensures.held in
    let limit = ap (λ (h : Held). h.limit) c.fill.ensures.held in (
      inv.seen ++ more.rest,
      inv.reads.left ∙ (ap (after inv.seen) c.fill.ensures.left ∙ after-after inv.seen more.rest _),
      (has_no_line more _ given so_far failed still_open, omega (arith, so_far.count, taken, ap length failed, limit, room, c.is_full.ensures.within)),
    )

pub pieces-preserved : goal.pieces-preserved
pieces-preserved g c =
    let inv = c.pieces.invariant in
    let first = c.args.self.now in
    let joined = c.join-in-pieces.new.self in
    let more = c.fill.new.self in
    let comes = comes_all first c.pieces.self joined inv.seen inv.before _ inv.comes c.rest_len-all.ensures c.in_default.ensures.place c.join-in-pieces.ensures.held c.join-in-pieces.ensures.part in
    let open_end : joined.is_ended ≡ false = sym c.is_ended.ensures.ended ∙ c.if-is_ended.false in
    let filled = comes_filled first joined more inv.seen _ comes.0 comes.1 open_end c.fill.ensures.held in
    record {
      seen = inv.seen ++ more.rest;
      before = inv.before ++ take c.rest_len-all.result c.pieces.self.rest;
      comes = filled;
      reads = reads_filled _ _ _ _ _ _ _ _ _ first c.pieces.self more inv.seen more.rest inv.reads c.fill.ensures.left c.fill.ensures.later
          (λ e. elim (c.fill.ensures.empty e) [ inl old ↦ absurd (let no : ⊥ = cc (old, open_end) in no) | inr none ↦ none ])
          (λ e. let was = (comes.0.quiet e).1 in cc (was, open_end))
          (none_held first joined inv.seen _ comes.0 comes.1)
          (λ e. let t = comes.0.taken in let l = comes.0.limit in let full : joined.taken ≡ joined.limit = omega (arith, t, l, e, c.is_full.ensures.within) in
          let yes_is = c.is_full.ensures.full.1 full in cc (yes_is, c.if-is_full.false));
    }

pub returns-in-Some-clause-full : goal.returns-in-Some-clause-full
returns-in-Some-clause-full g c = c.pieces.invariant.reads.full

pub returns-in-Some-clause-too_long : goal.returns-in-Some-clause-too_long
returns-in-Some-clause-too_long g c = λ full open_end none.
    let inv = c.pieces.invariant in
    let place = c.in-Some.ensures.place in
    absurd (none (lf_held c.args.self.now c.pieces.self inv.seen inv.before c.in-Some.count inv.comes full c.find.ensures.within place.within place.cut))

pub returns-in-Some-clause-short : goal.returns-in-Some-clause-short
returns-in-Some-clause-short g c =
    let ended = ap (λ (h : Held). h.is_ended) c.give.ensures.held ∙ ap (λ (h : Held). h.is_ended) c.pass.ensures ∙ ap (λ (h : Held). h.is_ended) c.join.ensures.held in
    let taken = ap (λ (h : Held). h.taken) c.give.ensures.held ∙ ap (λ (h : Held). h.taken) c.pass.ensures ∙ ap (λ (h : Held). h.taken) c.join.ensures.held in
    let limit = ap (λ (h : Held). h.limit) c.give.ensures.held ∙ ap (λ (h : Held). h.limit) c.pass.ensures ∙ ap (λ (h : Held). h.limit) c.join.ensures.held in
    λ e. let short = c.find.ensures.short (sym ended ∙ e) in omega (arith, taken, limit, short)

pub returns-then-is_full-clause-full : goal.returns-then-is_full-clause-full
returns-then-is_full-clause-full g c = c.pieces.invariant.reads.full

pub returns-in-Failed-clause-whole : goal.returns-in-Failed-clause-whole
returns-in-Failed-clause-whole g c = λ lf.
    let inv = c.pieces.invariant in
    let first = c.args.self.now in
    let joined = c.join-in-pieces.new.self in
    let comes = comes_all first c.pieces.self joined inv.seen inv.before _ inv.comes c.rest_len-all.ensures c.in_default.ensures.place c.join-in-pieces.ensures.held c.join-in-pieces.ensures.part in
    absurd (none_held first joined inv.seen _ comes.0 comes.1 lf)
