use Rattle.std.proofs.Common.{◌≡◌, ℕ, List, ◌+◌, ◌-◌, ◌∷◌, ◌++◌, [], length, take, drop, sym, ap, ◌∙◌, arith}
use Rattle.eb_image.proofs.Decode.{part_terms, part_len, step}
use Rattle.eb_image.proofs.part.terms_of.Goals as goal

pub terms-init : goal.terms-init
terms-init c =
    let p = c.requires.part in
    record {
      so_far = λ d fd e. c.new-terms.ensures;
      rest = λ d fd e. ap (drop 11) e ∙ part_terms d;
      within = omega (arith, ap length p.is, part_len p.document);
    }

pub two_bytes_at-requires : goal.two_bytes_at-requires
two_bytes_at-requires c = omega (arith, c.terms.invariant.within, c.requires.within)

pub slice_bounds-new-end : goal.slice_bounds-new-end
slice_bounds-new-end c =
    let p = c.requires.part in
    let d = p.document in
    let s = step c.args.bytes.now c.terms.at c.terms.counter d.terms (omega (arith, c.requires.count d p.within p.is)) (omega (arith, p.within.limits.bytes))
    c.terms.invariant.within (c.terms.invariant.rest d p.within p.is) in
    omega (arith, s.within, s.number, c.two_bytes_at.ensures.value)

pub terms-preserved : goal.terms-preserved
terms-preserved c =
    let p = c.requires.part in
    let inv = c.terms.invariant in
    let num = c.two_bytes_at.ensures.value in
    record {
      so_far = λ d fd e.
          let s = step c.args.bytes.now c.terms.at c.terms.counter d.terms (omega (arith, c.requires.count d fd e)) (omega (arith, fd.limits.bytes)) inv.within (inv.rest d fd e) in
          let n : (c.terms.at + 2 + c.two_bytes_at.result) - (c.terms.at + 2) ≡ length s.term = omega (arith, num, s.number) in
          c.in_ok-push.ensures.ok ∙ (ap (λ (ts : List (List ℕ)). ts ++ c.in_ok-term.term ∷ []) (inv.so_far d fd e)
          ∙ (ap (λ (t : List ℕ). take c.terms.counter d.terms ++ t ∷ []) (c.in_ok-term.ensures ∙ (ap (λ (k : ℕ). take k (drop (c.terms.at + 2) c.args.bytes.now)) n ∙ s.letters))
          ∙ sym s.more));
      rest = λ d fd e.
          let s = step c.args.bytes.now c.terms.at c.terms.counter d.terms (omega (arith, c.requires.count d fd e)) (omega (arith, fd.limits.bytes)) inv.within (inv.rest d fd e) in
          ap (λ n. drop (c.terms.at + 2 + n) c.args.bytes.now) (num ∙ s.number) ∙ s.rest;
      within = let d = p.document in
          let s = step c.args.bytes.now c.terms.at c.terms.counter d.terms (omega (arith, c.requires.count d p.within p.is)) (omega (arith, p.within.limits.bytes))
          inv.within (inv.rest d p.within p.is) in
          omega (arith, s.within, s.number, num);
    }
