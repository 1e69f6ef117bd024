-- What the end of a program says of an input whose bytes are known.
use Rattle.std.proofs.Common.{◌≡◌, ℕ, ◌<◌, inl, inr, List, [], ◌++◌, length, take, Option, Some, None, refl, sym, ap, subst, ◌∙◌, arith, append-nil, length-append}
use Rattle.std.proofs.Math.Seq.{take-append_seam}
use Rattle.eb_io.specs.Lines.{Line, longest_input, lines_of}
use Rattle.eb_io.specs.Source.{after, IsEmpty}
use Rattle.eb_io.specs.Sink.{grown}
use Rattle.eb_lines.specs.declared.status.Status.{Status}
use Rattle.eb_lines.specs.declared.status.Status.TheVariants.{Done, Refused, Usage, ReadFault, WriteFault, NoMemory, InputTooLong, BadImage}
use Rattle.eb_lines.specs.Outcomes.{IsPartOfOutput, Wrote, Means, IsWorkedOff}
use Rattle.eb_lines.specs.Passing.{IsFrontOfWhole, EndsAs, Ends}

drop_told : (bytes taken : List ℕ) (l1 : Option (List ℕ)) → after taken l1 ≡ Some bytes → (rest : List ℕ) × (l1 ≡ Some rest) × (taken ++ rest ≡ bytes)
drop_told bytes taken None e = let no : ⊥ = cc in absurd no
drop_told bytes taken (Some rest) e = (rest, refl, (let same : taken ++ rest ≡ bytes = cc in same))

all_told : (bytes taken rest : List ℕ) (l1 : Option (List ℕ)) → l1 ≡ Some rest → taken ++ rest ≡ bytes → IsEmpty l1 → (l1 ≡ Some []) × (taken ≡ bytes)
all_told bytes taken rest l1 still all empty =
    let E : Option (List ℕ) → Type 0 = IsEmpty in
    let none : rest ≡ [] = subst E still empty in
    (still ∙ ap Some none, sym (append-nil taken) ∙ ap (λ r. taken ++ r) (sym none) ∙ all)

module _ (prints ends_with : List Line → List ℕ → Type 0) (refuses accepts : List Line → Type 0) where
  part_told : (bytes taken rest printed : List ℕ) (l1 : Option (List ℕ)) → l1 ≡ Some rest → taken ++ rest ≡ bytes → IsFrontOfWhole ends_with taken l1 printed → IsPartOfOutput ends_with bytes printed
  part_told bytes taken rest printed l1 still all p =
      let first = p.first rest still in
      let front : take (length p.lines) (lines_of bytes) ≡ p.lines = ap (λ b. take (length p.lines) (lines_of b)) (sym all) ∙ ap (take (length p.lines)) first.1 ∙ take-append_seam p.lines first.0 in
      record {
        count = length p.lines;
        whole = p.whole;
        more = p.more;
        text = subst (λ (ls : List Line). ends_with ls p.whole) (sym front) p.text;
        front = p.front;
      }

  wrote : (status : Status) (bytes taken rest printed : List ℕ) (l1 : Option (List ℕ)) → l1 ≡ Some rest → taken ++ rest ≡ bytes → EndsAs prints ends_with refuses accepts status taken l1 printed
      → Wrote prints ends_with refuses accepts status bytes l1 printed
  wrote Done bytes taken rest printed l1 still all e =
      let whole = all_told bytes taken rest l1 still all e.0 in
      (whole.0, subst (λ b. ends_with (lines_of b) printed) whole.1 e.1, subst (λ b. accepts (lines_of b)) whole.1 e.2, subst (λ b. length b < longest_input) whole.1 e.3)
  wrote Refused bytes taken rest printed l1 still all e =
      let whole = all_told bytes taken rest l1 still all e.0 in
      (whole.0, subst (λ b. ends_with (lines_of b) printed) whole.1 e.1, subst (λ b. refuses (lines_of b)) whole.1 e.2, subst (λ b. length b < longest_input) whole.1 e.3)
  wrote ReadFault bytes taken rest printed l1 still all e = (taken, record { rest = rest; whole = sym all; still = still; body = e.0 }, e.1)
  wrote InputTooLong bytes taken rest printed l1 still all e = (taken, record { rest = rest; whole = sym all; still = still; body = e.0 }, e.1)
  wrote WriteFault bytes taken rest printed l1 still all e = part_told bytes taken rest printed l1 still all e
  wrote NoMemory bytes taken rest printed l1 still all e = part_told bytes taken rest printed l1 still all e
  wrote Usage bytes taken rest printed l1 still all e = absurd e
  wrote BadImage bytes taken rest printed l1 still all e = absurd e

  meant : (status : Status) (bytes taken rest printed : List ℕ) (l1 : Option (List ℕ)) → l1 ≡ Some rest → taken ++ rest ≡ bytes → EndsAs prints ends_with refuses accepts status taken l1 printed
      → Means refuses accepts status bytes l1
  meant Done bytes taken rest printed l1 still all e =
      let whole = all_told bytes taken rest l1 still all e.0 in
      (whole.0, subst (λ b. length b < longest_input) whole.1 e.3, subst (λ b. accepts (lines_of b)) whole.1 e.2)
  meant Refused bytes taken rest printed l1 still all e =
      let whole = all_told bytes taken rest l1 still all e.0 in
      (whole.0, subst (λ b. length b < longest_input) whole.1 e.3, subst (λ b. refuses (lines_of b)) whole.1 e.2)
  meant ReadFault bytes taken rest printed l1 still all e = (taken, record { rest = rest; whole = sym all; still = still }, e.1)
  meant InputTooLong bytes taken rest printed l1 still all e = (taken, record { rest = rest; whole = sym all; still = still }, e.1)
  meant WriteFault bytes taken rest printed l1 still all e = (taken, record { rest = rest; whole = sym all; still = still })
  meant NoMemory bytes taken rest printed l1 still all e = (taken, record { rest = rest; whole = sym all; still = still })
  meant Usage bytes taken rest printed l1 still all e = absurd e
  meant BadImage bytes taken rest printed l1 still all e = absurd e

  module _ (status : Status) (l0 l1 p0 p1 : Option (List ℕ)) (bytes : List ℕ) (e : Ends prints ends_with refuses accepts status l0 l1 p0 p1) (source : l0 ≡ Some bytes) where
    pub ends_told : (before : List ℕ) → p0 ≡ Some before → (printed : List ℕ) × (p1 ≡ Some (before ++ printed)) × Wrote prints ends_with refuses accepts status bytes l1 printed
    ends_told before sink =
        let d = drop_told bytes e.taken l1 (sym e.left ∙ source) in
        (e.printed, e.put ∙ ap (λ p. grown p e.printed) sink, wrote status bytes e.taken d.0 e.printed l1 d.1 d.2 e.ends)

    -- what the status says, over any sink
    pub ends_mean : Means refuses accepts status bytes l1
    ends_mean =
        let d = drop_told bytes e.taken l1 (sym e.left ∙ source) in
        meant status bytes e.taken d.0 e.printed l1 d.1 d.2 e.ends

  -- a program ends in time
  pub completes : (status : Status) (l0 l1 p0 p1 : Option (List ℕ)) (read_rose write_rose : Type 0) (bytes : List ℕ)
      → Ends prints ends_with refuses accepts status l0 l1 p0 p1 → (status ≡ ReadFault → read_rose) → (status ≡ WriteFault → write_rose)
      → (read_rose → ⊥) → (write_rose → ⊥) → l0 ≡ Some bytes → length bytes < longest_input → IsWorkedOff status
  completes Done l0 l1 p0 p1 read_rose write_rose bytes e f g no_read no_write source short = inl refl
  completes Refused l0 l1 p0 p1 read_rose write_rose bytes e f g no_read no_write source short = inr (inl refl)
  completes NoMemory l0 l1 p0 p1 read_rose write_rose bytes e f g no_read no_write source short = inr (inr refl)
  completes ReadFault l0 l1 p0 p1 read_rose write_rose bytes e f g no_read no_write source short = absurd (no_read (f refl))
  completes WriteFault l0 l1 p0 p1 read_rose write_rose bytes e f g no_read no_write source short = absurd (no_write (g refl))
  completes InputTooLong l0 l1 p0 p1 read_rose write_rose bytes e f g no_read no_write source short =
      let d = drop_told bytes e.taken l1 (sym e.left ∙ source) in
      absurd (omega (arith, ap length d.2, length-append e.taken d.0, e.ends.1, short))
  completes Usage l0 l1 p0 p1 read_rose write_rose bytes e f g no_read no_write source short = absurd e.ends
  completes BadImage l0 l1 p0 p1 read_rose write_rose bytes e f g no_read no_write source short = absurd e.ends
