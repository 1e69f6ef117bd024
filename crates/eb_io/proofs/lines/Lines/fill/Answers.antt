use Rattle.std.proofs.Common.{◌≡◌, ap, ◌∙◌, false, arith}
use Rattle.std.proofs.lemmas.Grind.{common_steps}
use Rattle.eb_io.specs.Held.{Held}
use Rattle.eb_io.proofs.Ends.{end_of_front}
use Rattle.eb_io.proofs.lines.Lines.fill.Goals as goal

pub invariant_of-self : goal.invariant_of-self
invariant_of-self g c =
    let i = c.self.invariant in
    let open_end : c.self.inside.is_ended ≡ false = ap (λ (h : Held). h.is_ended) c.self.view_is ∙ c.requires.open_end in
    record {
      order = omega arith;
      within = grind (arith, common_steps);
      piece = grind (arith, common_steps);
      end = end_of_front _ c.deref.result.now c.in-Bytes.count c.find_end-self-inside.result c.deref.ensures.value c.find_end-self-inside.ensures;
      part = i.part;
      part_room = i.part_room;
      given_room = i.given_room;
      long = i.long;
      limit = grind (arith, common_steps);
      ended = λ e. let no : ⊥ = cc in absurd no;
    }
