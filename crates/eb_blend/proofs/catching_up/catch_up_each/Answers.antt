use Rattle.std.proofs.Common.{◌≡◌, ◌<◌, ◌≤◌, ℕ, List, length, get_or, subst, ◌∙◌, arith}
use Rattle.eb_blend.specs.Parts.{converter_indexes_of, converted_of, histories_of}
use Rattle.eb_blend.proofs.Each.{as_many_converters, fronts_trans}
use Rattle.eb_blend.proofs.Convertings.{kept_indexes, known_more, rising_more, all_converted}
use Rattle.eb_blend.proofs.catching_up.catch_up_each.Goals as goal

pub returns : goal.returns
returns g c =
    let tell = c.tell_each-waits.ensures in
    let mid = c.tell_each-waits.new.converters in
    let new = c.convert_beside.new.converters in
    let ws = c.args.indexes.now in
    let made : converter_indexes_of mid ≡ ws = tell.indexes ∙ c.requires.converters in
    let many : length mid ≡ length ws = as_many_converters mid ws made in
    let some : 0 < length mid = omega (arith, many, c.requires.some) in
    let long : length new ≡ length mid = c.convert_beside.auto.converters in
    let each = c.convert_beside.ensures.each in
    let more = known_more ws mid new some made long each in
    record {
      writers = tell.writers;
      indexes = kept_indexes ws mid new some made long each ∙ tell.indexes;
      known = fronts_trans _ _ _ tell.known more;
      told = fronts_trans _ _ _ tell.told more;
      rising = subst (λ (z : List ℕ). (p : ℕ) → get_or z p 0 ≤ get_or (converted_of new) p 0) tell.converted (rising_more ws mid new some made long each);
      converted = λ σ all. all_converted ws mid new some made long each σ (histories_of c.args.writers.now) all tell.told;
    }
