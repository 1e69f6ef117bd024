use Rattle.std.proofs.Common.{◌++◌, List, length, map, ap, sym, subst, ◌∙◌, arith}
use Rattle.std.specs.Prelude.{option_map}
use Rattle.eb_base.specs.Document.{Doc}
use Rattle.eb_base.specs.Setting.{Setting}
use Rattle.eb_blend.specs.Adding as adding
use Rattle.eb_blend.specs.Parts.{Parts, WriterTokens, AllConverted}
use Rattle.run_over_parts.specs.AcceptedInParts.{refused_by}
use Rattle.eb_blend.proofs.Turns.{all_indexes}
use Rattle.run_over_parts.proofs.Runs.{held_after, writer_after, outcomes_same, outcomes_long}
use Rattle.run_over_parts.proofs.store.Store.add_all.Goals as goal

pub catch_up_all-requires-clause-this : goal.catch_up_all-requires-clause-this
catch_up_all-requires-clause-this g c κs within =
    let h = c.requires.3 in
    ap (λ (w : WriterTokens). w.indexes) c.in_ok-outcomes.ensures.added ∙ all_indexes c.args.self.now.blend.setting c.args.self.now.writer c.args.items.now
    ∙ ap (λ (w : WriterTokens). w.indexes) h.writer ∙ sym (ap (λ (b : Parts). b.indexes) h.blend)

pub put_outcomes-requires : goal.put_outcomes-requires
put_outcomes-requires g c =
    let long = ap length (c.as_slice.ensures.value ∙ c.in_ok-outcomes.ensures.outcomes) ∙ outcomes_long c.args.self.now.blend.setting c.args.self.now.writer c.args.items.now in
    omega (arith, long, c.in_ok-refusals.ensures.len, c.in_ok-refusals.ensures.capacity)

pub returns-clause-outcomes : goal.returns-clause-outcomes
returns-clause-outcomes g c = λ how parts σ form docs h.
    let items = c.args.items.now in
    let setting = ap (λ (b : Parts). b.setting) h.blend in
    let asked = c.as_slice.ensures.value ∙ c.in_ok-outcomes.ensures.outcomes ∙ (λ i. adding.outcomes_of (setting i) (h.writer i) items) in
    c.put_outcomes.ensures ∙ ap (λ rs. rs ++ map (option_map refused_by) c.as_slice.result.now) c.in_ok-refusals.ensures.items
    ∙ ap (map (option_map refused_by)) asked ∙ outcomes_same how parts σ form h.some h.words docs items

pub returns-clause-holds : goal.returns-clause-holds
returns-clause-holds g c = λ how parts σ form docs h.
    let items = c.args.items.now in
    let setting = ap (λ (b : Parts). b.setting) h.blend in
    let caught = c.catch_up_all.ensures in
    let written = c.in_ok-outcomes.ensures.added ∙ (λ i. adding.with_items (setting i) (h.writer i) items) ∙ writer_after how parts σ form h.some h.words docs items in
    let held = held_after how parts σ form h.some h.allowed.segments.1 docs items (record { rising = h.rising; counts = h.counts; short = h.short }) in
    let parted = ap (λ (w : WriterTokens). w.histories) written in
    record {
      some = h.some;
      most = h.most;
      allowed = h.allowed;
      words = h.words;
      number = h.number;
      settings = h.settings;
      blend = h.blend;
      writer = caught.this ∙ written;
      converter = caught.indexes ∙ h.converter;
      counters = caught.parts ∙ h.counters;
      converted = subst (λ (x : Setting × List (List Doc)). AllConverted x.0 x.1 c.catch_up_all.new.converter.converted) (λ i. (setting i, parted i)) caught.converted;
      rising = held.rising;
      counts = held.counts;
      short = held.short;
    }
