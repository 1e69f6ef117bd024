use Rattle.std.proofs.Common.{ℕ, [], refl, ap, arith}
use Rattle.eb_base.specs.Setting.{Setting}
use Rattle.eb_engine.specs.Tokens.{HistoryToken, ConverterToken}
use Rattle.eb_place.specs.Room.{cut}
use Rattle.run_index.specs.Conversions.{AreConverted}
use Rattle.run_index.proofs.indexed.Indexed.new.Goals as goal

-- nothing is closed
none_closed : (σ : Setting) (n : ℕ) → AreConverted σ [] n
unfolding cut
none_closed σ n = record { each = λ s h. absurd (omega (arith, h)) }

pub returns-clause-holds : goal.returns-clause-holds
returns-clause-holds c =
    let made = c.in_ok-index.ensures in
    record {
      words = c.in_ok-index.index;
      index = refl;
      setting = made.setting;
      writer = ap (λ (w : HistoryToken). w.index) made.writer;
      documents = ap (λ (w : HistoryToken). w.docs) made.writer;
      converter = ap (λ (w : ConverterToken). w.index) made.converter;
      converted = none_closed c.args.config _;
      filters = c.in_ok-filters.ensures.covers;
    }
