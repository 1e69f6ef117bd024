-- What a call that loads words promises, where words may grow between any two of its loads.
use Rattle.eb_place.specs.declared.moment.Moment.{Moment}
use Rattle.eb_place.specs.Later.{IsNotBefore}

-- for each moment that the port stood for, and of which Before holds: the port now stands for a
-- moment that isn't before it, with the same fixed part, and After holds of that moment
pub record Told {S : Type 0} (stands : S → Moment → Type 0) (keeps : S → Moment → S → Moment → Type 0) (s t : S) (Before After : Moment → Type 0) : Type 0 where
  pub told : (m : Moment) → stands s m → Before m → (n : Moment) × stands t n × IsNotBefore n m × keeps s m t n × After n

-- the same of a call that stores: for each moment that the pen stood for, and of which Before
-- holds, it is a pen of the same words and the same seat, and stands for a moment of which, with
-- the one before, After holds
pub record Written {S : Type 0} (stands : S → Moment → Type 0) (same : S → S → Type 0) (s t : S) (Before : Moment → Type 0) (After : Moment → Moment → Type 0) : Type 0 where
  pub written : (m : Moment) → stands s m → Before m → (n : Moment) × stands t n × same s t × After m n
