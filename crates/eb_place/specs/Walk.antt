-- What a reader's walk reads: reached postings, their addresses and links.
use Rattle.std.specs.Prelude.{◌≡◌, ℕ, zero, suc, ◌+◌, ◌-◌, ◌<◌, ◌≤◌, true, get_or}
use Rattle.eb_base.specs.Term.{Term}
use Rattle.eb_place.specs.declared.moment.Moment.{Moment}
use Rattle.eb_place.specs.Postings.{terms_of, postings, count_of, number_of}
use Rattle.eb_place.specs.Address.{pool_at, begins, address_of}
use Rattle.eb_place.specs.Seen.{segment, seen_count}

-- the address of the f-th posting of the term, counted from 0
abbrev pub address_in : Moment → ℕ → Term → ℕ → ℕ
address_in m s t f = address_of t f (terms_of (segment m s))

-- the f-th posting
abbrev pub posting_in : Moment → ℕ → Term → ℕ → ℕ
posting_in m s t f = get_or (postings t (segment m s)) f 0

-- the address of posting f, which is reached
pub record IsAddress (m : Moment) (s : ℕ) (t : Term) (f at : ℕ) : Type 0 where
  pub inside : s < m.setting.segments
  pub reached : f < seen_count m s t
  pub is : at ≡ address_in m s t f

-- the address of the link that leads to posting f: posting f + 1 is reached and begins a slice that
-- has a link
pub record IsLink (m : Moment) (s : ℕ) (t : Term) (f at : ℕ) : Type 0 where
  pub inside : s < m.setting.segments
  pub reached : suc f < seen_count m s t
  pub begins : begins (suc f) ≡ true
  pub linked : 1 ≤ pool_at (suc f)
  pub is : at ≡ address_in m s t (suc f) - 1

-- the number of a term whose postings are in the segment
pub record IsTerm (m : Moment) (s : ℕ) (t : Term) (k : ℕ) : Type 0 where
  pub inside : s < m.setting.segments
  pub there : 1 ≤ count_of t (terms_of (segment m s))
  pub number : k ≡ number_of t (terms_of (segment m s))

-- the tail where n postings are reached
abbrev pub tail_value : Moment → ℕ → Term → ℕ → ℕ
tail_value m s t zero = 0
tail_value m s t (suc f) = address_in m s t f + 1
