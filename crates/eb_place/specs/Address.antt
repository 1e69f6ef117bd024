-- The address of a posting.
use Rattle.std.specs.Prelude.{ℕ, ◌+◌, ◌-◌, ◌%◌, zero, suc, Bool, ◌&&◌, List, [], ◌∷◌, ◌++◌, if◌then◌else◌, nat_lt, ◌==◌, bytes_eq}
use Rattle.eb_base.specs.Term.{Term}
use Rattle.eb_place.specs.Postings.{count_of}
use Rattle.eb_place.specs.Layout.{address_number}

-- the pool of the posting that comes after f of its term: 2 postings in the first, 15 in the
-- second, 127 in the third, all further ones in the fourth
unfoldable pub pool_at : ℕ → ℕ
pool_at f = if nat_lt f 2 then 0 else if nat_lt f 17 then 1 else if nat_lt f 144 then 2 else 3

-- its offset in its slice; offset 0 of a slice of the later pools is the slice's link
unfoldable pub offset_at : ℕ → ℕ
offset_at f = if nat_lt f 2 then f else if nat_lt f 17 then (f - 1) else if nat_lt f 144 then (f - 16) else ((f - 144) % 2047 + 1)

-- which posting of the term begins the slice of this one
unfoldable pub slice_start : ℕ → ℕ
slice_start f = if nat_lt f 2 then 0 else if nat_lt f 17 then 2 else if nat_lt f 144 then 17 else (f - (f - 144) % 2047)

-- whether the posting that comes after f of its term begins a slice
abbrev pub begins : ℕ → Bool
begins f = slice_start f == f

-- and a slice of this pool
abbrev pub begins_in : ℕ → ℕ → Bool
begins_in p f = begins f && (pool_at f == p)

-- how many of the tokens begin a slice of the pool, where others come before them
unfoldable pub begun_after : ℕ → List Term → List Term → ℕ
begun_after p before [] = 0
begun_after p before (t ∷ ts) = (if begins_in p (count_of t before) then 1 else 0) + begun_after p (before ++ t ∷ []) ts

-- how many slices of a pool the tokens of a segment begin, one after the other
abbrev pub slices_begun : ℕ → List Term → ℕ
slices_begun p ts = begun_after p [] ts

-- the tokens before the n-th of this term, counted from 0, or all of them where there are fewer
unfoldable pub front_of : Term → ℕ → List Term → List Term
front_of t n [] = []
front_of t zero (u ∷ us) = if bytes_eq t u then [] else (u ∷ front_of t zero us)
front_of t (suc n) (u ∷ us) = u ∷ front_of t (if bytes_eq t u then n else suc n) us

-- the address of the f-th posting of the term, counted from 0, among the tokens of its segment: the
-- number of its slice is how many slices of its pool were begun before it
unfoldable pub address_of : Term → ℕ → List Term → ℕ
address_of t f ts = address_number (pool_at f) (slices_begun (pool_at f) (front_of t (slice_start f) ts)) (offset_at f)
