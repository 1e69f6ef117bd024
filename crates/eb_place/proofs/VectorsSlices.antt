-- The slices and tails of one term that is alone in its segment.
use Rattle.std.proofs.Common.{◌≡◌, ℕ, ◌+◌, ◌-◌, ◌*◌, ◌==◌, List, [], ◌∷◌, take, map, refl, replicate}
use Rattle.std.specs.Prelude.{count_by}
use Rattle.std.specs.List.{range_with_len}
use Rattle.eb_base.specs.Term.{Term}
use Rattle.eb_base.specs.Setting.{Setting}
use Rattle.eb_place.specs.Layout.{place, pool_slot, start, size}
use Rattle.eb_place.specs.Postings.{distinct, count_of}
use Rattle.eb_place.specs.Room.{slices}
use Rattle.eb_place.specs.Address.{begun_after, front_of, address_of, pool_at, offset_at, slice_start}
use Rattle.eb_place.specs.Placing.{append_stores, pairs_of}

abbrev alone : ℕ → List Term
alone n = replicate n (97 ∷ [])

-- after n postings: the slices of each pool, and the address of the last posting; the tail is one
-- more
abbrev after : ℕ → List ℕ × ℕ
after n = (map (λ p. slices p n) (0 ∷ 1 ∷ 2 ∷ 3 ∷ []), address_of (97 ∷ []) (n - 1) (alone n))

after_1 : after 1 ≡ (1 ∷ 0 ∷ 0 ∷ 0 ∷ [], 0)
unfolding address_of front_of begun_after count_of pool_at offset_at slice_start
after_1 = refl

after_2 : after 2 ≡ (1 ∷ 0 ∷ 0 ∷ 0 ∷ [], 1)
unfolding address_of front_of begun_after count_of pool_at offset_at slice_start
after_2 = refl

after_3 : after 3 ≡ (1 ∷ 1 ∷ 0 ∷ 0 ∷ [], 1073741825)
unfolding address_of front_of begun_after count_of pool_at offset_at slice_start
after_3 = refl

after_17 : after 17 ≡ (1 ∷ 1 ∷ 0 ∷ 0 ∷ [], 1073741839)
unfolding address_of front_of begun_after count_of pool_at offset_at slice_start
after_17 = refl

after_18 : after 18 ≡ (1 ∷ 1 ∷ 1 ∷ 0 ∷ [], 2147483649)
unfolding address_of front_of begun_after count_of pool_at offset_at slice_start
after_18 = refl

after_144 : after 144 ≡ (1 ∷ 1 ∷ 1 ∷ 0 ∷ [], 2147483775)
unfolding address_of front_of begun_after count_of pool_at offset_at slice_start
after_144 = refl

after_145 : after 145 ≡ (1 ∷ 1 ∷ 1 ∷ 1 ∷ [], 3221225473)
unfolding address_of front_of begun_after count_of pool_at offset_at slice_start
after_145 = refl

after_2191 : after 2191 ≡ (1 ∷ 1 ∷ 1 ∷ 1 ∷ [], 3221227519)
unfolding address_of front_of begun_after count_of pool_at offset_at slice_start
after_2191 = refl

after_2192 : after 2192 ≡ (1 ∷ 1 ∷ 1 ∷ 2 ∷ [], 3221227521)
unfolding address_of front_of begun_after count_of pool_at offset_at slice_start
after_2192 = refl

-- ---- links: the first of the stores of the posting that begins a slice

abbrev usual : Setting
usual = record { segments = 1; docs = 4096; terms = 8192 }

abbrev link : ℕ → List (ℕ × ℕ)
link f = take 1 (pairs_of usual (append_stores 0 (alone f) (97 ∷ []) f 0))

link_2 : link 2 ≡ (1 + (2 + 10 * 8192 + 4096) + 0, 1) ∷ []
unfolding append_stores place pool_slot start size distinct address_of front_of begun_after count_of pool_at offset_at slice_start
link_2 = refl

link_17 : link 17 ≡ (1 + (2 + 18 * 8192 + 4096) + 0, 1073741839) ∷ []
unfolding append_stores place pool_slot start size distinct address_of front_of begun_after count_of pool_at offset_at slice_start
link_17 = refl

link_144 : link 144 ≡ (1 + (2 + 26 * 8192 + 4096) + 0, 2147483775) ∷ []
unfolding append_stores place pool_slot start size distinct address_of front_of begun_after count_of pool_at offset_at slice_start
link_144 = refl

link_2191 : link 2191 ≡ (1 + (2 + 26 * 8192 + 4096) + 2048, 3221227519) ∷ []
unfolding append_stores place pool_slot start size distinct address_of front_of begun_after count_of pool_at offset_at slice_start
link_2191 = refl

-- how many of the first 1,024 postings of a term are in each pool
pools_1024 : map (λ p. count_by (λ f. pool_at f == p) (range_with_len 0 1024)) (0 ∷ 1 ∷ 2 ∷ 3 ∷ []) ≡ 2 ∷ 15 ∷ 127 ∷ 880 ∷ []
unfolding pool_at
pools_1024 = refl
