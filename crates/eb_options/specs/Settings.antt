-- The setting that items ask for.
use Rattle.std.specs.Prelude.{ℕ, ◌&&◌, ◌==◌, ◌+◌, ◌-◌, ◌^◌, Bool, List, [], ◌∷◌, codes, nat_le, Option, Some, None, unwrap_or, if◌then◌else◌}
use Rattle.std.specs.List.{list_any, range_with_len}
use Rattle.eb_base.specs.Setting.{Setting, words_of, least_power, greatest_power}
use Rattle.eb_options.specs.Items.{Items, option_number}

-- the options of a setting
abbrev pub setting_options : List (List ℕ)
setting_options = codes "segments" ∷ codes "docs" ∷ codes "terms" ∷ []

-- a power of two from 1,024 to 1,048,576
abbrev pub are_terms : ℕ → Bool
are_terms n = list_any (λ k. n == 2 ^ k) (range_with_len least_power (greatest_power + 1 - least_power))

-- the setting is allowed, as `Config::new` tests it
abbrev pub is_setting : Setting → Bool
is_setting σ = nat_le 1 σ.segments && (nat_le σ.segments 64 && (nat_le 1 σ.docs && (nat_le σ.docs (2 ^ 24)
    && (are_terms σ.terms && nat_le (words_of σ) (2 ^ 27)))))

-- the setting with these numbers, if it is allowed
abbrev pub allowed : ℕ → ℕ → ℕ → Option Setting
allowed segments docs terms = let σ : Setting = record { segments = segments; docs = docs; terms = terms } in if is_setting σ then Some σ else None

-- the setting that the items ask for; 12 segments of 4,096 documents and 8,192 terms where they
-- don't say otherwise
abbrev pub setting_of : Items → Option Setting
setting_of items =
    allowed (unwrap_or (option_number (codes "segments") items) 12) (unwrap_or (option_number (codes "docs") items) 4096) (unwrap_or (option_number (codes "terms") items) 8192)
