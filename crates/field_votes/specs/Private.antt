-- What the private functions of this crate say.
use Rattle.std.specs.Prelude.{ℕ, zero, suc, ◌*◌, ◌%◌, ◌^◌, ◌==◌, Bool, not, bit_or, List, codes, filter, map, ℤ, Option}
use Rattle.std.specs.Prelude.{Some, None, if◌then◌else◌}
use Rattle.dir_values.specs.FlagSets.{has_flag, with_flag}
use Rattle.list_values.specs.{declared.named.Named.Named, Maps.named_value}
use Rattle.field_votes.specs.Lists.{is_listed_param, median_param, is_listed_number}

-- a set with `NoEdConsensus`, and with `BadExit` where `MiddleOnly` is in it
abbrev pub with_own : List (List ℕ) → List (List ℕ)
with_own set =
    if has_flag set (codes "MiddleOnly") then with_flag (with_flag set (codes "NoEdConsensus")) (codes "BadExit")
    else with_flag set (codes "NoEdConsensus")

-- a set with a flag, where it is wanted
abbrev pub with_flag_if : Bool → List (List ℕ) → List ℕ → List (List ℕ)
with_flag_if wanted set flag = if wanted then with_flag set flag else set

-- ---- params

-- those of some names that are listed, as params
abbrev pub params_among : ℕ → List (List (Named ℤ)) → List (List ℕ) → List (Named ℤ)
params_among roster lists names = map (median_param lists) (filter (is_listed_param roster lists) names)

-- the value of a param, if it is listed
abbrev pub listed_value : ℕ → List (List (Named ℤ)) → List ℕ → Option ℤ
listed_value roster lists name = if is_listed_param roster lists name then Some (median_param lists name).value else None

-- ---- protocols

-- the bits of those of the first so many numbers that pass a test
unfoldable pub mask_below : (ℕ → Bool) → ℕ → ℕ
mask_below test zero = 0
mask_below test (suc number) =
    if test number then bit_or (mask_below test number) (1 * 2 ^ number % 2 ^ 64) else mask_below test number

-- the bits of the numbers that pass
abbrev pub mask_that : (ℕ → Bool) → ℕ
mask_that test = mask_below test 64

-- the bits of the numbers of a protocol that at least so many lists have
abbrev pub listed_mask : ℕ → List (List (Named (List ℕ))) → List ℕ → ℕ
listed_mask least lists name = mask_that (is_listed_number least lists name)

-- those of some protocols of which so many have a number, with these as bits
abbrev pub masks_among : ℕ → List (List (Named (List ℕ))) → List (List ℕ) → List (Named ℕ)
masks_among least lists names =
    map (λ name. named_value name (listed_mask least lists name))
    (filter (λ name. not (listed_mask least lists name == 0)) names)
