-- What lists of params, versions and protocols say together (dir-spec, "Computing a consensus from a set of votes").
use Rattle.std.specs.Prelude.{ℕ, nat_le, nat_lt, Bool, ◌||◌, List, count_by, filter, length, map, ℤ, pos}
use Rattle.std.specs.{List.{filter_map, flat_map}, Ordering.int_cmp}
use Rattle.count_terms.specs.{Counts.over, Medians.low_median_by}
use Rattle.dir_values.specs.FlagSets.{as_set}
use Rattle.list_values.specs.{declared.named.Named.Named, Maps.{named_value, names_of, value_at}}
use Rattle.list_values.specs.{NumberSets.numbers_that, Protocols.has_version}

-- ---- names

module _ {V : Type 0} where
  -- the names that some list has, ascending, each once
  abbrev pub all_names : List (List (Named V)) → List (List ℕ)
  all_names lists = as_set (flat_map names_of lists)

  -- what the lists that have a name say of it
  abbrev pub values_in : List (List (Named V)) → List ℕ → List V
  values_in lists name = filter_map (λ list. value_at list name) lists

-- ---- params

-- whether so many lists that name a param are enough: more than half of a roster, or three
abbrev pub are_enough : ℕ → ℕ → Bool
are_enough roster count = over count roster || nat_le 3 count

-- whether a param is listed
abbrev pub is_listed_param : ℕ → List (List (Named ℤ)) → List ℕ → Bool
is_listed_param roster lists name = are_enough roster (length (values_in lists name))

-- a param with the low median of its values
abbrev pub median_param : List (List (Named ℤ)) → List ℕ → Named ℤ
median_param lists name = named_value name (low_median_by int_cmp (pos 0) (values_in lists name))

-- the params that are listed, by name
abbrev pub voted_params : ℕ → List (List (Named ℤ)) → List (Named ℤ)
voted_params roster lists = map (median_param lists) (filter (is_listed_param roster lists) (all_names lists))

-- ---- protocols

-- whether at least so many lists have a number of a protocol
abbrev pub is_listed_number : ℕ → List (List (Named (List ℕ))) → List ℕ → ℕ → Bool
is_listed_number least lists name number = nat_le least (count_by (λ list. has_version list name number) lists)

-- the numbers of a protocol that so many have
abbrev pub listed_numbers : ℕ → List (List (Named (List ℕ))) → List ℕ → List ℕ
listed_numbers least lists name = numbers_that (is_listed_number least lists name)

-- whether there is one
abbrev pub is_listed_protocol : ℕ → List (List (Named (List ℕ))) → List ℕ → Bool
is_listed_protocol least lists name = nat_lt 0 (length (listed_numbers least lists name))

-- the protocols that have one, by name, with these numbers
abbrev pub voted_protocols : ℕ → List (List (Named (List ℕ))) → List (Named (List ℕ))
voted_protocols least lists =
    map (λ name. named_value name (listed_numbers least lists name))
    (filter (is_listed_protocol least lists) (all_names lists))
