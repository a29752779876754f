-- The params and the protocols that votes agree on are in range.
use Rattle.std.proofs.{Common.{◌≡◌, ℕ, Bool, true, List, Option, pos, subst, arith}, lemmas.List.Elements.All-filter}
use Rattle.std.{proofs.lemmas.{List.Elements.{All-map, All-nil, All-weaker}, Option.IfSome_then}, specs.Prelude.All}
use Rattle.std.specs.{Prelude.{IfSome, ℤ, FitsSigned, filter}, Int.w32, List.find, Ordering.int_cmp}
use Rattle.count_terms.specs.{Counts.middle, Medians.{low_median_by, stands_by}}
use Rattle.dir_values.specs.FlagSets.{is_name}
use Rattle.list_values.specs.{declared.named.Named.Named, Maps.named_value, NumberSets.numbers_that}
use Rattle.value_laws.specs.Ranges.{AreNumbersInRange, AreParamsInRange, AreProtocolsInRange, IsParamInRange}
use Rattle.value_laws.{specs.Ranges.IsProtocolInRange, proofs.NumbersAlone.kept_in_range}
use Rattle.field_votes.specs.Lists.{all_names, is_listed_number, is_listed_param, is_listed_protocol, listed_numbers}
use Rattle.field_votes.specs.{Lists.{median_param, values_in}, Private.mask_that}
use Rattle.field_votes.proofs.{ListedMasks.numbers_that_pass, NamedLists.ascend_among}
use Rattle.vote_terms.specs.{Votes.ReadVote, declared.lists.VoteLists.VoteLists}
use Rattle.vote_laws.specs.Again.{AreVoteParams}
use Rattle.compute_terms.specs.Lists.{listed_params, listed_protocols, members_of}
use Rattle.computed_laws.proofs.{Kept.{IfSome-find, unwrapped}, NamedValues.{HasName, members_in, names_ascend}}
use Rattle.computed_laws.proofs.NamedValues.{names_in_range, values_within}

abbrev IsName : List ℕ → Type 0
IsName name = is_name name ≡ true

-- ---- params

abbrev Fits : ℤ → Type 0
Fits number = FitsSigned w32 number

-- the low median is one of the numbers, or 0 where there is none
median_fits : (numbers : List ℤ) → All Fits numbers → Fits (low_median_by int_cmp (pos 0) numbers)
median_fits numbers all =
    unwrapped Fits (find (stands_by int_cmp (middle numbers) numbers) numbers) (pos 0)
    (IfSome-find Fits (stands_by int_cmp (middle numbers) numbers) numbers all) (record { sfits = omega arith })

-- params of votes
pub params_in_range : (roster : ℕ) (votes : List ReadVote)
    → All (λ (vote : ReadVote). IfSome vote.says.lists.params AreVoteParams) votes
    → AreParamsInRange (listed_params roster votes)
params_in_range roster votes all =
    let line : VoteLists → Option (List (Named ℤ)) = λ lists. lists.params in
    let lists : List (List (Named ℤ)) = members_of line votes in
    let each : All (All IsParamInRange) lists =
    members_in (All IsParamInRange) line votes (All-nil IsParamInRange)
    (All-weaker (λ (vote : ReadVote). IfSome vote.says.lists.params AreVoteParams)
    (λ (vote : ReadVote). IfSome vote.says.lists.params (All IsParamInRange))
    (λ vote is. IfSome_then vote.says.lists.params {P = AreVoteParams} {Q = All IsParamInRange} is
    (λ params are. are.each.each)) votes all) in
    let named_ : All (All HasName) lists =
    All-weaker (All IsParamInRange) (All HasName)
    (λ list are. All-weaker IsParamInRange HasName (λ param is. is.name) list are) lists each in
    let fit : All (All (λ (param : Named ℤ). Fits param.value)) lists =
    All-weaker (All IsParamInRange) (All (λ (param : Named ℤ). Fits param.value))
    (λ list are. All-weaker IsParamInRange (λ (param : Named ℤ). Fits param.value) (λ param is. is.number) list are) lists
    each in
    let names : List (List ℕ) = filter (is_listed_param roster lists) (all_names lists) in
    record {
      ascend = ascend_among (λ (name : List ℕ). low_median_by int_cmp (pos 0) (values_in lists name))
          (is_listed_param roster lists) (all_names lists) (names_ascend lists);
      each = All-map IsParamInRange (median_param lists) names
          (All-weaker IsName (λ (name : List ℕ). IsParamInRange (median_param lists name))
          (λ name is. record { name = is; number = median_fits (values_in lists name) (values_within Fits lists name fit) }) names
          (All-filter (is_listed_param roster lists) IsName (all_names lists) (names_in_range lists named_)));
    }

-- ---- protocols

-- numbers that pass a test ascend, from 0 to 63
numbers_in_range : (test : ℕ → Bool) → AreNumbersInRange (numbers_that test)
numbers_in_range test = subst AreNumbersInRange (numbers_that_pass test) (kept_in_range (mask_that test))

-- a line of protocols of votes
pub protocols_in_range : (least : ℕ) (line : VoteLists → Option (List (Named (List ℕ)))) (votes : List ReadVote)
    → All (λ (vote : ReadVote). IfSome (line vote.says.lists) AreProtocolsInRange) votes
    → AreProtocolsInRange (listed_protocols least line votes)
protocols_in_range least line votes all =
    let lists : List (List (Named (List ℕ))) = members_of line votes in
    let each : All (All HasName) lists =
    members_in (All HasName) line votes (All-nil HasName)
    (All-weaker (λ (vote : ReadVote). IfSome (line vote.says.lists) AreProtocolsInRange)
    (λ (vote : ReadVote). IfSome (line vote.says.lists) (All HasName))
    (λ vote is. IfSome_then (line vote.says.lists) {P = AreProtocolsInRange} {Q = All HasName} is
    (λ protocols are. All-weaker IsProtocolInRange HasName (λ protocol one. one.name) protocols are.each)) votes all) in
    let names : List (List ℕ) = filter (is_listed_protocol least lists) (all_names lists) in
    record {
      ascend = ascend_among (listed_numbers least lists) (is_listed_protocol least lists) (all_names lists)
          (names_ascend lists);
      each = All-map IsProtocolInRange (λ (name : List ℕ). named_value name (listed_numbers least lists name)) names
          (All-weaker IsName (λ (name : List ℕ). IsProtocolInRange (named_value name (listed_numbers least lists name)))
          (λ name is. record { name = is; numbers = numbers_in_range (is_listed_number least lists name) }) names
          (All-filter (is_listed_protocol least lists) IsName (all_names lists) (names_in_range lists each)));
    }
