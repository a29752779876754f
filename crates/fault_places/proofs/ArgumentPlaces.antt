-- The places of an item's arguments, and of what is wrong with them.
use Rattle.std.proofs.Common.{ℕ, ◌+◌, ◌≤◌, Bool, true, false, List, [], ◌∷◌, ◌++◌, length, map, Option, Some, None}
use Rattle.std.{proofs.Common.{Result, Ok, Err, arith}, specs.Prelude.{◌&&◌, is_none, not, option_and_then}}
use Rattle.std.specs.{Prelude.if◌then◌else◌, List.{AllByRecursion, find}, Option.option_map}
use Rattle.item_terms.specs.Words.{ends_or_blank, is_blank}
use Rattle.dir_values.specs.{Arguments.{Argument, arguments_at, onto}, Digests.digest2, FlagSets.{is_among, is_name}}
use Rattle.dir_values.specs.{FlagSets.wrong_flag, Numbers.{number_of, wrong_number}, declared.digest.Digest2.Digest2}
use Rattle.list_values.specs.{Params.{its_name, wrong_param}, Protocols.{is_protocol, wrong_protocol}}
use Rattle.list_values.specs.VersionLists.{are_versions, wrong_version_list}
use Rattle.frame_values.specs.Arguments.{field, front, next, others}
use Rattle.relay_entries.specs.{Fields.with_argument, Lines.{after_sha256, named_digest, names_sha256, some_digest}}
use Rattle.relay_entries.specs.{Lines.with_arguments, declared.said.Bandwidths.Bandwidths}

-- what is wrong, if anything is, stands within so many bytes
abbrev pub PlaceIn : {A : Type 0} → ℕ → Result A ℕ → Type 0
PlaceIn n (Ok value) = Unit {0}
PlaceIn n (Err place) = place ≤ n

abbrev pub PlaceIfIn : ℕ → Option ℕ → Type 0
PlaceIfIn n None = Unit {0}
PlaceIfIn n (Some place) = place ≤ n

-- an argument begins within so many bytes
abbrev pub Begins : ℕ → Argument → Type 0
Begins n argument = argument.place ≤ n

-- each of these does
abbrev pub EachBegins : ℕ → List Argument → Type 0
EachBegins n arguments = AllByRecursion (Begins n) arguments

-- ---- the arguments of a text

pub each_begins : (n place : ℕ) (text : List ℕ) → place + length text ≤ n → EachBegins n (arguments_at place text)
unfolding arguments_at
each_begins n place [] le = tt
each_begins n place (byte ∷ text) le =
    by (each_begins n (place + 1) text (omega (arith, le))) (is_blank byte) (ends_or_blank text)
  where
    here : place ≤ n
    here = omega (arith, le)

    with_byte : (arguments : List Argument) → EachBegins n arguments → EachBegins n (onto place byte arguments)
    with_byte [] each = (here, tt)
    with_byte (argument ∷ rest) each = (here, each.1)

    by : EachBegins n (arguments_at (place + 1) text) → (blank ends : Bool)
        → EachBegins n (if blank then arguments_at (place + 1) text
        else if ends then record { place = place; text = byte ∷ [] } ∷ arguments_at (place + 1) text
        else onto place byte (arguments_at (place + 1) text))
    by each true ends = each
    by each false true = (here, each)
    by each false false = with_byte (arguments_at (place + 1) text) each

pub others_begin : (n : ℕ) (arguments : List Argument) → EachBegins n arguments → EachBegins n (others arguments)
others_begin n [] each = tt
others_begin n (argument ∷ rest) each = each.1

pub front_begins : (n item : ℕ) (arguments : List Argument) → item ≤ n → EachBegins n arguments
    → Begins n (front item arguments)
front_begins n item [] le each = le
front_begins n item (argument ∷ rest) le each = each.0

-- ---- the first argument of which something is wrong

abbrev FoundIn : ℕ → Option Argument → Type 0
FoundIn n None = Unit {0}
FoundIn n (Some argument) = argument.place ≤ n

found_in : (n : ℕ) (test : Argument → Bool) (arguments : List Argument) → EachBegins n arguments
    → FoundIn n (find test arguments)
found_in n test [] each = tt
found_in n test (argument ∷ rest) each = by (test argument) (found_in n test rest each.1)
  where
    by : (t : Bool) → FoundIn n (find test rest) → FoundIn n (if t then Some argument else find test rest)
    by true more = each.0
    by false more = more

place_of : (n : ℕ) (found : Option Argument) → FoundIn n found
    → PlaceIfIn n (option_map (λ (argument : Argument). argument.place) found)
place_of n None is = tt
place_of n (Some argument) is = is

pub number_in : (n : ℕ) (arguments : List Argument) → EachBegins n arguments → PlaceIfIn n (wrong_number arguments)
number_in n arguments each =
    let test : Argument → Bool = λ argument. is_none (number_of argument.text) in
    place_of n (find test arguments) (found_in n test arguments each)

pub protocol_in : (n : ℕ) (arguments : List Argument) → EachBegins n arguments → PlaceIfIn n (wrong_protocol arguments)
protocol_in n arguments each =
    let test : Argument → Bool = λ argument. not (is_protocol argument.text) in
    place_of n (find test arguments) (found_in n test arguments each)

pub flag_in : (n : ℕ) (before arguments : List Argument) → EachBegins n arguments
    → PlaceIfIn n (wrong_flag before arguments)
unfolding wrong_flag
flag_in n before [] each = tt
flag_in n before (argument ∷ rest) each =
    by (is_name argument.text && not (is_among argument.text before)) (flag_in n (before ++ argument ∷ []) rest each.1)
  where
    by : (t : Bool) → PlaceIfIn n (wrong_flag (before ++ argument ∷ []) rest)
        → PlaceIfIn n (if t then wrong_flag (before ++ argument ∷ []) rest else Some argument.place)
    by true more = more
    by false more = each.0

names_begin : (n : ℕ) (arguments : List Argument) → EachBegins n arguments → EachBegins n (map its_name arguments)
names_begin n [] each = tt
names_begin n (argument ∷ rest) each = (each.0, names_begin n rest each.1)

pub param_in : (n : ℕ) (arguments : List Argument) → EachBegins n arguments → PlaceIfIn n (wrong_param arguments)
param_in n arguments each = flag_in n [] (map its_name arguments) (names_begin n arguments each)

pub versions_in : (n : ℕ) (arguments : List Argument) → EachBegins n arguments
    → PlaceIfIn n (wrong_version_list arguments)
versions_in n [] each = tt
versions_in n (first ∷ rest) each = by (are_versions first.text)
  where
    by : (t : Bool) → PlaceIfIn n (if t then None else Some first.place)
    by true = tt
    by false = each.0

-- ---- what arguments say of a relay

pub bandwidths_in : (n : ℕ) (said : Bandwidths) (arguments : List Argument) → EachBegins n arguments
    → PlaceIn n (with_arguments said arguments)
unfolding with_arguments
bandwidths_in n said [] each = tt
bandwidths_in n said (argument ∷ rest) each =
    by (with_argument said argument.text) (λ more. bandwidths_in n more rest each.1)
  where
    by : (more : Option Bandwidths) → ((next_said : Bandwidths) → PlaceIn n (with_arguments next_said rest))
        → PlaceIn n (next (field argument more) (λ next_said. with_arguments next_said rest))
    by None all = each.0
    by (Some next_said) all = all next_said

digest_in : (n : ℕ) (found : Option Argument) → FoundIn n found → PlaceIn n (named_digest found)
digest_in n None is = tt
digest_in n (Some argument) is = by (option_and_then digest2 (after_sha256 argument))
  where
    by : (digest : Option Digest2) → PlaceIn n (next (field argument digest) (λ found. Ok (Some found)))
    by None = is
    by (Some digest) = tt

pub some_digest_in : (n item : ℕ) (arguments : List Argument) → item ≤ n → EachBegins n arguments
    → PlaceIn n (some_digest item arguments)
some_digest_in n item [] le each = le
some_digest_in n item (argument ∷ rest) le each =
    digest_in n (find names_sha256 (argument ∷ rest)) (found_in n names_sha256 (argument ∷ rest) each)
