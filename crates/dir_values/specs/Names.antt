-- Names of relays and of algorithms (dir-spec, "Vote and consensus status document formats").
use Rattle.std.specs.Prelude.{ℕ, nat_le, Bool, ◌&&◌, List, length, codes, Option, Some, None, if◌then◌else◌}
use Rattle.std.specs.{List.list_all, Str.bytes_eq}
use Rattle.item_terms.specs.Words.{is_letter_or_digit}
use Rattle.dir_values.specs.declared.algorithm.Algorithm.{Algorithm, TheVariants.{Sha1, Sha256}}

-- a nickname: 1 to 19 letters and digits
abbrev pub is_nickname : List ℕ → Bool
is_nickname text = nat_le 1 (length text) && nat_le (length text) 19 && list_all is_letter_or_digit text

-- the name of an algorithm
abbrev pub algorithm_name : Algorithm → List ℕ
algorithm_name Sha1 = codes "sha1"
algorithm_name Sha256 = codes "sha256"

-- the algorithm of this name
abbrev pub algorithm : List ℕ → Option Algorithm
algorithm text =
    if bytes_eq text (algorithm_name Sha1) then Some Sha1
    else if bytes_eq text (algorithm_name Sha256) then Some Sha256
    else None
