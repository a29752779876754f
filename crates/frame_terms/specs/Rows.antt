-- The rows of the tables: how often an item stands, and the limits that they name.
use Rattle.std.specs.Prelude.{ℕ, Bool, true, false, List, codes}
use Rattle.frame_terms.specs.declared.{keyword.Keyword.Keyword, row.Count.{Count, TheVariants.{One, Optional, Many}}}
use Rattle.frame_terms.specs.declared.row.Limit.{Limit, TheVariants.{KnownFlags, Methods, Certificate, Votes, Entries}}
use Rattle.frame_terms.specs.declared.row.{Limit.TheVariants.Params, Row.Row}

module _ {K : Type 0} where
  -- an item of a section: its keyword, how often it stands, and what it says
  abbrev pub row : Keyword → Count → K → Row K
  row keyword count kind = record { keyword = keyword; count = count; kind = kind }

-- whether an item has to stand
abbrev pub is_one : Count → Bool
is_one One = true
is_one Optional = false
is_one Many = false

-- whether an item may stand twice
abbrev pub is_many : Count → Bool
is_many One = false
is_many Optional = false
is_many Many = true

-- the greatest number that is read
abbrev pub limit_number : Limit → ℕ
limit_number KnownFlags = 64
limit_number Methods = 64
limit_number Certificate = 65536
limit_number Votes = 64
limit_number Entries = 65535
limit_number Params = 1024

-- the name of a limit in messages
abbrev pub limit_name : Limit → List ℕ
limit_name KnownFlags = codes "known-flags"
limit_name Methods = codes "methods"
limit_name Certificate = codes "certificate"
limit_name Votes = codes "votes"
limit_name Entries = codes "entries"
limit_name Params = codes "params"
