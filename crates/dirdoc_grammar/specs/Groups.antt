-- How the code reads base64: symbol by symbol, in groups of four. A proof shows that this is what `is_base64` says.
use Rattle.std.specs.Prelude.{ℕ, ◌+◌, ◌-◌, ◌==◌, ◌%◌, nat_le, Bool, true, false, ◌&&◌, List, [], ◌∷◌, if◌then◌else◌}
use Rattle.dirdoc_grammar.specs.declared.base64_text.Group.{Group, TheVariants.{Start, One, Two, Three, PaddedOnce}}
use Rattle.dirdoc_grammar.specs.declared.base64_text.Group.TheVariants.{Closed}

-- the value of a base64 symbol, and 64 of another byte
abbrev pub symbol : ℕ → ℕ
symbol b =
    if nat_le 65 b && nat_le b 90 then b - 65
    else if nat_le 97 b && nat_le b 122 then b - 71
    else if nat_le 48 b && nat_le b 57 then b + 4
    else if b == 43 then 62
    else if b == 47 then 63
    else 64

-- whether the byte may stand next in the group
abbrev pub may_grow : Group → ℕ → Bool
may_grow Start b = nat_le (symbol b) 63
may_grow One b = nat_le (symbol b) 63
may_grow (Two value) b = if b == 61 then value % 16 == 0 else nat_le (symbol b) 63
may_grow (Three value) b = if b == 61 then value % 4 == 0 else nat_le (symbol b) 63
may_grow PaddedOnce b = b == 61
may_grow Closed b = false

-- the group after the byte, if it may stand there
abbrev pub grown_group : Group → ℕ → Group
grown_group Start b = One
grown_group One b = Two (symbol b)
grown_group (Two value) b = if b == 61 then PaddedOnce else Three (symbol b)
grown_group (Three value) b = if b == 61 then Closed else Start
grown_group PaddedOnce b = Closed
grown_group Closed b = Closed

-- whether the text may end here
abbrev pub may_end : Group → Bool
may_end Start = true
may_end One = false
may_end (Two value) = false
may_end (Three value) = false
may_end PaddedOnce = false
may_end Closed = true

-- whether the text goes on the group, to its end
abbrev pub goes_on : Group → List ℕ → Bool
goes_on group [] = may_end group
goes_on group (b ∷ text) = may_grow group b && goes_on (grown_group group b) text
