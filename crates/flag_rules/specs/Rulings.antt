-- What each ruling of an operator means.
use Rattle.std.specs.Prelude.{Bool, true, false}
use Rattle.flag_rules.specs.declared.ruling.Ruling.{Ruling, TheVariants.{Approve, Reject, Invalid, BadExit, MiddleOnly}}

-- whether a relay is left out
abbrev pub is_reject : Ruling → Bool
is_reject Approve = false
is_reject Reject = true
is_reject Invalid = false
is_reject BadExit = false
is_reject MiddleOnly = false

-- whether a relay may be valid
abbrev pub lets_valid : Ruling → Bool
lets_valid Approve = true
lets_valid Reject = false
lets_valid Invalid = false
lets_valid BadExit = true
lets_valid MiddleOnly = true

-- whether clients are to use no exit of a relay
abbrev pub is_bad_exit : Ruling → Bool
is_bad_exit Approve = false
is_bad_exit Reject = false
is_bad_exit Invalid = false
is_bad_exit BadExit = true
is_bad_exit MiddleOnly = true

-- whether clients are to use a relay in the middle of a circuit alone
abbrev pub is_middle_only : Ruling → Bool
is_middle_only Approve = false
is_middle_only Reject = false
is_middle_only Invalid = false
is_middle_only BadExit = false
is_middle_only MiddleOnly = true

-- whether two rulings are one
abbrev pub same_ruling : Ruling → Ruling → Bool
same_ruling Approve Approve = true
same_ruling Reject Reject = true
same_ruling Invalid Invalid = true
same_ruling BadExit BadExit = true
same_ruling MiddleOnly MiddleOnly = true
same_ruling _ _ = false
