-- What is remembered across the sections of a vote: the relays that it lists, and which shared random values stand. Each of
-- these stands once in all, in the preamble or in the section of the authority.
use Rattle.std.specs.Prelude.{ℕ, Bool, true, false, Result, Ok, Err, if◌then◌else◌}
use Rattle.frame_terms.specs.declared.{fault.FrameFault.FrameFault, keyword.Keyword.Keyword}
use Rattle.frame_terms.specs.declared.fault.FrameReason.TheVariants as reason
use Rattle.frame_terms.specs.declared.keyword.Keyword.TheVariants as the
use Rattle.value_groups.specs.declared.line.RandomLine.{RandomLine, TheVariants.{Previous, Current}}
use Rattle.value_groups.specs.declared.value.SharedRandom.{SharedRandom}
use Rattle.relay_entries.specs.{declared.listed.Listed.Listed, Listing.{fault_at, none_listed}}
use Rattle.vote_frame.specs.declared.across.Across.{Across}

-- nothing yet
abbrev pub nothing_across : Across
nothing_across = record { listed = none_listed; has_previous = false; has_current = false }

-- with these relays
abbrev pub with_listed : Across → Result Listed FrameFault → Result Across FrameFault
with_listed across (Ok listed) =
    Ok (record { listed = listed; has_previous = across.has_previous; has_current = across.has_current })
with_listed across (Err fault) = Err fault

-- ---- shared random values

-- the keyword of a line
abbrev pub keyword_of : RandomLine → Keyword
keyword_of Previous = the.SharedRandPreviousValue
keyword_of Current = the.SharedRandCurrentValue

-- whether a line stands
abbrev pub has_line : Across → RandomLine → Bool
has_line across Previous = across.has_previous
has_line across Current = across.has_current

-- with one more line
abbrev pub with_line : Across → RandomLine → Across
with_line across Previous = record { listed = across.listed; has_previous = true; has_current = across.has_current }
with_line across Current = record { listed = across.listed; has_previous = across.has_previous; has_current = true }

-- with one more line, unless something is wrong with it at a place
abbrev pub unless_wrong : Across → RandomLine → Result SharedRandom ℕ → Result Across FrameFault
unless_wrong across line (Ok random) = Ok (with_line across line)
unless_wrong across line (Err wrong) = Err (fault_at wrong reason.Value)

-- The same of an item that begins at a place. That the line stands already comes before what is wrong with it.
abbrev pub note_random : Across → ℕ → RandomLine → Result SharedRandom ℕ → Result Across FrameFault
note_random across place line read =
    if has_line across line then Err (fault_at place (reason.Twice (keyword_of line))) else unless_wrong across line read
