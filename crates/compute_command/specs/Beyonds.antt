-- The bytes behind the last vote that an input may have.
use Rattle.std.specs.Prelude.{◌≡◌, ℕ, List, ◌++◌, Option, Some, None}
use Rattle.item_terms.specs.Items.{no_limit}
use Rattle.dirdoc_grammar.specs.{declared.{cursor.Cursor.Cursor, take.Take.Take}, Cursors.IsAt, Seen.seen_item}
use Rattle.dirdoc_grammar.specs.declared.take.Take.TheVariants as taken
use Rattle.frame_terms.specs.declared.fault.{FrameFault.FrameFault, FrameReason.TheVariants.Doc}
use Rattle.frame_terms.specs.declared.fault.ReadRefusal.TheVariants.{Frame}
use Rattle.compute_command.specs.{Furthers.IsFurther, Votes.{item_too_many, one_more_of}}

-- Whatever follows, one vote more is refused for this fault.
abbrev pub HasTooMany : List ℕ → FrameFault → Type 0
HasTooMany bytes fault = (more : List ℕ) → one_more_of (bytes ++ more) ≡ Some (Frame fault)

-- where no more follow, nothing where the input ends there, and else why one vote more is refused, so many bytes
-- further on
abbrev pub EndsBeyond : ℕ → List ℕ → Option FrameFault → Type 0
EndsBeyond start bytes None = one_more_of bytes ≡ None
EndsBeyond start bytes (Some fault) = IsFurther start (λ own. one_more_of bytes ≡ Some (Frame own)) fault

-- A reader stands at the first of the bytes, under no limit.
pub record ReadsFront (bytes : List ℕ) (cursor : Cursor) : Type 0 where
  pub reads : IsAt bytes cursor
  pub limit : cursor.limit ≡ no_limit
  pub place : cursor.place ≡ 0

-- why what a reader gives first is no end of the input: an item begins no vote, or is one too many; a fault is one
abbrev pub fault_of : Take → Option FrameFault
fault_of (taken.Item item) = Some (item_too_many (seen_item item))
fault_of (taken.Fault fault) = Some (record { place = fault.place; reason = Doc fault.reason })
fault_of taken.NotYet = None
fault_of taken.End = None
