-- Where the next microdescriptor begins, behind the one that an input begins with: with the line of an `onion-key`, whatever is
-- wrong with this line or its object (dir-spec, "Computing microdescriptors").
use Rattle.std.specs.Prelude.{ℕ, nat_le, Bool, List, drop, codes, Option, Some, None, Result, Ok, Err, option_and_then}
use Rattle.std.specs.{Prelude.if◌then◌else◌, List.fold}
use Rattle.item_terms.specs.Items.{Item, items_of}
use Rattle.dirdoc_grammar.specs.Reading.{first_line}
use Rattle.blank_lines.specs.{Blanks.after_blanks, Keywords.has_keyword}
use Rattle.frame_terms.specs.declared.fault.{FrameFault.FrameFault, FrameReason.TheVariants.Order}
use Rattle.frame_terms.specs.declared.fault.ReadRefusal.{ReadRefusal, TheVariants.{Frame, Memory}}
use Rattle.micro_desc.specs.{declared.micro.Micro.Micro, Reading.{max_micro, micro_of}}

-- the place after the last of these items, if there is one
abbrev pub after_last : List Item → Option ℕ
after_last items = fold (λ before item. Some item.after) None items

-- whether the keyword of a line is `onion-key`
abbrev pub is_onion_key : List ℕ → Bool
is_onion_key line = has_keyword (codes "onion-key") line

-- this place, where such a line begins there
abbrev pub if_onion_key : List ℕ → ℕ → Option ℕ
if_onion_key bytes place = if is_onion_key (first_line (drop place bytes)).text then Some place else None

-- where the next microdescriptor begins, behind the items that stand before the first fault of a line or an object
abbrev pub next_micro : List ℕ → Option ℕ
next_micro bytes =
    option_and_then (if_onion_key bytes)
    (option_and_then (λ after. after_blanks after bytes) (after_last (items_of max_micro bytes).items))

-- the fault, or, where it stands at the place where the next microdescriptor begins or behind it, that its line is out of order
abbrev pub unless_behind : Option ℕ → FrameFault → FrameFault
unless_behind None fault = fault
unless_behind (Some next) fault = if nat_le next fault.place then record { place = next; reason = Order } else fault

-- why an input is refused whose first microdescriptor was
abbrev pub refused_of : List ℕ → ReadRefusal → ReadRefusal
refused_of bytes (Frame fault) = Frame (unless_behind (next_micro bytes) fault)
refused_of bytes Memory = Memory

-- what was read, or why the input is refused
abbrev pub or_refused : {X : Type 0} → List ℕ → Result X ReadRefusal → Result X ReadRefusal
or_refused bytes (Ok read) = Ok read
or_refused bytes (Err refusal) = Err (refused_of bytes refusal)

-- the microdescriptor that an input begins with, and the place after it; or the first fault
abbrev pub first_micro : List ℕ → Result (Micro × ℕ) ReadRefusal
first_micro bytes = or_refused bytes (micro_of bytes)
