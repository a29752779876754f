-- What is kept of a vote.
use Rattle.std.specs.Prelude.{List, []}
use Rattle.frame_terms.specs.declared.document.Taken.{Taken}
use Rattle.frame_values.specs.declared.values.Value.{Value}
use Rattle.vote_frame.specs.declared.frame.VoteSection.{VoteSection, TheVariants.{Preamble, Authority, Certificate}}
use Rattle.vote_frame.specs.declared.frame.{VoteSection.TheVariants.{Entry, Footer}, VoteValue.VoteValue}
use Rattle.vote_entries.specs.Kept.{entry_of, with_entry}
use Rattle.vote_doc.specs.{Heads.{head_with, no_head}, declared.kept.Kept.Kept}

-- what is kept where nothing was read
abbrev pub none_kept : Kept
none_kept = record { head = no_head; entries = [] }

-- what is kept with one more section that is no entry
abbrev pub with_head : Kept → VoteSection → List (Taken (Value VoteValue)) → Kept
with_head kept section taken = record kept { head = head_with kept.head section taken }

-- what is kept after one more section
abbrev pub kept_with : Kept → VoteSection → List (Taken (Value VoteValue)) → Kept
kept_with kept Entry taken = record kept { entries = with_entry kept.entries (entry_of taken) }
kept_with kept Preamble taken = with_head kept Preamble taken
kept_with kept Authority taken = with_head kept Authority taken
kept_with kept Certificate taken = with_head kept Certificate taken
kept_with kept Footer taken = with_head kept Footer taken
