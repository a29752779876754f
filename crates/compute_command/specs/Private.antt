-- What the private functions of this crate return.
use Rattle.std.specs.{Prelude.{◌≡◌, ℕ, true, false, List, length, Result, Ok, Err}, Global.Vec}
use Rattle.vote_terms.specs.Votes.{ReadVote}
use Rattle.count_terms.specs.Counts.{over}
use Rattle.compute_terms.specs.Consensuses.{consensus}
use Rattle.daemon_words.specs.declared.command.Compute.{Compute}
use Rattle.compute_command.specs.Answers.{texts_of}
use Rattle.consensus_calc.specs.declared.record.CalcFault.{CalcFault}
use Rattle.consensus_calc.specs.declared.record.CalcFault.TheVariants as calc

-- the texts of the consensus of the held votes where they are of more than half of the roster, and else how many there are
abbrev pub WritesText : Compute → List ReadVote → Result (Vec ℕ) CalcFault → Type 0
WritesText wanted held (Ok text) =
    (over (length held) (length wanted.roster) ≡ true)
    × (text.items ≡ texts_of wanted.flavours (consensus wanted.newest (length wanted.roster) held))
WritesText wanted held (Err (calc.TooFew count of_roster)) =
    (over (length held) (length wanted.roster) ≡ false) × (count ≡ length held) × (of_roster ≡ length wanted.roster)
WritesText wanted held (Err calc.Memory) = Unit {0}
