-- How a refusal of a call is told as the command's.
use Rattle.consensus_calc.specs.declared.record.CalcFault.{CalcFault}
use Rattle.consensus_calc.specs.declared.record.CalcFault.TheVariants as calc
use Rattle.daemon_words.specs.{Stops.told_as, declared.stop.Stop.Stop}
use Rattle.daemon_words.specs.declared.stop.Stop.TheVariants as stop
use Rattle.compute_command.specs.declared.refusal.{AcceptRefusal.AcceptRefusal, ComputeRefusal.ComputeRefusal}
use Rattle.compute_command.specs.declared.refusal.EndRefusal.{EndRefusal}
use Rattle.compute_command.specs.declared.refusal.AcceptRefusal.TheVariants as accept
use Rattle.compute_command.specs.declared.refusal.ComputeRefusal.TheVariants as refusal
use Rattle.compute_command.specs.declared.refusal.EndRefusal.TheVariants as end
use Rattle.compute_command.specs.declared.refusal.VoteListRefusal.TheVariants as list

-- that votes are not held
abbrev pub by_accept : AcceptRefusal → ComputeRefusal
by_accept (accept.Vote number word) = refusal.Votes (list.Vote number word)
by_accept accept.Verifier = refusal.Verifier

-- that an input gives no held votes
abbrev pub by_end : EndRefusal → ComputeRefusal
by_end (end.Fault fault) = refusal.Fault fault
by_end (end.Votes why) = by_accept why

abbrev pub of_end : Stop EndRefusal → Stop ComputeRefusal
of_end given = told_as by_end given

-- that there is no consensus of those that are held
abbrev pub of_calc : CalcFault → Stop ComputeRefusal
of_calc (calc.TooFew held roster) = stop.Refused (refusal.Votes (list.TooFew held roster))
of_calc calc.Memory = stop.Memory
