-- What the verifier was asked of what a source gave, by how the command ends.
use Rattle.std.{proofs.Common.{◌≡◌, ℕ, List, Option, None, Ok, Err}, specs.{Global.Vec, Io.KnownBytes.Consumes}}
use Rattle.dir_bytes.proofs.Appending.{consumes_more}
use Rattle.key_port.specs.Answers.{Rules, Steps}
use Rattle.daemon_words.specs.declared.{command.Compute.Compute, stop.Stop.Stop}
use Rattle.consensus_calc.specs.declared.record.CalcFault.{CalcFault}
use Rattle.consensus_calc.specs.declared.record.CalcFault.TheVariants as calc
use Rattle.daemon_words.specs.declared.stop.Stop.TheVariants as stop
use Rattle.compute_command.specs.declared.refusal.{AcceptRefusal.AcceptRefusal, EndRefusal.EndRefusal}
use Rattle.compute_command.specs.{declared.arriving.Arriving.Arriving, Arriving.TellsEnd, Asked.{AsksFrom, AsksOfBytes}}
use Rattle.compute_command.specs.{Asked.AsksReading, Told.{of_calc, of_end}}
use Rattle.compute_command.specs.declared.refusal.AcceptRefusal.TheVariants as accept
use Rattle.compute_command.specs.declared.refusal.EndRefusal.TheVariants as end
use Rattle.compute_command.specs.declared.halt.Halt.TheVariants as halt

module _ {V : Type 0} (steps : Steps V) (rules : Rules) (wanted : Compute) (left after : Option (List ℕ)) (old new : V) where
  -- there are more than the limit, and the last piece was not looked at
  pub asked_long : (mid : Option (List ℕ)) (bytes piece : List ℕ) (first : Option AcceptRefusal) → Consumes left mid bytes
      → Consumes mid after piece → AsksOfBytes steps rules wanted bytes first old new
      → AsksReading steps rules wanted left after old new (Err halt.TooLong)
  asked_long mid bytes piece first taken more asks = record {
    bytes = bytes;
    come = (piece, consumes_more left mid after bytes piece taken more);
    first = first;
    told = tt;
    asks = asks;
  }

  -- the source failed
  pub asked_failed : (bytes : List ℕ) (first : Option AcceptRefusal) → Consumes left after bytes
      → AsksOfBytes steps rules wanted bytes first old new
      → AsksReading steps rules wanted left after old new (Err halt.ReadFault)
  asked_failed bytes first taken asks = record { bytes = bytes; come = taken; first = first; told = tt; asks = asks }

  module _ (arriving : Arriving) (read : AsksReading steps rules wanted left after old new (Ok arriving)) where
    -- the end of the input stops it
    pub asked_end : (why : Stop EndRefusal) → TellsEnd arriving.votes.first (Err why)
        → AsksFrom steps rules wanted left after (Err (halt.Stops (of_end why))) old new
    asked_end stop.Memory tells = tt
    asked_end (stop.Refused (end.Fault fault)) tells =
        record { bytes = read.0; come = read.1; first = arriving.votes.first; told = tt; asks = read.2 }
    asked_end (stop.Refused (end.Votes (accept.Vote number word))) tells =
        record { bytes = read.0; come = read.1; first = arriving.votes.first; told = tells; asks = read.2 }
    asked_end (stop.Refused (end.Votes accept.Verifier)) tells =
        record { bytes = read.0; come = read.1; first = arriving.votes.first; told = tells; asks = read.2 }

    -- there is no consensus
    pub asked_calc : (why : CalcFault) → arriving.votes.first ≡ None
        → AsksFrom steps rules wanted left after (Err (halt.Stops (of_calc why))) old new
    asked_calc calc.Memory none = tt
    asked_calc (calc.TooFew count roster) none =
        record { bytes = read.0; come = read.1; first = arriving.votes.first; told = none; asks = read.2 }

    -- there is a text
    pub asked_text : (text : Vec ℕ) → arriving.votes.first ≡ None
        → AsksFrom steps rules wanted left after (Ok text) old new
    asked_text text none =
        record { bytes = read.0; come = read.1; first = arriving.votes.first; told = none; asks = read.2 }
