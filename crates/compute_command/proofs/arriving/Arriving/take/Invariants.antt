use Rattle.std.proofs.Common.{◌≡◌, ℕ, List, ◌++◌, length}
use Rattle.key_port.specs.Answers.{rules}
use Rattle.compute_command.specs.{Arriving.{IsArriving, WithMore}, Asked.{AskedBefore, AsksArrived}, Checked.TellsOn}
use Rattle.compute_command.proofs.arriving.Arriving.take.Given as goal

abbrev pub invariant-turns : goal.invariant-turns
invariant-turns g l =
    let its = rules g.V.Verifier.may_accept g.V.Verifier.may_refuse in
    record {
      done : List ℕ;
      parts : l.fn.piece ≡ done ++ l.left;
      arrives : WithMore its l.wanted l.fn.self (length l.fn.piece) (λ bytes. IsArriving its l.wanted (bytes ++ done) l.now);
      faults : TellsOn (g.V.Verifier.faults l.fn.verifier) (g.V.Verifier.faults l.verifier) l.fn.self.votes.first
          l.now.votes.first;
      asked : AskedBefore g.V.Verifier.steps its l.wanted l.fn.self (length l.fn.piece) l.fn.verifier
          (λ start bytes. AsksArrived g.V.Verifier.steps its l.wanted (bytes ++ done) l.now start l.verifier);
    }

abbrev pub decreases-turns : goal.decreases-turns
decreases-turns g l = length l.left
