use Rattle.std.proofs.Common.{take}
use Rattle.key_port.specs.Answers.{rules}
use Rattle.serve_rounds.specs.{Duties.IsGathered, Exchanges.{AsksSome, Whatever}, Keeping.{AddsTo, Keeps}}
use Rattle.serve_rounds.specs.{Plans.{GetSignatures, peers_among, to_each}, Spans.Anywhere}
use Rattle.serve_rounds.proofs.gathering.gather_all.Given as goal

abbrev pub invariant-peers : goal.invariant-peers
invariant-peers g l = record {
  keeps : Keeps g.V.Verifier.faults g.N.Signer.faults g.L.Link.faults l.given.board.now l.fn.lent l.lent;
  adds : AddsTo
      (Anywhere (IsGathered (rules g.V.Verifier.may_accept g.V.Verifier.may_refuse))) l.fn.lent l.lent;
  asks : AsksSome g.L.Link.steps Whatever
      (to_each (peers_among l.given.station.now.identity (take l.peer-index l.given.station.now.authorities))
      GetSignatures) l.fn.lent.link.now l.lent.link.now;
}
