use Rattle.std.{proofs.Common.take, specs.Prelude.flat_map}
use Rattle.key_port.specs.Answers.{rules}
use Rattle.serve_rounds.specs.{Duties.IsFetched, Keeping.{AddsTo, AsksOf, Keeps}, Plans.{peers_among, votes_at}}
use Rattle.serve_rounds.specs.Spans.{Anywhere}
use Rattle.serve_rounds.proofs.fetching.fetch_all.Given as goal

abbrev pub invariant-peers : goal.invariant-peers
invariant-peers g l = record {
  keeps : Keeps g.V.Verifier.faults g.N.Signer.faults g.L.Link.faults l.given.board.now l.fn.lent l.lent;
  adds : AddsTo
      (Anywhere (IsFetched (rules g.V.Verifier.may_accept g.V.Verifier.may_refuse) l.given.moment)) l.fn.lent l.lent;
  asks : AsksOf g.L.Link.steps (rules g.V.Verifier.may_accept g.V.Verifier.may_refuse) l.given.board.now
      (flat_map (votes_at l.given.station.now.authorities)
      (peers_among l.given.station.now.identity (take l.peer-index l.given.station.now.authorities))) l.fn.lent l.lent;
}
