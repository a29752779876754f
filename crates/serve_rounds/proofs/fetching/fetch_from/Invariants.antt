use Rattle.std.proofs.Common.{take}
use Rattle.key_port.specs.Answers.{rules}
use Rattle.serve_rounds.specs.{Duties.IsFetched, Keeping.{AddsTo, AsksOf, Keeps}, Plans.votes_at, Spans.Anywhere}
use Rattle.serve_rounds.proofs.fetching.fetch_from.Given as goal

abbrev pub invariant-votes : goal.invariant-votes
invariant-votes g l = record {
  keeps : Keeps g.V.Verifier.faults g.N.Signer.faults g.L.Link.faults l.given.board.now l.fn.lent l.lent;
  adds : AddsTo
      (Anywhere (IsFetched (rules g.V.Verifier.may_accept g.V.Verifier.may_refuse) l.given.moment)) l.fn.lent l.lent;
  asks : AsksOf g.L.Link.steps (rules g.V.Verifier.may_accept g.V.Verifier.may_refuse) l.given.board.now
      (votes_at (take l.member-index l.given.station.now.authorities) l.address) l.fn.lent l.lent;
}
