use Rattle.std.proofs.Common.{◌<◌, length, Some, refl, rules}
use Rattle.authority_daemon.{specs.Commands.{may, uses}, proofs.Asking.{behind_stay, counted, first_is, none_asked}}
use Rattle.authority_daemon.proofs.{Asking.{tells, vote_answered, vote_unasked}, Ending.on_true}
use Rattle.authority_daemon.proofs.texts.answer_to.Goals as goal

pub returns-in-MakeVote-clause-answer : goal.returns-in-MakeVote-clause-answer
returns-in-MakeVote-clause-answer g c =
    let clocks : 0 < length c.args.outside.now.clocks.items = search rules in
    let verifiers : 0 < length c.args.outside.now.verifiers.items = search rules in
    record {
      answer =
          vote_answered (may g.V.Verifier.may_accept g.V.Verifier.may_refuse g.N.Signer.may_give g.N.Signer.steps)
          _ c.args.command.now (g.C.Clock.last c.vote.new.clock) _ c.args.bytes.now _ _ c.vote.result
          c.in-MakeVote.is
          (first_is g.C.Clock.last c.args.outside.now.clocks.items c.vote.new.clock clocks)
          c.vote.ensures.answer;
      verifier =
          tells g.V.Verifier.faults c.args.outside.now.verifiers.items c.index_mut-in-MakeVote.result.now
          c.vote.new.verifier _ verifiers c.index_mut-in-MakeVote.ensures.value
          c.vote.ensures.verifier_fault c.vote.ensures.verifier_told;
      signer = search rules;
      others = behind_stay c.args.outside.now.verifiers.items c.vote.new.verifier;
      unasked = search rules;
      unchecked =
          none_asked c.args.command.now c.args.command.now c.args.outside.now.verifiers.items
          c.index_mut-in-MakeVote.result.now c.vote.new.verifier c.vote.result refl verifiers
          c.index_mut-in-MakeVote.ensures.value
          (vote_unasked _ c.args.command.now c.vote.result _ c.in-MakeVote.is c.vote.ensures.unasked);
      timed =
          λ answered. on_true (uses (Some c.args.command.now)).clock _
          (counted g.C.Clock.asks c.args.outside.now.clocks.items c.index_mut.result.now
          c.vote.new.clock clocks c.index_mut.ensures.value c.vote.ensures.clock);
      other_clocks = behind_stay c.args.outside.now.clocks.items c.vote.new.clock;
      untimed = search rules;
      unsigned = search rules;
      unasked_signer = search rules;
    }
