use Rattle.std.proofs.Common.{◌≡◌, ◌-◌, ◌∙◌, suc, ap, subst, sym, Ok, Err, rules, arith}
use Rattle.frame_terms.specs.{declared.fault.ReadRefusal.ReadRefusal, Refusals.Fails}
use Rattle.vote_doc.specs.Reading.{vote_from}
use Rattle.report_command.{specs.Inputs.{ahead_at, too_many, votes_of}, proofs.Chains.{ahead_fails, done, one_read}}
use Rattle.report_command.proofs.Chains.{too_many_there, vote_fails}
use Rattle.report_command.specs.declared.reading.Ahead.TheVariants as ahead
use Rattle.report_command.proofs.reading.votes_of.Goals as goal

pub returns-in-Err-clause-votes : goal.returns-in-Err-clause-votes
returns-in-Err-clause-votes c =
    let more : ahead_at c.votes.place c.args.bytes.now ≡ Err c.in-Err.refusal =
    sym (c.in-Err.ensures ∙ ap (ahead_at c.votes.place) c.deref.ensures) in
    ahead_fails c.votes.room c.votes.place c.args.bytes.now c.in-Err.refusal c.votes.found.items (votes_of c.args.bytes.now)
    more c.votes.invariant.read

pub returns-in-Ok-Consensus-clause-votes : goal.returns-in-Ok-Consensus-clause-votes
returns-in-Ok-Consensus-clause-votes c =
    let more : ahead_at c.votes.place c.args.bytes.now ≡ Ok (ahead.Consensus c.in-Ok-Consensus.at) = search rules in
    done c.votes.room c.votes.place c.args.bytes.now c.in-Ok-Consensus.at c.votes.found.items (votes_of c.args.bytes.now)
    more c.votes.invariant.read

pub returns-then-room-eq0-clause-votes : goal.returns-then-room-eq0-clause-votes
returns-then-room-eq0-clause-votes c =
    let more : ahead_at c.votes.place c.args.bytes.now ≡ Ok (ahead.Vote c.in-Ok-Vote.fault) = search rules in
    too_many_there c.votes.room c.votes.place c.args.bytes.now c.in-Ok-Vote.fault c.votes.found.items
    (votes_of c.args.bytes.now) c.if-room-eq0.true more c.votes.invariant.read

pub returns-in-Err-Frame-clause-votes : goal.returns-in-Err-Frame-clause-votes
returns-in-Err-Frame-clause-votes c =
    let step : c.votes.room ≡ suc (c.votes.room - 1) = omega arith in
    let more : ahead_at c.votes.place c.args.bytes.now ≡ Ok (ahead.Vote c.in-Ok-Vote.fault) = search rules in
    let bytes = c.args.bytes.now in
    let fails =
    subst (λ (why : ReadRefusal). Fails why (vote_from c.votes.place bytes)) c.in-Err-Frame.field-0-is c.in-Err-Frame.ensures in
    vote_fails c.votes.room (c.votes.room - 1) c.votes.place bytes c.in-Ok-Vote.fault c.in-Err-Frame.fault
    c.votes.found.items (votes_of bytes) step more fails c.votes.invariant.read
    ∙ ap too_many (sym c.in-Err-Frame.fault-is)

pub votes-preserved : goal.votes-preserved
votes-preserved c =
    let step : c.votes.room ≡ suc (c.votes.room - 1) = omega arith in
    let more : ahead_at c.votes.place c.args.bytes.now ≡ Ok (ahead.Vote c.in-Ok-Vote.fault) = search rules in
    let is = c.in-Ok.ensures in
    record {
      within = is.1;
      room = omega (arith, c.in_ok-push.ensures.len, c.votes.invariant.room);
      read = one_read c.votes.room (c.votes.room - 1) c.votes.place c.args.bytes.now c.in-Ok-Vote.fault c.in-Ok.vote
          c.in-Ok.after c.votes.found.items c.push.new.self.items (votes_of c.args.bytes.now) step more is.0
          c.votes.invariant.read c.in_ok-push.ensures.items;
    }
