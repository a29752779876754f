use Rattle.std.proofs.Common.{List, ap, ◌∙◌, arith}
use Rattle.dir_values.specs.declared.digest.Fingerprint.{Fingerprint}
use Rattle.vote_rehearsal.{specs.{Authorities.members_of, Casting.cast_by}, proofs.CastVotes.more_held}
use Rattle.vote_rehearsal.proofs.casting.held_votes.Goals as goal

pub voters-preserved : goal.voters-preserved
voters-preserved c =
    let relays = c.args.relays.now in
    let all = c.args.voters.now in
    let n = c.voters.voter-index in
    let one = c.voter-item.result in
    let now = c.voters.accepted.votes in
    let new = c.place_if.new.accepted.votes in
    record {
      held_are =
          more_held (cast_by relays (members_of all)) all n one c.in_ok-vote.vote now new c.voters-test.true c.voter-item.is
          (c.in_ok-vote.ensures ∙ ap (λ (r : List Fingerprint). cast_by relays r one) c.in_ok-roster.ensures)
          c.voters.invariant.held_are c.place_if.ensures.votes;
      room = c.place_if.ensures.room ∙ c.voters.invariant.room;
      few = omega (arith, c.place_if.ensures.few, c.voters.invariant.few);
    }
