use Rattle.std.proofs.Common.{Some, ap, refl, ◌∙◌}
use Rattle.vote_rehearsal.{specs.Votes.period, proofs.Casts.{acceptable_is, refused_is}}
use Rattle.vote_rehearsal.proofs.casting.if_acceptable.Goals as goal

pub returns-in-Ok : goal.returns-in-Ok
returns-in-Ok c =
    rw (acceptable_is c.args.roster.now period c.args.vote c.in-Ok.ensures.accepted.1)
    (ap Some (c.into_held.ensures.vote ∙ c.in-Ok.ensures.accepted.0))

pub returns-in-Err : goal.returns-in-Err
returns-in-Err c =
    rw (refused_is c.args.roster.now period c.args.vote c.in-Err.field-0 c.in-Err.ensures.fault c.in-Err.ensures.refused)
    refl
