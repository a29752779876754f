use Rattle.dir_values.specs.declared.digest.Fingerprint.{Fingerprint}
use Rattle.health_report.proofs.Loops.{at_place, word_more}
use Rattle.health_report.proofs.members.members_of.Goals as goal

pub members-preserved : goal.members-preserved
members-preserved c =
    word_more (λ (identity : Fingerprint). identity.0) c.members.members c.insert.new.self c.member-member.result _ _ _
    (at_place c.args.roster.now c.members.i c.member-member.result c.member-member.ensures) c.in_ok-insert.ensures
    c.members.invariant
