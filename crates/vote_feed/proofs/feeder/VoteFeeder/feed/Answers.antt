use Rattle.std.proofs.Common.{Ok, ap, refl}
use Rattle.vote_feed.{specs.declared.fed.Fed.Fed, proofs.Feeding.{tells_faulty, tells_whole}}
use Rattle.vote_feed.proofs.feeder.VoteFeeder.feed.Goals as goal

pub returns-in-Some-clause-whole : goal.returns-in-Some-clause-whole
returns-in-Some-clause-whole c =
    λ whole. (ap (λ (f : Fed). Ok f) (tells_whole c.in-Some.fed c.args.self.now c.in-Some.ensures whole), refl)

pub returns-in-Some-clause-faulty : goal.returns-in-Some-clause-faulty
returns-in-Some-clause-faulty c =
    λ faulty. (ap (λ (f : Fed). Ok f) (tells_faulty c.in-Some.fed c.args.self.now c.in-Some.ensures faulty), refl)
