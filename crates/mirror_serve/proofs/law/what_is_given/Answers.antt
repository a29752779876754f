use Rattle.mirror_serve.proofs.GivenLaws.{checked_texts, signed_text}
use Rattle.mirror_serve.proofs.law.what_is_given.Goals as goal

pub returns-clause-consensus : goal.returns-clause-consensus
returns-clause-consensus c = λ rules mirror path text sound is. signed_text rules mirror text sound is

pub returns-clause-certificates : goal.returns-clause-certificates
returns-clause-certificates c = λ rules mirror path text sound is. checked_texts rules mirror text sound is
