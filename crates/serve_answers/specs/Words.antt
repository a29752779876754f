-- The reply to each answer of a state and of a pool, and to each reason why an upload is refused.
use Rattle.authority_certs.specs.declared.checking.CertAnswer.{CertAnswer}
use Rattle.authority_certs.specs.declared.checking.CertAnswer.TheVariants as certs
use Rattle.descriptor_doc.specs.declared.checking.DescriptorRefusal.{DescriptorRefusal}
use Rattle.descriptor_doc.specs.declared.checking.DescriptorRefusal.TheVariants as descriptors
use Rattle.http_words.specs.declared.replies.Reply.{Reply, TheVariants.{Done, Refused, VerifierFault}}
use Rattle.http_words.specs.declared.word.Word.TheVariants as word
use Rattle.period_terms.specs.declared.answer.Offer.{Offer}
use Rattle.period_terms.specs.declared.answer.Offer.TheVariants as offers
use Rattle.vote_doc.specs.declared.check.VoteRefusal.{VoteRefusal}
use Rattle.vote_doc.specs.declared.check.VoteRefusal.TheVariants as votes
use Rattle.vote_pool.specs.declared.answers.Keep.{Keep}
use Rattle.vote_pool.specs.declared.answers.Keep.TheVariants as keeps

-- the reply to an offered vote
abbrev pub reply_to_offer : Offer → Reply
reply_to_offer (offers.OtherPeriod valid_after) = Refused word.OtherPeriod
reply_to_offer (offers.Stranger authority) = Refused word.Stranger
reply_to_offer (offers.Late now cutoff frozen) = Refused word.Late
reply_to_offer (offers.Have held) = Done word.Have
reply_to_offer (offers.Older held) = Refused word.Older
reply_to_offer offers.Full = Refused word.Full
reply_to_offer (offers.Kept position) = Done word.Kept
reply_to_offer (offers.Replaced position old) = Done word.Replaced

-- the reply to a descriptor that was kept, or was not
abbrev pub reply_to_keep : Keep → Reply
reply_to_keep keeps.Kept = Done word.Kept
reply_to_keep keeps.Replaced = Done word.Replaced
reply_to_keep keeps.Have = Done word.Have
reply_to_keep (keeps.Older held) = Refused word.Older
reply_to_keep keeps.Worn = Refused word.PoolWorn
reply_to_keep keeps.PoolFull = Refused word.PoolFull

-- the reply where a vote's certificate does not hold
abbrev pub reply_to_cert : CertAnswer → Reply
reply_to_cert certs.Checked = VerifierFault
reply_to_cert certs.WrongFingerprint = Refused word.Fingerprint
reply_to_cert (certs.Expired at expires) = Refused word.Expired
reply_to_cert certs.BadCertification = Refused word.Certification
reply_to_cert certs.BadCrosscert = Refused word.Crosscert
reply_to_cert certs.VerifierFault = VerifierFault

-- the reply to a vote that does not hold
abbrev pub reply_to_vote : VoteRefusal → Reply
reply_to_vote (votes.WrongPeriod valid_after) = Refused word.ValidAfter
reply_to_vote votes.UnknownAuthority = Refused word.Authority
reply_to_vote (votes.Cert answer) = reply_to_cert answer
reply_to_vote votes.BadSignature = Refused word.Signature
reply_to_vote votes.VerifierFault = VerifierFault

-- the reply to a descriptor that does not hold
abbrev pub reply_to_descriptor : DescriptorRefusal → Reply
reply_to_descriptor descriptors.IdentityMismatch = Refused word.Identity
reply_to_descriptor descriptors.BadSignature = Refused word.Signature
reply_to_descriptor descriptors.BadEdSignature = Refused word.Ed25519
reply_to_descriptor descriptors.VerifierFault = VerifierFault
