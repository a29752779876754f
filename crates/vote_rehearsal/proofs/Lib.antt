mod KnownRelays
mod Rosters
mod Drawing
mod Casts
mod SignedTexts
mod CertificateTexts
mod CastVotes
mod SummaryTexts
