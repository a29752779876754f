-- The words that the body of an answer may say.
use Rattle.std.specs.Prelude.{List, ℕ, codes}
use Rattle.http_words.specs.declared.word.Word.{Word}
use Rattle.http_words.specs.declared.word.Word.TheVariants as word

-- the text of each word
abbrev pub word_text : Word → List ℕ
word_text word.Kept = codes "kept"
word_text word.Replaced = codes "replaced"
word_text word.Have = codes "have"
word_text word.Head = codes "head"
word_text word.Truncated = codes "truncated"
word_text word.Document = codes "document"
word_text word.ValidAfter = codes "valid-after"
word_text word.Authority = codes "authority"
word_text word.Fingerprint = codes "fingerprint"
word_text word.Expired = codes "expired"
word_text word.Certification = codes "certification"
word_text word.Crosscert = codes "crosscert"
word_text word.Signature = codes "signature"
word_text word.Identity = codes "identity"
word_text word.Ed25519 = codes "ed25519"
word_text word.Older = codes "older"
word_text word.Late = codes "late"
word_text word.OtherPeriod = codes "other-period"
word_text word.Stranger = codes "stranger"
word_text word.Full = codes "full"
word_text word.PoolFull = codes "pool-full"
word_text word.PoolWorn = codes "pool-worn"
word_text word.Rejected = codes "rejected"
word_text word.NotComputed = codes "not-computed"
