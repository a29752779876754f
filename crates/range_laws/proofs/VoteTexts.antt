-- The items of a vote that says what is in range may be written, but for the limits.
use Rattle.std.proofs.{Common.{◌≡◌, ℕ, true, List, [], ◌∷◌, ◌++◌, refl}, lemmas.List.Elements.{All-append, All-cons}}
use Rattle.std.{proofs.lemmas.List.Elements.All-weaker, specs.Prelude.{All, IfSome, codes}}
use Rattle.base64.specs.GeneralPurpose.{IsBytes}
use Rattle.dir_bytes.specs.FieldTexts.{hex_text}
use Rattle.dirdoc_grammar.specs.{Writers.is_argument, Writing.IsLineRest}
use Rattle.grammar_laws.{proofs.LineRests.rest_of_nothing, specs.Written.IsItem}
use Rattle.dir_values.specs.declared.algorithm.Algorithm.{Algorithm, TheVariants.{Sha1, Sha256}}
use Rattle.frame_terms.specs.declared.keyword.Keyword.TheVariants as the
use Rattle.frame_values.specs.Items.{bare, with_object}
use Rattle.frame_laws.proofs.WordTexts.{IsWord, two_words, word_of_identity}
use Rattle.value_laws.proofs.LineWords.{rest_of_words}
use Rattle.authority_certs.specs.Texts.{cert_items}
use Rattle.certificate_laws.specs.Again.{SaysInRange}
use Rattle.vote_terms.specs.declared.facts.{SignatureFacts.SignatureFacts, VoteFacts.VoteFacts}
use Rattle.vote_text.specs.{Entries.entries_items, Texts.{algorithm_text, authority_items, footer_items}}
use Rattle.vote_text.specs.Texts.{preamble_items, signer_text, vote_items}
use Rattle.vote_laws.proofs.{BareRows.{AreRests, IsBare}, BareVotes.before_bare, VoteRows.preamble_texts}
use Rattle.vote_laws.{proofs.MayWrite.{MayWrite, bare_may, object_may, two_may}, specs.Again.HasValuesInRange}
use Rattle.vote_laws.specs.Again.{IsSignatureInRange}
use Rattle.range_laws.proofs.{CertItems.{HasBytes, cert_may}, EntryTexts.entries_bare}
use Rattle.range_laws.proofs.EntryTexts as entry

-- ---- its signature

signer_rest : (algorithm : Algorithm) (a b : List ℕ) → is_argument a ≡ true → is_argument b ≡ true
    → IsLineRest (algorithm_text algorithm ++ a ++ 32 ∷ b)
signer_rest Sha1 a b first second = rest_of_words (a ∷ b ∷ []) (two_words a b first second)
signer_rest Sha256 a b first second =
    rest_of_words (codes "sha256" ∷ a ∷ b ∷ [])
    (All-cons IsWord (codes "sha256") (a ∷ b ∷ []) refl (two_words a b first second))

footer_may : (signature : SignatureFacts) → IsSignatureInRange signature → IsBytes signature.signature
    → MayWrite (footer_items signature)
footer_may signature are bytes =
    let a = hex_text signature.identity.0 in
    let b = hex_text signature.key_digest.0 in
    let rest =
    signer_rest signature.algorithm a b
    (word_of_identity signature.identity.0 are.identity.count are.identity.each)
    (word_of_identity signature.key_digest.0 are.key_digest.count are.key_digest.each) in
    two_may (bare the.DirectoryFooter [])
    (with_object the.DirectorySignature (signer_text signature) (codes "SIGNATURE") signature.signature)
    (bare_may the.DirectoryFooter [] rest_of_nothing)
    (object_may the.DirectorySignature (signer_text signature) (codes "SIGNATURE") signature.signature rest refl bytes)

-- ---- all of them

-- what a vote says is in range, and its texts are the rests of lines and bytes
pub record SaysWhole (facts : VoteFacts) : Type 0 where
  pub values : HasValuesInRange facts
  pub texts : AreRests (preamble_texts facts)
  pub contact : IfSome facts.contact IsLineRest
  pub certificate : SaysInRange facts.certificate
  pub keys : HasBytes facts.certificate
  pub rests : All entry.HasRests facts.entries
  pub signed : IsBytes facts.signature.signature

pub vote_may : (facts : VoteFacts) → SaysWhole facts → MayWrite (vote_items facts)
vote_may facts says =
    let a = preamble_items facts in
    let b = authority_items facts in
    let c = cert_items facts.certificate in
    let d = entries_items facts.entries in
    All-append IsItem (a ++ b ++ c ++ d) (footer_items facts.signature)
    (All-append IsItem (a ++ b ++ c) d
    (All-append IsItem (a ++ b) c
    (All-weaker IsBare IsItem (λ item is. is.may) (a ++ b) (before_bare facts says.values says.texts says.contact))
    (cert_may facts.certificate says.certificate says.keys))
    (All-weaker IsBare IsItem (λ item is. is.may) d
    (entries_bare facts.entries says.values.entries.each says.rests)))
    (footer_may facts.signature says.values.signature says.signed)
