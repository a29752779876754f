-- The text of a vote whose certificate has the bytes that are given, and of it the part that is signed (dir-spec, "Vote
-- and consensus status document formats").
use Rattle.std.specs.Prelude.{ℕ, List, [], ◌∷◌, ◌++◌, codes}
use Rattle.item_terms.specs.Bytes.{line_feed}
use Rattle.dirdoc_grammar.specs.{Bodies.object_text, Writing.{item_text, items_text}}
use Rattle.frame_terms.specs.declared.keyword.Keyword.TheVariants as the
use Rattle.frame_values.specs.Items.{bare}
use Rattle.vote_terms.specs.declared.facts.{SignatureFacts.SignatureFacts, VoteFacts.VoteFacts}
use Rattle.vote_text.specs.{Entries.entries_items, Texts.{authority_items, preamble_items, signer_text}}

-- The text that is signed: through the one space after `directory-signature`. Of what the vote says neither its
-- certificate nor its signature is in it, but the certificate's bytes.
abbrev pub made_signed : VoteFacts → List ℕ → List ℕ
made_signed facts bytes =
    items_text (preamble_items facts) ++ items_text (authority_items facts) ++ bytes ++ items_text
    (entries_items facts.entries)
    ++ item_text (bare the.DirectoryFooter []) ++ codes "directory-signature "

-- what follows it: who signed, and the signature
abbrev pub signature_rest : SignatureFacts → List ℕ
signature_rest signature = signer_text signature ++ line_feed ∷ object_text (codes "SIGNATURE") signature.signature

-- the whole text
abbrev pub made_text : VoteFacts → List ℕ → List ℕ
made_text facts bytes = made_signed facts bytes ++ signature_rest facts.signature
