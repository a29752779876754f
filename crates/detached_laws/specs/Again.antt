-- Detached signatures that were written are read again (dir-spec, "Serving and fetching detached signatures").
use Rattle.std.specs.Prelude.{◌≡◌, ℕ, ◌<◌, ◌≤◌, ◌&&◌, Bool, true, List, ◌++◌, length, All, Option, Some, None, is_some}
use Rattle.std.specs.{Prelude.{not, Ok}, List.filter}
use Rattle.base64.specs.GeneralPurpose.{IsBytes}
use Rattle.dir_bytes.specs.Causes.{last_moment}
use Rattle.dir_values.specs.Digests.{fingerprint}
use Rattle.dirdoc_grammar.specs.{Writers.is_argument, Writing.AreWritable}
use Rattle.frame_values.specs.Ranges.{AreTwenty}
use Rattle.consensus_terms.specs.declared.signature.SignatureLine.{SignatureLine}
use Rattle.consensus_laws.specs.Again.{is_known}
use Rattle.detached_doc.specs.declared.detached.{AdditionalDigest.AdditionalDigest, Detached.Detached}
use Rattle.detached_doc.specs.{declared.detached.DetachedLine.DetachedLine, Order.in_order, Reading.detached_of}
use Rattle.detached_doc.specs.{Reading.max_detached, Texts.{detached_items, detached_text}}

-- ---- what detached signatures may say

-- the digest of another flavour: the names are words, and the digest is bytes, one or more
pub record IsDigestInRange (digest : AdditionalDigest) : Type 0 where
  pub flavour : is_argument digest.flavour ≡ true
  pub algorithm : is_argument digest.algorithm ≡ true
  pub bytes : IsBytes digest.digest
  pub some : 0 < length digest.digest

-- the names that a signature has are words; that of the algorithm of one over the ns flavour spells no identity
abbrev pub IsNamedInRange : Option (List ℕ) → SignatureLine → Type 0
IsNamedInRange None line = (is_argument line.algorithm ≡ true) × (fingerprint line.algorithm ≡ None)
IsNamedInRange (Some flavour) line = (is_argument flavour ≡ true) × (is_argument line.algorithm ≡ true)

-- a signature: its names, and an identity and a digest of twenty bytes
pub record IsLineInRange (line : DetachedLine) : Type 0 where
  pub named : IsNamedInRange line.flavour line.line
  pub identity : AreTwenty line.line.identity.0
  pub key_digest : AreTwenty line.line.key_digest.0

-- Detached signatures say what can be read, and their items may be written: objects are bytes, and no line, no object and not
-- the whole passes its limit.
pub record IsInRange (d : Detached) : Type 0 where
  pub ns : AreTwenty d.ns.0
  pub valid_after : d.valid_after ≤ last_moment
  pub fresh_until : d.fresh_until ≤ last_moment
  pub valid_until : d.valid_until ≤ last_moment
  pub additional : All IsDigestInRange d.additional
  pub signatures : All IsLineInRange d.signatures
  pub items : AreWritable max_detached 0 (detached_items d)

-- ---- what is read of them

-- whether a signature is over another flavour
abbrev pub is_additional : DetachedLine → Bool
is_additional line = is_some line.flavour

-- whether it is over the ns flavour, and its algorithm is known
abbrev pub is_plain : DetachedLine → Bool
is_plain line = not (is_some line.flavour) && is_known line.line.algorithm

-- signatures as they are read that were written in this order: those over other flavours, then those over the ns flavour, of
-- which those of unknown algorithms are not kept
abbrev pub lines_as_read : List DetachedLine → List DetachedLine
lines_as_read lines = filter is_additional lines ++ filter is_plain lines

-- detached signatures as they are read
abbrev pub as_read : Detached → Detached
as_read d = record d { signatures = lines_as_read (in_order d.signatures) }

-- Detached signatures that were written are read again, and end with the input.
abbrev pub DetachedAreReadAgain : Type 0
DetachedAreReadAgain = (d : Detached) → IsInRange d
    → detached_of (detached_text d) ≡ Ok (as_read d, length (detached_text d))

-- the signatures stand in the order in which they are written, and those over the ns flavour are of known algorithms
abbrev pub StandsAsWritten : Detached → Type 0
StandsAsWritten d = lines_as_read (in_order d.signatures) ≡ d.signatures

-- What is read of detached signatures whose signatures stand so is what was written.
abbrev pub DetachedInOrderAreTheSame : Type 0
DetachedInOrderAreTheSame = (d : Detached) → IsInRange d → StandsAsWritten d
    → detached_of (detached_text d) ≡ Ok (d, length (detached_text d))
