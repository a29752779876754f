-- What is read of a consensus is in range, and is read again where it is written (dir-spec, "Vote and consensus status
-- document formats").
use Rattle.std.specs.Prelude.{◌≡◌, ℕ, List, length, All, Ok}
use Rattle.base64.specs.GeneralPurpose.{IsBytes}
use Rattle.dirdoc_grammar.specs.Writing.{AreWritable}
use Rattle.consensus_terms.specs.{Signed.{in_order, signed}, Texts.facts_text}
use Rattle.consensus_terms.specs.declared.consensus.SignedConsensus.{SignedConsensus}
use Rattle.consensus_doc.specs.Reading.{consensus_of, max_consensus}
use Rattle.consensus_laws.specs.{Again.{AreFactsInRange, IsSignatureInRange, signed_of}, Items.consensus_items}

-- The consensus says what can be read in its flavour: all that `IsInRange` asks for, but that its items may be written.
pub record SaysInRange (c : SignedConsensus) : Type 0 where
  pub facts : AreFactsInRange c.flavour c.facts
  pub signatures : All IsSignatureInRange c.signatures

-- A consensus that is read from bytes says what can be read.
abbrev pub ConsensusesReadAreInRange : Type 0
ConsensusesReadAreInRange = (bytes : List ℕ) (c : SignedConsensus) (used : ℕ) → IsBytes bytes
    → consensus_of bytes ≡ Ok (c, used) → SaysInRange c

-- A consensus that was read from bytes and is written is read again, where its signatures stand in the order in which
-- they are written, and its items may be written: it is the same, with the range of its new text that is signed, and
-- ends with that text.
abbrev pub ReadConsensusesAreReadAgain : Type 0
ReadConsensusesAreReadAgain = (bytes : List ℕ) (c : SignedConsensus) (used : ℕ) → IsBytes bytes
    → consensus_of bytes ≡ Ok (c, used) → in_order c.signatures ≡ c.signatures
    → AreWritable max_consensus 0 (consensus_items c)
    → consensus_of (signed (facts_text c) c.signatures)
    ≡ Ok (record c { signed = signed_of (facts_text c) c.signatures }, length (signed (facts_text c) c.signatures))
