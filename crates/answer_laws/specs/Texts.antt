-- The text that the command `compute` answers is read as the consensus of the votes of its input (dir-spec, "Computing a
-- consensus from a set of votes").
use Rattle.std.specs.Prelude.{◌≡◌, ℕ, List, [], ◌++◌, length, All, Ok}
use Rattle.base64.specs.GeneralPurpose.{IsBytes}
use Rattle.grammar_laws.specs.Written.{AreWithinLimits}
use Rattle.key_port.specs.Answers.{Rules}
use Rattle.vote_terms.specs.{Held.held, Votes.ReadVote}
use Rattle.consensus_terms.specs.{Signed.signed, Texts.unsigned, declared.flavour.Flavour.{Flavour, TheVariants.Ns}}
use Rattle.consensus_terms.specs.declared.{flavour.Flavour.TheVariants.Microdesc, signature.SignatureLine.SignatureLine}
use Rattle.consensus_doc.specs.Reading.{consensus_of, max_consensus}
use Rattle.consensus_laws.specs.{Again.as_read, Items.consensus_items}
use Rattle.count_terms.specs.declared.newest.Newest.{Newest}
use Rattle.compute_terms.specs.Consensuses.{consensus}
use Rattle.computed_laws.specs.{Computed.signed_consensus, WithinLimits.IsSignature}
use Rattle.daemon_words.specs.declared.command.{Compute.Compute, Flavours.Flavours}
use Rattle.daemon_words.specs.declared.command.Flavours.TheVariants as flavours
use Rattle.compute_command.specs.Answers.{Computes}

-- no line, no object and not the whole of the consensus of these votes, with these signatures, passes its limit
abbrev pub IsWithinLimits : Flavour → Newest → ℕ → List ReadVote → List SignatureLine → Type 0
IsWithinLimits flavour newest roster votes lines =
    AreWithinLimits max_consensus 0 (consensus_items (signed_consensus flavour newest roster votes lines))

-- The text is read as the consensus of these votes, with these signatures, as the flavour has it, and ends with the input.
abbrev pub IsReadAs : Flavour → Newest → ℕ → List ReadVote → List SignatureLine → List ℕ → Type 0
IsReadAs flavour newest roster votes lines text =
    consensus_of text ≡ Ok (as_read (signed_consensus flavour newest roster votes lines), length text)

-- The text is read as the consensus of these votes, and with signatures behind it as that with these, within limits.
pub record IsReadAgain (flavour : Flavour) (newest : Newest) (roster : ℕ) (votes : List ReadVote)
    (text : List ℕ) : Type 0 where
  pub alone : IsWithinLimits flavour newest roster votes [] → IsReadAs flavour newest roster votes [] text
  pub behind : (lines : List SignatureLine) → All IsSignature lines → IsWithinLimits flavour newest roster votes lines
      → IsReadAs flavour newest roster votes lines (signed text lines)

-- The text is that in the ns flavour, and behind it that in the microdesc flavour, and each is read again.
pub record AreBothReadAgain (newest : Newest) (roster : ℕ) (votes : List ReadVote) (text : List ℕ) : Type 0 where
  pub stand : text ≡ unsigned Ns (consensus newest roster votes) ++ unsigned Microdesc (consensus newest roster votes)
  pub ns : IsReadAgain Ns newest roster votes (unsigned Ns (consensus newest roster votes))
  pub microdesc : IsReadAgain Microdesc newest roster votes (unsigned Microdesc (consensus newest roster votes))

-- the text is read again in the flavour that is wanted, or in both
abbrev pub IsReadAsWanted : Flavours → Newest → ℕ → List ReadVote → List ℕ → Type 0
IsReadAsWanted flavours.Ns newest roster votes text = IsReadAgain Ns newest roster votes text
IsReadAsWanted flavours.Microdesc newest roster votes text = IsReadAgain Microdesc newest roster votes text
IsReadAsWanted flavours.Both newest roster votes text = AreBothReadAgain newest roster votes text

-- The text that is computed of an input of bytes is read as the consensus of the votes that are held of the input, for the
-- newest method and the roster that are wanted.
abbrev pub AnswersAreReadAgain : Type 0
AnswersAreReadAgain = (rules : Rules) (wanted : Compute) (bytes text : List ℕ) → IsBytes bytes
    → (is : Computes rules wanted bytes text)
    → IsReadAsWanted wanted.flavours wanted.newest (length wanted.roster) (held is.votes) text
