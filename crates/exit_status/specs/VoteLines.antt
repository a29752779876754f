-- Why a list of votes gives no consensus: the line and the number of each reason.
use Rattle.std.specs.Prelude.{ℕ, List, [], ◌∷◌, codes, decimal}
use Rattle.vote_terms.specs.declared.word.VoteWord.{VoteWord}
use Rattle.vote_terms.specs.declared.word.VoteWord.TheVariants as word
use Rattle.exit_status.specs.Parts.{end}
use Rattle.compute_command.specs.declared.refusal.VoteListRefusal.{VoteListRefusal}
use Rattle.compute_command.specs.declared.refusal.VoteListRefusal.TheVariants as votes

-- the word of a line for the clause that a vote fails
abbrev pub word_text : VoteWord → List ℕ
word_text word.ValidAfter = codes "valid-after"
word_text word.Authority = codes "authority"
word_text word.Fingerprint = codes "fingerprint"
word_text word.Expired = codes "expired"
word_text word.Certification = codes "certification"
word_text word.Crosscert = codes "crosscert"
word_text word.Signature = codes "signature"

-- why a list of votes gives no consensus
abbrev pub votes_parts : VoteListRefusal → List (List ℕ)
votes_parts (votes.Vote number why) = codes "vote " ∷ decimal number ∷ codes " refused: " ∷ word_text why ∷ end ∷ []
votes_parts (votes.TooFew held roster) =
    codes "too few votes: " ∷ decimal held ∷ codes " of " ∷ decimal roster ∷ end ∷ []

-- the number of each reason
abbrev pub votes_number : VoteListRefusal → ℕ
votes_number (votes.Vote number why) = 6
votes_number (votes.TooFew held roster) = 7
