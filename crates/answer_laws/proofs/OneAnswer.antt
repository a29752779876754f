-- Where a verifier may give one answer alone, a key has a line that may be accepted or none that may not be refused.
use Rattle.std.proofs.{Common.{◌≡◌, ℕ, Bool, true, false, not, ◌&&◌, ◌||◌, List, [], ◌∷◌}, lemmas.Bool.false≢true}
use Rattle.std.proofs.lemmas.Bool.{true≢false}
use Rattle.key_port.specs.Answers.{Rules, ExactlyOneHolds}
use Rattle.key_port.specs.declared.verifier.KeyKind.TheVariants as kind
use Rattle.consensus_terms.specs.declared.signature.SignatureLine.{SignatureLine}
use Rattle.detached_sigs.specs.{declared.key.SignerKey.SignerKey, Signers.{has_good_line, has_bad_lines, is_line_of}}
use Rattle.detached_sigs.specs.Signers.{is_signed}

line_clash : (of accepts refuses any all : Bool) → refuses ≡ not accepts → (any ≡ true → all ≡ true → ⊥)
    → (of && accepts || any) ≡ true → ((not of || refuses) && all) ≡ true → ⊥
line_clash true true true any all one more good bad = true≢false one
line_clash true true false any all one more good bad = false≢true bad
line_clash true false true any all one more good bad = more good bad
line_clash true false false any all one more good bad = false≢true one
line_clash false accepts refuses any all one more good bad = more good bad

-- a key has no good line and bad lines alone at once
pub clash : (rules : Rules) (digest : List ℕ) (key : SignerKey) (lines : List SignatureLine)
    → ExactlyOneHolds rules.may_accept rules.may_refuse → has_good_line rules digest lines key ≡ true
    → has_bad_lines rules digest lines key ≡ true → ⊥
clash rules digest key [] one good bad = false≢true good
clash rules digest key (line ∷ lines) one good bad =
    line_clash (is_line_of key line) (is_signed rules.may_accept digest key line)
    (is_signed rules.may_refuse digest key line) _ _ (one kind.Signing key.key digest line.signature)
    (clash rules digest key lines one) good bad
