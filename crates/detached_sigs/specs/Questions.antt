-- What a verifier is asked where signers are counted: of each key's lines, in their order, until it does not refuse
-- one.
use Rattle.std.specs.Prelude.{◌≡◌, ◌⊎◌, ℕ, true, false, List, [], ◌∷◌, ◌++◌}
use Rattle.key_port.specs.{Answers.Steps, declared.verifier.VerifyAnswer.VerifyAnswer}
use Rattle.key_port.specs.declared.verifier.KeyKind.TheVariants as kind
use Rattle.key_port.specs.declared.verifier.VerifyAnswer.TheVariants as answer
use Rattle.consensus_terms.specs.declared.signature.SignatureLine.{SignatureLine}
use Rattle.detached_sigs.specs.{declared.key.SignerKey.SignerKey, Signers.is_line_of}

-- of a line of the key it is asked, and answers so; of another line it is not asked, and stays as it was
abbrev pub AsksOfLine : {V : Type 0} → Steps V → List ℕ → SignerKey → SignatureLine → V → VerifyAnswer → V → Type 0
AsksOfLine steps digest key line old result new =
    (is_line_of key line ≡ false → (new ≡ old) × (result ≡ answer.No))
    × (is_line_of key line ≡ true → steps old kind.Signing key.key digest line.signature result new)

-- it refuses each of these lines that is the key's, one after the other
abbrev pub RefusesLines : {V : Type 0} → Steps V → List ℕ → SignerKey → List SignatureLine → V → V → Type 0
RefusesLines steps digest key [] old new = new ≡ old
RefusesLines {V} steps digest key (line ∷ rest) old new =
    (between : V) × AsksOfLine steps digest key line old answer.No between × RefusesLines steps digest key rest
    between new

-- it refuses the lines before one, of which it answers so
abbrev pub AnswersAt : {V : Type 0} → Steps V → List ℕ → List SignatureLine → SignerKey → V → VerifyAnswer → V → Type 0
AnswersAt {V} steps digest lines key old result new =
    (before : List SignatureLine) × (line : SignatureLine) × (after : List SignatureLine) × (between : V)
    × (lines ≡ before ++ line ∷ after) × RefusesLines steps digest key before old between
    × AsksOfLine steps digest key line between result new

-- all that it is asked of a key
abbrev pub AsksOfKey : {V : Type 0} → Steps V → List ℕ → List SignatureLine → SignerKey → V → VerifyAnswer → V → Type 0
AsksOfKey steps digest lines key old answer.Yes new = AnswersAt steps digest lines key old answer.Yes new
AsksOfKey steps digest lines key old answer.No new = RefusesLines steps digest key lines old new
AsksOfKey steps digest lines key old answer.Fault new = AnswersAt steps digest lines key old answer.Fault new

-- all that it is asked of keys, one after the other, where it does not fail
abbrev pub AsksOfKeys : {V : Type 0} → Steps V → List ℕ → List SignatureLine → List SignerKey → V → V → Type 0
AsksOfKeys steps digest lines [] old new = new ≡ old
AsksOfKeys {V} steps digest lines (key ∷ rest) old new =
    (between : V)
    × (AsksOfKey steps digest lines key old answer.Yes between ⊎ AsksOfKey steps digest lines key old answer.No between)
    × AsksOfKeys steps digest lines rest between new

-- it is asked of the keys before one, at which it fails
abbrev pub FailsAtKey : {V : Type 0} → Steps V → List ℕ → List SignatureLine → List SignerKey → V → V → Type 0
FailsAtKey {V} steps digest lines keys old new =
    (before : List SignerKey) × (key : SignerKey) × (after : List SignerKey) × (between : V)
    × (keys ≡ before ++ key ∷ after) × AsksOfKeys steps digest lines before old between
    × AsksOfKey steps digest lines key between answer.Fault new
