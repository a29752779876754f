-- What a verifier was asked so far, and one question more.
use Rattle.std.proofs.Common.{◌≡◌, ℕ, ◌+◌, ◌<◌, List, [], ◌∷◌, ◌++◌, length, take, drop, get_or, refl, sym, ap, ◌∙◌}
use Rattle.std.{proofs.{Common.subst, lemmas.List.{take_more, drop_more, take-append-drop}}, specs.Prelude.◌⊎◌}
use Rattle.key_port.specs.{Answers.Steps, declared.verifier.VerifyAnswer.VerifyAnswer}
use Rattle.key_port.specs.declared.verifier.VerifyAnswer.TheVariants as answer
use Rattle.consensus_terms.specs.declared.signature.SignatureLine.{SignatureLine}
use Rattle.detached_sigs.specs.{declared.key.SignerKey.SignerKey, Questions.{AsksOfLine, RefusesLines, AnswersAt}}
use Rattle.detached_sigs.specs.Questions.{AsksOfKey, AsksOfKeys, FailsAtKey}

-- ---- a list and one of its items

-- the items so far and the next one
pub taken : {X : Type 0} → (xs : List X) (i : ℕ) (x : X) → i < length xs → x ≡ get_or xs i x → take (i + 1) xs ≡ take
    i xs ++ x ∷ []
taken xs i x lt is = take_more xs i x lt ∙ ap (λ y. take i xs ++ y ∷ []) (sym is)

-- the whole is the items before one, that one and those behind it
pub parted : {X : Type 0} → (xs : List X) (i : ℕ) (x : X) → i < length xs → x ≡ get_or xs i x
    → xs ≡ take i xs ++ x ∷ drop (i + 1) xs
parted xs i x lt is =
    sym (take-append-drop i xs) ∙ ap (λ r. take i xs ++ r) (drop_more xs i x lt ∙ ap (λ y. y ∷ drop (i + 1) xs)
    (sym is))

-- ---- lines

refused_more : {V : Type 0} (steps : Steps V) (digest : List ℕ) (key : SignerKey) (before : List SignatureLine)
    (line : SignatureLine) (old between new : V) → RefusesLines steps digest key before old between
    → AsksOfLine steps digest key line between answer.No new → RefusesLines steps digest key (before ++ line ∷ []) old
    new
refused_more steps digest key [] line old between new h a =
    (new, subst (λ v. AsksOfLine steps digest key line v answer.No new) h a, refl)
refused_more steps digest key (first ∷ rest) line old between new h a =
    (h.0, h.1, refused_more steps digest key rest line h.0 between new h.2 a)

-- one line more is refused
pub refused_next : {V : Type 0} (steps : Steps V) (digest : List ℕ) (key : SignerKey) (lines : List SignatureLine)
    (i : ℕ) (line : SignatureLine) (old between new : V) → i < length lines → line ≡ get_or lines i line
    → RefusesLines steps digest key (take i lines) old between → AsksOfLine steps digest key line between answer.No new
    → RefusesLines steps digest key (take (i + 1) lines) old new
refused_next steps digest key lines i line old between new lt is h a =
    subst (λ l. RefusesLines steps digest key l old new) (sym (taken lines i line lt is))
    (refused_more steps digest key (take i lines) line old between new h a)

-- the lines before one are refused, and of that it answers
pub answers_at : {V : Type 0} (steps : Steps V) (digest : List ℕ) (key : SignerKey) (lines : List SignatureLine)
    (i : ℕ) (line : SignatureLine) (old between new : V) (result : VerifyAnswer) → i < length lines
    → line ≡ get_or lines i line
    → RefusesLines steps digest key (take i lines) old between → AsksOfLine steps digest key line between result new
    → AnswersAt steps digest lines key old result new
answers_at steps digest key lines i line old between new result lt is h a =
    (take i lines, line, drop (i + 1) lines, between, parted lines i line lt is, h, a)

-- ---- keys

-- a key was asked of, and the verifier did not fail
abbrev pub AnswersKey : {V : Type 0} → Steps V → List ℕ → List SignatureLine → SignerKey → V → V → Type 0
AnswersKey steps digest lines key old new =
    AsksOfKey steps digest lines key old answer.Yes new ⊎ AsksOfKey steps digest lines key old answer.No new

asked_more : {V : Type 0} (steps : Steps V) (digest : List ℕ) (lines : List SignatureLine) (before : List SignerKey)
    (key : SignerKey) (old between new : V) → AsksOfKeys steps digest lines before old between
    → AnswersKey steps digest lines key between new → AsksOfKeys steps digest lines (before ++ key ∷ []) old new
asked_more steps digest lines [] key old between new h a = (
  new,
  subst (λ v. AnswersKey steps digest lines key v new)
      h a,
  refl,
)
asked_more steps digest lines (first ∷ rest) key old between new h a =
    (h.0, h.1, asked_more steps digest lines rest key h.0 between new h.2 a)

-- one key more is asked of
pub asked_next : {V : Type 0} (steps : Steps V) (digest : List ℕ) (lines : List SignatureLine) (keys : List SignerKey)
    (i : ℕ) (key : SignerKey) (old between new : V) → i < length keys → key ≡ get_or keys i key
    → AsksOfKeys steps digest lines (take i keys) old between → AnswersKey steps digest lines key between new
    → AsksOfKeys steps digest lines (take (i + 1) keys) old new
asked_next steps digest lines keys i key old between new lt is h a =
    subst (λ l. AsksOfKeys steps digest lines l old new) (sym (taken keys i key lt is))
    (asked_more steps digest lines (take i keys) key old between new h a)

-- the keys before one are asked of, and at that it fails
pub fails_at : {V : Type 0} (steps : Steps V) (digest : List ℕ) (lines : List SignatureLine) (keys : List SignerKey)
    (i : ℕ) (key : SignerKey) (old between new : V) → i < length keys → key ≡ get_or keys i key
    → AsksOfKeys steps digest lines (take i keys) old between → AsksOfKey steps digest lines key between answer.Fault
    new
    → FailsAtKey steps digest lines keys old new
fails_at steps digest lines keys i key old between new lt is h a =
    (take i keys, key, drop (i + 1) keys, between, parted keys i key lt is, h, a)
