-- The signers of a consensus are one set, and so its report is one text.
use Rattle.std.proofs.Common.{◌≡◌, ℕ, Bool, true, false, ◌&&◌, List, [], ◌∷◌, Option, Some, None, map, refl, sym, ap}
use Rattle.std.proofs.{Common.{◌∙◌, subst, inl, inr}, lemmas.{Bool.{and_from, and_parts}, List.Folds.Any-from_list_any}}
use Rattle.std.{proofs.lemmas.List.Folds.list_any_at, specs.{Prelude.{◌⊎◌, Contains, slice_range}, List.list_any}}
use Rattle.std.specs.{List.flat_map, Str.bytes_eq}
use Rattle.sha1.specs.Sha1.{sha1}
use Rattle.key_port.specs.Answers.{Rules, ExactlyOneHolds}
use Rattle.vote_terms.{specs.Votes.ReadVote, proofs.HeldLaw.held_agree}
use Rattle.consensus_terms.specs.declared.consensus.SignedConsensus.{SignedConsensus}
use Rattle.consensus_terms.specs.declared.signature.SignatureLine.{SignatureLine}
use Rattle.detached_sigs.specs.{declared.key.SignerKey.SignerKey, Signers.{AreSigners, has_good_line, has_bad_lines}}
use Rattle.health_report.specs.{Signers.{SignedPart, key_of, sha1_lines}, Reports.{IsReport, has_signer, members_of}}
use Rattle.health_report.specs.Reports.{report_text, signer_line, signer_lines}
use Rattle.answer_laws.{proofs.OneAnswer.clash, specs.Agreement.{ReportsAgree, OrderIsFree}}

-- ---- the signers

abbrev is_of : List ℕ → SignerKey → Bool
is_of member key = bytes_eq key.authority.0 member

-- whether a member has a key that signs
abbrev signs : Rules → List ℕ → List SignatureLine → List ℕ → SignerKey → Bool
signs rules digest lines member key = is_of member key && has_good_line rules digest lines key

same_truth : (a b : Bool) → (a ≡ true → b ≡ true) → (b ≡ true → a ≡ true) → a ≡ b
same_truth true b there back = sym (there refl)
same_truth false true there back = back refl
same_truth false false there back = refl

among : (p : SignerKey → Bool) (keys : List SignerKey) (key : SignerKey) → Contains keys key → p key ≡ true
    → list_any p keys ≡ true
among p keys key at holds = list_any_at p keys at.0 key at.1 (ap p at.2 ∙ holds)

there : (rules : Rules) (digest : List ℕ) (keys : List SignerKey) (lines : List SignatureLine)
    (signers : List SignerKey) (member : List ℕ) → AreSigners rules digest keys lines signers
    → list_any (is_of member) signers ≡ true → list_any (signs rules digest lines member) keys ≡ true
there rules digest keys lines signers member are some =
    let any = Any-from_list_any (is_of member) signers some in
    let in_keys : Contains keys any.1 = subst (Contains keys) any.3 (are.members any.0 any.1 any.2) in
    let good : has_good_line rules digest lines any.1 ≡ true =
    subst (λ (k : SignerKey). has_good_line rules digest lines k ≡ true) any.3 (are.signed any.0 any.1 any.2) in
    among (signs rules digest lines member) keys any.1 in_keys (and_from (is_of member any.1) _ any.4 good)

back : (rules : Rules) (digest : List ℕ) (keys : List SignerKey) (lines : List SignatureLine)
    (signers : List SignerKey) (member : List ℕ) → ExactlyOneHolds rules.may_accept rules.may_refuse
    → AreSigners rules digest keys lines signers → list_any (signs rules digest lines member) keys ≡ true
    → list_any (is_of member) signers ≡ true
back rules digest keys lines signers member one are some =
    let any = Any-from_list_any (signs rules digest lines member) keys some in
    let good : has_good_line rules digest lines any.1 ≡ true = (and_parts (is_of member any.1) _ any.4).1 in
    let other : Contains signers any.1 ⊎ (has_bad_lines rules digest lines any.1 ≡ true) =
    subst (λ (k : SignerKey). Contains signers k ⊎ (has_bad_lines rules digest lines k ≡ true)) any.3
    (are.others any.0 any.1 any.2) in
    elim other [
      | inl c ↦ among (is_of member) signers any.1 c (and_parts (is_of member any.1) _ any.4).0
      | inr bad ↦ absurd (clash rules digest any.1 lines one good bad)
    ]

-- whether a member is a signer is whether it has a key that signs
has_one : (rules : Rules) (digest : List ℕ) (keys : List SignerKey) (lines : List SignatureLine)
    (signers : List SignerKey) (member : List ℕ) → ExactlyOneHolds rules.may_accept rules.may_refuse
    → AreSigners rules digest keys lines signers
    → has_signer signers member ≡ list_any (signs rules digest lines member) keys
has_one rules digest keys lines signers member one are =
    same_truth (has_signer signers member) (list_any (signs rules digest lines member) keys)
    (there rules digest keys lines signers member are) (back rules digest keys lines signers member one are)

signed_by : (rules : Rules) (votes : List ReadVote) (lines : List SignatureLine) (bytes : List ℕ)
    (signed : Option (ℕ × ℕ)) (s t : List SignerKey) (member : List ℕ)
    → ExactlyOneHolds rules.may_accept rules.may_refuse → SignedPart rules votes lines bytes signed s
    → SignedPart rules votes lines bytes signed t → has_signer s member ≡ has_signer t member
signed_by rules votes lines bytes None s t member one first second =
    ap (λ (signers : List SignerKey). has_signer signers member) (first ∙ sym second)
signed_by rules votes lines bytes (Some (begin, end)) s t member one first second =
    has_one rules (sha1 (slice_range bytes begin end)) (map key_of votes) (sha1_lines lines) s member one first
    ∙ sym (has_one rules (sha1 (slice_range bytes begin end)) (map key_of votes) (sha1_lines lines) t member one second)

-- ---- the texts

line_same : (s t : List SignerKey) (member : List ℕ) → has_signer s member ≡ has_signer t member
    → signer_line s member ≡ signer_line t member
line_same s t member same = rw same refl

lines_same : (s t : List SignerKey) (members : List (List ℕ))
    → ((member : List ℕ) → has_signer s member ≡ has_signer t member)
    → flat_map (signer_line s) members ≡ flat_map (signer_line t) members
lines_same s t [] same = refl
lines_same s t (member ∷ members) same =
    rw (line_same s t member (same member), lines_same s t members same) refl

texts_same : (roster : List _) (votes : List ReadVote) (consensus : SignedConsensus) (s t : List SignerKey)
    → ((member : List ℕ) → has_signer s member ≡ has_signer t member)
    → report_text roster votes consensus s ≡ report_text roster votes consensus t
unfolding report_text signer_lines
texts_same roster votes consensus s t same = rw (lines_same s t (members_of roster) same) refl

pub agree : ReportsAgree
agree rules roster votes consensus bytes one other exactly first second =
    first.report
    ∙ texts_same roster votes consensus first.signers second.signers
    (λ member. signed_by rules votes consensus.signatures bytes consensus.signed first.signers second.signers member exactly
    first.signed second.signed)
    ∙ sym second.report

pub free : OrderIsFree
free rules roster l m consensus bytes one other exactly same apart first second =
    agree rules roster _ consensus bytes one other exactly
    (subst (λ (votes : List ReadVote). IsReport rules roster votes consensus bytes one) (held_agree l m same apart) first)
    second
