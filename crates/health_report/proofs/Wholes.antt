-- Texts that are written piece by piece.
use Rattle.std.proofs.Common.{◌≡◌, ℕ, List, [], ◌∷◌, ◌++◌, codes, length, refl, ap, ◌∙◌, append_assoc}
use Rattle.item_terms.specs.Bytes.{line_feed}
use Rattle.dir_bytes.specs.FieldTexts.{moment_text}
use Rattle.dir_values.specs.declared.digest.Fingerprint.{Fingerprint}
use Rattle.vote_terms.specs.Votes.{ReadVote}
use Rattle.consensus_terms.specs.declared.{consensus.SignedConsensus.SignedConsensus, router.Routerline.Routerline}
use Rattle.detached_sigs.specs.declared.key.SignerKey.{SignerKey}
use Rattle.health_report.specs.{Lines.{head_lines, number_line, period_line}, Reports.{all_relays, extra_lines}}
use Rattle.health_report.specs.Reports.{members_of, missing_votes, param_lines, report_text, router_identities}
use Rattle.health_report.specs.Reports.{signer_lines}

-- three pieces behind some bytes
three_more : (out a b new one two three : List ℕ) → a ≡ out ++ one → b ≡ a ++ two → new ≡ b ++ three
    → new ≡ out ++ ((one ++ two) ++ three)
three_more out a b new one two three e1 e2 e3 =
    e3 ∙ ap (λ (l : List ℕ). l ++ three) (e2 ∙ ap (λ (l : List ℕ). l ++ two) e1 ∙ append_assoc out one two)
    ∙ append_assoc out (one ++ two) three

-- the line of the period
pub period_more : (out a b new : List ℕ) (valid_after : ℕ) → a ≡ out ++ codes "report "
    → b ≡ a ++ moment_text valid_after → new ≡ b ++ line_feed ∷ [] → new ≡ out ++ period_line valid_after
unfolding period_line
period_more out a b new valid_after e1 e2 e3 =
    three_more out a b new (codes "report ") (moment_text valid_after) (line_feed ∷ []) e1 e2 e3

-- the first lines
pub head_more : (out a b new : List ℕ) (valid_after authorities votes : ℕ) → a ≡ out ++ period_line valid_after
    → b ≡ a ++ number_line (codes "authorities") authorities → new ≡ b ++ number_line (codes "votes") votes
    → new ≡ out ++ head_lines valid_after authorities votes
unfolding head_lines
head_more out a b new valid_after authorities votes e1 e2 e3 =
    three_more out a b new (period_line valid_after) (number_line (codes "authorities") authorities)
    (number_line (codes "votes") votes) e1 e2 e3

-- the whole
text_is : (a b c text : List ℕ) (roster : List Fingerprint) (votes : List ReadVote) (consensus : SignedConsensus)
    (signers : List SignerKey) → a ≡ head_lines consensus.facts.valid_after (length roster) (length votes)
    → b ≡ (a ++ missing_votes votes (members_of roster)) ++ signer_lines signers (members_of roster)
    → c ≡ b ++ param_lines votes
    → text ≡ (c ++ all_relays (router_identities consensus.facts.routers) votes)
    ++ extra_lines votes consensus.facts.routers
    → text ≡ report_text roster votes consensus signers
unfolding report_text
text_is a b c text roster votes consensus signers e1 e2 e3 e4 =
    let missing = missing_votes votes (members_of roster) in
    let signed = signer_lines signers (members_of roster) in
    let params = param_lines votes in
    let relays = all_relays (router_identities consensus.facts.routers) votes in
    let extra = extra_lines votes consensus.facts.routers in
    e4 ∙ ap (λ (l : List ℕ). (l ++ relays) ++ extra) e3 ∙ ap (λ (l : List ℕ). ((l ++ params) ++ relays) ++ extra) e2
    ∙ ap (λ (l : List ℕ). ((((l ++ missing) ++ signed) ++ params) ++ relays) ++ extra) e1

-- the same, as it is written
pub text_from : (start a b c text : List ℕ) (members held : ℕ) (routers : List Routerline) (roster : List Fingerprint)
    (votes : List ReadVote) (consensus : SignedConsensus) (signers : List SignerKey) → start ≡ [] → members ≡ length roster
    → held ≡ length votes → routers ≡ consensus.facts.routers
    → a ≡ start ++ head_lines consensus.facts.valid_after members held
    → b ≡ (a ++ missing_votes votes (members_of roster)) ++ signer_lines signers (members_of roster)
    → c ≡ b ++ param_lines votes
    → text ≡ (c ++ all_relays (router_identities routers) votes) ++ extra_lines votes routers
    → text ≡ report_text roster votes consensus signers
text_from start a b c text members held routers roster votes consensus signers s n h r e1 e2 e3 e4 =
    text_is a b c text roster votes consensus signers (e1 ∙ rw (s, n, h) refl) e2 e3 (e4 ∙ rw r refl)
