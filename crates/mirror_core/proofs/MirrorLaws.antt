-- What holds of a mirror after each call.
use Rattle.std.proofs.Common.{◌≡◌, ℕ, true, List, [], ◌∷◌, Ok, Err, inl, inr, refl, subst, sym, ◌∙◌, arith}
use Rattle.std.{proofs.lemmas.List.Elements.{All-nil, All-cons}, specs.Prelude.{All, Option, Some, None, Result}}
use Rattle.std.specs.Prelude.{is_some}
use Rattle.dir_values.specs.declared.digest.Fingerprint.{Fingerprint}
use Rattle.key_port.specs.Answers.{Rules}
use Rattle.mirror_core.proofs.{RowLaws.{found_has, rows_are, rows_have, taken_are, taken_have}, CertLaws.AreSound}
use Rattle.mirror_core.{proofs.{CertLaws.each_taken, SignerLaws.by_majority}, specs.Laws.{AreRowsOf, HasDigest}}
use Rattle.mirror_core.specs.{Laws.HaveDigests, Rows.{Rows, row_of, text_in}}
use Rattle.mirror_core.specs.declared.{refusal.MirrorRefusal.MirrorRefusal, report.CertReport.CertReport}
use Rattle.mirror_core.specs.{declared.report.MicroReport.MicroReport, Answers.{AnswersCerts, AnswersConsensus}}
use Rattle.mirror_core.specs.Answers.{AnswersMicros, MicroTally, TakesCerts, TakesConsensus, TakesMicros, micro_with}
use Rattle.mirror_core.specs.{Answers.{no_certs_yet, no_micros_yet, with_micro, with_micros}, Extent.consensus_part}
use Rattle.mirror_core.specs.{Lists.{Calls, CallsLeave}, Sound.IsSound, States.{Mirrored, named, named_by, no_mirror}}
use Rattle.mirror_core.specs.Served.{IsNamedText}
use Rattle.micro_desc.specs.declared.micro.Micro.{Micro}

-- nothing is held yet
pub nothing : (rules : Rules) (roster : List Fingerprint) → IsSound rules (no_mirror roster)
nothing rules roster = record {
  checked = All-nil _;
  ascend = λ i j d lt in_list. absurd (omega arith);
  signed = tt;
  named = λ digest. refl;
  digests = All-nil HasDigest;
}

pub certs_taken : (rules : Rules) (now : ℕ) (before after : Mirrored) (bytes : List ℕ) (report : CertReport)
    → IsSound rules before → TakesCerts rules now before bytes report after → IsSound rules after
certs_taken rules now before after bytes report sound takes =
    let certs : AreSound rules before.roster takes.tally.certs =
    each_taken rules before.roster now (no_certs_yet before.certs) takes.tally takes.certs
    (record { checked = sound.checked; ascend = sound.ascend }) takes.takes in
    subst (IsSound rules) (sym takes.after_is)
    (record {
      checked = certs.checked;
      ascend = certs.ascend;
      signed = sound.signed;
      named = sound.named;
      digests = sound.digests;
    })

pub consensus_taken : (rules : Rules) (before after : Mirrored) (bytes : List ℕ) (count : ℕ) → IsSound rules before
    → TakesConsensus rules before bytes count after → IsSound rules after
consensus_taken rules before after bytes count sound takes =
    subst (IsSound rules) (sym takes.after_is)
    (record {
      checked = sound.checked;
      ascend = sound.ascend;
      signed = by_majority rules before bytes takes.consensus takes.signers count sound.checked takes.signed takes.count_is takes.majority;
      named = rows_are before.rows (named takes.consensus);
      digests = rows_have before.rows (named takes.consensus) sound.digests;
    })

-- Rows of some digests, and what a row has has its digest.
pub record AreRows (digests : List (List ℕ)) (rows : Rows) : Type 0 where
  pub named : AreRowsOf digests rows
  pub have : HaveDigests rows

pub each_micro : (digests : List (List ℕ)) (tally : MicroTally) (micros : List (Micro × List ℕ)) → AreRows digests tally.rows
    → AreRows digests (with_micros tally micros).rows
each_micro digests tally [] are = are
each_micro digests tally (one ∷ more) are =
    each_micro digests (with_micro tally one.1) more
    (record { named = taken_are digests tally.rows one.1 are.named; have = taken_have tally.rows one.1 are.have })

pub micros_taken : (rules : Rules) (before after : Mirrored) (bytes : List ℕ) (report : MicroReport) → IsSound rules before
    → TakesMicros before bytes report after → IsSound rules after
micros_taken rules before after bytes report sound takes =
    let are = each_micro (named_by before.held) (no_micros_yet before.rows) takes.micros
    (record { named = sound.named; have = sound.digests }) in
    subst (IsSound rules) (sym takes.after_is)
    (record {
      checked = sound.checked;
      ascend = sound.ascend;
      signed = sound.signed;
      named = are.named;
      digests = are.have;
    })

unchanged : (rules : Rules) (before after : Mirrored) → IsSound rules before → after ≡ before → IsSound rules after
unchanged rules before after sound is = subst (IsSound rules) (sym is) sound

pub certs_answered : (rules : Rules) (now : ℕ) (before after : Mirrored) (bytes : List ℕ) (answer : Result CertReport MirrorRefusal)
    → IsSound rules before → AnswersCerts rules now before bytes answer after → IsSound rules after
certs_answered rules now before after bytes (Ok report) sound answers = certs_taken rules now before after bytes report sound answers
certs_answered rules now before after bytes (Err why) sound answers = unchanged rules before after sound answers.1

pub consensus_answered : (rules : Rules) (before after : Mirrored) (bytes : List ℕ) (answer : Result ℕ MirrorRefusal)
    → IsSound rules before → AnswersConsensus rules before bytes answer after → IsSound rules after
consensus_answered rules before after bytes (Ok count) sound answers =
    consensus_taken rules before after (consensus_part bytes) count sound answers
consensus_answered rules before after bytes (Err why) sound answers = unchanged rules before after sound answers.1

pub micros_answered : (rules : Rules) (before after : Mirrored) (bytes : List ℕ) (answer : Result MicroReport MirrorRefusal)
    → IsSound rules before → AnswersMicros before bytes answer after → IsSound rules after
micros_answered rules before after bytes (Ok report) sound answers = micros_taken rules before after bytes report sound answers
micros_answered rules before after bytes (Err why) sound answers = unchanged rules before after sound answers.1

-- after one call
pub called : (rules : Rules) (before after : Mirrored) → IsSound rules before → Calls rules before after → IsSound rules after
called rules before after sound (inl (now, bytes, answer, answers)) = certs_answered rules now before after bytes answer sound answers
called rules before after sound (inr (inl (bytes, answer, answers))) = consensus_answered rules before after bytes answer sound answers
called rules before after sound (inr (inr (bytes, answer, answers))) = micros_answered rules before after bytes answer sound answers

-- after each of a list of calls
pub all_called : (rules : Rules) (before : Mirrored) (mirrors : List Mirrored) → IsSound rules before
    → CallsLeave rules before mirrors → All (IsSound rules) mirrors
all_called rules before [] sound calls = All-nil (IsSound rules)
all_called rules before (after ∷ more) sound calls =
    let next = called rules before after sound calls.0 in
    All-cons (IsSound rules) after more next (all_called rules after more next calls.1)

some_row : (row : Option (Option (List ℕ))) (text : List ℕ) → text_in row ≡ Some text → is_some row ≡ true
some_row None text is = absurd (cc is)
some_row (Some held) text is = refl

-- what is given
pub served : (rules : Rules) (mirror : Mirrored) (digest text : List ℕ) → IsSound rules mirror → micro_with mirror digest ≡ Some text
    → IsNamedText mirror digest text
served rules mirror digest text sound is = record {
  digest_is = subst (λ (found : Option (List ℕ)). HasDigest (digest, found)) is (found_has mirror.rows digest sound.digests);
  named = sym (sound.named digest) ∙ some_row (row_of mirror.rows digest) text is;
}
