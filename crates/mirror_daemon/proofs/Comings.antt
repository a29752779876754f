-- Lists of calls of a mirror, and one call more.
use Rattle.std.{proofs.Common.{◌≡◌, List, [], ◌∷◌, ◌++◌, refl, sym, subst, inl, inr}, specs.Prelude.{ℕ, Result}}
use Rattle.key_port.specs.Answers.{Rules}
use Rattle.mirror_core.specs.{Answers.{AnswersCerts, AnswersConsensus, AnswersMicros}, Lists.{Calls, CallsLeave}}
use Rattle.mirror_core.specs.{States.Mirrored, declared.refusal.MirrorRefusal.MirrorRefusal}
use Rattle.mirror_core.specs.declared.report.{CertReport.CertReport, MicroReport.MicroReport}
use Rattle.mirror_daemon.specs.Keeping.{ComesOf, last_of}

leave_more : (rules : Rules) (before : Mirrored) (mirrors : List Mirrored) (next : Mirrored) → CallsLeave rules before mirrors
    → Calls rules (last_of before mirrors) next → CallsLeave rules before (mirrors ++ next ∷ [])
leave_more rules before [] next leave calls = (calls, tt)
leave_more rules before (after ∷ more) next leave calls = (leave.0, leave_more rules after more next leave.1 calls)

last_more : (before : Mirrored) (mirrors : List Mirrored) (next : Mirrored) → last_of before (mirrors ++ next ∷ []) ≡ next
last_more before [] next = refl
last_more before (after ∷ more) next = last_more after more next

-- with one call more
pub comes_on : (rules : Rules) (before now next : Mirrored) → ComesOf rules before now → Calls rules now next
    → ComesOf rules before next
comes_on rules before now next came calls = record {
  mirrors = came.mirrors ++ next ∷ [];
  leave = leave_more rules before came.mirrors next came.leave (subst (λ (m : Mirrored). Calls rules m next) came.last calls);
  last = sym (last_more before came.mirrors next);
}

-- none was made
pub comes_itself : (rules : Rules) (mirror : Mirrored) → ComesOf rules mirror mirror
comes_itself rules mirror = record { mirrors = []; leave = tt; last = refl }

-- certificates were taken, or not
pub with_certs : (rules : Rules) (now : ℕ) (bytes : List ℕ) (answer : Result CertReport MirrorRefusal) (before old new : Mirrored)
    → AnswersCerts rules now old bytes answer new → ComesOf rules before old → ComesOf rules before new
with_certs rules now bytes answer before old new answers came =
    comes_on rules before old new came (inl (now, bytes, answer, answers))

-- a consensus was, or not
pub with_consensus : (rules : Rules) (bytes : List ℕ) (answer : Result ℕ MirrorRefusal) (before old new : Mirrored)
    → AnswersConsensus rules old bytes answer new → ComesOf rules before old → ComesOf rules before new
with_consensus rules bytes answer before old new answers came =
    comes_on rules before old new came (inr (inl (bytes, answer, answers)))

-- microdescriptors were, or not
pub with_micros : (rules : Rules) (bytes : List ℕ) (answer : Result MicroReport MirrorRefusal) (before old new : Mirrored)
    → AnswersMicros old bytes answer new → ComesOf rules before old → ComesOf rules before new
with_micros rules bytes answer before old new answers came =
    comes_on rules before old new came (inr (inr (bytes, answer, answers)))
