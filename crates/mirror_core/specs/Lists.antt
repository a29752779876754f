-- Lists of calls of a mirror.
use Rattle.std.specs.Prelude.{ℕ, List, [], ◌∷◌, Result, ◌⊎◌}
use Rattle.key_port.specs.Answers.{Rules}
use Rattle.mirror_core.specs.declared.{refusal.MirrorRefusal.MirrorRefusal, report.CertReport.CertReport}
use Rattle.mirror_core.specs.{declared.report.MicroReport.MicroReport, Answers.{AnswersCerts, AnswersConsensus}}
use Rattle.mirror_core.specs.{Answers.AnswersMicros, States.Mirrored}

-- a mirror was given certificates, a consensus or microdescriptors, and answered
abbrev pub Calls : Rules → Mirrored → Mirrored → Type 0
Calls rules before after =
    ((now : ℕ) × (bytes : List ℕ) × (answer : Result CertReport MirrorRefusal)
    × AnswersCerts rules now before bytes answer after)
    ⊎ ((bytes : List ℕ) × (answer : Result ℕ MirrorRefusal) × AnswersConsensus rules before bytes answer after)
    ⊎ ((bytes : List ℕ) × (answer : Result MicroReport MirrorRefusal) × AnswersMicros before bytes answer after)

-- calls one after the other, each of which left one of these
abbrev pub CallsLeave : Rules → Mirrored → List Mirrored → Type 0
CallsLeave rules before [] = Unit {0}
CallsLeave rules before (after ∷ more) = Calls rules before after × CallsLeave rules after more
