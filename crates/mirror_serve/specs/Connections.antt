-- What comes of one connection of a mirror.
use Rattle.std.specs.Prelude.{◌≡◌, ◌≢◌, ℕ, List, Option, Some, None}
use Rattle.dir_bytes.specs.Causes.{Rose}
use Rattle.http_words.specs.declared.{asked.Asked.Asked, connection.ConnStatus.ConnStatus, outcome.Outcome.Outcome}
use Rattle.http_words.specs.{Connections.{Handles, Answers, Breaks, TriesShortage}, Outcomes.code_of}
use Rattle.http_words.specs.declared.connection.ConnStatus.TheVariants as status
use Rattle.mirror_core.specs.States.{Mirrored}
use Rattle.mirror_serve.specs.Given.{outcome_of}

-- what comes of what is asked for is what the mirror gives, whatever the body is
abbrev pub Gives : Mirrored → Asked → List ℕ → List ℕ → Outcome → Type 0
Gives mirror what path body outcome = outcome ≡ outcome_of mirror what path

-- a mirror does nothing but give
abbrev pub IsStill : Type 0
IsStill = Unit {0}

-- What comes of the request of a connection, or the source failed.
abbrev pub IsAnswered : Mirrored → Option (List ℕ) → ℕ → ℕ → Option Outcome → Type 0
IsAnswered mirror left faults faults_then None = Rose faults faults_then
IsAnswered mirror left faults faults_then (Some outcome) =
    Handles (Gives mirror) IsStill left outcome × (code_of outcome ≢ 503)

module _ (mirror : Mirrored) (left written written_then : Option (List ℕ)) (read_faults read_faults_then : ℕ)
    (write_faults write_faults_then : ℕ) where
  -- What came of a connection: the response of what the mirror gives, or of why the request was not read, was written
  -- whole, or its first bytes; or the source failed, and nothing was written; or after want of memory the response 500
  -- was tried.
  abbrev pub Serves : ConnStatus → Type 0
  Serves (status.Answered code) = Answers (Gives mirror) IsStill left written written_then code
  Serves status.ReadFault = Rose read_faults read_faults_then × (written_then ≡ written)
  Serves (status.WriteFault sent) =
      Breaks (Gives mirror) IsStill left written written_then write_faults write_faults_then sent
  Serves status.Memory = TriesShortage written written_then
