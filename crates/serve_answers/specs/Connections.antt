-- What comes of one connection.
use Rattle.std.specs.Prelude.{◌≡◌, ◌⊎◌, ℕ, List, Option}
use Rattle.dir_bytes.specs.Causes.{Rose}
use Rattle.http_words.specs.declared.{asked.Asked.Asked, connection.ConnStatus.ConnStatus, outcome.Outcome.Outcome}
use Rattle.http_words.specs.Connections.{Handles, Answers, Breaks, TriesShortage}
use Rattle.http_words.specs.declared.connection.ConnStatus.TheVariants as status
use Rattle.serve_board.specs.Boards.{Parts}
use Rattle.serve_answers.specs.Finding.{AddsNothing}

module _ (Does : Asked → List ℕ → List ℕ → Outcome → Type 0) (before then : Parts)
    (left written written_then : Option (List ℕ)) (read_faults read_faults_then : ℕ)
    (write_faults write_faults_then : ℕ) where
  -- What came of a connection. After want of memory the response 500 was tried; and nothing was added, or what a
  -- request asked for was done, which could not be told.
  abbrev pub Serves : ConnStatus → Type 0
  Serves (status.Answered code) = Answers Does (then ≡ before) left written written_then code
  Serves status.ReadFault = Rose read_faults read_faults_then × (then ≡ before)
  Serves (status.WriteFault sent) =
      Breaks Does (then ≡ before) left written written_then write_faults write_faults_then sent
  Serves status.Memory =
      TriesShortage written written_then
      × (AddsNothing before then ⊎ ((outcome : Outcome) × Handles Does (then ≡ before) left outcome))
