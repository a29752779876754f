-- A request of which something came is served where that is told.
use Rattle.std.proofs.Common.{◌≡◌, ℕ, List, Option, Ok, inr, subst}
use Rattle.dir_http.specs.Requests.{ReadRequest, ReadsWhole}
use Rattle.http_words.specs.declared.{asked.Asked.Asked, connection.ConnStatus.ConnStatus, outcome.Outcome.Outcome}
use Rattle.http_words.specs.{Connections.{Handles, Tells}, Paths.asked_by}
use Rattle.http_words.specs.declared.connection.ConnStatus.TheVariants as status
use Rattle.serve_board.specs.Boards.{Parts}
use Rattle.serve_answers.specs.Connections.{Serves}

module _ (written written_then : Option (List ℕ)) (write_faults write_faults_then : ℕ) (outcome : Outcome)
    (Does : Asked → List ℕ → List ℕ → Outcome → Type 0) (before then : Parts) (left : Option (List ℕ))
    (read_faults read_faults_then : ℕ) where
  pub served : (told : ConnStatus) → Handles Does (then ≡ before) left outcome
      → Tells written written_then write_faults write_faults_then outcome told
      → Serves Does before then left written written_then read_faults read_faults_then write_faults write_faults_then
      told
  served (status.Answered code) handles tells =
      record { outcome = outcome; handles = handles; code_is = tells.0; wrote = tells.2 }
  served status.ReadFault handles tells = absurd tells
  served (status.WriteFault sent) handles tells =
      record { outcome = outcome; handles = handles; fewer = tells.0; wrote = tells.1; rose = tells.2 }
  served status.Memory handles tells = (tells, inr (outcome, handles))

  -- of one that was read
  pub request_served : (told : ConnStatus) (request : ReadRequest) (ask : Asked) (path : List ℕ)
      → ask ≡ asked_by request.method request.path → path ≡ request.path → ReadsWhole left (Ok request)
      → Does ask path request.body outcome → Tells written written_then write_faults write_faults_then outcome told
      → Serves Does before then left written written_then read_faults read_faults_then write_faults write_faults_then
      told
  request_served told request ask path asks by reads does tells =
      served told record {
        read = Ok request;
        reads = reads;
        does =
            subst (λ (what : Asked). Does what request.path request.body outcome) asks
            (subst (λ (p : List ℕ). Does ask p request.body outcome) by does);
      } tells
