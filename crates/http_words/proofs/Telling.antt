-- What is told of an outcome.
use Rattle.std.proofs.Common.{◌≡◌, ℕ, List, [], length, take, Option, Some, None, Result, Ok, Err, sym, ◌∙◌, subst}
use Rattle.std.{proofs.{Common.{arith, append-nil}, lemmas.List.take_all}, specs.Io.KnownBytes.{Appends, Keeps}}
use Rattle.dir_http.specs.{declared.response.WriteRefusal.WriteRefusal, Responses.{WritesResponse, response_text}}
use Rattle.dir_http.specs.declared.response.WriteRefusal.TheVariants as refusal
use Rattle.http_words.specs.Connections.{TriesShortage}

keeps_nothing : (old new : Option (List ℕ)) → Keeps old new → Appends old new []
keeps_nothing None new keeps = tt
keeps_nothing (Some xs) None keeps = absurd keeps
keeps_nothing (Some xs) (Some ys) keeps = keeps ∙ sym (append-nil xs)

-- of a response a front was written, or nothing
front_written : {A : Type 0} (old new : Option (List ℕ)) (faults faults_then : ℕ) (text : List ℕ)
    (result : Result A WriteRefusal) → WritesResponse old new faults faults_then text result
    → (sent : ℕ) × Appends old new (take sent text)
front_written old new faults faults_then text (Ok done) writes =
    (length text, subst (Appends old new) (sym (take_all (length text) text (omega arith))) writes.0)
front_written old new faults faults_then text (Err (refusal.WriteFault sent)) writes = (sent, writes.0)
front_written old new faults faults_then text (Err refusal.Memory) writes = (0, keeps_nothing old new writes.0)

-- of the response 500
pub shortage_tried : {A : Type 0} (old new : Option (List ℕ)) (faults faults_then : ℕ) (body : List ℕ)
    (result : Result A WriteRefusal) → body ≡ []
    → WritesResponse old new faults faults_then (response_text 500 body) result → TriesShortage old new
shortage_tried old new faults faults_then body result empty writes =
    let front = front_written old new faults faults_then (response_text 500 body) result writes in
    (front.0, subst (λ (l : List ℕ). Appends old new (take front.0 (response_text 500 l))) empty front.1)
