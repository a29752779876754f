-- A walk goes over as many votes after a step as before it.
use Rattle.std.proofs.Common.{◌≡◌, ◌≤◌, ℕ, List, Option, Some, None, ap, arith}
use Rattle.dir_values.specs.declared.digest.Fingerprint.{Fingerprint}
use Rattle.compute_terms.specs.declared.belong.Belong.{Belong}
use Rattle.relay_select.specs.Walks.{Walk, Gives}

same : (old new : Walk) (result : Option Fingerprint) (members : List Belong) → Gives old result members new
    → new.votes ≡ old.votes
same old new None members gives = ap (λ (w : Walk). w.votes) gives.1
same old new (Some rsa) members gives = gives.1

-- there is still room for as many places as there are votes
pub room_stays : (old new : Walk) (result : Option Fingerprint) (members : List Belong) (room more : ℕ)
    → Gives old result members new → old.votes ≤ room → room ≤ more → new.votes ≤ more
room_stays old new result members room more gives before grows =
    let e = same old new result members gives in
    omega (arith, e, before, grows)
