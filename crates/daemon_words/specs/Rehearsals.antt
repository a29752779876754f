-- The numbers of a rehearsal.
use Rattle.std.specs.Prelude.{ℕ, ◌≤◌, nat_le, ◌&&◌, Bool, List, Option, Some, None, codes, if◌then◌else◌}
use Rattle.clap.specs.Words.{Row, first_of}
use Rattle.dir_bytes.specs.Fields.{number}
use Rattle.daemon_words.specs.declared.rehearsal.Rehearse.{Rehearse}

-- The relays are at most 20,000, and the authorities 1 to 32.
pub record IsWithinBounds (wanted : Rehearse) : Type 0 where
  pub relays : wanted.relays ≤ 20000
  pub some : 1 ≤ wanted.authorities
  pub few : wanted.authorities ≤ 32

-- whether they are
abbrev pub is_within : ℕ → ℕ → Bool
is_within relays authorities = nat_le relays 20000 && (nat_le 1 authorities && nat_le authorities 32)

-- the rehearsal of three numbers, where they are within their bounds
abbrev pub rehearsal_of : ℕ → ℕ → ℕ → Option Rehearse
rehearsal_of seed relays authorities =
    if is_within relays authorities then Some (record { seed = seed; relays = relays; authorities = authorities }) else None

-- the same, where all three were read
abbrev pub numbers_of : Option ℕ → Option ℕ → Option ℕ → Option Rehearse
numbers_of (Some seed) (Some relays) (Some authorities) = rehearsal_of seed relays authorities
numbers_of _ _ _ = None

-- the rehearsal that three words spell
abbrev pub rehearse_of : List ℕ → List ℕ → List ℕ → Option Rehearse
rehearse_of seed relays authorities =
    numbers_of (number 18446744073709551615 seed) (number 4294967295 relays) (number 4294967295 authorities)

-- the same, where all three stand there
abbrev pub rehearse_with : Option (List ℕ) → Option (List ℕ) → Option (List ℕ) → Option Rehearse
rehearse_with (Some seed) (Some relays) (Some authorities) = rehearse_of seed relays authorities
rehearse_with _ _ _ = None

-- the rehearsal that stands among the values
abbrev pub rehearse_in : List Row → Option Rehearse
rehearse_in values =
    rehearse_with (first_of (codes "seed") values) (first_of (codes "relays") values) (first_of (codes "authorities") values)
