-- Where the first fault of a vote stands: within its bytes (dir-spec, "Document meta-format").
use Rattle.std.specs.Prelude.{◌≡◌, ℕ, ◌≤◌, List, length, Err}
use Rattle.frame_terms.specs.declared.fault.{FrameFault.FrameFault, ReadRefusal.TheVariants.Frame}
use Rattle.vote_doc.specs.Reading.{vote_of}

-- The first fault of a vote stands within its bytes.
abbrev pub VoteFaultsStandWithin : Type 0
VoteFaultsStandWithin = (bytes : List ℕ) (fault : FrameFault) → vote_of bytes ≡ Err (Frame fault)
    → fault.place ≤ length bytes
