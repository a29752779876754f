-- The inputs with which `serve` has to start an authority.
use Rattle.std.specs.Prelude.{◌≡◌, ℕ, List, All}
use Rattle.key_port.specs.Answers.{Rules}
use Rattle.count_terms.specs.declared.newest.Newest.{Newest}
use Rattle.daemon_words.specs.declared.command.Measures.{Measures}
use Rattle.serve_command.specs.{declared.refusal.ServeRefusal.ServeRefusal, Starting.{RefusesToServe, StandsIn}}
use Rattle.serve_command.specs.declared.refusal.ServeRefusal.TheVariants as refusal
use Rattle.station_input.specs.declared.facts.StationFacts.{StationFacts}
use Rattle.vote_maker.specs.Made.{Basis}
use Rattle.station_commands.specs.{Voting.IsBasisOf, Answerable.{HoldsAt, IsNotRefused}}

-- A station that is given this can start an authority at a moment, with the descriptors that stand in the input from
-- a place on: it has a basis, no signature of its descriptors or of the own certificate may be refused, and that
-- certificate holds when the period begins.
pub record CanStart (rules : Rules) (now : ℕ) (given : StationFacts) (used : ℕ) (bytes : List ℕ) : Type 0 where
  pub its : Basis
  pub basis : IsBasisOf rules now given used bytes its
  pub none_refused : All (IsNotRefused rules) basis.has_pool.pool_of.descriptors
  pub holds : HoldsAt rules its.valid_after given.certificate

-- The input has what a station is given, by where its bandwidths come from and by the newest method that it knows,
-- which can start an authority with what stands behind it.
pub record CanServe (rules : Rules) (from : Measures) (newest : Newest) (now : ℕ) (bytes : List ℕ) : Type 0 where
  pub given : StationFacts
  pub used : ℕ
  pub stands : StandsIn from newest now bytes given used
  pub can : CanStart rules now given used bytes

-- such an input is refused only where the verifier failed
abbrev pub SuchAreNotRefused : Type 0
SuchAreNotRefused = (rules : Rules) (from : Measures) (newest : Newest) (now : ℕ) (bytes : List ℕ) (why : ServeRefusal)
    → CanServe rules from newest now bytes → RefusesToServe rules from newest now bytes why → why ≡ refusal.Verifier
