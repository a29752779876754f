-- The moments that a consensus speaks of.
use Rattle.std.specs.Prelude.{◌≤◌, All}
use Rattle.dir_bytes.specs.Causes.{last_moment}
use Rattle.consensus_terms.specs.declared.{consensus.ConsensusFacts.ConsensusFacts, router.Routerline.Routerline}

-- each moment of a consensus is one of the calendar
pub record HasMoments (c : ConsensusFacts) : Type 0 where
  pub valid_after : c.valid_after ≤ last_moment
  pub fresh_until : c.fresh_until ≤ last_moment
  pub valid_until : c.valid_until ≤ last_moment
  pub published : All (λ (router : Routerline). router.published ≤ last_moment) c.routers
