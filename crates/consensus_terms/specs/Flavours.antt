-- What a flavour says of a consensus that is computed (dir-spec, "Vote and consensus status document formats").
use Rattle.std.specs.Prelude.{ℕ, nat_le, Option, Some, None, map, unwrap_or, if◌then◌else◌}
use Rattle.consensus_terms.specs.declared.{consensus.ConsensusFacts.ConsensusFacts, flavour.Flavour.Flavour}
use Rattle.consensus_terms.specs.declared.{flavour.Flavour.TheVariants.{Ns, Microdesc}, router.Routerline.Routerline}

-- 2038-01-01 00:00:00, in seconds since 1970-01-01 00:00:00 UTC
abbrev pub common_moment : ℕ
common_moment = 2145916800

-- the moment at which every descriptor is said to have been published: the microdesc flavour says so from method 33 on
abbrev pub moment_of_all : Flavour → ℕ → Option ℕ
moment_of_all Ns method = None
moment_of_all Microdesc method = if nat_le 33 method then Some common_moment else None

-- a relay whose descriptor is said to have been published at this moment, where one is given
abbrev pub router_at : Option ℕ → Routerline → Routerline
router_at moment router = record router { published = unwrap_or moment router.published }

-- facts with these relays
abbrev pub facts_at : Option ℕ → ConsensusFacts → ConsensusFacts
facts_at moment c = record c { routers = map (router_at moment) c.routers }

-- the facts as the text of a flavour says them
abbrev pub facts_in : Flavour → ConsensusFacts → ConsensusFacts
facts_in flavour c = facts_at (moment_of_all flavour c.method) c
