-- Facts of which nothing is said otherwise.
use Rattle.std.proofs.Common.{◌≡◌, List, [], ◌∷◌, map, refl, ap, None}
use Rattle.consensus_terms.specs.{Flavours.{facts_at, router_at}, declared.consensus.ConsensusFacts.ConsensusFacts}
use Rattle.consensus_terms.specs.declared.router.Routerline.{Routerline}

same_routers : (routers : List Routerline) → map (router_at None) routers ≡ routers
same_routers [] = refl
same_routers (router ∷ rest) = ap (λ (l : List Routerline). router ∷ l) (same_routers rest)

-- where no moment is given, facts are as they are
pub same_facts : (c : ConsensusFacts) → facts_at None c ≡ c
same_facts c = ap (λ (l : List Routerline). record c { routers = l }) (same_routers c.routers)
