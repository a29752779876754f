use Rattle.std.{proofs.Common.{◌≡◌, take}, specs.List.flat_map}
use Rattle.consensus_terms.specs.{Flavours.router_at, Routers.listed_lines}
use Rattle.text_page.specs.Pages.{with_text}
use Rattle.consensus_text.proofs.router.put_routers.Given as goal

abbrev pub invariant-routers : goal.invariant-routers
invariant-routers l =
    l.page ≡ with_text l.fn.page (flat_map (λ r. listed_lines l.flavour (router_at l.moment r)) (take l.router-index l.routers))
