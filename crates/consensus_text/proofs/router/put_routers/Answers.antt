use Rattle.consensus_terms.specs.{Flavours.router_at, Routers.listed_lines, declared.router.Routerline.Routerline}
use Rattle.text_page.proofs.Pages.{one_more_piece_put}
use Rattle.consensus_text.proofs.router.put_routers.Goals as goal

pub routers-preserved : goal.routers-preserved
routers-preserved c =
    one_more_piece_put (λ (r : Routerline). listed_lines c.args.flavour (router_at c.args.moment r)) _ _ _ c.args.routers.now
    c.routers.router-index c.router-item.result c.routers-test.true c.router-item.is c.routers.invariant c.put_router.ensures
