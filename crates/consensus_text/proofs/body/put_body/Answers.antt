use Rattle.std.{proofs.{Common.{ap, sym, ◌∙◌}, lemmas.List.Folds.flat_map-map}, specs.List.flat_map}
use Rattle.consensus_terms.specs.{Flavours.router_at, Routers.listed_lines, Texts.{source_lines, body}}
use Rattle.consensus_terms.specs.declared.router.Routerline.{Routerline}
use Rattle.text_page.proofs.Pages.{also, same_text}
use Rattle.consensus_text.proofs.body.put_body.Goals as goal

pub returns : goal.returns
unfolding body
returns c =
    let relays = c.args.facts.now.routers in
    let sources = same_text _ _ _ _ (ap (flat_map source_lines) c.as_slice.ensures) c.put_sources.ensures in
    let each = ap (flat_map (λ (r : Routerline). listed_lines c.args.flavour (router_at c.args.moment r))) c.as_slice-2.ensures in
    let same = each ∙ sym (flat_map-map (listed_lines c.args.flavour) (router_at c.args.moment) relays) in
    let routers = same_text _ _ _ _ same c.put_routers.ensures in
    also _ _ _ _ _ (also _ _ _ _ _ c.put_preamble.ensures sources) routers
