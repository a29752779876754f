use Rattle.std.proofs.Common.{◌≡◌, ◌∙◌, ap, ℕ, List}
use Rattle.compute_terms.specs.{Listings.listings_at, Flags.known_flags, RelayFlags.adjusted_flags}
use Rattle.consensus_calc.proofs.Lines.{set_is}
use Rattle.consensus_calc.proofs.walk.flags_of.Goals as goal

pub returns : goal.returns
returns c =
    let votes = c.args.votes.now.votes in
    c.in_ok-after.ensures
    ∙ ap (λ (known : List (List ℕ)). adjusted_flags c.args.method known c.in_ok-set.set) c.requires.known
    ∙ ap (adjusted_flags c.args.method (known_flags c.args.method votes)) (c.in_ok-set.ensures
    ∙ set_is c.args.method votes c.args.part.now (listings_at votes c.args.members.now) c.args.known.now c.deref.result.now c.args.needed.now c.requires.known (c.deref.ensures.value ∙ c.in_ok-count_setting.ensures) c.requires.needed)
