use Rattle.std.proofs.{Common.{◌≡◌, ◌<◌, ◌∙◌, Some, length, get_or, ⊎_elim, arith}, lemmas.Option.slice_get_cases}
use Rattle.std.specs.Prelude.{slice_get}
use Rattle.vote_terms.specs.Votes.{ReadVote}
use Rattle.relay_select.proofs.BelongingPlaces.{places_more, places_end, places_are, places_have}
use Rattle.relay_select.proofs.searching.belonging.Goals as goal

pub votes-preserved : goal.votes-preserved
votes-preserved c =
    let votes = c.args.votes.now.votes in
    let n = c.votes.number in
    ⊎_elim
    (λ (f : (x : ReadVote) × (n < length votes) × (slice_get votes n ≡ Some x) × (get_or votes n x ≡ x)).
    places_more votes c.args.identity.now n f.0 c.votes.members.items c.push_if.new.members.items c.member.result _ f.2 (c.member.ensures f.0 f.2) c.in_ok-push_if.ensures.ok c.votes.invariant)
    (λ p. absurd (omega (arith, p.0)))
    (slice_get_cases votes n).1

pub returns : goal.returns
returns c =
    let votes = c.args.votes.now.votes in
    let are = places_end votes c.args.identity.now c.votes.number c.votes.members.items _ (omega arith) c.votes.invariant in
    record {
      places = are;
      listings = places_are votes c.args.identity.now c.votes.members.items are;
      members = places_have votes c.args.identity.now c.votes.members.items are;
    }
