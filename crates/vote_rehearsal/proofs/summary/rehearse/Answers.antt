use Rattle.std.proofs.Common.{rules, ◌≡◌, List, length, ap₂, ◌∙◌}
use Rattle.vote_rehearsal.specs.{Casting.held_votes, declared.{authority.Authority.Authority, relay.Relay.Relay}}
use Rattle.vote_rehearsal.proofs.SummaryTexts.{whole}
use Rattle.vote_rehearsal.proofs.summary.rehearse.Goals as goal

pub returns : goal.returns
returns c =
    let cast =
    c.in_ok-held.ensures
    ∙ ap₂ (λ (l : List Relay) (v : List Authority). held_votes l v) c.deref.ensures.value c.deref-2.ensures.value in
    let roster : c.len.result ≡ length c.in_ok-voters.voters.items = search rules in
    let count : c.len-2.result ≡ length c.in_ok-held.held.votes = search rules in
    whole c.args.seed c.args.relays c.args.authorities c.len.result c.len-2.result c.in_ok-listed.listed.items
    c.in_ok-voters.voters.items c.in_ok-held.held.votes c.in_ok-found.found c.new-out.result.items
    c.push_counts.new.out.items c.push_found.new.out.items c.in_ok-listed.ensures c.in_ok-voters.ensures.voters cast
    roster count c.in_ok-found.ensures c.new-out.ensures.items c.in_ok-push_counts.ensures c.in_ok-push_found.ensures
