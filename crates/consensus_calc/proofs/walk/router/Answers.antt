use Rattle.std.proofs.Common.{◌≡◌, ◌∙◌, ap, sym, List, Some, rules}
use Rattle.relay_entries.specs.declared.said.EdOpinion.{EdOpinion}
use Rattle.compute_terms.specs.{declared.belong.Belong.Belong, Listings.{listings_at, entries_of}}
use Rattle.compute_terms.specs.Identities.{included_part, eds_of}
use Rattle.consensus_calc.proofs.Lines.{IsFound, unlisted, listed}
use Rattle.consensus_calc.proofs.walk.router.Goals as goal

pub returns-then-not-is_listed-clause-value : goal.returns-then-not-is_listed-clause-value
returns-then-not-is_listed-clause-value c =
    let votes = c.args.votes.now.votes in
    let said = listings_at votes c.args.group.now in
    let inc : included_part c.args.roster (eds_of said) ≡ Some c.in-Some.part =
    ap (λ (eds : List EdOpinion). included_part c.args.roster eds) (sym (c.deref.ensures.value ∙ c.in_ok-eds_at.ensures.ok)) ∙ sym c.included_part.ensures ∙ c.in-Some.is in
    let f : IsFound c.args.roster c.args.method votes said (listings_at votes c.deref-2.result.now) c.in-Some.part c.in_ok-set.set = record {
      included = inc;
      kept_are = ap (listings_at votes) c.deref-2.ensures.value ∙ c.in_ok-keep_belonging.ensures.listings;
      flags_are = c.in_ok-set.ensures;
    } in
    unlisted c.args.roster c.args.method c.args.most votes c.args.identity said (listings_at votes c.deref-2.result.now) c.in-Some.part c.in_ok-set.set f (search rules)

pub returns-clause-value : goal.returns-clause-value
returns-clause-value c =
    let votes = c.args.votes.now.votes in
    let said = listings_at votes c.args.group.now in
    let inc : included_part c.args.roster (eds_of said) ≡ Some c.in-Some.part =
    ap (λ (eds : List EdOpinion). included_part c.args.roster eds) (sym (c.deref.ensures.value ∙ c.in_ok-eds_at.ensures.ok)) ∙ sym c.included_part.ensures ∙ c.in-Some.is in
    let f : IsFound c.args.roster c.args.method votes said (listings_at votes c.deref-2.result.now) c.in-Some.part c.in_ok-set.set = record {
      included = inc;
      kept_are = ap (listings_at votes) c.deref-2.ensures.value ∙ c.in_ok-keep_belonging.ensures.listings;
      flags_are = c.in_ok-set.ensures;
    } in
    listed c.args.roster c.args.method c.args.most votes c.args.identity said (listings_at votes c.deref-2.result.now) c.in-Some.part c.in_ok-set.set c.deref-4.result.now c.in_ok-line.line f (search rules)
    (c.deref-4.ensures.value ∙ c.in_ok-entries_at.ensures.ok ∙ ap (λ (ms : List Belong). entries_of (listings_at votes ms)) (c.deref-3.ensures.value ∙ sym c.deref-2.ensures.value))
    c.in_ok-line.ensures.value
