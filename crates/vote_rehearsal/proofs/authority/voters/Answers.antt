use Rattle.std.proofs.Common.{◌≡◌, List, length, ap, ap₂, sym, subst, ◌∙◌, arith}
use Rattle.vote_rehearsal.specs.{Authorities.{voters, with_voter}, Private.MakeRoster}
use Rattle.vote_rehearsal.{specs.declared.authority.Authority.Authority, proofs.Rosters.{make_roster, more_voters}}
use Rattle.vote_rehearsal.proofs.Rosters.{voters_length}
use Rattle.vote_rehearsal.proofs.authority.voters.Goals as goal

pub authorities-preserved : goal.authorities-preserved
authorities-preserved c =
    c.in_ok-push_voter.ensures
    ∙ ap₂ (λ (l : List Authority) (one : Authority). with_voter l one) c.authorities.invariant
    c.in_ok-authority.ensures
    ∙ sym (more_voters c.args.seed c.authorities.before)

pub returns-clause-roster : goal.returns-clause-roster
returns-clause-roster c =
    let e : c.authorities.before ≡ c.args.count =
    omega (arith, c.authorities-test.false, c.authorities.auto.before-end) in
    let is : c.authorities.found.items ≡ voters c.args.seed c.args.count =
    c.authorities.invariant ∙ ap (λ n. voters c.args.seed n) e in
    subst (λ (l : List Authority). MakeRoster l) (sym is)
    (make_roster c.args.seed c.args.count c.requires.0 c.requires.1)

pub returns-clause-few : goal.returns-clause-few
returns-clause-few c =
    let e : c.authorities.before ≡ c.args.count =
    omega (arith, c.authorities-test.false, c.authorities.auto.before-end) in
    let is : c.authorities.found.items ≡ voters c.args.seed c.args.count =
    c.authorities.invariant ∙ ap (λ n. voters c.args.seed n) e in
    let same = ap (λ (l : List Authority). length l) is in
    let few = voters_length c.args.seed c.args.count c.requires.0 in
    omega (arith, same, few.1, c.requires.1)
