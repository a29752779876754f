use Rattle.std.proofs.Common.{◌≡◌, arith, sym, ap, ◌∙◌, true, false, [], ◌∷◌, ◌++◌, drop, get_or, Vec, Global}
use Rattle.relay_select.{specs.Cursors.{is_next, entries_in}, proofs.Places.{group_yes, group_no, group_end, taken_yes}}
use Rattle.relay_select.proofs.{Places.{taken_no, cursors_past}, heads.take.Goals.{then-is_next, else-is_next}}
use Rattle.compute_terms.specs.declared.belong.Belong.{Belong}
use Rattle.relay_select.proofs.heads.take.Goals as goal

pub votes-preserved : goal.votes-preserved
votes-preserved c =
    let votes = c.args.votes.now.votes in
    let old = c.args.places.now in
    let rsa = c.args.identity.now in
    let held : get_or c.votes.places c.votes.number 0 ≡ get_or old c.votes.number 0 = c.votes.invariant.places.behind c.votes.number (omega arith) in
    elim c.if-is_next.branch [
      | then-is_next w ↦
          let next : is_next (drop (get_or c.votes.places c.votes.number 0) (entries_in votes c.votes.number)) rsa ≡ true = sym c.is_next.ensures.value ∙ w.if-is_next.true in
          let pushed : c.if-is_next.group.items ≡ c.votes.group.items ++ record { vote = c.votes.number; entry = get_or c.votes.places c.votes.number 0 } ∷ [] = ap (λ (v : Vec Belong Global). v.items) w.group-is ∙ w.push_reserved.ensures.items in
          record {
            group = rw pushed (group_yes votes old c.votes.number (get_or c.votes.places c.votes.number 0) rsa c.votes.group.items _ c.requires.places (omega arith) held next c.votes.invariant.group);
            places = rw w.places-is (taken_yes votes rsa old c.votes.places c.votes.number c.votes.invariant.places (omega arith) next);
            within = rw w.group-is (omega arith);
            capacity = rw w.group-is (omega arith);
          }
      | else-is_next w ↦
          let next : is_next (drop (get_or c.votes.places c.votes.number 0) (entries_in votes c.votes.number)) rsa ≡ false = sym c.is_next.ensures.value ∙ w.if-is_next.false in
          record {
            group = rw w.group-is (group_no votes old c.votes.number (get_or c.votes.places c.votes.number 0) rsa c.votes.group.items _ c.requires.places (omega arith) held next c.votes.invariant.group);
            places = rw w.places-is (taken_no votes rsa old c.votes.places c.votes.number c.votes.invariant.places next);
            within = rw w.group-is (omega arith);
            capacity = rw w.group-is (omega arith);
          }
    ]

pub returns-clause-group : goal.returns-clause-group
returns-clause-group c =
    group_end c.args.votes.now.votes c.args.places.now c.votes.number c.args.identity.now c.votes.group.items _ (omega arith) c.votes.invariant.group

pub returns-clause-places : goal.returns-clause-places
returns-clause-places c =
    cursors_past c.args.votes.now.votes c.args.places.now c.votes.places c.args.identity.now c.requires.places (omega arith) (λ k lt. c.votes.invariant.places.before k (omega arith))
