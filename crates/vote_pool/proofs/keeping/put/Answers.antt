-- What is answered and held, by what was found of the descriptor's place.
use Rattle.std.proofs.Common.{rules}
use Rattle.vote_pool.proofs.Placing.{Found, answered, changed}
use Rattle.vote_pool.proofs.keeping.put.Goals as goal

pub returns-then-not-is_change-clause-answer : goal.returns-then-not-is_change-clause-answer
returns-then-not-is_change-clause-answer g c =
    let found : Found c.args.entries.now.items c.args.entry c.identity-identity.result c.place_of-place.result
    c.rank_at-held.result = record {
      ascend = c.requires.ascend;
      identity_is = search rules;
      place_is = search rules;
      held_is = search rules;
    } in
    answered c.args.entries.now.items c.args.entry c.identity-identity.result c.place_of-place.result
    c.rank_at-held.result c.rank-rank.result c.len.result c.args.changes c.answer_for-answer.result found
    (search rules) (search rules) c.answer_for-answer.ensures.answer

pub returns-clause-answer : goal.returns-clause-answer
returns-clause-answer g c =
    let found : Found c.args.entries.now.items c.args.entry c.identity-identity.result c.place_of-place.result
    c.rank_at-held.result = record {
      ascend = c.requires.ascend;
      identity_is = search rules;
      place_is = search rules;
      held_is = search rules;
    } in
    answered c.args.entries.now.items c.args.entry c.identity-identity.result c.place_of-place.result
    c.rank_at-held.result c.rank-rank.result c.len.result c.args.changes c.answer_for-answer.result found
    (search rules) (search rules) c.answer_for-answer.ensures.answer

pub returns-clause-entries : goal.returns-clause-entries
returns-clause-entries g c =
    let found : Found c.args.entries.now.items c.args.entry c.identity-identity.result c.place_of-place.result
    c.rank_at-held.result = record {
      ascend = c.requires.ascend;
      identity_is = search rules;
      place_is = search rules;
      held_is = search rules;
    } in
    changed c.args.entries.now.items c.args.entry c.identity-identity.result c.place_of-place.result
    c.rank_at-held.result c.is_some.result c.answer_for-answer.result c.put_at.new.entries.items found
    (search rules) (search rules) c.put_at.ensures.entries
