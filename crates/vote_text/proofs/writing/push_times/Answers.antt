use Rattle.std.proofs.Common.{◌++◌, [], List, ℕ}
use Rattle.dirdoc_grammar.specs.Writing.{item_text}
use Rattle.frame_terms.specs.declared.keyword.Keyword.TheVariants as the
use Rattle.frame_values.{specs.Items.{bare, moment_item}, proofs.ItemsTexts.{link, last}}
use Rattle.vote_text.specs.Texts.{delays_text}
use Rattle.vote_text.proofs.writing.push_times.Goals as goal

pub returns-clause-ok : goal.returns-clause-ok
returns-clause-ok c =
    let facts = c.args.facts.now in
    let out = c.args.out.now.items in
    let text1 : List ℕ = item_text (moment_item the.Published facts.published) in
    let text2 : List ℕ = item_text (moment_item the.ValidAfter facts.valid_after) in
    let text3 : List ℕ = item_text (moment_item the.FreshUntil facts.fresh_until) in
    let text4 : List ℕ = item_text (moment_item the.ValidUntil facts.valid_until) in
    let text5 : List ℕ = item_text (bare the.VotingDelay (delays_text facts)) in
    let at1 = c.push_timed.new.out.items in
    let at2 = c.push_timed-2.new.out.items in
    let at3 = c.push_timed-3.new.out.items in
    let at4 = c.push_timed-4.new.out.items in
    let at5 = c.push_delays.new.out.items in
    let rest4 : List ℕ = text5 ++ [] in
    let rest3 : List ℕ = text4 ++ rest4 in
    let rest2 : List ℕ = text3 ++ rest3 in
    let rest1 : List ℕ = text2 ++ rest2 in
    link out text1 at1 at5 rest1 c.in_ok-push_timed.ensures.ok
    (link at1 text2 at2 at5 rest2 c.in_ok-push_timed-2.ensures.ok
    (link at2 text3 at3 at5 rest3 c.in_ok-push_timed-3.ensures.ok
    (link at3 text4 at4 at5 rest4 c.in_ok-push_timed-4.ensures.ok
    (last at4 text5 at5 c.in_ok-push_delays.ensures.ok))))
