use Rattle.std.{proofs.Common.◌++◌, specs.Prelude.codes}
use Rattle.vote_rehearsal.{specs.Summaries.count_line, proofs.SummaryTexts.joined}
use Rattle.vote_rehearsal.proofs.summary.push_counts.Goals as goal

pub returns : goal.returns
returns c =
    let out = c.args.out.now.items in
    let a = count_line (codes "authorities") c.args.authorities in
    let b = count_line (codes "relays") c.args.relays in
    let last = count_line (codes "votes") c.args.votes in
    let at1 = c.push_count.new.out.items in
    let at2 = c.push_count-2.new.out.items in
    let at3 = c.push_count-3.new.out.items in
    joined out (a ++ b) last at2 at3
    (joined out a b at1 at2 c.in_ok-push_count.ensures c.in_ok-push_count-2.ensures) c.in_ok-push_count-3.ensures
