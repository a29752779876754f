use Rattle.std.{proofs.Common.◌++◌, specs.Prelude.codes}
use Rattle.vote_rehearsal.{specs.Summaries.{count_line, digest_line}, proofs.SummaryTexts.joined}
use Rattle.vote_rehearsal.proofs.summary.push_found.Goals as goal

pub returns : goal.returns
returns c =
    let out = c.args.out.now.items in
    let found = c.args.found.now in
    let a = count_line (codes "listed-ns") found.ns in
    let b = count_line (codes "listed-microdesc") found.microdesc in
    let d = digest_line (codes "ns-sha1") found.sha1.0 in
    let last = digest_line (codes "microdesc-sha256") found.sha256.0 in
    let at1 = c.push_count.new.out.items in
    let at2 = c.push_count-2.new.out.items in
    let at3 = c.push_digest.new.out.items in
    let at4 = c.push_digest-2.new.out.items in
    joined out (a ++ b ++ d) last at3 at4
    (joined out (a ++ b) d at2 at3
    (joined out a b at1 at2 c.in_ok-push_count.ensures c.in_ok-push_count-2.ensures) c.in_ok-push_digest.ensures)
    c.in_ok-push_digest-2.ensures
