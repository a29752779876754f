use Rattle.std.{proofs.Common.{rules, map}, specs.List.join_with_byte}
use Rattle.text_page.proofs.Pages.{capacity_kept}
use Rattle.list_values.proofs.spelled.append_joined.Goals as goal

pub returns-clause-capacity : goal.returns-clause-capacity
returns-clause-capacity g c =
    let text = join_with_byte c.args.separator (map g.T.Spelled.text c.args.values.now) in
    capacity_kept c.put_joined.new.page c.args.out.now.items text c.in-Some.bytes.items _ _ _ _ (search rules) c.args.out.now.ok.0
    c.in-Some.bytes.ok.0 c.requires c.in-Some.ensures.text c.in-Some.ensures.room
