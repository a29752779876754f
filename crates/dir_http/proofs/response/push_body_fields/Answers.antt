use Rattle.std.proofs.Common.{codes, decimal}
use Rattle.dir_http.{specs.Responses.{body_fields, line_end}, proofs.Writing.added_five}
use Rattle.dir_http.proofs.response.push_body_fields.Goals as goal

pub returns : goal.returns
unfolding body_fields
returns c =
    added_five c.args.out.now.items (codes "Content-Type: text/plain") line_end (codes "Content-Length: ")
    (decimal c.args.count) line_end
    c.push.new.out.items c.push_line_end.new.out.items c.push-2.new.out.items c.push_decimal.new.out.items
    c.push_line_end-2.new.out.items
    c.in_ok-push.ensures c.in_ok-push_line_end.ensures c.in_ok-push-2.ensures c.in_ok-push_decimal.ensures.ok
    c.in_ok-push_line_end-2.ensures
