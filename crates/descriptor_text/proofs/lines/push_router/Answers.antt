use Rattle.std.proofs.{Common.{rules, ◌≡◌, ◌++◌, ◌∷◌, [], append_assoc}, lemmas.Result.on_err_weaker}
use Rattle.dir_bytes.{proofs.Appending.front_stays, specs.FieldTexts.address_text}
use Rattle.descriptor_text.proofs.lines.push_router.Goals as goal

pub returns-clause-err : goal.returns-clause-err
returns-clause-err c =
    let rest = c.args.rest.now in
    let text = c.push-2.new.self in
    let router = c.args.router.now in
    let more = router.nickname ++ 32 ∷ address_text router.ip ++ 32 ∷ [] in
    let is : text.items ≡ rest.items ++ more = search (rules, append_assoc) in
    on_err_weaker c.push_ports.result
    (front_stays rest.len text.len rest.items more text.items c.push_ports.new.rest.items rest.ok.0 text.ok.0 is)
    c.push_ports.ensures.err
