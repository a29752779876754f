use Rattle.std.proofs.{Common.{◌∙◌, Err, arith, subst, sym}, lemmas.List.take_rest}
use Rattle.frame_terms.specs.declared.fault.{FrameFault.FrameFault, ReadRefusal.{ReadRefusal, TheVariants.Frame}}
use Rattle.frame_terms.specs.Refusals.{Fails}
use Rattle.vote_doc.specs.Reading.{vote_of}
use Rattle.report_command.{specs.Private.ReadsVoteAt, proofs.Chains.{fails_there, fault_inside, read_there}}
use Rattle.report_command.proofs.reading.vote_at.Goals as goal

pub returns-in-Ok : goal.returns-in-Ok
returns-in-Ok c =
    let place = c.args.place in
    let bytes = c.args.bytes.now in
    read_there place bytes c.in_ok-rest.rest c.in-Ok.vote c.in-Ok.used (c.in_ok-rest.ensures.ok ∙ take_rest bytes place)
    c.requires.within c.in-Ok.ensures

pub returns-in-Err-Frame : goal.returns-in-Err-Frame
returns-in-Err-Frame c =
    let place = c.args.place in
    let bytes = c.args.bytes.now in
    let rest = c.in_ok-rest.rest in
    let fails =
    fails_there place bytes rest c.in-Err-Frame.fault (c.in_ok-rest.ensures.ok ∙ take_rest bytes place)
    (subst (λ (why : ReadRefusal). Fails why (vote_of rest)) c.in-Err-Frame.field-0-is c.in-Err-Frame.ensures) in
    subst (λ (fault : FrameFault). ReadsVoteAt place bytes (Err (Frame fault))) (sym c.fault_behind.ensures) fails

pub fault_behind-requires : goal.fault_behind-requires
fault_behind-requires c =
    let place = c.args.place in
    let bytes = c.args.bytes.now in
    let rest = c.in_ok-rest.rest in
    let inside =
    fault_inside place bytes rest c.in-Err-Frame.fault (c.in_ok-rest.ensures.ok ∙ take_rest bytes place) c.requires.within
    (subst (λ (why : ReadRefusal). Fails why (vote_of rest)) c.in-Err-Frame.field-0-is c.in-Err-Frame.ensures) in
    omega (arith, inside, c.requires.short)
