use Rattle.std.proofs.Common.{Err, sym, subst, ◌∙◌}
use Rattle.frame_terms.specs.declared.fault.ReadRefusal.{ReadRefusal}
use Rattle.descriptor_doc.proofs.ReadUnder.{own_read}
use Rattle.descriptor_parts.proofs.OfText.{some_bytes}
use Rattle.station_commands.{proofs.Reading.{fails_there, fits_there, read_there, rest_is}, specs.Reads.ReadsAt}
use Rattle.station_commands.proofs.descriptors.read_at.Goals as goal

pub from_place-requires : goal.from_place-requires
from_place-requires c =
    let place = c.args.place in
    let bytes = c.args.bytes.now in
    let rest = c.in_ok-rest.ensures.ok ∙ rest_is place bytes in
    fits_there c.args.newest place bytes c.in_ok-rest.rest c.in-Err.refusal rest c.requires.within c.requires.short c.in-Err.ensures

pub returns-in-Ok-clause-reads : goal.returns-in-Ok-clause-reads
returns-in-Ok-clause-reads c =
    let place = c.args.place in
    let bytes = c.args.bytes.now in
    let rest = c.in_ok-rest.ensures.ok ∙ rest_is place bytes in
    let found = own_read c.args.newest c.in_ok-rest.rest c.in-Ok.descriptor c.in-Ok.used c.in-Ok.ensures.0 in
    read_there c.args.newest place bytes c.in_ok-rest.rest c.in-Ok.descriptor c.in-Ok.used rest c.requires.within
    c.in-Ok.ensures (some_bytes c.in_ok-rest.rest found.own c.in-Ok.used found.read)

pub returns-in-Ok-clause-read : goal.returns-in-Ok-clause-read
returns-in-Ok-clause-read c =
    record { newest = c.args.newest; input = c.in_ok-rest.rest; used = c.in-Ok.used; read = c.in-Ok.ensures.0 }

pub returns-clause-reads : goal.returns-clause-reads
returns-clause-reads c =
    let place = c.args.place in
    let bytes = c.args.bytes.now in
    let rest = c.in_ok-rest.ensures.ok ∙ rest_is place bytes in
    subst (λ (why : ReadRefusal). ReadsAt c.args.newest place bytes (Err why)) (sym c.from_place.ensures)
    (fails_there c.args.newest place bytes c.in_ok-rest.rest c.in-Err.refusal rest c.in-Err.ensures)
