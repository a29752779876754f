use Rattle.compute_command.proofs.Turning.{begins_open}
use Rattle.compute_command.proofs.rest.Rest.new.Goals as goal

pub returns : goal.returns
returns c =
    λ start room none full.
    begins_open start room c.in_ok-new.field-0 c.args.is_full c.in_ok-new.ensures c.if-is_full.false full
