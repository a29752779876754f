use Rattle.std.proofs.Common.{◌≡◌, ◌-◌, None}
use Rattle.descriptor_frame.specs.Certificates.{signer_in}
use Rattle.descriptor_frame.proofs.extensions.signer_in.Given as goal

abbrev pub invariant-loop-i : goal.invariant-loop-i
invariant-loop-i l = signer_in (l.count - l.i) l.signer l.rest ≡ signer_in l.count None l.fn.bytes
