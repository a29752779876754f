-- What refusals of the crates below become.
use Rattle.frame_terms.specs.declared.fault.ReadRefusal.{ReadRefusal}
use Rattle.frame_terms.specs.declared.fault.ReadRefusal.TheVariants as read
use Rattle.mirror_core.specs.declared.refusal.MirrorRefusal.{MirrorRefusal}
use Rattle.mirror_core.specs.declared.refusal.MirrorRefusal.TheVariants as refusal

-- a document that was not read
abbrev pub of_read : ReadRefusal → MirrorRefusal
of_read (read.Frame fault) = refusal.Document fault
of_read read.Memory = refusal.Memory
