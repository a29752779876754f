-- Why a call of a command gives nothing, and what a command answers.
use Rattle.std.specs.{Prelude.{◌≡◌, ℕ, List, Result, Ok, Err}, Global.Vec}
use Rattle.frame_terms.specs.declared.fault.ReadRefusal.{ReadRefusal}
use Rattle.frame_terms.specs.declared.fault.ReadRefusal.TheVariants as read
use Rattle.daemon_words.specs.declared.{command.Kind.Kind, stop.{DocumentRefusal.DocumentRefusal, Stop.Stop}}
use Rattle.daemon_words.specs.declared.stop.Stop.TheVariants as stop

-- a refusal of documents of a kind
abbrev pub of_read : Kind → ReadRefusal → Stop DocumentRefusal
of_read kind (read.Frame fault) = stop.Refused (record { kind = kind; fault = fault })
of_read kind read.Memory = stop.Memory

-- what was read of documents of a kind, or why the command stops
abbrev pub of_kind : {D : Type 0} → Kind → Result D ReadRefusal → Result D (Stop DocumentRefusal)
of_kind kind (Ok documents) = Ok documents
of_kind kind (Err other) = Err (of_read kind other)

module _ {R : Type 0} where
  -- what a function returned is an answer of a command, or there was no memory
  abbrev pub Answered : (Result (List ℕ) R → Type 0) → Result (Vec ℕ) (Stop R) → Type 0
  Answered answers (Ok text) = answers (Ok text.items)
  Answered answers (Err (stop.Refused why)) = answers (Err why)
  Answered answers (Err stop.Memory) = Unit {0}

module _ {R Q : Type 0} where
  -- what is answered, where its refusals are told so
  abbrev pub AnsweredAs : (R → Q) → (Result (List ℕ) R → Type 0) → Result (List ℕ) Q → Type 0
  AnsweredAs tell answers (Ok text) = answers (Ok text)
  AnsweredAs tell answers (Err why) = (own : R) × (why ≡ tell own) × answers (Err own)

  -- a stop, where its refusal is told so
  abbrev pub told_as : (R → Q) → Stop R → Stop Q
  told_as tell stop.Memory = stop.Memory
  told_as tell (stop.Refused why) = stop.Refused (tell why)
