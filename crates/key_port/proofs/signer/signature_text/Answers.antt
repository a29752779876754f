use Rattle.std.{proofs.Common.{Result, Ok, Err, arith, subst, sym}, specs.Prelude.{◌≡◌, List, ℕ, IfOk}}
use Rattle.hex.specs.Hex.{IsBytes}
use Rattle.key_port.proofs.signer.signature_text.Goals as goal

-- a text that is of these bytes is of bytes
of_bytes : {E : Type 0} (r : Result (List ℕ) E) (bytes : List ℕ) → IsBytes bytes → IfOk r (λ text. text ≡ bytes) → IfOk r IsBytes
of_bytes (Ok text) bytes sound is = subst IsBytes (sym is) sound
of_bytes (Err e) bytes sound is = is

pub returns-clause-bytes : goal.returns-clause-bytes
returns-clause-bytes c =
    of_bytes c.copy_of.result c.args.signature.now (λ i. let fits = c.type_inv.signature i in omega arith) c.copy_of.ensures
