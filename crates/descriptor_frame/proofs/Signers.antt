-- The signer that extensions hold, one extension after the other.
use Rattle.std.proofs.Common.{◌≡◌, ℕ, suc, ◌+◌, ◌-◌, ◌<◌, ◌≤◌, Bool, List, length, drop, ap, ◌∙◌, arith, Option, Some}
use Rattle.std.{proofs.Common.None, specs.Prelude.{◌==◌, if◌then◌else◌}}
use Rattle.descriptor_frame.specs.Certificates.{content_len, first_extension, then_signer, signer_in}

-- what so many extensions behind the first one make of what that one made of the signer
abbrev signer_behind : ℕ → List ℕ → Option (Option (List ℕ)) → Option (List ℕ)
signer_behind count bytes made = then_signer made (λ next. signer_in count next (drop (4 + content_len bytes) bytes))

-- an extension that may stand there
pub one_more_extension_passed : (count i : ℕ) (signer next : Option (List ℕ)) (bytes : List ℕ) → i < count
    → first_extension signer bytes ≡ Some next
    → signer_in (count - i) signer bytes ≡ signer_in (count - (i + 1)) next (drop (4 + content_len bytes) bytes)
unfolding signer_in
one_more_extension_passed count i signer next bytes lt is =
    let more : count - i ≡ suc (count - (i + 1)) = omega arith in
    ap (λ (n : ℕ). signer_in n signer bytes) more ∙ ap (signer_behind (count - (i + 1)) bytes) is

-- one that may not
pub no_more : (count i : ℕ) (signer : Option (List ℕ)) (bytes : List ℕ) → i < count
    → first_extension signer bytes ≡ None → signer_in (count - i) signer bytes ≡ None
unfolding signer_in
no_more count i signer bytes lt is =
    let more : count - i ≡ suc (count - (i + 1)) = omega arith in
    ap (λ (n : ℕ). signer_in n signer bytes) more ∙ ap (signer_behind (count - (i + 1)) bytes) is

-- all were read
pub at_end : (count i : ℕ) (signer : Option (List ℕ)) (bytes : List ℕ) (empty : Bool) → count ≤ i
    → (length bytes == 0) ≡ empty → signer_in (count - i) signer bytes ≡ (if empty then signer else None)
unfolding signer_in
at_end count i signer bytes empty all is =
    let none : count - i ≡ 0 = omega arith in
    ap (λ (n : ℕ). signer_in n signer bytes) none ∙ ap (λ (b : Bool). if b then signer else None) is
