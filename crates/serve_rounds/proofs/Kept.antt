-- What calls keep of what is lent, one behind the other.
use Rattle.std.proofs.Common.{◌≡◌, ◌∙◌, ℕ, ap, arith, subst}
use Rattle.serve_board.specs.Boards.{Locks}
use Rattle.serve_rounds.specs.{declared.lent.Lent.Lent, Keeping.Keeps}

-- over two calls
pub keeps_on : {V N L : Type 0} (V_faults : V → ℕ) (N_faults : N → ℕ) (L_faults : L → ℕ) (board : Locks)
    (a b c : Lent V N L) → Keeps V_faults N_faults L_faults board a b → Keeps V_faults N_faults L_faults board b c
    → Keeps V_faults N_faults L_faults board a c
keeps_on V_faults N_faults L_faults board a b c g h = record {
  same_pass = h.same_pass ∙ g.same_pass;
  same_verifier = h.same_verifier ∙ g.same_verifier;
  same_signer = h.same_signer ∙ g.same_signer;
  same_link = h.same_link ∙ g.same_link;
  at = h.at;
  verifier = omega (arith, g.verifier, h.verifier);
  signer = omega (arith, g.signer, h.signer);
  link = omega (arith, g.link, h.link);
}

-- of what is lent the same, the pass and the link are the same
pub pass_is : {V N L : Type 0} {a b : Lent V N L} → a ≡ b → a.pass.now ≡ b.pass.now
pass_is {V} {N} {L} same = ap (λ (lent : Lent V N L). lent.pass.now) same

pub link_is : {V N L : Type 0} {a b : Lent V N L} → a ≡ b → a.link.now ≡ b.link.now
link_is {V} {N} {L} same = ap (λ (lent : Lent V N L). lent.link.now) same

-- what holds of two values holds of those that they are
pub both_there : {A B : Type 0} (P : A → B → Type 0) (a : A) (b : B) {c : A} {d : B} → a ≡ c → b ≡ d → P a b → P c d
both_there P a b {c} {d} first second is = subst (P c) second (subst (λ x. P x b) first is)
