use Rattle.std.proofs.Common.{◌≡◌, ◌∙◌, ◌+◌, ◌-◌, ◌/◌, ◌<◌, true, false, get_or, refl, ap, sym, arith}
use Rattle.dir_values.specs.{declared.digest.Fingerprint.Fingerprint, Digests.{same_identity, identity_below}}
use Rattle.vote_terms.specs.declared.entry.EntryFacts.{EntryFacts}
use Rattle.relay_select.proofs.Halving.{hit, go_up, go_down, past_end}
use Rattle.relay_select.proofs.halves.place_of.Goals as goal

pub halves-init : goal.halves-init
halves-init c = record {
  order = omega arith;
  within = omega (arith, c.len-high.ensures.value);
  ascending = c.len-high.ensures.ascending;
  below = refl;
  above = past_end c.args.vote.now.says.entries c.args.identity.now c.len-high.result (omega (arith, c.len-high.ensures.value));
}

pub returns-then-is_same : goal.returns-then-is_same
returns-then-is_same c =
    let es = c.args.vote.now.says.entries in
    let rsa = c.args.identity.now in
    let middle = c.halves.low + (c.halves.high - c.halves.low) / 2 in
    let at : (get_or es middle c.entry.result).identity ≡ c.identity-found.result = sym (c.identity-found.ensures ∙ ap (λ (e : EntryFacts). e.identity) c.entry.ensures) in
    let same : same_identity (get_or es middle c.entry.result).identity rsa ≡ true = ap (λ (f : Fingerprint). same_identity f rsa) at ∙ sym c.is_same.ensures ∙ c.if-is_same.true in
    record {
      value = sym (hit es c.halves.low middle rsa c.entry.result c.halves.invariant.ascending (omega arith) (omega (arith, c.halves.invariant.within)) same) ∙ c.halves.invariant.below;
      within = omega (arith, c.halves.invariant.within);
    }

pub halves-preserved-then-is_below : goal.halves-preserved-then-is_below
halves-preserved-then-is_below c =
    let es = c.args.vote.now.says.entries in
    let rsa = c.args.identity.now in
    let middle = c.halves.low + (c.halves.high - c.halves.low) / 2 in
    let at : (get_or es middle c.entry.result).identity ≡ c.identity-found.result = sym (c.identity-found.ensures ∙ ap (λ (e : EntryFacts). e.identity) c.entry.ensures) in
    let below : identity_below (get_or es middle c.entry.result).identity rsa ≡ true = ap (λ (f : Fingerprint). identity_below f rsa) at ∙ sym c.is_below.ensures ∙ c.if-is_below.true in
    record {
      order = omega arith;
      within = c.halves.invariant.within;
      ascending = c.halves.invariant.ascending;
      below = go_up es c.halves.low middle rsa c.entry.result c.halves.invariant.ascending (omega arith) (omega (arith, c.halves.invariant.within)) below ∙ c.halves.invariant.below;
      above = c.halves.invariant.above;
    }

pub halves-preserved : goal.halves-preserved
halves-preserved c =
    let es = c.args.vote.now.says.entries in
    let rsa = c.args.identity.now in
    let middle = c.halves.low + (c.halves.high - c.halves.low) / 2 in
    let at : (get_or es middle c.entry.result).identity ≡ c.identity-found.result = sym (c.identity-found.ensures ∙ ap (λ (e : EntryFacts). e.identity) c.entry.ensures) in
    let other : same_identity (get_or es middle c.entry.result).identity rsa ≡ false = ap (λ (f : Fingerprint). same_identity f rsa) at ∙ sym c.is_same.ensures ∙ c.if-is_same.false in
    let low : identity_below (get_or es middle c.entry.result).identity rsa ≡ false = ap (λ (f : Fingerprint). identity_below f rsa) at ∙ sym c.is_below.ensures ∙ c.if-is_below.false in
    record {
      order = omega arith;
      within = omega (arith, c.halves.invariant.within);
      ascending = c.halves.invariant.ascending;
      below = c.halves.invariant.below;
      above = go_down es middle c.halves.high rsa c.entry.result c.halves.invariant.ascending (omega arith) c.halves.invariant.within other low c.halves.invariant.above;
    }

pub returns : goal.returns
returns c =
    let e : c.halves.low ≡ c.halves.high = omega (arith, c.halves.invariant.order) in
    record { value = sym (sym c.halves.invariant.below ∙ (rw e c.halves.invariant.above)); within = tt }
