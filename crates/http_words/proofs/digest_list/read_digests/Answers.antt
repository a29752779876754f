use Rattle.std.{proofs.Common.{◌≡◌, ◌∙◌, ◌∷◌, [], ℕ, List, Option, length, ap, sym, subst, arith}, specs.Borrow.Bor}
use Rattle.http_words.{specs.DigestLists.{SplitsOff, parts_of, digests_of}, proofs.Digests.{behind, splits}}
use Rattle.http_words.proofs.Digests.{none_before, no_digest, digest_added, last_digest, some_part, no_list, too_many}
use Rattle.http_words.proofs.Digests.{few}
use Rattle.http_words.proofs.digest_list.read_digests.Goals as goal

pub parts-init : goal.parts-init
parts-init c =
    let all = digests_of (parts_of c.args.text.now) in
    record {
      spelled = ap (λ (l : List (List ℕ)). behind l all) c.new-digests.ensures.items ∙ none_before all;
      counted = omega (arith, c.new-digests.ensures.len);
      fits = omega (arith, c.new-digests.ensures.len);
    }

pub returns-in_default : goal.returns-in_default
returns-in_default c =
    let all = parts_of c.args.text.now in
    let part = c.split_off.result.0.now in
    let digests = c.parts.digests.items in
    let first = splits c.parts.rest.now part c.split_off.result.1 c.split_off.ensures in
    no_list c.args.text.now (no_digest digests first.0 all part (sym c.in_default.ensures)
    (subst (λ (l : List (List ℕ)). behind digests (digests_of l) ≡ digests_of all) first.1 c.parts.invariant.spelled))

pub parts-preserved : goal.parts-preserved
parts-preserved c =
    let all = parts_of c.args.text.now in
    let rest = c.parts.rest.now in
    let part = c.split_off.result.0.now in
    let digests = c.parts.digests.items in
    let left = parts_of c.in-Some-behind.more.now in
    let first : parts_of rest ≡ part ∷ left =
    subst (λ (o : Option (Bor (List ℕ))). SplitsOff rest part o) c.in-Some-behind.is c.split_off.ensures in
    record {
      spelled = ap (λ (l : List (List ℕ)). behind l (digests_of left)) c.in_ok-push.ensures.items
          ∙ digest_added digests left all part c.in-Some.digest (sym c.in-Some.ensures)
          (subst (λ (l : List (List ℕ)). behind digests (digests_of l) ≡ digests_of all) first c.parts.invariant.spelled);
      counted = omega (
        arith,
        c.in_ok-push.ensures.len,
        c.parts.invariant.counted,
        ap (λ (l : List (List ℕ)). length l) first,
      );
      fits = omega (arith, c.in_ok-push.ensures.len, c.parts-test.true, c.len.ensures);
    }

pub returns-in-None : goal.returns-in-None
returns-in-None c =
    let all = parts_of c.args.text.now in
    let rest = c.parts.rest.now in
    let part = c.split_off.result.0.now in
    let digests = c.parts.digests.items in
    let first : parts_of rest ≡ part ∷ [] =
    subst (λ (o : Option (Bor (List ℕ))). SplitsOff rest part o) c.in-None.is c.split_off.ensures in
    let spelled : behind c.push.new.self.items (digests_of []) ≡ digests_of all =
    ap (λ (l : List (List ℕ)). behind l (digests_of [])) c.in_ok-push.ensures.items
    ∙ digest_added digests [] all part c.in-Some.digest (sym c.in-Some.ensures)
    (subst (λ (l : List (List ℕ)). behind digests (digests_of l) ≡ digests_of all) first c.parts.invariant.spelled) in
    few c.args.text.now c.push.new.self.items
    (omega (arith, c.parts.invariant.counted, c.parts-test.true, c.len.ensures, ap (λ (l : List (List ℕ)). length l) first))
    (last_digest c.push.new.self.items all spelled)

pub returns : goal.returns
returns c =
    too_many c.args.text.now
    (omega (arith, c.parts-test.false, c.len.ensures, some_part c.parts.rest.now, c.parts.invariant.counted))
