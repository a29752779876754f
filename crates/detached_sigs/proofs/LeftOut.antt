-- The signers among the keys so far, where the others are left out.
use Rattle.std.proofs.Common.{◌≡◌, ℕ, ◌+◌, ◌<◌, List, [], ◌∷◌, ◌++◌, length, get_or, take, drop, true, sym, ap, subst}
use Rattle.std.proofs.{Common.{◌∙◌, arith}, lemmas.{Grind.common_steps, List.{append_assoc, drop_more, take_more}}}
use Rattle.std.{proofs.lemmas.List.Elements.{All-nil, All-cons, All-head, All-tail}, specs.Prelude.{All, AllPairs}}
use Rattle.std.specs.Prelude.{remove}
use Rattle.dir_values.proofs.Orders.{AllPairs-head, AllPairs-tail}
use Rattle.key_port.specs.Answers.{Rules}
use Rattle.consensus_terms.specs.declared.signature.SignatureLine.{SignatureLine}
use Rattle.detached_sigs.specs.{declared.key.SignerKey.SignerKey, Signers.{AreApart, AreSigners, has_good_line}}
use Rattle.detached_sigs.{specs.Signers.has_bad_lines, proofs.Signing.{signer_more, other_more}}

-- Of all keys some were asked of; the signers among these stand before a place, and the keys that are left from there on.
pub record AreSoFar (rules : Rules) (digest : List ℕ) (lines : List SignatureLine) (all keys : List SignerKey) (place : ℕ)
    : Type 0 where
  pub asked : List SignerKey
  pub all_is : all ≡ asked ++ drop place keys
  pub are : AreSigners rules digest asked lines (take place keys)

in_between : {X : Type 0} (P : X → Type 0) (xs : List X) (y : X) (ys : List X) → All P (xs ++ y ∷ ys) → P y
in_between P [] y ys all = All-head P y ys all
in_between P (x ∷ xs) y ys all = in_between P xs y ys (All-tail P x (xs ++ y ∷ ys) all)

apart_from_one : (asked : List SignerKey) (key : SignerKey) (rest : List SignerKey) → AllPairs AreApart (asked ++ key ∷ rest)
    → All (λ other. AreApart other key) asked
apart_from_one [] key rest apart = All-nil (λ other. AreApart other key)
apart_from_one (first ∷ asked) key rest apart =
    All-cons (λ other. AreApart other key) first asked
    (in_between (AreApart first) asked key rest (AllPairs-head AreApart first (asked ++ key ∷ rest) apart))
    (apart_from_one asked key rest (AllPairs-tail AreApart first (asked ++ key ∷ rest) apart))

one_asked : (asked : List SignerKey) (key : SignerKey) (rest all left : List SignerKey) → all ≡ asked ++ left → left ≡ key ∷ rest
    → all ≡ (asked ++ key ∷ []) ++ rest
one_asked asked key rest all left is next =
    is ∙ ap (λ (l : List SignerKey). asked ++ l) next ∙ sym (append_assoc asked (key ∷ []) rest)

apart_ahead : (all asked : List SignerKey) (key : SignerKey) (rest left : List SignerKey) → AllPairs AreApart all
    → all ≡ asked ++ left → left ≡ key ∷ rest → All (λ other. AreApart other key) asked
apart_ahead all asked key rest left apart is next =
    apart_from_one asked key rest
    (subst (λ (l : List SignerKey). AllPairs AreApart l) (is ∙ ap (λ (l : List SignerKey). asked ++ l) next) apart)

-- the next key signs
pub one_signs : (rules : Rules) (digest : List ℕ) (lines : List SignatureLine) (all keys : List SignerKey) (place : ℕ) (d : SignerKey)
    → place < length keys → AllPairs AreApart all → AreSoFar rules digest lines all keys place
    → has_good_line rules digest lines (get_or keys place d) ≡ true → AreSoFar rules digest lines all keys (place + 1)
one_signs rules digest lines all keys place d lt apart so good =
    let key = get_or keys place d in
    let next = drop_more keys place d lt in
    record {
      asked = so.asked ++ key ∷ [];
      all_is = one_asked so.asked key (drop (place + 1) keys) all (drop place keys) so.all_is next;
      are = subst (λ (signers : List SignerKey). AreSigners rules digest (so.asked ++ key ∷ []) lines signers)
          (sym (take_more keys place d lt))
          (signer_more rules digest so.asked key lines (take place keys)
          (apart_ahead all so.asked key (drop (place + 1) keys) (drop place keys) apart so.all_is next) so.are good);
    }

front_stays : (keys : List SignerKey) (place : ℕ) → place < length keys → take place (remove keys place) ≡ take place keys
front_stays keys place lt = grind (arith, common_steps)

rest_stays : (keys : List SignerKey) (place : ℕ) → place < length keys → drop place (remove keys place) ≡ drop (place + 1) keys
rest_stays keys place lt = grind (arith, common_steps)

-- the next key does not, and is left out
pub one_signs_not : (rules : Rules) (digest : List ℕ) (lines : List SignatureLine) (all keys new : List SignerKey) (place : ℕ)
    (d : SignerKey) → place < length keys → new ≡ remove keys place → AreSoFar rules digest lines all keys place
    → has_bad_lines rules digest lines (get_or keys place d) ≡ true → AreSoFar rules digest lines all new place
one_signs_not rules digest lines all keys new place d lt is so bad =
    let key = get_or keys place d in
    let next = drop_more keys place d lt in
    subst (λ (l : List SignerKey). AreSoFar rules digest lines all l place) (sym is)
    (record {
      asked = so.asked ++ key ∷ [];
      all_is = one_asked so.asked key (drop (place + 1) keys) all (drop place keys) so.all_is next
          ∙ ap (λ (l : List SignerKey). (so.asked ++ key ∷ []) ++ l) (sym (rest_stays keys place lt));
      are = subst (λ (signers : List SignerKey). AreSigners rules digest (so.asked ++ key ∷ []) lines signers)
          (sym (front_stays keys place lt))
          (other_more rules digest so.asked key lines (take place keys) so.are bad);
    })
