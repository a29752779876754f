-- The signers among some keys and one more.
use Rattle.std.proofs.Common.{◌≡◌, ◌<◌, ◌≤◌, ◌+◌, ◌++◌, ℕ, List, [], ◌∷◌, length, take, get_or, true, inl, inr, subst}
use Rattle.std.proofs.{Common.{sym, ap, ◌∙◌, arith, Bool, false, not, ◌&&◌, ◌||◌, refl}, lemmas.List.take_more}
use Rattle.std.proofs.lemmas.List.{get_or-take, length-take-le, length_push, get_or_default, Elements.All-push}
use Rattle.std.proofs.lemmas.List.Elements.{All-weaker, All-contains, Contains-append_left, Contains-push}
use Rattle.std.{proofs.lemmas.{List.Quantifiers.all_pairs_push, Bool.false≢true}, specs.Prelude.{All, AllPairs}}
use Rattle.std.specs.{Prelude.{Contains, ◌⊎◌}, List.list_all}
use Rattle.key_port.specs.Answers.{Rules}
use Rattle.detached_sigs.specs.{declared.key.SignerKey.SignerKey, Signers.{AreApart, AreSigners, CountsSigners}}
use Rattle.detached_sigs.{specs.Signers.{has_good_line, has_bad_lines, is_line_of, is_signed}, proofs.Asking.taken}
use Rattle.consensus_terms.specs.declared.signature.SignatureLine.{SignatureLine}

-- a key that signs is one more
pub signer_more : (rules : Rules) (digest : List ℕ) (before : List SignerKey) (key : SignerKey)
    (lines : List SignatureLine) (signers : List SignerKey)
    → All (λ other. AreApart other key) before → AreSigners rules digest before lines signers → has_good_line rules
    digest lines key ≡ true
    → AreSigners rules digest (before ++ key ∷ []) lines (signers ++ key ∷ [])
signer_more rules digest before key lines signers apart are good =
    record {
      members = All-push (Contains (before ++ key ∷ [])) signers key
          (All-weaker (Contains before) (Contains (before ++ key ∷ [])) (λ x. Contains-append_left before (key ∷ [])
          x) signers are.members) (Contains-push before key);
      once = all_pairs_push AreApart signers key are.once (λ k d lt. All-contains (λ other. AreApart other key) before
          (get_or signers k d) apart (are.members k d lt));
      signed = All-push (λ key. has_good_line rules digest lines key ≡ true) signers key are.signed good;
      others = All-push (λ other. Contains (signers ++ key ∷ []) other ⊎ (has_bad_lines rules digest lines other ≡
          true)) before key
          (All-weaker (λ other. Contains signers other ⊎ (has_bad_lines rules digest lines other ≡ true))
          (λ other. Contains (signers ++ key ∷ []) other ⊎ (has_bad_lines rules digest lines other ≡ true))
          (λ other h. elim h [ inl c ↦ inl (Contains-append_left signers (key ∷ []) other c) | inr b ↦ inr b ])
          before are.others)
          (inl (Contains-push signers key));
    }

-- one that does not is none
pub other_more : (rules : Rules) (digest : List ℕ) (before : List SignerKey) (key : SignerKey)
    (lines : List SignatureLine) (signers : List SignerKey)
    → AreSigners rules digest before lines signers → has_bad_lines rules digest lines key ≡ true
    → AreSigners rules digest (before ++ key ∷ []) lines signers
other_more rules digest before key lines signers are bad =
    record {
      members = All-weaker (Contains before) (Contains (before ++ key ∷ [])) (λ x. Contains-append_left before
          (key ∷ []) x) signers are.members;
      once = are.once;
      signed = are.signed;
      others = All-push (λ key. Contains signers key ⊎ (has_bad_lines rules digest lines key ≡ true)) before key
          are.others (inr bad);
    }

-- a key is apart from those before it
pub apart_from : (keys : List SignerKey) (i : ℕ) (d : SignerKey) → i < length keys → AllPairs AreApart keys
    → All (λ other. AreApart other (get_or keys i d)) (take i keys)
apart_from keys i d lt apart k e below =
    let at : k < i = omega (arith, below, length-take-le i keys (omega (arith, lt))) in
    let pairs : k < i → AreApart (get_or keys k e) (get_or keys i d) =
    λ l. subst (λ other. AreApart other (get_or keys i d))
    (sym (get_or_default keys k e d (omega (arith, l, lt)))) (apart k i d l lt) in
    subst (λ other. AreApart other (get_or keys i d)) (sym (get_or-take i keys k e at)) (pairs at)

-- the keys so far and the next one, which signs
pub counts_signer : (rules : Rules) (digest : List ℕ) (keys : List SignerKey) (i : ℕ) (key : SignerKey)
    (lines : List SignatureLine) (count : ℕ)
    → i < length keys → key ≡ get_or keys i key → AllPairs AreApart keys → CountsSigners rules digest (take i keys)
    lines count → has_good_line rules digest lines key ≡ true
    → CountsSigners rules digest (take (i + 1) keys) lines (count + 1)
counts_signer rules digest keys i key lines count lt is apart counts good =
    let more : take (i + 1) keys ≡ take i keys ++ key ∷ [] = take_more keys i key lt ∙ ap (λ k. take i keys ++ k ∷ [])
    (sym is) in
    record {
      signers = counts.signers ++ key ∷ [];
      are = subst (λ ks. AreSigners rules digest ks lines (counts.signers ++ key ∷ [])) (sym more)
          (signer_more rules digest (take i keys) key lines counts.signers
          (subst (λ k. All (λ other. AreApart other k) (take i keys)) (sym is) (apart_from keys i key lt apart))
          counts.are good);
      number = ap (λ n. n + 1) counts.number ∙ sym (length_push counts.signers key);
    }

-- and one that does not
pub counts_other : (rules : Rules) (digest : List ℕ) (keys : List SignerKey) (i : ℕ) (key : SignerKey)
    (lines : List SignatureLine) (count : ℕ)
    → i < length keys → key ≡ get_or keys i key → CountsSigners rules digest (take i keys) lines count
    → has_bad_lines rules digest lines key ≡ true
    → CountsSigners rules digest (take (i + 1) keys) lines count
counts_other rules digest keys i key lines count lt is counts bad =
    let more : take (i + 1) keys ≡ take i keys ++ key ∷ [] = take_more keys i key lt ∙ ap (λ k. take i keys ++ k ∷ [])
    (sym is) in
    record {
      signers = counts.signers;
      are = subst (λ ks. AreSigners rules digest ks lines counts.signers) (sym more)
          (other_more rules digest (take i keys) key lines counts.signers counts.are bad);
      number = counts.number;
    }

-- ---- the lines of a key

all_by : {X : Type 0} (b : Bool) (p : X → Bool) (xs : List X) (x : X) → (b && list_all p xs) ≡ true
    → (list_all p xs ≡ true → list_all p (xs ++ x ∷ []) ≡ true) → (b && list_all p (xs ++ x ∷ [])) ≡ true
all_by true p xs x h more = more h
all_by false p xs x h more = absurd (false≢true h)

all_push : {X : Type 0} (p : X → Bool) (xs : List X) (x : X) → list_all p xs ≡ true → p x ≡ true
    → list_all p (xs ++ x ∷ []) ≡ true
all_push p [] x h k = rw k refl
all_push p (y ∷ ys) x h k = all_by (p y) p ys x h (λ r. all_push p ys x r k)

-- one line more may be refused, or is another's
pub bad_next : (rules : Rules) (digest : List ℕ) (lines : List SignatureLine) (i : ℕ) (line : SignatureLine)
    (key : SignerKey) → i < length lines → line ≡ get_or lines i line
    → has_bad_lines rules digest (take i lines) key ≡ true
    → (not (is_line_of key line) || is_signed rules.may_refuse digest key line) ≡ true
    → has_bad_lines rules digest (take (i + 1) lines) key ≡ true
bad_next rules digest lines i line key lt is bad one =
    subst (λ l. has_bad_lines rules digest l key ≡ true) (sym (taken lines i line lt is))
    (all_push (λ other. not (is_line_of key other) || is_signed rules.may_refuse digest key other) (take i lines) line
    bad
    one)
