-- What the changes of signatures tell.
use Rattle.std.proofs.Common.{◌≡◌, ℕ, ◌+◌, ◌&&◌, ◌||◌, Bool, true, false, cond, not, List, [], ◌∷◌, ◌++◌, length}
use Rattle.std.proofs.Common.{filter, Some, refl, sym, ap, ◌∙◌}
use Rattle.dir_values.specs.{declared.digest.Fingerprint.Fingerprint, Digests.same_identity}
use Rattle.consensus_terms.specs.declared.{consensus.Consensus.Consensus, flavour.Flavour.{Flavour, TheVariants.Ns}}
use Rattle.consensus_terms.specs.declared.{flavour.Flavour.TheVariants.Microdesc, signature.SignatureLine.SignatureLine}
use Rattle.consensus_terms.specs.Texts.{unsigned}
use Rattle.period_terms.specs.declared.{change.Change.Change, signature.OfferedSignature.OfferedSignature}
use Rattle.period_terms.specs.{declared.{stage.Stage.TheVariants.Signed, state.State.State}, States.with_change}
use Rattle.period_terms.specs.{States.{has_line, with_signature, digest_of, both_digests, change}, Advances.own_line}
use Rattle.period_terms.specs.{SignIns.{line_of, with_line}, KeptFacts.{has_flavour, keeps_line, was_kept}}
use Rattle.period_terms.proofs.{DigestSizes.{ns_size, micro_size, both_size}, Telling.{Tells, TellsAt, any_push}}
use Rattle.period_terms.proofs.Telling.{or_none, kept_push, ranks_stay, stage_push, count_stays, length_push}
use Rattle.period_terms.specs.declared.change.ChangeKind.TheVariants as kind
use Rattle.vote_terms.proofs.Orders.{same_one}

-- those that a filter drops are of another identity than one that is looked for
dropped : (lines : List SignatureLine) (own a : Fingerprint) → same_identity own a ≡ false
    → has_line (filter (λ (other : SignatureLine). not (same_identity other.identity own)) lines) a ≡ has_line lines a
dropped [] own a e = refl
dropped (line ∷ lines) own a e = by (same_identity line.identity own) refl (dropped lines own a e)
  where
    by : (b : Bool) → same_identity line.identity own ≡ b
        → has_line (filter (λ (other : SignatureLine). not (same_identity other.identity own)) lines) a ≡ has_line
        lines a
        → has_line (cond (not b) (line ∷ filter (λ (other : SignatureLine). not (same_identity other.identity own))
        lines) (filter (λ (other : SignatureLine). not (same_identity other.identity own)) lines)) a
        ≡ has_line (line ∷ lines) a
    by true f r =
        let away : same_identity line.identity a ≡ false = ap (λ (x : Fingerprint). same_identity x a)
        (same_one line.identity own f) ∙ e in
        rw away r
    by false f r = ap (λ (x : Bool). same_identity line.identity a || x) r

replaced_by : (b : Bool) (lines : List SignatureLine) (line : SignatureLine) (a : Fingerprint)
    → same_identity line.identity a ≡ b
    → has_line (with_signature lines line) a ≡ (has_line lines a || b)
replaced_by true lines line a e =
    any_push (λ (other : SignatureLine). same_identity other.identity a)
    (filter (λ (other : SignatureLine). not (same_identity other.identity line.identity)) lines) line
    ∙ ap (λ (x : Bool). has_line (filter (λ (other : SignatureLine). not (same_identity other.identity line.identity))
    lines) a || x) e
    ∙ or_true (has_line (filter (λ (other : SignatureLine). not (same_identity other.identity line.identity)) lines)
    a) ∙ sym (or_true (has_line lines a))
  where
    or_true : (x : Bool) → (x || true) ≡ true
    or_true true = refl
    or_true false = refl
replaced_by false lines line a e =
    any_push (λ (other : SignatureLine). same_identity other.identity a)
    (filter (λ (other : SignatureLine). not (same_identity other.identity line.identity)) lines) line
    ∙ ap (λ (x : Bool). has_line (filter (λ (other : SignatureLine). not (same_identity other.identity line.identity))
    lines) a || x) e
    ∙ ap (λ (x : Bool). x || false) (dropped lines line.identity a e)

-- whose line stands in place of its authority's
replaced : (lines : List SignatureLine) (line : SignatureLine) (a : Fingerprint)
    → has_line (with_signature lines line) a ≡ (has_line lines a || same_identity line.identity a)
replaced lines line a = replaced_by _ lines line a refl

-- a kept signature of this flavour
line_told : (flavour : Flavour) (a own : Fingerprint) (size : ℕ) (yes_it : Bool) → has_flavour flavour size ≡ yes_it
    → (true && same_identity own a && has_flavour flavour size) ≡ (same_identity own a && yes_it)
line_told flavour a own size yes_it e = ap (λ (x : Bool). same_identity own a && x) e

and_true : (b : Bool) → (b && true) ≡ b
and_true true = refl
and_true false = refl

and_false : (b : Bool) → (b && false) ≡ false
and_false true = refl
and_false false = refl

-- the change of the own signatures, over these digests
abbrev pub sign_change : State → List ℕ → Change
sign_change s digests = change kind.Sign (Some s.own) s.valid_after digests

-- a signature of a flavour is kept with a change that tells its authority
own_signers : (flavour : Flavour) (lines : List SignatureLine) (changes : List Change) (c : Change)
    (line : SignatureLine) (a : Fingerprint)
    → keeps_line flavour a c ≡ same_identity line.identity a → has_line lines a ≡ was_kept flavour changes a
    → has_line (with_signature lines line) a ≡ was_kept flavour (changes ++ c ∷ []) a
own_signers flavour lines changes c line a told k =
    replaced lines line a ∙ ap (λ (x : Bool). x || same_identity line.identity a) k
    ∙ ap (λ (x : Bool). was_kept flavour changes a || x) (sym told)
    ∙ sym (kept_push flavour changes c a)

own_told : (flavour : Flavour) (s : State) (digests : List ℕ) (line : SignatureLine) (a : Fingerprint)
    → line.identity ≡ s.own → has_flavour flavour (length digests) ≡ true
    → keeps_line flavour a (sign_change s digests) ≡ same_identity line.identity a
own_told flavour s digests line a same e =
    line_told flavour a s.own (length digests) true e ∙ and_true (same_identity s.own a)
    ∙ ap (λ (x : Fingerprint). same_identity x a) (sym same)

has_ns : (size : ℕ) → size ≡ 52 → has_flavour Ns size ≡ true
has_ns size e = rw e refl

has_micro : (size : ℕ) → size ≡ 52 → has_flavour Microdesc size ≡ true
has_micro size e = rw e refl

-- the own signatures are held, with the change that tells them
pub own_tells : (s : State) (digests : List ℕ) (ns micro : SignatureLine) → length digests ≡ 52 → ns.identity ≡ s.own
    → micro.identity ≡ s.own → TellsAt s
    → Tells s.votes Signed (with_signature s.ns_lines ns) (with_signature s.micro_lines micro) s.vote_changes
    (s.front + 1) s.base (s.changes ++ sign_change s digests ∷ [])
own_tells s digests ns micro size n m k =
    record {
      ranks = λ a. k.ranks a ∙ sym (ranks_stay s.changes (sign_change s digests) a refl);
      stage_is = sym (stage_push s.changes (sign_change s digests));
      ns_signers = λ a. own_signers Ns s.ns_lines s.changes (sign_change s digests) ns a
          (own_told Ns s digests ns a n (has_ns (length digests) size)) (k.ns_signers a);
      micro_signers = λ a. own_signers Microdesc s.micro_lines s.changes (sign_change s digests) micro a
          (own_told Microdesc s digests micro a m (has_micro (length digests) size)) (k.micro_signers a);
      count = count_stays s.changes (sign_change s digests) s.vote_changes refl k.count;
      front_is = length_push s.changes (sign_change s digests) s.front s.base k.front_is;
    }

pub sign_tells : (s : State) (c : Consensus) (key ns microdesc : List ℕ) → TellsAt s
    → Tells s.votes Signed (with_signature s.ns_lines (own_line Ns s.own key ns))
    (with_signature s.micro_lines (own_line Microdesc s.own key microdesc)) s.vote_changes (s.front + 1) s.base
    (s.changes ++ sign_change s (both_digests c) ∷ [])
sign_tells s c key ns microdesc k =
    own_tells s (both_digests c) (own_line Ns s.own key ns) (own_line Microdesc s.own key microdesc) (both_size c) refl
    refl k

-- ---- an offered signature

-- the change of an offered signature, over this digest
abbrev pub signature_change : State → Fingerprint → List ℕ → Change
signature_change s authority digest = change kind.Signature (Some authority) s.valid_after digest

-- a line is added to those of its flavour
more_signers : (flavour : Flavour) (lines : List SignatureLine) (changes : List Change) (c : Change)
    (line : SignatureLine) (a : Fingerprint)
    → keeps_line flavour a c ≡ same_identity line.identity a → has_line lines a ≡ was_kept flavour changes a
    → has_line (lines ++ line ∷ []) a ≡ was_kept flavour (changes ++ c ∷ []) a
more_signers flavour lines changes c line a told k =
    any_push (λ (other : SignatureLine). same_identity other.identity a) lines line
    ∙ ap (λ (x : Bool). x || same_identity line.identity a) k ∙ ap (λ (x : Bool). was_kept flavour changes a || x)
    (sym told)
    ∙ sym (kept_push flavour changes c a)

-- and the other flavour's are as they were
same_signers : (flavour : Flavour) (lines : List SignatureLine) (changes : List Change) (c : Change) (a : Fingerprint)
    → keeps_line flavour a c ≡ false → has_line lines a ≡ was_kept flavour changes a → has_line lines a ≡ was_kept
    flavour (changes ++ c ∷ []) a
same_signers flavour lines changes c a told k =
    k ∙ sym (kept_push flavour changes c a ∙ or_none (was_kept flavour changes a) (keeps_line flavour a c) told)

told_by : (flavour : Flavour) (s : State) (authority : Fingerprint) (digest : List ℕ) (a : Fingerprint) (b : Bool)
    → has_flavour flavour (length digest) ≡ b
    → keeps_line flavour a (signature_change s authority digest) ≡ (same_identity authority a && b)
told_by flavour s authority digest a b e = line_told flavour a authority (length digest) b e

ns_told : (size : ℕ) → size ≡ 20 → (has_flavour Ns size ≡ true) × (has_flavour Microdesc size ≡ false)
ns_told size e = (rw e refl, rw e refl)

micro_told : (size : ℕ) → size ≡ 32 → (has_flavour Microdesc size ≡ true) × (has_flavour Ns size ≡ false)
micro_told size e = (rw e refl, rw e refl)

-- a signature of the ns flavour is held, with the change that tells it
pub ns_tells : (s : State) (line : SignatureLine) (digest : List ℕ) → length digest ≡ 20 → TellsAt s
    → TellsAt (with_change (signature_change s line.identity digest) (with_line Ns line s))
ns_tells s line digest size k =
    let told = ns_told (length digest) size in
    record {
      ranks = λ a. k.ranks a ∙ sym (ranks_stay s.changes (signature_change s line.identity digest) a refl);
      stage_is = k.stage_is ∙ sym (stage_push s.changes (signature_change s line.identity digest));
      ns_signers = λ a. more_signers Ns s.ns_lines s.changes (signature_change s line.identity digest) line a
          (told_by Ns s line.identity digest a true told.0 ∙ and_true (same_identity line.identity a)) (k.ns_signers a);
      micro_signers = λ a. same_signers Microdesc s.micro_lines s.changes (signature_change s line.identity digest) a
          (told_by Microdesc s line.identity digest a false told.1 ∙ and_false (same_identity line.identity a))
          (k.micro_signers a);
      count = count_stays s.changes (signature_change s line.identity digest) s.vote_changes refl k.count;
      front_is = length_push s.changes (signature_change s line.identity digest) s.front s.base k.front_is;
    }

-- and one of the microdesc flavour
pub micro_tells : (s : State) (line : SignatureLine) (digest : List ℕ) → length digest ≡ 32 → TellsAt s
    → TellsAt (with_change (signature_change s line.identity digest) (with_line Microdesc line s))
micro_tells s line digest size k =
    let told = micro_told (length digest) size in
    record {
      ranks = λ a. k.ranks a ∙ sym (ranks_stay s.changes (signature_change s line.identity digest) a refl);
      stage_is = k.stage_is ∙ sym (stage_push s.changes (signature_change s line.identity digest));
      ns_signers = λ a. same_signers Ns s.ns_lines s.changes (signature_change s line.identity digest) a
          (told_by Ns s line.identity digest a false told.1 ∙ and_false (same_identity line.identity a))
          (k.ns_signers a);
      micro_signers = λ a. more_signers Microdesc s.micro_lines s.changes (signature_change s line.identity digest)
          line a
          (told_by Microdesc s line.identity digest a true told.0 ∙ and_true (same_identity line.identity a))
          (k.micro_signers a);
      count = count_stays s.changes (signature_change s line.identity digest) s.vote_changes refl k.count;
      front_is = length_push s.changes (signature_change s line.identity digest) s.front s.base k.front_is;
    }

pub signature_tells : (flavour : Flavour) (s : State) (x : OfferedSignature) (c : Consensus)
    → x.digest ≡ digest_of flavour c → TellsAt s
    → TellsAt (with_change (signature_change s x.authority x.digest) (with_line flavour (line_of x) s))
signature_tells Ns s x c d k =
    ns_tells s (line_of x) x.digest (ap (λ (l : List ℕ). length l) d ∙ ns_size (unsigned Ns c)) k
signature_tells Microdesc s x c d k =
    micro_tells s (line_of x) x.digest (ap (λ (l : List ℕ). length l) d ∙ micro_size (unsigned Microdesc c)) k
