-- A relay that no entry belongs to has neither `Running` nor `MiddleOnly`.
use Rattle.std.proofs.Common.{◌≡◌, ℕ, Bool, true, false, cond, ◌&&◌, List, [], ◌∷◌, refl, sym, ap, ◌∙◌, arith}
use Rattle.std.{proofs.lemmas.Bool.{false≢true, Decides.nat_tests}, specs.{Prelude.{codes, filter}, Str.bytes_eq}}
use Rattle.std.specs.Cmp.Lexicographic.{bytes_decides}
use Rattle.dir_values.{specs.FlagSets.has_flag, proofs.Flags.has_flag-as_set}
use Rattle.vote_terms.specs.Votes.{ReadVote}
use Rattle.count_terms.specs.Counts.{over}
use Rattle.compute_terms.specs.{declared.identity.EdPart.EdPart, Flags.known_flags, RelayFlags.{knowing_count, is_set}}
use Rattle.compute_terms.specs.RelayFlags.{set_flags, flags_in_middle, adjusted_flags, router_flags}
use Rattle.compute_terms.specs.RelayFlags.{is_running_and_valid}

never : (n : ℕ) → over 0 n ≡ false
never n = grind (arith, nat_tests)

-- a flag that does not pass is not among those that pass
kept_by : (b e : Bool) (p : List ℕ → Bool) (x : List ℕ) (xs : List (List ℕ)) (flag : List ℕ) → p flag ≡ false → p x ≡ b → bytes_eq x flag ≡ e → has_flag (filter p xs) flag ≡ false
    → has_flag (filter p (x ∷ xs)) flag ≡ false
kept_by true true p x xs flag out passes is more = absurd (false≢true (sym out ∙ ap p (sym ((bytes_decides x flag).0 is)) ∙ passes))
kept_by true false p x xs flag out passes is more = rw passes (rw is more)
kept_by false e p x xs flag out passes is more = rw passes more

not_kept : (p : List ℕ → Bool) (xs : List (List ℕ)) (flag : List ℕ) → p flag ≡ false → has_flag (filter p xs) flag ≡ false
not_kept p [] flag out = refl
not_kept p (x ∷ xs) flag out = kept_by _ _ p x xs flag out refl refl (not_kept p xs flag out)

not_set : (method : ℕ) (votes : List ReadVote) (ed : EdPart) (flag : List ℕ) → bytes_eq flag (codes "NoEdConsensus") ≡ false → has_flag (set_flags method votes ed []) flag ≡ false
not_set method votes ed flag other =
    has_flag-as_set (filter (is_set votes ed []) (known_flags method votes)) flag
    ∙ not_kept (is_set votes ed []) (known_flags method votes) flag (rw other (never (knowing_count votes flag)))

-- so it is not running and valid
pub not_running : (method : ℕ) (votes : List ReadVote) (ed : EdPart) → is_running_and_valid (router_flags method votes ed []) ≡ false
not_running method votes ed =
    let set = set_flags method votes ed [] in
    let known = known_flags method votes in
    let plain : adjusted_flags method known set ≡ set =
    ap (λ (b : Bool). cond b (flags_in_middle method known set) set)
    (not_set method votes ed (codes "MiddleOnly") refl) in
    ap is_running_and_valid plain ∙ ap (λ (b : Bool). b && has_flag set (codes "Valid")) (not_set method votes ed (codes "Running") refl)
