-- Descriptors that stand one behind the other, and the pool that is made of them.
use Rattle.std.proofs.Common.{◌≡◌, ℕ, ◌+◌, Bool, true, false, List, [], ◌∷◌, ◌++◌, length, Ok, refl, sym, ap, subst}
use Rattle.std.proofs.{Common.{◌∙◌, arith}, lemmas.{List.Elements.{All-append, All-cons, All-nil}, Grind.common_steps}}
use Rattle.std.specs.Prelude.{◌||◌}
use Rattle.count_terms.specs.declared.newest.Newest.{Newest}
use Rattle.blank_lines.specs.Ends.{ends_at}
use Rattle.key_port.specs.Answers.{Rules}
use Rattle.descriptor_doc.specs.{Checks.IsVerified, declared.descriptor.Descriptor.Descriptor}
use Rattle.vote_pool.specs.Pools.{Pooled, pool_after}
use Rattle.station_commands.specs.Descriptors.{Hold, Stand, descriptor_from, finds_full, is_full, no_pool, pool_with}

-- one more behind those that stand
stands_more : (newest : Newest) (start : ℕ) (descriptors : List Descriptor) (last : ℕ) (bytes : List ℕ) (one : Descriptor)
    (next : ℕ) → Stand newest start descriptors last bytes → ends_at last bytes ≡ false
    → descriptor_from newest last bytes ≡ Ok (one, next) → Stand newest start (descriptors ++ one ∷ []) next bytes
stands_more newest start [] last bytes one next is more read = (
  subst (λ (place : ℕ). ends_at place bytes ≡ false) is more,
  next,
  subst (λ (place : ℕ). descriptor_from newest place bytes ≡ Ok (one, next)) is read,
  refl,
)
stands_more newest start (first ∷ descriptors) last bytes one next is more read =
    (is.0, is.1, is.2, stands_more newest is.1 descriptors last bytes one next is.3 more read)

-- the pool with one more
pool_more : (pool : Pooled) (descriptors : List Descriptor) (one : Descriptor)
    → pool_with pool (descriptors ++ one ∷ []) ≡ pool_after (pool_with pool descriptors) one
pool_more pool [] one = refl
pool_more pool (first ∷ descriptors) one = pool_more (pool_after pool first) descriptors one

or_none : (b : Bool) → (b || false) ≡ b
or_none true = refl
or_none false = refl

or_both : (a b c : Bool) → (a || (b || c)) ≡ ((a || b) || c)
or_both true b c = refl
or_both false b c = refl

-- whether one more finds it full
full_more : (pool : Pooled) (descriptors : List Descriptor) (one : Descriptor)
    → finds_full pool (descriptors ++ one ∷ []) ≡ (finds_full pool descriptors || is_full (pool_with pool descriptors) one)
full_more pool [] one = or_none (is_full pool one)
full_more pool (first ∷ descriptors) one =
    let more = full_more (pool_after pool first) descriptors one in
    ap (λ (b : Bool). is_full pool first || b) more
    ∙ or_both (is_full pool first) (finds_full (pool_after pool first) descriptors)
    (is_full (pool_with (pool_after pool first) descriptors) one)

-- So many descriptors were read, checked and kept, from a place of the input up to another.
pub record HaveBeenKept (rules : Rules) (newest : Newest) (start : ℕ) (bytes : List ℕ) (place number : ℕ) (pool : Pooled)
    (full : Bool) : Type 0 where
  pub descriptors : List Descriptor
  pub hold : Hold rules newest start bytes descriptors place
  pub number_is : number ≡ length descriptors
  pub pool_is : pool ≡ pool_with no_pool descriptors
  pub full_is : full ≡ finds_full no_pool descriptors

-- none yet
pub none_kept : (rules : Rules) (newest : Newest) (start : ℕ) (bytes : List ℕ) (pool : Pooled) → pool ≡ no_pool
    → HaveBeenKept rules newest start bytes start 0 pool false
none_kept rules newest start bytes pool is = record {
  descriptors = [];
  hold = record { stand = refl; verified = All-nil (IsVerified rules) };
  number_is = refl;
  pool_is = is;
  full_is = refl;
}

-- whether one of both is, where the first is known
pub or_is : {known full : Bool} (found : Bool) → full ≡ known → (known || found) ≡ (full || found)
or_is found is = ap (λ (b : Bool). b || found) (sym is)

count_more : (descriptors : List Descriptor) (one : Descriptor) → length (descriptors ++ one ∷ []) ≡ length descriptors + 1
count_more descriptors one = grind (arith, common_steps)

-- one more
pub one_kept : (rules : Rules) (newest : Newest) (start : ℕ) (bytes : List ℕ) (place number next : ℕ)
    (pool after : Pooled) (full found after_full : Bool) (one : Descriptor)
    → HaveBeenKept rules newest start bytes place number pool full → ends_at place bytes ≡ false
    → descriptor_from newest place bytes ≡ Ok (one, next) → IsVerified rules one → after ≡ pool_after pool one
    → found ≡ is_full pool one → after_full ≡ (full || found)
    → HaveBeenKept rules newest start bytes next (number + 1) after after_full
one_kept rules newest start bytes place number next pool after full found after_full one have more read verified after_is
    found_is full_is = record {
      descriptors = have.descriptors ++ one ∷ [];
      hold = record {
        stand = stands_more newest start have.descriptors place bytes one next have.hold.stand more read;
        verified =
            All-append (IsVerified rules) have.descriptors (one ∷ []) have.hold.verified
            (All-cons (IsVerified rules) one [] verified (All-nil (IsVerified rules)));
      };
      number_is = ap (λ (n : ℕ). n + 1) have.number_is ∙ sym (count_more have.descriptors one);
      pool_is =
          after_is ∙ ap (λ (p : Pooled). pool_after p one) have.pool_is ∙ sym (pool_more no_pool have.descriptors one);
      full_is =
          full_is ∙ ap (λ (b : Bool). full || b) found_is ∙ ap (λ (b : Bool). b || is_full pool one) have.full_is
          ∙ ap (λ (p : Pooled). finds_full no_pool have.descriptors || is_full p one) have.pool_is
          ∙ sym (full_more no_pool have.descriptors one);
    }
