-- What holds of each descriptor that is kept holds of each that is held.
use Rattle.std.proofs.Common.{◌≡◌, Bool, true, false, List, [], ◌∷◌, filter, sym, subst, refl}
use Rattle.std.{proofs.lemmas.List.Elements.{All-append, All-cons, All-filter, All-head, All-tail}, specs.Prelude.All}
use Rattle.std.specs.List.{fold}
use Rattle.dir_values.specs.Digests.{identity_below}
use Rattle.descriptor_doc.specs.declared.descriptor.Descriptor.{Descriptor}
use Rattle.vote_pool.specs.Pools.{Pooled, answer_to, descriptors_with, is_change, pool_after}
use Rattle.answer_laws.proofs.Answers.{changed, unchanged}

all_with : (P : Descriptor → Type 0) (xs : List Descriptor) (new : Descriptor) → P new → All P xs
    → All P (descriptors_with xs new)
all_with P xs new one all =
    let below = λ (held : Descriptor). identity_below held.identity new.identity in
    let above = λ (held : Descriptor). identity_below new.identity held.identity in
    All-append P (filter below xs) (new ∷ filter above xs) (All-filter below P xs all)
    (All-cons P new (filter above xs) one (All-filter above P xs all))

all_by : (b : Bool) (P : Descriptor → Type 0) (pool : Pooled) (new : Descriptor)
    → is_change (answer_to pool new) ≡ b → P new → All P pool.descriptors → All P (pool_after pool new).descriptors
all_by true P pool new c one all = subst (All P) (sym (changed pool new c)) (all_with P pool.descriptors new one all)
all_by false P pool new c one all = subst (All P) (sym (unchanged pool new c)) all

-- a fact of each that is kept, and of each that was held, is one of each that is held then
pub all_held : (P : Descriptor → Type 0) (pool : Pooled) (list : List Descriptor) → All P list
    → All P pool.descriptors → All P (fold pool_after pool list).descriptors
all_held P pool [] each all = all
all_held P pool (new ∷ list) each all =
    all_held P (pool_after pool new) list (All-tail P new list each)
    (all_by _ P pool new refl (All-head P new list each) all)
