-- What a pool becomes by the descriptors that are kept one by one.
use Rattle.std.specs.Prelude.{◌≡◌, true, List, [], ◌∷◌, Option, Some, None, if◌then◌else◌}
use Rattle.key_port.specs.Answers.{Rules}
use Rattle.descriptor_doc.specs.{Checks.IsChecked, declared.descriptor.Descriptor.Descriptor}
use Rattle.vote_pool.specs.{declared.answers.Keep.Keep, Pools.{Pooled, answer_to, is_change, pool_after}}

-- the pool after descriptors
abbrev pub stock_after : Pooled → List Descriptor → Pooled
stock_after pool [] = pool
stock_after pool (descriptor ∷ descriptors) = stock_after (pool_after pool descriptor) descriptors

-- A descriptor may have been kept in a pool: it was read and holds, and it changed the pool.
pub record MayBeKept (rules : Rules) (pool : Pooled) (descriptor : Descriptor) : Type 0 where
  pub checked : IsChecked rules descriptor
  pub changes : is_change (answer_to pool descriptor) ≡ true

-- Descriptors that may have been kept one after the other from a pool on.
abbrev pub AreKept : Rules → Pooled → List Descriptor → Type 0
AreKept rules pool [] = Unit {0}
AreKept rules pool (descriptor ∷ descriptors) =
    MayBeKept rules pool descriptor × AreKept rules (pool_after pool descriptor) descriptors

-- a descriptor that was answered so, where that changed the pool
abbrev pub kept_if : Descriptor → Keep → Option Descriptor
kept_if descriptor answer = if is_change answer then Some descriptor else None
