-- What stands behind the first byte that a document may not have changes nothing.
use Rattle.std.specs.Prelude.{◌≡◌, ℕ, ◌+◌, ◌≤◌, List, take}
use Rattle.item_terms.specs.Items.{Open, contents}

-- Of a document that begins at a place within its limit, the bytes that it may have and one more tell all.
abbrev pub LimitIsEnough : Type 0
LimitIsEnough = (limit place n : ℕ) (so_far : Open) (bytes : List ℕ) → place ≤ limit → limit + 1 ≤ place + n → contents limit place so_far (take n bytes) ≡ contents limit place so_far bytes
