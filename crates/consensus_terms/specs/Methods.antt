-- What a method says of the texts (dir-spec, "Computing a consensus from a set of votes").
use Rattle.std.specs.Prelude.{ℕ, nat_le, Bool}

-- whether a method is 34 or a later one: its texts follow C tor
unfoldable pub is_34_or_later : ℕ → Bool
is_34_or_later method = nat_le 34 method
