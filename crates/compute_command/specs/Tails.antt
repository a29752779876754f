-- Whether the bytes behind a vote are blank lines alone, byte by byte (dir-spec, "Document meta-format").
use Rattle.std.specs.{Prelude.{ℕ, ◌+◌, ◌==◌, nat_lt, Bool, false, List, if◌then◌else◌}, List.fold}
use Rattle.item_terms.specs.{Bytes.line_feed, Words.is_blank}
use Rattle.compute_command.specs.declared.tail.Tail.{Tail, TheVariants.{Blank, Other}}

-- how many blanks a blank line may have, beside its NL
abbrev pub most_blanks : ℕ
most_blanks = 1048575

-- what blank lines with so many blanks behind them are with one byte more
abbrev pub tail_by : ℕ → ℕ → Tail
tail_by blanks byte =
    if byte == line_feed then Blank 0
    else if is_blank byte then (if nat_lt blanks most_blanks then Blank (blanks + 1) else Other) else Other

-- what such bytes are with one more
abbrev pub tail_with : Tail → ℕ → Tail
tail_with (Blank blanks) byte = tail_by blanks byte
tail_with Other byte = Other

-- what bytes are, as blank lines
abbrev pub tail_of : List ℕ → Tail
tail_of bytes = fold tail_with (Blank 0) bytes

-- whether they are blank lines, each with its NL
abbrev pub is_end : Tail → Bool
is_end (Blank blanks) = blanks == 0
is_end Other = false
