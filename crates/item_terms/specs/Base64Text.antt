-- The lines between the first and the last line of an object: strict base64 (dir-spec, meta-format; RFC 4648, section 4).
use Rattle.std.specs.Prelude.{ℕ, ◌+◌, ◌==◌, nat_le, Bool, not, ◌&&◌, List, [], ◌∷◌, filter, is_ok, if◌then◌else◌}
use Rattle.base64.specs.{GeneralPurpose.decode_of, Engines.standard}
use Rattle.item_terms.specs.Bytes.{line_feed}

-- each line has 1 to 64 bytes; count are there already of the one that is read
abbrev pub lines_fit : ℕ → List ℕ → Bool
lines_fit count [] = count == 0
lines_fit count (b ∷ text) = if b == line_feed then nat_le 1 count && nat_le count 64 && lines_fit 0 text else lines_fit (count + 1) text

-- a byte that is no NL
abbrev pub is_inside : ℕ → Bool
is_inside b = not (b == line_feed)

-- the lines without their NLs, in one text
abbrev pub joined_text : List ℕ → List ℕ
joined_text text = filter is_inside text

-- the text is the base64 of some bytes, with its padding and nothing left over
unfoldable pub is_base64 : List ℕ → Bool
is_base64 text = is_ok (decode_of standard text)

-- the lines have their sizes, and are base64 when they are joined
abbrev pub is_body : List ℕ → Bool
is_body text = lines_fit 0 text && is_base64 (joined_text text)
