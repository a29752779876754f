-- The bytes that texts are made of, by their names (dir-spec, meta-format).
use Rattle.std.specs.Prelude.{ℕ}

abbrev pub nul : ℕ
nul = 0

abbrev pub tab : ℕ
tab = 9

-- what ends a line, the NL of the standard
abbrev pub line_feed : ℕ
line_feed = 10

-- what stands between the words of a line, the SP of the standard
abbrev pub space : ℕ
space = 32

abbrev pub comma : ℕ
comma = 44

abbrev pub hyphen : ℕ
hyphen = 45

abbrev pub underscore : ℕ
underscore = 95
