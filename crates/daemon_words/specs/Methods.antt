-- The newest consensus method that is known, among the options.
use Rattle.std.specs.{Prelude.{ℕ, List, Option, Some, None, codes, if◌then◌else◌}, Str.bytes_eq}
use Rattle.clap.specs.Words.{Row, first_of}
use Rattle.count_terms.specs.declared.newest.Newest.{Newest}
use Rattle.count_terms.specs.declared.newest.Newest.TheVariants as newest

-- the newest method that a word names, by its two digits
abbrev pub newest_named : List ℕ → Option Newest
newest_named word =
    if bytes_eq word (codes "33") then Some newest.Method33
    else (if bytes_eq word (codes "34") then Some newest.Method34
    else (if bytes_eq word (codes "35") then Some newest.Method35
    else None))

-- the newest method that an option names: 33 where it does not stand there
abbrev pub newest_of : Option (List ℕ) → Option Newest
newest_of None = Some newest.Method33
newest_of (Some word) = newest_named word

-- the newest method that stands among the values
abbrev pub newest_in : List Row → Option Newest
newest_in options = newest_of (first_of (codes "newest-method") options)
