-- Where and by what an authority serves.
use Rattle.std.specs.Prelude.{ℕ, ◌==◌, Bool, false, not, List, [], ◌∷◌, Option, Some, None, codes, if◌then◌else◌}
use Rattle.clap.specs.Words.{Row, first_of}
use Rattle.count_terms.specs.declared.newest.Newest.{Newest}
use Rattle.daemon_words.specs.declared.{command.Measures.Measures, serving.Serve.Serve}

-- whether a text is an address: it is not empty, and its first byte is no `-`
abbrev pub is_address : List ℕ → Bool
is_address [] = false
is_address (first ∷ others) = not (first == 45)

-- the serving at the address that a text is, if it is one, with these bandwidths and this newest method
abbrev pub serve_of : List ℕ → Measures → Newest → Option Serve
serve_of address bandwidths newest =
    if is_address address then Some (record { address = address; bandwidths = bandwidths; newest = newest }) else None

-- the same, where the option stands there
abbrev pub serve_with : Option (List ℕ) → Measures → Newest → Option Serve
serve_with (Some address) bandwidths newest = serve_of address bandwidths newest
serve_with None bandwidths newest = None

-- the serving that stands among the values, with these bandwidths and this newest method
abbrev pub serve_in : List Row → Measures → Newest → Option Serve
serve_in values bandwidths newest = serve_with (first_of (codes "listen") values) bandwidths newest
