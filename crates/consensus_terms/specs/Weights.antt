-- The weights of bandwidth in a line (dir-spec, "Computing Bandwidth Weights"). Of a name's letters behind `W` the first is the
-- position in a path and the second the class of relays; `b` is of directory requests.
use Rattle.std.specs.Prelude.{ℕ, List, [], ◌∷◌, ◌++◌, codes}
use Rattle.bw_weights.specs.declared.position_weights.Weights.{Weights}
use Rattle.consensus_terms.specs.Lines.{named_text}

-- the weights of directory requests
abbrev pub directory_words : Weights → List (List ℕ)
directory_words w =
    named_text (codes "Wbd") w.wmd ∷ named_text (codes "Wbe") w.wme ∷ named_text (codes "Wbg") w.wmg
    ∷ named_text (codes "Wbm") w.scale ∷ named_text (codes "Wdb") w.scale ∷ []

-- the weights of an exit
abbrev pub exit_words : Weights → List (List ℕ)
exit_words w =
    named_text (codes "Web") w.scale ∷ named_text (codes "Wed") w.wed ∷ named_text (codes "Wee") w.wee
    ∷ named_text (codes "Weg") w.wed ∷ named_text (codes "Wem") w.wee ∷ []

-- the weights of a guard
abbrev pub guard_words : Weights → List (List ℕ)
guard_words w =
    named_text (codes "Wgb") w.scale ∷ named_text (codes "Wgd") w.wgd ∷ named_text (codes "Wgg") w.wgg
    ∷ named_text (codes "Wgm") w.wgg ∷ []

-- the weights of the middle of a path
abbrev pub middle_words : Weights → List (List ℕ)
middle_words w =
    named_text (codes "Wmb") w.scale ∷ named_text (codes "Wmd") w.wmd ∷ named_text (codes "Wme") w.wme
    ∷ named_text (codes "Wmg") w.wmg ∷ named_text (codes "Wmm") w.scale ∷ []

-- all weights, in the order of their names' bytes
abbrev pub weight_words : Weights → List (List ℕ)
weight_words w = directory_words w ++ exit_words w ++ guard_words w ++ middle_words w
