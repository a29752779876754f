-- The lines of a relay in a consensus (dir-spec, "Vote and consensus status document formats").
use Rattle.std.specs.Prelude.{ℕ, Bool, true, false, List, [], ◌∷◌, ◌++◌, Option, Some, None, is_some, codes, decimal}
use Rattle.std.specs.Prelude.{if◌then◌else◌}
use Rattle.dir_bytes.specs.FieldTexts.{moment_text, address_text, base64_text}
use Rattle.dir_values.specs.declared.digest.Digest2.{Digest2}
use Rattle.consensus_terms.specs.declared.flavour.Flavour.{Flavour, TheVariants.{Ns, Microdesc}}
use Rattle.consensus_terms.specs.{declared.router.{Bandwidth.Bandwidth, Routerline.Routerline}, Lines.{line, rest_line}}
use Rattle.consensus_terms.specs.Lines.{named_text}

-- whether a flavour lists a relay: the microdesc flavour leaves out those without a microdescriptor
abbrev pub is_listed : Flavour → Routerline → Bool
is_listed Ns router = true
is_listed Microdesc router = is_some router.m

-- how a relay is called
abbrev pub name_words : Routerline → List (List ℕ)
name_words router = router.nickname ∷ base64_text router.identity.0 ∷ []

-- the digest of its descriptor, which the microdesc flavour leaves out
abbrev pub digest_words : Flavour → Routerline → List (List ℕ)
digest_words Ns router = base64_text router.digest.0 ∷ []
digest_words Microdesc router = []

-- when its descriptor was published, and where the relay is
abbrev pub place_words : Routerline → List (List ℕ)
place_words router =
    moment_text router.published ∷ address_text router.ip ∷ decimal router.or_port ∷ decimal router.dir_port ∷ []

-- the `r` line
abbrev pub r_line : Flavour → Routerline → List ℕ
r_line flavour router = line (codes "r") (name_words router ++ digest_words flavour router ++ place_words router)

-- the `m` line, which the microdesc flavour alone has
abbrev pub m_line : Flavour → Option Digest2 → List ℕ
m_line Ns digest = []
m_line Microdesc None = []
m_line Microdesc (Some digest) = line (codes "m") (base64_text digest.0 ∷ [])

-- whether too few authorities measured a bandwidth
abbrev pub unmeasured_words : Bool → List (List ℕ)
unmeasured_words true = codes "Unmeasured=1" ∷ []
unmeasured_words false = []

-- the `w` line
abbrev pub w_line : Option Bandwidth → List ℕ
w_line None = []
w_line (Some bandwidth) =
    line (codes "w") (named_text (codes "Bandwidth") bandwidth.value ∷ unmeasured_words bandwidth.unmeasured)

-- the `p` line, which the ns flavour alone has
abbrev pub p_line : Flavour → Option (List ℕ) → List ℕ
p_line Ns summary = rest_line (codes "p") summary
p_line Microdesc summary = []

-- the lines of a relay up to its flags
abbrev pub name_lines : Flavour → Routerline → List ℕ
name_lines flavour router =
    r_line flavour router ++ rest_line (codes "a") router.a ++ m_line flavour router.m
    ++ line (codes "s") router.flags

-- the lines that tell what a relay can
abbrev pub ability_lines : Flavour → Routerline → List ℕ
ability_lines flavour router =
    rest_line (codes "v") router.v ++ rest_line (codes "pr") router.pr ++ w_line router.w
    ++ p_line flavour router.p

-- the lines of a relay
abbrev pub router_lines : Flavour → Routerline → List ℕ
router_lines flavour router = name_lines flavour router ++ ability_lines flavour router

-- the lines of a relay that a flavour lists, and none of another
abbrev pub listed_lines : Flavour → Routerline → List ℕ
listed_lines flavour router = if is_listed flavour router then router_lines flavour router else []
