-- At most one pair of an RSA identity is included: no `id` line names two parts.
use Rattle.std.proofs.{Common.{◌≡◌, ℕ, true, List, refl, sym, ap, ◌∙◌}, lemmas.Bool.false≢true}
use Rattle.std.specs.Cmp.Lexicographic.{bytes_decides}
use Rattle.relay_entries.specs.declared.said.EdOpinion.{EdOpinion}
use Rattle.relay_entries.specs.declared.said.EdOpinion.TheVariants as said
use Rattle.compute_terms.specs.{declared.identity.EdPart.EdPart, Identities.{names, PairsAreAlone}}
use Rattle.compute_terms.proofs.Majorities.{majorities_meet}
use Rattle.compute_terms.specs.declared.identity.EdPart.TheVariants as part

-- a line that names two parts names one
names_one : (a b : EdPart) (ed : EdOpinion) → names a ed ≡ true → names b ed ≡ true → a ≡ b
names_one (part.Key k) (part.Key l) (said.Key m) f g = ap (λ (key : List ℕ). part.Key key) ((bytes_decides k m).0 f ∙ sym ((bytes_decides l m).0 g))
names_one (part.Key k) part.NoKey (said.Key m) f g = absurd (false≢true g)
names_one (part.Key k) part.Bare (said.Key m) f g = absurd (false≢true g)
names_one (part.Key k) b said.None f g = absurd (false≢true f)
names_one (part.Key k) b said.Absent f g = absurd (false≢true f)
names_one part.NoKey b (said.Key m) f g = absurd (false≢true f)
names_one part.NoKey (part.Key l) said.None f g = absurd (false≢true g)
names_one part.NoKey part.NoKey said.None f g = refl
names_one part.NoKey part.Bare said.None f g = absurd (false≢true g)
names_one part.NoKey b said.Absent f g = absurd (false≢true f)
names_one part.Bare b ed f g = absurd (false≢true f)

pub alone : PairsAreAlone
alone roster eds a b within f g =
    let both = majorities_meet roster eds (names a) (names b) within f g in
    names_one a b both.0 both.1 both.2
