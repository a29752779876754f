-- Keywords that are one, and the text of each.
use Rattle.std.proofs.{Common.{◌≡◌, true, refl, ap}, lemmas.Cmp.nat_eq_equiv}
use denote.Enum.Bare.{same_true, true_same}
use denote.Enum.Declared.{tag_of}
use Rattle.frame_terms.specs.{Keywords.{same, word_of}, contracts.keyword.Keyword.the_type}
use Rattle.frame_terms.specs.declared.keyword.Keyword.{Keyword, TheVariants.NetworkStatusVersion}
use Rattle.frame_laws.specs.Known.{KeywordsAreKnown}

-- each keyword is that of its text
pub known : KeywordsAreKnown
unfolding word_of
known NetworkStatusVersion = refl
known _ = refl

-- keywords that are the same are one
pub one_keyword : (a b : Keyword) → same a b ≡ true → a ≡ b
unfolding same
one_keyword = same_true the_type tt

pub same-refl : (a : Keyword) → same a a ≡ true
unfolding same
same-refl a = true_same the_type a a refl

pub same-sym : (a b : Keyword) → same a b ≡ same b a
unfolding same
same-sym a b = nat_eq_equiv.symm (tag_of the_type a) (tag_of the_type b)

-- two keywords that are one are the same as any other
pub same-through : (a b c : Keyword) → same a b ≡ true → same a c ≡ same b c
same-through a b c is = ap (λ (k : Keyword). same k c) (one_keyword a b is)
