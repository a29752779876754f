-- Ranks of descriptors are ordered as those of votes are.
use Rattle.std.proofs.{Common.{◌≡◌, true, false, sym, ap, ◌∙◌}, lemmas.Bool.{and_parts, eqb-true, false≢true}}
use Rattle.std.{proofs.lemmas.Bool.false_from_ne_true, specs.{Prelude.nat_eq, Str.bytes_eq}}
use Rattle.dir_values.proofs.Orders.{same_text}
use Rattle.vote_terms.{specs.{declared.rank.Rank.Rank, Votes.is_above}, proofs.Orders.{above_itself, above_trans}}
use Rattle.vote_pool.specs.{declared.rank.DescriptorRank.DescriptorRank, Ranks.{is_newer, is_same_rank}}

-- the rank of a vote with the same moment and the same digest
abbrev as_rank : DescriptorRank → Rank
as_rank rank = record { published = rank.published; whole = record { 0 = rank.digest.0 } }

-- a rank newer than one that is newer than a third is newer than the third
pub newer_trans : (a b c : DescriptorRank) → is_newer a b ≡ true → is_newer b c ≡ true → is_newer a c ≡ true
newer_trans a b c h k = above_trans (as_rank a) (as_rank b) (as_rank c) h k

-- no rank is newer than itself
pub newer_itself : (a : DescriptorRank) → is_newer a a ≡ false
newer_itself a = above_itself (as_rank a)

-- nor than one that is the same
pub newer_same : (a b : DescriptorRank) → is_same_rank a b ≡ true → is_newer b a ≡ false
newer_same a b h =
    let parts = and_parts (nat_eq a.published b.published) (bytes_eq a.digest.0 b.digest.0) h in
    let when : a.published ≡ b.published = eqb-true _ _ parts.0 in
    let what : a.digest.0 ≡ b.digest.0 = same_text a.digest.0 b.digest.0 parts.1 in
    let one : as_rank a ≡ as_rank b = λ i. record { published = when i; whole = record { 0 = what i } } in
    ap (λ (r : Rank). is_above (as_rank b) r) one ∙ above_itself (as_rank b)

-- nor than one that is newer
pub newer_back : (a b : DescriptorRank) → is_newer a b ≡ true → is_newer b a ≡ false
newer_back a b h =
    false_from_ne_true (is_newer b a) (λ k. false≢true (sym (newer_itself a) ∙ newer_trans a b a h k))

-- where one is newer than another that a third is not newer than, the third is not newer
pub newer_not : (x new held : DescriptorRank) → is_newer new held ≡ true → is_newer x held ≡ false
    → is_newer x new ≡ false
newer_not x new held h n =
    false_from_ne_true (is_newer x new) (λ k. false≢true (sym n ∙ newer_trans x new held k h))
