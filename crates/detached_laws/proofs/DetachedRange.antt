-- What is read of detached signatures is in range.
use Rattle.std.proofs.Common.{ℕ, ◌≤◌, Bool, true, false, List, [], ◌∷◌, ◌++◌, length, Option, Some, None, refl, sym}
use Rattle.std.proofs.{Common.{subst, arith}, lemmas.List.{map-append, Elements.{All-append, All-cons, All-nil}}}
use Rattle.std.specs.{Prelude.{All, IfSome, map, if◌then◌else◌}, List.{cons_option, find}, Option.option_map}
use Rattle.dir_bytes.specs.Causes.{last_moment}
use Rattle.dir_values.specs.declared.digest.Digest1.{Digest1}
use Rattle.frame_terms.specs.{Keywords.same, declared.{document.Taken.Taken, keyword.Keyword.Keyword}}
use Rattle.frame_terms.specs.declared.keyword.Keyword.TheVariants as the
use Rattle.frame_values.specs.{Ranges.AreTwenty, Parts.moment_of, Values.item_at, declared.values.Value.Value}
use Rattle.detached_frame.specs.{Tables.detached_tables, declared.said.DetachedValue.DetachedValue}
use Rattle.detached_doc.specs.{Facts.{detached_in, digest_in, line_in}, Kept.{kept_with, none_kept}}
use Rattle.detached_doc.specs.Reading.{max_detached, with_detached}
use Rattle.detached_doc.specs.declared.detached.{AdditionalDigest.AdditionalDigest, DetachedLine.DetachedLine}
use Rattle.detached_doc.specs.Saying as saying
use Rattle.row_laws.proofs.{InRange.{EachMeant, each_meant}, KindRanges.read_is, Lookups.{collected, first_said}}
use Rattle.row_laws.proofs.{Lookups.{looked_up, say_all}, ReadBytes.twenty_zeros, Rows.reads, Spoken.Spoken}
use Rattle.detached_laws.specs.{Again.{IsDigestInRange, IsLineInRange}, Read.{DetachedReadAreInRange, SaysInRange}}
use Rattle.detached_laws.proofs.DetachedFields.{digest_of, digest_same, line_if, line_same, lines_of, other_if}
use Rattle.detached_laws.proofs.{DetachedFields.{other_same, others_of}, DetachedKinds.laws, DetachedMeaning.InRange}
use Rattle.detached_laws.proofs.DetachedMeaning.{IsRead, Saying, digest, meaning, other, over, said, signed}

-- ---- of what is said, without places

abbrev AllIn : List (Spoken Saying) → Type 0
AllIn [] = Unit {0}
AllIn (one ∷ all) = InRange one.value × AllIn all

others_in : (all : List (Spoken Saying)) → AllIn all → All IsDigestInRange (others_of all)
others_in [] are = All-nil IsDigestInRange
others_in (one ∷ all) are = by one.value are.0 (others_in all are.1)
  where
    by : (s : Saying) → InRange s → All IsDigestInRange (others_of all)
        → All IsDigestInRange (cons_option (other_if s) (others_of all))
    by (other d) is rest = All-cons IsDigestInRange d (others_of all) is rest
    by _ is rest = rest

lines_in : (all : List (Spoken Saying)) → AllIn all → All IsLineInRange (lines_of all)
lines_in [] are = All-nil IsLineInRange
lines_in (one ∷ all) are = by one.value are.0 (lines_in all are.1)
  where
    by : (s : Saying) → InRange s → All IsLineInRange (lines_of all)
        → All IsLineInRange (cons_option (line_if s) (lines_of all))
    by (over flavour line) is rest =
        All-cons IsLineInRange (record { flavour = Some flavour; line = line }) (lines_of all) is rest
    by (signed line) is rest = All-cons IsLineInRange (record { flavour = None; line = line }) (lines_of all) is rest
    by _ is rest = rest

first_in : (all : List (Spoken Saying)) (keyword : Keyword) → AllIn all → IfSome (first_said all keyword) InRange
first_in [] keyword are = tt
first_in (one ∷ all) keyword are = by (same one.keyword keyword) (first_in all keyword are.1)
  where
    by : (t : Bool) → IfSome (first_said all keyword) InRange
        → IfSome (option_map (λ (one : Spoken Saying). one.value)
        (if t then Some one else find (λ (one : Spoken Saying). same one.keyword keyword) all)) InRange
    by true rest = are.0
    by false rest = rest

digest_is : (o : Option Saying) → IfSome o InRange → AreTwenty (digest_of o).0
digest_is None is = twenty_zeros
digest_is (Some (digest d)) is = is
digest_is (Some _) is = twenty_zeros

calendar : (n : ℕ) → moment_of n ≤ last_moment
calendar n = omega arith

-- ---- of what is kept

module _ (bytes : List ℕ) where
  abbrev Meant : List (Taken (Value DetachedValue)) → Type 0
  Meant taken = EachMeant detached_tables meaning IsRead (reads laws) bytes taken

  all_in : (taken : List (Taken (Value DetachedValue))) → Meant taken → AllIn (say_all (said bytes) taken)
  all_in [] are = tt
  all_in (one ∷ taken) are = (are.0.in_range, all_in taken are.1)

  more_digests : (l : List AdditionalDigest) (taken : List (Taken (Value DetachedValue))) → All IsDigestInRange l
      → Meant taken → All IsDigestInRange (l ++ map (digest_in bytes) (saying.digests_in taken))
  more_digests l taken are meant =
      All-append IsDigestInRange l (map (digest_in bytes) (saying.digests_in taken)) are
      (subst (λ (l : List AdditionalDigest). All IsDigestInRange l)
      (sym (collected (said bytes) (digest_in bytes) saying.digest_if other_if (other_same bytes) taken))
      (others_in (say_all (said bytes) taken) (all_in taken meant)))

  more_lines : (l : List DetachedLine) (taken : List (Taken (Value DetachedValue))) → All IsLineInRange l
      → Meant taken → All IsLineInRange (l ++ map (line_in bytes) (saying.lines_in taken))
  more_lines l taken are meant =
      All-append IsLineInRange l (map (line_in bytes) (saying.lines_in taken)) are
      (subst (λ (l : List DetachedLine). All IsLineInRange l)
      (sym (collected (said bytes) (line_in bytes) saying.line_if line_if (line_same bytes) taken))
      (lines_in (say_all (said bytes) taken) (all_in taken meant)))

  first_digest : (taken : List (Taken (Value DetachedValue))) → Meant taken
      → AreTwenty (saying.digest_in (item_at taken the.ConsensusDigest)).0
  first_digest taken meant =
      let said_all = say_all (said bytes) taken in
      subst (λ (d : Digest1). AreTwenty d.0)
      (sym (looked_up (said bytes) saying.digest_in digest_of (digest_same bytes) taken the.ConsensusDigest))
      (digest_is (first_said said_all the.ConsensusDigest) (first_in said_all the.ConsensusDigest
      (all_in taken meant)))

  none_says : SaysInRange (detached_in bytes none_kept)
  none_says = record {
    ns = twenty_zeros;
    valid_after = calendar 0;
    fresh_until = calendar 0;
    valid_until = calendar 0;
    additional = All-nil IsDigestInRange;
    signatures = All-nil IsLineInRange;
  }

pub detached_in_range : DetachedReadAreInRange
detached_in_range bytes d used is =
    let found =
    read_is detached_tables bytes 0 max_detached (length bytes) kept_with none_kept
    (λ kept. SaysInRange (detached_in bytes kept)) (none_says bytes)
    (λ kept section taken stand counts says.
    let meant = each_meant detached_tables meaning IsRead (reads laws) bytes section taken stand in
    record {
      ns = first_digest bytes taken meant;
      valid_after = calendar _;
      fresh_until = calendar _;
      valid_until = calendar _;
      additional =
          subst (λ (l : List AdditionalDigest). All IsDigestInRange l)
          (sym (map-append (digest_in bytes) kept.additional (saying.digests_in taken)))
          (more_digests bytes (map (digest_in bytes) kept.additional) taken says.additional meant);
      signatures =
          subst (λ (l : List DetachedLine). All IsLineInRange l)
          (sym (map-append (line_in bytes) kept.signatures (saying.lines_in taken)))
          (more_lines bytes (map (line_in bytes) kept.signatures) taken says.signatures meant);
    }) (detached_in bytes) (with_detached bytes) (λ kept after. refl) (λ refusal. refl) d used is in
    subst SaysInRange (sym found.1) found.2
