-- The tables of certificates and of votes are clear: they pass the tests.
use Rattle.std.{proofs.Common.{◌≡◌, true, [], ◌∷◌, refl}, specs.Prelude.IfSome}
use Rattle.frame_terms.specs.{Keywords.same, Order.opener}
use Rattle.authority_certs.specs.Tables.{cert_tables}
use Rattle.vote_frame.specs.{declared.frame.VoteSection.VoteSection, Tables.vote_tables}
use Rattle.vote_frame.specs.declared.frame.VoteSection.TheVariants as vote
use Rattle.document_laws.{specs.Tests.{IsRegarded, PassTests, is_clear}, proofs.{Exact.are_exact, Tested.are_clear}}
use Rattle.vote_kinds.specs.VoteKinds.{VoteKindsAreClear, VoteKindsAreExact}

-- ---- certificates

certificates : PassTests cert_tables
unfolding same
certificates = record {
  others = [];
  begins = refl;
  apart = refl;
  first_stands = refl;
  each = λ section. refl;
  regarded = λ section item. refl;
  entered = λ section. tt;
}

-- ---- votes

vote_each : (section : VoteSection) → is_clear vote_tables section ≡ true
unfolding same
vote_each vote.Preamble = refl
vote_each vote.Authority = refl
vote_each vote.Certificate = refl
vote_each vote.Entry = refl
vote_each vote.Footer = refl

vote_regarded : (section : VoteSection) → IsRegarded vote_tables section (opener vote_tables section)
unfolding same
vote_regarded vote.Preamble = λ item. refl
vote_regarded vote.Authority = λ item. refl
vote_regarded vote.Certificate = λ item. refl
vote_regarded vote.Entry = λ item. refl
vote_regarded vote.Footer = λ item. refl

vote_entered : (section : VoteSection) → IfSome ((vote_tables.shape section).inner)
    (λ inside. IsRegarded vote_tables section (opener vote_tables inside))
unfolding same
vote_entered vote.Preamble = tt
vote_entered vote.Authority = λ item. refl
vote_entered vote.Certificate = tt
vote_entered vote.Entry = tt
vote_entered vote.Footer = tt

votes : PassTests vote_tables
unfolding same
votes = record {
  others = vote.Authority ∷ vote.Entry ∷ vote.Footer ∷ [];
  begins = refl;
  apart = refl;
  first_stands = refl;
  each = vote_each;
  regarded = vote_regarded;
  entered = vote_entered;
}

pub vote_kinds_are_clear : VoteKindsAreClear
vote_kinds_are_clear = record {
  certificates = are_clear cert_tables certificates;
  votes = are_clear vote_tables votes;
}

pub vote_kinds_are_exact : VoteKindsAreExact
vote_kinds_are_exact = record {
  certificates = are_exact cert_tables vote_kinds_are_clear.certificates;
  votes = are_exact vote_tables vote_kinds_are_clear.votes;
}
