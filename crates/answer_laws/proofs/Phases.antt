-- The moments of a period ascend, and each phase stands between two of them.
use Rattle.std.proofs.{Common.{◌≡◌, ℕ, Bool, true, false, refl, subst, arith}, lemmas.Bool.Decides.nat_tests}
use Rattle.std.specs.Prelude.{nat_le}
use Rattle.vote_schedule.specs.Moments.{fetching_begins, freeze, phase_of, upload_cutoff, voting_begins}
use Rattle.vote_schedule.specs.{Schedules.Schedule, declared.phase.Phase.Phase}
use Rattle.vote_schedule.specs.declared.phase.Phase.TheVariants as phase
use Rattle.answer_laws.specs.Timeline.{Ascend, IsPhase, MomentsAscend, PhasesAreBetween}

pub ascend : MomentsAscend
ascend s valid_after is fits = record {
  votes = omega (arith, is.vote, is.dist, fits);
  uploads = omega (arith, is.vote, is.dist, fits);
  signing = omega (arith, is.vote, is.dist, fits);
  fetching = omega (arith, is.vote, is.dist, fits);
}

-- the phase is one of those whose moments it stands between
there_by : (p f z u v : Bool) (s : Schedule) (va now : ℕ) → nat_le va now ≡ p → nat_le (fetching_begins s va) now ≡ f
    → nat_le (freeze s va) now ≡ z → nat_le (upload_cutoff s va) now ≡ u → nat_le (voting_begins s va) now ≡ v
    → IsPhase s va now (phase_of s va now)
there_by true f z u v s va now a b c d e = rw a (grind (arith, nat_tests, a))
there_by false true z u v s va now a b c d e = rw (a, b) (grind (arith, nat_tests, b), grind (arith, nat_tests, a))
there_by false false true u v s va now a b c d e =
    rw (a, b, c) (grind (arith, nat_tests, c), grind (arith, nat_tests, b))
there_by false false false true v s va now a b c d e =
    rw (a, b, c, d) (grind (arith, nat_tests, d), grind (arith, nat_tests, c))
there_by false false false false true s va now a b c d e =
    rw (a, b, c, d, e) (grind (arith, nat_tests, e), grind (arith, nat_tests, d))
there_by false false false false false s va now a b c d e = rw (a, b, c, d, e) (grind (arith, nat_tests, e))

moment_is_in_its_phase : (s : Schedule) (va now : ℕ) → IsPhase s va now (phase_of s va now)
moment_is_in_its_phase s va now = there_by _ _ _ _ _ s va now refl refl refl refl refl

-- no moment is in two phases
one_phase : (s : Schedule) (va now : ℕ) → Ascend s va → (a b : Phase) → IsPhase s va now a → IsPhase s va now b → a ≡ b
one_phase s va now up phase.Waiting phase.Waiting i j = refl
one_phase s va now up phase.Waiting phase.Voting i j = absurd (omega (arith, i, j.0))
one_phase s va now up phase.Waiting phase.Fetching i j = absurd (omega (arith, i, j.0, up.votes))
one_phase s va now up phase.Waiting phase.Signing i j = absurd (omega (arith, i, j.0, up.votes, up.uploads))
one_phase s va now up phase.Waiting phase.FetchingSignatures i j =
    absurd (omega (arith, i, j.0, up.votes, up.uploads, up.signing))
one_phase s va now up phase.Waiting phase.Past i j =
    absurd (omega (arith, i, j, up.votes, up.uploads, up.signing, up.fetching))
one_phase s va now up phase.Voting phase.Waiting i j = absurd (omega (arith, i.0, j))
one_phase s va now up phase.Voting phase.Voting i j = refl
one_phase s va now up phase.Voting phase.Fetching i j = absurd (omega (arith, i.1, j.0))
one_phase s va now up phase.Voting phase.Signing i j = absurd (omega (arith, i.1, j.0, up.uploads))
one_phase s va now up phase.Voting phase.FetchingSignatures i j =
    absurd (omega (arith, i.1, j.0, up.uploads, up.signing))
one_phase s va now up phase.Voting phase.Past i j =
    absurd (omega (arith, i.1, j, up.uploads, up.signing, up.fetching))
one_phase s va now up phase.Fetching phase.Waiting i j = absurd (omega (arith, i.0, j, up.votes))
one_phase s va now up phase.Fetching phase.Voting i j = absurd (omega (arith, i.0, j.1))
one_phase s va now up phase.Fetching phase.Fetching i j = refl
one_phase s va now up phase.Fetching phase.Signing i j = absurd (omega (arith, i.1, j.0))
one_phase s va now up phase.Fetching phase.FetchingSignatures i j = absurd (omega (arith, i.1, j.0, up.signing))
one_phase s va now up phase.Fetching phase.Past i j = absurd (omega (arith, i.1, j, up.signing, up.fetching))
one_phase s va now up phase.Signing phase.Waiting i j = absurd (omega (arith, i.0, j, up.votes, up.uploads))
one_phase s va now up phase.Signing phase.Voting i j = absurd (omega (arith, i.0, j.1, up.uploads))
one_phase s va now up phase.Signing phase.Fetching i j = absurd (omega (arith, i.0, j.1))
one_phase s va now up phase.Signing phase.Signing i j = refl
one_phase s va now up phase.Signing phase.FetchingSignatures i j = absurd (omega (arith, i.1, j.0))
one_phase s va now up phase.Signing phase.Past i j = absurd (omega (arith, i.1, j, up.fetching))
one_phase s va now up phase.FetchingSignatures phase.Waiting i j =
    absurd (omega (arith, i.0, j, up.votes, up.uploads, up.signing))
one_phase s va now up phase.FetchingSignatures phase.Voting i j =
    absurd (omega (arith, i.0, j.1, up.uploads, up.signing))
one_phase s va now up phase.FetchingSignatures phase.Fetching i j = absurd (omega (arith, i.0, j.1, up.signing))
one_phase s va now up phase.FetchingSignatures phase.Signing i j = absurd (omega (arith, i.0, j.1))
one_phase s va now up phase.FetchingSignatures phase.FetchingSignatures i j = refl
one_phase s va now up phase.FetchingSignatures phase.Past i j = absurd (omega (arith, i.1, j))
one_phase s va now up phase.Past phase.Waiting i j =
    absurd (omega (arith, i, j, up.votes, up.uploads, up.signing, up.fetching))
one_phase s va now up phase.Past phase.Voting i j =
    absurd (omega (arith, i, j.1, up.uploads, up.signing, up.fetching))
one_phase s va now up phase.Past phase.Fetching i j = absurd (omega (arith, i, j.1, up.signing, up.fetching))
one_phase s va now up phase.Past phase.Signing i j = absurd (omega (arith, i, j.1, up.fetching))
one_phase s va now up phase.Past phase.FetchingSignatures i j = absurd (omega (arith, i, j.1))
one_phase s va now up phase.Past phase.Past i j = refl

pub between : PhasesAreBetween
between s va now is schedule fits = (
  λ (same : phase_of s va now ≡ is). subst (IsPhase s va now) same (moment_is_in_its_phase s va now),
  λ (stands : IsPhase s va now is).
      one_phase s va now (ascend s va schedule fits) (phase_of s va now) is (moment_is_in_its_phase s va now) stands,
)
