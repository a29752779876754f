-- What becomes of the first of some objects that is asked, and what a command that asks it answers.
use Rattle.std.proofs.Common.{◌≡◌, ◌<◌, ◌∙◌, ℕ, List, [], ◌∷◌, length, Result, Ok, Err, refl, sym, ap, subst, arith}
use Rattle.std.specs.{Prelude.{IfErr, drop, slice_index_or, slice_set}, Global.Vec}
use Rattle.dir_bytes.specs.Causes.{Counts, Rose}
use Rattle.daemon_words.specs.declared.{command.Command.Command, making.MakeVote.MakeVote, stop.Stop.Stop}
use Rattle.daemon_words.specs.Stops.{Answered}
use Rattle.daemon_words.specs.declared.command.Command.TheVariants as command
use Rattle.daemon_words.specs.declared.stop.Stop.TheVariants as stop
use Rattle.exit_status.specs.declared.status.Refusal.{Refusal}
use Rattle.authority_daemon.specs.{Commands.{Answers, IsEarly, IsOfStation, May, MakeVoteBy}, Inside.OfRefusal}
use Rattle.authority_daemon.specs.{Runs.first_count, Moments.TellsFaults}

module _ {X : Type 0} where
  -- what is told of the first afterwards
  pub first_is : (count : X → ℕ) (items : List X) (x : X) → 0 < length items
      → first_count count (slice_set items 0 x) ≡ count x
  first_is count [] x some = absurd (omega (arith, some))
  first_is count (y ∷ items) x some = refl

  -- where it is as it was all are
  pub all_stay : (items : List X) (x later : X) → 0 < length items → x ≡ slice_index_or items 0 x → later ≡ x
      → slice_set items 0 later ≡ items
  all_stay [] x later some is same = absurd (omega (arith, some))
  all_stay (y ∷ items) x later some is same = ap (λ (z : X). z ∷ items) (same ∙ is)

  -- those behind it are as they were
  pub behind_stay : (items : List X) (later : X) → drop 1 (slice_set items 0 later) ≡ drop 1 items
  behind_stay [] later = refl
  behind_stay (y ∷ items) later = refl

  -- what a call tells of its faults is told of the first
  pub tells : (count : X → ℕ) (items : List X) (x later : X) (ends_so : Type 0) → 0 < length items
      → x ≡ slice_index_or items 0 x → (ends_so → Rose (count x) (count later)) → (count x < count later → ends_so)
      → TellsFaults (first_count count items) (first_count count (slice_set items 0 later)) ends_so
  tells count [] x later ends_so some is cause told = absurd (omega (arith, some))
  tells count (y ∷ items) x later ends_so some is cause told = record {
    cause = λ ends. subst (λ (z : X). Rose (count z) (count later)) is (cause ends);
    told = λ more. told (subst (λ (z : X). count z < count later) (sym is) more);
  }

  -- the count of the first rose
  pub counted : (count : X → ℕ) (items : List X) (x later : X) → 0 < length items → x ≡ slice_index_or items 0 x
      → Counts (count x) (count later) → Counts (first_count count items) (first_count count (slice_set items 0 later))
  counted count [] x later some is told = absurd (omega (arith, some))
  counted count (y ∷ items) x later some is told = subst (λ (z : X). Counts (count z) (count later)) is told

  -- what a command asks none of, where it refuses something before
  pub none_asked : (given c : Command) (items : List X) (x later : X) (result : Result (Vec ℕ) (Stop Refusal))
      → c ≡ given → 0 < length items → x ≡ slice_index_or items 0 x
      → IfErr result (λ why. OfRefusal (IsEarly given) why → later ≡ x)
      → IfErr result (λ why. OfRefusal (IsEarly c) why → slice_set items 0 later ≡ items)
  none_asked given c items x later (Ok text) is some first asks = tt
  none_asked given c items x later (Err why) is some first asks =
      λ unchecked. all_stay items x later some first
      (asks (subst (λ (k : Command). OfRefusal (IsEarly k) why) is unchecked))

-- what `make-vote` refuses before is of the station
pub vote_unasked : (wanted : MakeVote) (c : Command) (result : Result (Vec ℕ) (Stop Refusal)) (Stays : Type 0)
    → c ≡ command.MakeVote wanted → IfErr result (λ why. OfRefusal IsOfStation why → Stays)
    → IfErr result (λ why. OfRefusal (IsEarly c) why → Stays)
vote_unasked wanted c (Ok text) Stays is asks = tt
vote_unasked wanted c (Err (stop.Refused why)) Stays is asks =
    λ early. asks (subst (λ (k : Command). IsEarly k why) is early)
vote_unasked wanted c (Err stop.Memory) Stays is asks = λ early. asks early

module _ {N : Type 0} (its : May N) where
  -- what `make-vote` answers at the moment that the clock gave
  pub vote_answered : (wanted : MakeVote) (c : Command) (given now : ℕ) (bytes : List ℕ) (old new : N)
      (result : Result (Vec ℕ) (Stop Refusal)) → c ≡ command.MakeVote wanted → now ≡ given
      → Answered (MakeVoteBy its wanted.bandwidths wanted.newest given bytes old new) result
      → Answered (Answers its c now bytes old new) result
  vote_answered wanted c given now bytes old new (Ok text) is same told =
      subst (λ (k : Command). Answers its k now bytes old new (Ok text.items)) (sym is)
      (subst (λ (n : ℕ). MakeVoteBy its wanted.bandwidths wanted.newest n bytes old new (Ok text.items))
      (sym same) told)
  vote_answered wanted c given now bytes old new (Err (stop.Refused why)) is same told =
      subst (λ (k : Command). Answers its k now bytes old new (Err why)) (sym is)
      (subst (λ (n : ℕ). MakeVoteBy its wanted.bandwidths wanted.newest n bytes old new (Err why)) (sym same) told)
  vote_answered wanted c given now bytes old new (Err stop.Memory) is same told = tt
