-- The times of a period among the rows of any kind of document: moments, and the two numbers of seconds. Each suits its
-- row.
use Rattle.std.proofs.Common.{◌≡◌, ℕ, ◌≤◌, List, [], ◌∷◌, None, refl}
use Rattle.frame_terms.specs.{Rows.row, Tables.Tables, declared.{keyword.Keyword.Keyword, row.Count.TheVariants.One}}
use Rattle.frame_terms.specs.declared.keyword.Keyword.TheVariants as the
use Rattle.frame_values.specs.{Lines.{delays_of, time_of}, Parts.moment_of, declared.values.Value.Value}
use Rattle.frame_values.specs.declared.values.Value.TheVariants as value
use Rattle.frame_laws.proofs.{Both.both_hold, RowCounts.said_once, RowValues.{moment_entry, own_entry}}
use Rattle.frame_laws.proofs.{SaidRows.{AreSaid, IsSaid, RowSays, row_once}, WrittenItems.time-written}
use Rattle.group_laws.{specs.LineAgain.delays_text, proofs.{WrittenDelays.delays_again, Readings.Reads}}
use Rattle.group_laws.proofs.Readings.{suits_reading}

-- ---- the rows

-- when a period begins, until when its consensus is fresh and valid, and the seconds for votes and for signatures
pub record Times : Type 0 where
  pub valid_after : ℕ
  pub fresh_until : ℕ
  pub valid_until : ℕ
  pub vote_seconds : ℕ
  pub dist_seconds : ℕ

module _ {K W : Type 0} where
  abbrev pub moment_row : K → Keyword → ℕ → RowSays K (Value W)
  moment_row kind keyword moment = row_once (row keyword One kind) (moment_entry keyword moment)

  abbrev pub delays_row : K → (ℕ → ℕ → W) → ℕ → ℕ → RowSays K (Value W)
  delays_row kind own vote dist =
      row_once (row the.VotingDelay One kind) (own_entry the.VotingDelay (delays_text vote dist) (λ p. own vote dist))

  -- all of them: by the kind of moments, and that of the seconds, which say this
  abbrev pub time_rows : K → K → (ℕ → ℕ → W) → Times → List (RowSays K (Value W))
  time_rows moment delays own times =
      moment_row moment the.ValidAfter times.valid_after
      ∷ moment_row moment the.FreshUntil times.fresh_until
      ∷ moment_row moment the.ValidUntil times.valid_until
      ∷ delays_row delays own times.vote_seconds times.dist_seconds
      ∷ []

-- ---- a document that has times

module _ {S K W X : Type 0} where
  -- the tables have moments of this kind
  abbrev pub HasMoments : Tables S K (Value W) X → K → Type 0
  HasMoments tables kind = Reads tables kind None (λ across. time_of) (λ number. value.Number number)

  -- the tables have the two numbers of seconds of this kind, which say this
  abbrev pub HasDelays : Tables S K (Value W) X → K → (ℕ → ℕ → W) → Type 0
  HasDelays tables kind own =
      Reads tables kind None (λ across. delays_of) (λ (delays : ℕ × ℕ). value.Own (own delays.0 delays.1))

  -- a moment
  pub said_moment : {tables : Tables S K (Value W) X} {kind : K} → HasMoments tables kind → (keyword : Keyword)
      (moment : ℕ) → IsSaid tables (moment_row kind keyword moment)
  said_moment {tables} {kind} has keyword moment =
      said_once tables (row keyword One kind) (moment_entry keyword moment)
      (suits_reading has keyword One (moment_entry keyword moment) (λ p. moment_of moment) refl (λ p. refl) (λ p. refl)
      (λ across p. time-written p keyword moment))

-- The tables have the times of a period, of these two kinds.
pub record HasTimes {S K W X : Type 0} (tables : Tables S K (Value W) X) (moment delays : K) (own : ℕ → ℕ → W)
    : Type 0 where
  pub moments : HasMoments tables moment
  pub seconds : HasDelays tables delays own

module _ {S K W X : Type 0} {tables : Tables S K (Value W) X} {moment delays : K} {own : ℕ → ℕ → W}
    (has : HasTimes tables moment delays own) where
  said_delays : (vote dist : ℕ) → vote ≤ 4294967295 → dist ≤ 4294967295
      → IsSaid tables (delays_row delays own vote dist)
  said_delays vote dist first second =
      let entry = own_entry the.VotingDelay (delays_text vote dist) (λ p. own vote dist) in
      said_once tables (row the.VotingDelay One delays) entry
      (suits_reading has.seconds the.VotingDelay One entry (λ p. (vote, dist)) refl (λ p. refl) (λ p. refl)
      (λ across p. delays_again p the.VotingDelay vote dist first second))

  -- all of them
  pub times_said : (times : Times) → times.vote_seconds ≤ 4294967295 → times.dist_seconds ≤ 4294967295
      → AreSaid tables (time_rows moment delays own times)
  times_said times first second =
      both_hold (said_moment has.moments the.ValidAfter times.valid_after)
      (both_hold (said_moment has.moments the.FreshUntil times.fresh_until)
      (both_hold (said_moment has.moments the.ValidUntil times.valid_until)
      (both_hold (said_delays times.vote_seconds times.dist_seconds first second) tt)))
