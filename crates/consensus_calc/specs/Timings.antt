-- What votes say of time.
use Rattle.std.specs.Prelude.{ℕ, ◌-◌, ◌^◌}
use Rattle.dir_bytes.specs.Causes.{last_moment}
use Rattle.vote_terms.specs.Votes.{ReadVote}
use Rattle.consensus_calc.specs.declared.timing.Timing.{Timing, TheVariants.{ValidAfter, FreshUntil, ValidUntil}}
use Rattle.consensus_calc.specs.declared.timing.Timing.TheVariants.{VoteSeconds, DistSeconds}

-- what a vote says
abbrev pub said_timing : Timing → ReadVote → ℕ
said_timing ValidAfter vote = vote.says.valid_after
said_timing FreshUntil vote = vote.says.fresh_until
said_timing ValidUntil vote = vote.says.valid_until
said_timing VoteSeconds vote = vote.says.vote_seconds
said_timing DistSeconds vote = vote.says.dist_seconds

-- the most that it may say
abbrev pub most : Timing → ℕ
most ValidAfter = last_moment
most FreshUntil = last_moment
most ValidUntil = last_moment
most VoteSeconds = 2 ^ 32 - 1
most DistSeconds = 2 ^ 32 - 1
